use Rattle.std.proofs.Common.{◌≤◌, refl, length, arith}
use Rattle.phase_core.proofs.Images.{imaged_none, imaged_more, imaged_end}
use Rattle.phase_core.proofs.image.sights.Goals as goal

pub loop-symbol-init : goal.loop-symbol-init
loop-symbol-init c = imaged_none _ _ _ c.new-image.ensures

pub loop-symbol-preserved : goal.loop-symbol-preserved
loop-symbol-preserved c = imaged_more _ _ _ _ _ _ _ c.loop-symbol-test.true c.symbol-item.is refl c.in_ok-add_sight.ensures c.loop-symbol.invariant

pub returns : goal.returns
returns c =
    let l : length c.args.symbols.now ≤ c.loop-symbol.symbol-index = omega arith in
    imaged_end c.args.world.now c.args.symbols.now c.loop-symbol.symbol-index c.loop-symbol.image l c.loop-symbol.invariant
