use Rattle.std.proofs.Common.{◌≤◌, length, arith}
use Rattle.std.proofs.lemmas.Result.{IfOk-weaker}
use Rattle.phase_core.proofs.Images.{imaged_whole}
use Rattle.phase_core.proofs.image.image_of.Goals as goal

pub returns : goal.returns
returns c =
    let l : length c.deref.result.now ≤ length c.deref.result.now = omega arith in
    IfOk-weaker c.sights.result _ _ (λ image so_far.
    imaged_whole c.args.world.now c.deref.result.now (length c.deref.result.now) c.args.symbol c.in_ok-closure.closure image l c.in_ok-closure.ensures c.deref.ensures.value so_far) c.sights.ensures
