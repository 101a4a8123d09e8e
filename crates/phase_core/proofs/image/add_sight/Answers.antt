use Rattle.std.proofs.Common.{ap, ◌∙◌}
use Rattle.std.specs.FinMap as finite
use Rattle.std.proofs.lemmas.Result.{on_ok_weaker}
use Rattle.phase_core.proofs.image.add_sight.Goals as goal

pub returns : goal.returns
returns c = on_ok_weaker c.insert.result (λ put. put ∙ ap (λ z. finite.insert c.args.image.now c.args.symbol.now z) c.in_ok-sight.ensures) c.insert.ensures.ok
