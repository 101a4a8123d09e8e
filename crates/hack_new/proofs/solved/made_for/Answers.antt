use Rattle.std.proofs.Common.{Ok, ap}
use Rattle.hack_walk.specs.Checks.{setting_of}
use Rattle.hack_walk.specs.WalkLaws.{of_step, walks_as, weaker}
use Rattle.hack_new.specs.declared.constructors.Constructor.{Constructor}
use Rattle.hack_new.specs.inside.Solving.{made_for}
use Rattle.hack_new.proofs.solved.made_for.Goals as goal

pub returns-in_ok-made-in-Missing : goal.returns-in_ok-made-in-Missing
returns-in_ok-made-in-Missing g c =
    let at = c.args.at in let name = c.args.name in let params = c.args.params.now in let given = c.args.given.now in let s = c.args.state.now in
    walks_as (made_for at name params given c.args.found.now) (Ok _)
    (weaker (Ok _) (of_step _ c.in_ok-made-in-Missing.ensures) (λ symbols n. n.1) (λ symbols a n h. h))
    (λ m. ap (λ (found : Constructor). made_for at name params given found (setting_of c.args.setting.now) m s) c.in-Missing.is)
