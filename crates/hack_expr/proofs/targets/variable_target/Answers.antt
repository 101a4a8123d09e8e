use Rattle.hack_rules.specs.Meanings.{variable}
use Rattle.hack_walk.specs.WalkLaws.{walks_pure}
use Rattle.hack_expr.proofs.targets.variable_target.Goals as goal

pub returns : goal.returns
returns g c = rw c.variable.ensures (walks_pure _ _ (variable c.args.at c.args.name) (λ symbols n. tt))
