use Rattle.hack_rules.specs.Expressions.{judged}
use Rattle.hack_expr.proofs.checks.check.Goals as goal

pub returns : goal.returns
unfolding judged
returns g c = c.value.ensures
