use Rattle.hack_walk.specs.WalkLaws.{walks_pure}
use Rattle.hack_rules.specs.Values.{literal_type}
use Rattle.hack_expr.proofs.Literals.{of_literal}
use Rattle.hack_expr.proofs.rows.literal.Goals as goal

pub returns : goal.returns
returns g c = rw c.literal_type.ensures (walks_pure _ _ (literal_type c.args.literal) (λ symbols n. of_literal symbols c.args.literal))
