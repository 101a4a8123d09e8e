use Rattle.std.proofs.Common.{sym}
use Rattle.hack_operators.specs.Seen.{sign_seen}
use Rattle.hack_rules.specs.Expressions.{meaning_of}
use Rattle.hack_walk.specs.Checks.{setting_of}
use Rattle.hack_walk.specs.WalkLaws.{walks_as}
use Rattle.hack_expr.proofs.Signs.{by_sign}
use Rattle.hack_expr.proofs.prefixes.prefixed.Goals as goal

pub returns-in-Some : goal.returns-in-Some
returns-in-Some g c =
    walks_as _ _ c.signed.ensures (λ map i. by_sign c.args.at c.args.operator (sign_seen c.in-Some.sign) (meaning_of c.args.operand.now)
    (sym c.in-Some.ensures) i (setting_of c.args.setting.now) map c.args.state.now)
