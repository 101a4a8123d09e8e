use Rattle.hack_rules.specs.Expressions.{meaning_of}
use Rattle.hack_walk.specs.WalkLaws.{weaker}
use Rattle.hack_parts.specs.ExprIn.{TestIn}
use Rattle.hack_values.proofs.Stepping.{walks_same}
use Rattle.hack_values.proofs.Testing.{in_only, none_is, some_is}
use Rattle.hack_values.proofs.tests.test_branches.Goals as goal

pub returns-in-Some : goal.returns-in-Some
returns-in-Some g c =
    let operand = meaning_of c.args.operand.now in let ts = c.args.tests.now in let t = c.in-Some.test.now in
    walks_same _ c.is_branches.result (some_is operand ts t c.in-Some.ensures)
    (weaker c.is_branches.result c.is_branches.ensures (λ symbols n. (n.0, in_only (TestIn c.args.setting.now.scope.now symbols) ts t c.in-Some.ensures n.1)) (λ symbols a n g. g))

pub returns-in-None : goal.returns-in-None
returns-in-None g c =
    let operand = meaning_of c.args.operand.now in let ts = c.args.tests.now in
    walks_same _ c.plain_branches.result (none_is operand ts c.in-None.ensures) c.plain_branches.ensures
