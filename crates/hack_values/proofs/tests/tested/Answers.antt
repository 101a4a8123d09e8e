use Rattle.std.proofs.Common.{Ok, Option, ℕ, refl, sym, ap}
use Rattle.hack_parts.specs.PartLaws.{value_walks}
use Rattle.hack_rules.specs.Expressions.{meaning_of}
use Rattle.hack_rules.specs.Values.{tested_row, tests_row}
use Rattle.hack_walk.specs.WalkLaws.{walks_then}
use Rattle.hack_values.proofs.Stepping.{walks_same}
use Rattle.hack_values.proofs.tests.tested.Goals as goal

pub returns : goal.returns
unfolding tested_row
returns g c =
    let operand = meaning_of c.args.operand.now in let ts = c.args.tests.now in let ty = c.in_ok-ty.ty in
    walks_then (λ before. tests_row operand.subject before ts) c.all_tests.result (value_walks c.requires.operand {result = Ok _} refl c.in_ok-ty.ensures)
    (walks_same (tests_row operand.subject ty ts) c.all_tests.result (ap (λ (subject : Option ℕ). tests_row subject ty ts) (sym c.form_of-subject.ensures.subject)) c.all_tests.ensures)
    (λ symbols n. n.0) (λ symbols n g. (g, n.1)) (λ symbols b n g h. h)
