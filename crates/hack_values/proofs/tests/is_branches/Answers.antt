use Rattle.std.proofs.Common.{Ok, Option, ℕ, refl, sym, ap}
use Rattle.hack_parts.specs.PartLaws.{value_walks}
use Rattle.hack_rules.specs.Expressions.{meaning_of}
use Rattle.hack_rules.specs.Values.{is_branches}
use Rattle.hack_walk.specs.WalkLaws.{walks_next}
use Rattle.hack_values.specs.inside.Rows.{branches_of}
use Rattle.hack_values.proofs.Stepping.{walks_same}
use Rattle.hack_values.proofs.tests.is_branches.Goals as goal

pub returns : goal.returns
unfolding is_branches branches_of
returns g c =
    let operand = meaning_of c.args.operand.now in let t = c.args.test.now in
    walks_next (branches_of operand.subject t) c.branches_of.result (value_walks c.requires.operand {result = Ok _} refl c.in_ok-ty.ensures)
    (walks_same (branches_of operand.subject t) c.branches_of.result (ap (λ (subject : Option ℕ). branches_of subject t) (sym c.form_of-subject.ensures.subject)) c.branches_of.ensures)
    (λ symbols n. n.0) (λ symbols n g. n.1) (λ symbols b n g h. h)
