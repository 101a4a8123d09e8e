use Rattle.std.proofs.Common.{Ok}
use Rattle.std.proofs.lemmas.Result.{err_from_is_err_and}
use Rattle.hack_rules.specs.Loops.{Turn}
use Rattle.hack_rules.specs.Variables.{joined_with}
use Rattle.hack_rules.specs.Walks.{State, pure}
use Rattle.hack_walk.specs.WalkLaws.{out_of_memory, refused, walks_pure, walks_on}
use Rattle.hack_flow.specs.inside.Rows.{passed}
use Rattle.hack_flow.proofs.Passing.{in_joined_with}
use Rattle.hack_flow.proofs.passes.pass.Goals as goal

pub returns : goal.returns
unfolding passed
returns g c = λ (here : State).
    let entry = c.args.entry.now in let pass = c.in_ok-pass.pass in let answer = joined_with entry pass.ends in
    rw (c.in_ok-joined_from.ensures, c.into_ends.ensures)
    (walks_on (λ (t : Turn). pure (joined_with entry t.ends)) (Ok answer) (c.in_ok-pass.ensures here)
    (walks_pure _ here answer (λ symbols n. in_joined_with symbols entry pass.ends n.0.0 n.1.ends))
    (λ symbols n. n))

pub returns-in_err-pass : goal.returns-in_err-pass
returns-in_err-pass g c =
    let p = err_from_is_err_and c.from_residual.result c.from_residual.ensures.1 in
    λ (here : State). rw (p.1, p.2) (refused (c.in_err-pass.ensures here) (λ symbols n. n))

pub returns-in_err-joined_from : goal.returns-in_err-joined_from
returns-in_err-joined_from g c =
    let p = err_from_is_err_and c.from_residual-in_err-joined_from.result c.from_residual-in_err-joined_from.ensures.1 in
    λ (here : State). rw (p.1, p.2) (out_of_memory (c.in_ok-pass.ensures here) (λ symbols n. n))
