use Rattle.std.proofs.Common.{Ok}
use Rattle.std.proofs.lemmas.Result.{err_from_is_err_and}
use Rattle.hack_rules.specs.Variables.{Variables, widened}
use Rattle.hack_rules.specs.Walks.{State, pure}
use Rattle.hack_walk.specs.NamesKept.{in_widened}
use Rattle.hack_walk.specs.WalkLaws.{out_of_memory, refused, walks_pure, walks_on}
use Rattle.hack_flow.specs.inside.Rows.{third_entry}
use Rattle.hack_flow.proofs.passes.third_entry.Goals as goal

pub returns : goal.returns
unfolding third_entry
returns g c = λ (here : State).
    let entry = c.args.entry in let behind = c.in_ok-behind.behind in let answer = widened entry behind in
    rw c.in_ok-widened.ensures
    (walks_on (λ (vs : Variables). pure (widened entry vs)) (Ok answer) (c.in_ok-behind.ensures here)
    (walks_pure _ here answer (λ symbols n. in_widened symbols entry behind n.1))
    (λ symbols n. n))

pub returns-in_err-behind : goal.returns-in_err-behind
returns-in_err-behind g c =
    let p = err_from_is_err_and c.from_residual.result c.from_residual.ensures.1 in
    λ (here : State). rw (p.1, p.2) (refused (c.in_err-behind.ensures here) (λ symbols n. n))

pub returns-in_err-widened : goal.returns-in_err-widened
returns-in_err-widened g c =
    let p = err_from_is_err_and c.from_residual-in_err-widened.result c.from_residual-in_err-widened.ensures.1 in
    λ (here : State). rw (p.1, p.2) (out_of_memory (c.in_ok-behind.ensures here) (λ symbols n. n))
