use Rattle.std.proofs.lemmas.Result.{err_from_is_err_and}
use Rattle.hack_walk.specs.WalkLaws.{out_of_memory}
use Rattle.hack_chains.proofs.Turning.{both_behind}
use Rattle.hack_chains.proofs.values.plain_outcome.Goals as goal

pub returns : goal.returns
returns g c = both_behind c.in_ok-combined.ensures c.in_ok-both_here.ensures.when_true c.in_ok-both_here.ensures.when_false

pub returns-in_err-both_here : goal.returns-in_err-both_here
returns-in_err-both_here g c =
    let p = err_from_is_err_and c.from_residual-in_err-both_here.result c.from_residual-in_err-both_here.ensures.1 in
    rw (p.1, p.2) (out_of_memory c.in_ok-combined.ensures (λ symbols n. n))
