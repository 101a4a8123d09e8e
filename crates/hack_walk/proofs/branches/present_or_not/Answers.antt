use Rattle.std.proofs.Common.{◌∙◌}
use Rattle.std.proofs.lemmas.Result.{err_from_is_err_and}
use Rattle.hack_decls.specs.AskLaws.{said, without_memory}
use Rattle.hack_walk.proofs.Subjects.{both_in, branches_are}
use Rattle.hack_walk.proofs.branches.present_or_not.Goals as goal

pub returns : goal.returns
returns g c =
    let here = c.args.here.now in let made = c.new.result in
    let holding = c.in_ok-when_true.when_true in
    said made c.in_ok-when_true.ensures
    (λ m e. branches_are made _ _ (c.new.ensures.when_true ∙ e) (c.new.ensures.when_false ∙ c.in_ok-when_false.ensures)) (λ symbols n. n)
    (λ symbols n all. both_in symbols made holding here c.new.ensures.when_true (c.new.ensures.when_false ∙ c.in_ok-when_false.ensures) all n)

pub returns-in_err-when_false : goal.returns-in_err-when_false
returns-in_err-when_false g c =
    let p = err_from_is_err_and c.from_residual-in_err-when_false.result c.from_residual-in_err-when_false.ensures.1 in
    rw (p.1, p.2) (without_memory c.in_ok-when_true.ensures (λ symbols n. n))
