use Rattle.std.proofs.Common.{◌∙◌, Some, sym, ap, subst}
use Rattle.std.proofs.lemmas.Result.{err_from_is_err_and}
use Rattle.hack_types.specs.declared.hack_type.HackType.{HackType}
use Rattle.hack_decls.specs.AskLaws.{failed, said, without_memory}
use Rattle.hack_walk.specs.Checks.{VariablesIn}
use Rattle.hack_walk.specs.inside.Calls.{put_at}
use Rattle.hack_walk.proofs.Subjects.{in_put_at}
use Rattle.hack_walk.proofs.branches.put_refined.Goals as goal

pub returns : goal.returns
returns g c =
    let here = c.args.here.now in let subject = c.args.subject in
    said _ c.in_ok-ty.ensures (λ m e. c.in_ok-copy_with.ensures ∙ ap (λ (ty : HackType). put_at here subject (Some ty)) e)
    (λ symbols n. record { around = n.test.around; lower = n.test.tested; upper = n.own })
    (λ symbols n own. subst (VariablesIn symbols) (sym c.in_ok-copy_with.ensures) (in_put_at symbols here subject c.in_ok-ty.ty n.test.types own))

pub returns-in_err-ty : goal.returns-in_err-ty
returns-in_err-ty g c =
    let p = err_from_is_err_and c.from_residual.result c.from_residual.ensures.1 in
    rw (p.1, p.2) (failed c.in_err-ty.ensures (λ symbols n. record { around = n.test.around; lower = n.test.tested; upper = n.own }))

pub returns-in_err-copy_with : goal.returns-in_err-copy_with
returns-in_err-copy_with g c =
    let p = err_from_is_err_and c.from_residual-in_err-copy_with.result c.from_residual-in_err-copy_with.ensures.1 in
    rw (p.1, p.2) (without_memory c.in_ok-ty.ensures (λ symbols n. record { around = n.test.around; lower = n.test.tested; upper = n.own }))
