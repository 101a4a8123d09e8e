use Rattle.std.proofs.Common.{◌∙◌, sym, ap, subst}
use Rattle.std.proofs.lemmas.Result.{err_from_is_err_and}
use Rattle.hack_types.specs.declared.hack_type.HackType.{HackType}
use Rattle.hack_decls.specs.AskLaws.{failed, said, without_memory}
use Rattle.hack_rules.specs.Variables.{with_variable}
use Rattle.hack_walk.specs.Checks.{VariablesIn}
use Rattle.hack_walk.specs.NamesKept.{in_with_variable}
use Rattle.hack_walk.proofs.branches.put_present.Goals as goal

pub returns : goal.returns
returns g c =
    let here = c.args.here.now in let name = c.args.name in
    said _ c.in_ok-ty.ensures (λ m e. c.in_ok-copy_and_put.ensures ∙ ap (λ (ty : HackType). with_variable here name ty) e) (λ symbols n. n.1)
    (λ symbols n own. subst (VariablesIn symbols) (sym c.in_ok-copy_and_put.ensures) (in_with_variable symbols here name c.in_ok-ty.ty n.0 own))

pub returns-in_err-ty : goal.returns-in_err-ty
returns-in_err-ty g c =
    let p = err_from_is_err_and c.from_residual.result c.from_residual.ensures.1 in
    rw (p.1, p.2) (failed c.in_err-ty.ensures (λ symbols n. n.1))

pub returns-in_err-copy_and_put : goal.returns-in_err-copy_and_put
returns-in_err-copy_and_put g c =
    let p = err_from_is_err_and c.from_residual-in_err-copy_and_put.result c.from_residual-in_err-copy_and_put.ensures.1 in
    rw (p.1, p.2) (without_memory c.in_ok-ty.ensures (λ symbols n. n.1))
