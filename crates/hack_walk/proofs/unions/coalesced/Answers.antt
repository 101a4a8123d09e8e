use Rattle.std.proofs.Common.{◌∙◌, sym, ap, subst}
use Rattle.std.proofs.lemmas.Result.{err_from_is_err_and}
use Rattle.hack_types.specs.declared.hack_type.HackType.{HackType}
use Rattle.hack_decls.specs.AskLaws.{failed, said, without_memory}
use Rattle.hack_decls.specs.Names.{TypeIn}
use Rattle.hack_rules.specs.Variables.{union_of_two}
use Rattle.hack_walk.specs.NamesKept.{in_union_of_two}
use Rattle.hack_walk.proofs.unions.coalesced.Goals as goal

pub returns : goal.returns
returns g c =
    said _ c.in_ok-present.ensures (λ m e. c.in_ok-union_of_two.ensures ∙ ap (λ (ty : HackType). union_of_two ty c.args.right) e) (λ symbols n. n.0)
    (λ symbols n t. subst (TypeIn symbols) (sym c.in_ok-union_of_two.ensures) (in_union_of_two symbols c.in_ok-present.present c.args.right t n.1))

pub returns-in_err-present : goal.returns-in_err-present
returns-in_err-present g c =
    let p = err_from_is_err_and c.from_residual.result c.from_residual.ensures.1 in
    rw (p.1, p.2) (failed c.in_err-present.ensures (λ symbols n. n.0))

pub returns-in_err-union_of_two : goal.returns-in_err-union_of_two
returns-in_err-union_of_two g c =
    let p = err_from_is_err_and c.from_residual-in_err-union_of_two.result c.from_residual-in_err-union_of_two.ensures.1 in
    rw (p.1, p.2) (without_memory c.in_ok-present.ensures (λ symbols n. n.0))
