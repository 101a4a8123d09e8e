use Rattle.std.proofs.Common.{◌≡◌, IfOk, map, sym, subst, ap, ◌∙◌}
use Rattle.hack_types.proofs.UnionLemmas.{read, with_null, without_null}
use Rattle.hack_types.proofs.type_union.union_of.Goals as goal

pub returns-then-any_has_null : goal.returns-then-any_has_null
returns-then-any_has_null c = subst (λ t. IfOk c.into_option.result (λ union. union ≡ t))
    (with_null c.args.types.now (map read c.as_slice.result.now) c.in_ok-joined.joined (ap (map read) c.as_slice.ensures.value ∙ c.in_ok-parts.ensures) c.in_ok-joined.ensures (sym c.any_has_null.ensures ∙ c.if-any_has_null.true)) c.into_option.ensures

pub returns : goal.returns
returns c = without_null c.args.types.now (map read c.as_slice.result.now) c.in_ok-joined.joined (ap (map read) c.as_slice.ensures.value ∙ c.in_ok-parts.ensures) c.in_ok-joined.ensures (sym c.any_has_null.ensures ∙ c.if-any_has_null.false)
