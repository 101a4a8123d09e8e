use Rattle.std.proofs.Common.{◌≡◌, ◌∙◌, ◌-◌, ◌++◌, ◌∷◌, [], Ok, Some, All, map, take, sym, ap, subst, arith}
use Rattle.std.proofs.lemmas.List.{take_all}
use Rattle.std.proofs.lemmas.Result.{err_from_is_err_and}
use Rattle.hack_types.specs.UnionOf.{union_of}
use Rattle.hack_types.specs.declared.hack_type.HackType.{HackType}
use Rattle.hack_decls.specs.AskLaws.{said, then, unasked}
use Rattle.hack_decls.specs.Names.{TypeIn}
use Rattle.hack_sub.specs.NamesOf.{given_in, in_list, in_option, in_union}
use Rattle.hack_sub.specs.NamesPut.{in_union_of}
use Rattle.hack_infer.proofs.NullLaws.{in_plain, next_part, one_more_in}
use Rattle.hack_infer.proofs.Restated.{broken, broken_off, restated}
use Rattle.hack_infer.proofs.Turns.{none_left, one_turn}
use Rattle.hack_infer.specs.WithoutNull.{alias_by, members_by, named_by, option_by, without_null_in}
use Rattle.hack_infer.proofs.nulls.+without.Goals as goal

pub without_null_in-returns-then-turns-eq0 : goal.without_null_in-returns-then-turns-eq0
without_null_in-returns-then-turns-eq0 g t c =
    unasked _ _ (λ m. c.in_ok-copy.ensures ∙ none_left m c.args.ty.now c.args.turns (omega arith))
    (λ symbols n. subst (TypeIn symbols) (sym c.in_ok-copy.ensures) n)

pub without_null_in-returns : goal.without_null_in-returns
without_null_in-returns g t c =
    restated c.by_option.result c.by_option.ensures
    (λ m a e. e ∙ one_turn m c.args.ty.now c.args.turns (c.args.turns - 1) (omega arith)) (λ symbols n. n) (λ symbols a n given. given)

pub by_option-returns-in_ok-copy-in-Some : goal.by_option-returns-in_ok-copy-in-Some
by_option-returns-in_ok-copy-in-Some g t c = let T = c.args.ty.now in
    unasked _ _ (λ m. c.in_ok-copy-in-Some.ensures ∙ ap (λ o. option_by (without_null_in c.args.turns m) m T o) c.in-Some.ensures)
    (λ symbols n. subst (TypeIn symbols) (sym c.in_ok-copy-in-Some.ensures) (in_option symbols T c.in-Some.inside.now c.in-Some.ensures n))

pub by_option-returns-in-None : goal.by_option-returns-in-None
by_option-returns-in-None g t c = let T = c.args.ty.now in
    restated c.by_members.result c.by_members.ensures
    (λ m a e. e ∙ ap (λ o. option_by (without_null_in c.args.turns m) m T o) c.in-None.ensures) (λ symbols n. n) (λ symbols a n given. given)

pub by_members-returns-in-Some : goal.by_members-returns-in-Some
by_members-returns-in-Some g t c = let T = c.args.ty.now in
    restated c.union_without.result c.union_without.ensures
    (λ m a e. e ∙ ap (λ o. members_by (without_null_in c.args.turns m) m T o) c.in-Some.ensures)
    (λ symbols n. in_union symbols T c.in-Some.members.now c.in-Some.ensures n) (λ symbols a n given. given)

pub by_members-returns-in-None : goal.by_members-returns-in-None
by_members-returns-in-None g t c = let T = c.args.ty.now in
    restated c.by_name.result c.by_name.ensures
    (λ m a e. e ∙ ap (λ o. members_by (without_null_in c.args.turns m) m T o) c.in-None.ensures) (λ symbols n. n) (λ symbols a n given. given)

pub by_name-returns-in-Some : goal.by_name-returns-in-Some
by_name-returns-in-Some g t c = let T = c.args.ty.now in
    restated c.alias_without.result c.alias_without.ensures
    (λ m a e. e ∙ ap (λ o. named_by (without_null_in c.args.turns m) m T o) c.in-Some.ensures) (λ symbols n. n) (λ symbols a n given. given)

pub by_name-returns-in_ok-plain_without-in-None : goal.by_name-returns-in_ok-plain_without-in-None
by_name-returns-in_ok-plain_without-in-None g t c = let T = c.args.ty.now in
    unasked _ _ (λ m. c.in_ok-plain_without-in-None.ensures ∙ ap (λ o. named_by (without_null_in c.args.turns m) m T o) c.in-None.ensures)
    (λ symbols n. subst (TypeIn symbols) (sym c.in_ok-plain_without-in-None.ensures) (in_plain symbols T n))

pub alias_without-returns-in-Some : goal.alias_without-returns-in-Some
alias_without-returns-in-Some g t c = let T = c.args.ty.now in
    let is : c.in_ok-next.next ≡ Some c.in-Some.next = c.in-Some.is in
    then c.without_null_in.result c.in_ok-next.ensures c.without_null_in.ensures
    (λ m a e there. there ∙ ap (λ o. alias_by (without_null_in c.args.turns m) T o) (sym is ∙ e))
    (λ symbols n. n) (λ symbols n given. given_in symbols is given) (λ symbols a n given there. there)

pub union_without-loop-member-init : goal.union_without-loop-member-init
union_without-loop-member-init g t c = unasked _ tt (λ m. c.new-parts.ensures.items) (λ symbols n. subst (λ ts. All (TypeIn symbols) ts) (sym c.new-parts.ensures.items) (λ k d lt. absurd (omega (arith, lt))))

pub union_without-loop-member-preserved : goal.union_without-loop-member-preserved
union_without-loop-member-preserved g t c =
    let xs = c.args.members.now in let i = c.loop-member.member-index in let x = c.member-item.result in
    let part = c.in_ok-part.part in
    let parts = c.loop-member.parts.items in
    said tt (then {MeansC = λ m (a : HackType). (parts ≡ map (without_null_in c.args.turns m) (take i xs)) × (a ≡ without_null_in c.args.turns m x)}
    {NamesC = λ symbols. All (TypeIn symbols) xs} {GivesC = λ symbols (a : HackType). All (TypeIn symbols) parts × TypeIn symbols a}
    (Ok part) c.loop-member.invariant c.in_ok-part.ensures
    (λ m a w e. (w, e)) (λ symbols n. n) (λ symbols n all. in_list symbols xs i x c.loop-member-test.true c.member-item.is n) (λ symbols a n all here. (all, here)))
    (λ m w. c.in_ok-push.ensures ∙ ap (λ ps. ps ++ part ∷ []) w.0 ∙ next_part (without_null_in c.args.turns m) xs i x part c.loop-member-test.true c.member-item.is w.1)
    (λ symbols n. n) (λ symbols n both. subst (λ ts. All (TypeIn symbols) ts) (sym c.in_ok-push.ensures) (one_more_in symbols parts part both.0 both.1))

pub union_without-returns : goal.union_without-returns
union_without-returns g t c =
    let xs = c.args.members.now in let i = c.loop-member.member-index in
    let parts = c.loop-member.parts.items in
    let whole : take i xs ≡ xs = take_all i xs (omega arith) in
    let slice : c.as_slice.result.now ≡ parts = c.as_slice.ensures.value in
    said _ c.loop-member.invariant
    (λ m w. c.in_ok-union_of.ensures ∙ ap union_of (slice ∙ w ∙ ap (map (without_null_in c.args.turns m)) whole))
    (λ symbols n. n)
    (λ symbols n all. subst (TypeIn symbols) (sym (c.in_ok-union_of.ensures ∙ ap union_of slice)) (in_union_of symbols parts all))

pub union_without-returns-in_err-part : goal.union_without-returns-in_err-part
union_without-returns-in_err-part g t c =
    let xs = c.args.members.now in let i = c.loop-member.member-index in let x = c.member-item.result in
    let p = err_from_is_err_and c.from_residual.result c.from_residual.ensures.1 in
    rw (p.1, p.2) (broken c.loop-member.invariant c.in_err-part.ensures (λ symbols n all. in_list symbols xs i x c.loop-member-test.true c.member-item.is n))

pub union_without-returns-in_err-push : goal.union_without-returns-in_err-push
union_without-returns-in_err-push g t c =
    let xs = c.args.members.now in let i = c.loop-member.member-index in let x = c.member-item.result in
    let p = err_from_is_err_and c.from_residual-in_err-push.result c.from_residual-in_err-push.ensures.1 in
    rw (p.1, p.2) (broken_off c.loop-member.invariant c.in_ok-part.ensures (λ symbols n all. in_list symbols xs i x c.loop-member-test.true c.member-item.is n))
