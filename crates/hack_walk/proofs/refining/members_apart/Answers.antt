use Rattle.std.proofs.Common.{◌≡◌, ◌∙◌, ◌+◌, ◌++◌, ◌∷◌, [], Bool, cond, not, Ok, List, All, take, sym, ap, subst, arith}
use Rattle.std.proofs.lemmas.List.{take_all}
use Rattle.std.proofs.lemmas.Result.{err_from_is_err_and}
use Rattle.hack_types.specs.UnionOf.{union_of}
use Rattle.hack_types.specs.declared.hack_type.HackType.{HackType}
use Rattle.hack_decls.specs.AskLaws.{said, then, unasked}
use Rattle.hack_decls.specs.DeclState.{Map}
use Rattle.hack_decls.specs.Names.{TypeIn}
use Rattle.hack_sub.specs.IsBelow.{is_below}
use Rattle.hack_sub.specs.NamesOf.{in_list}
use Rattle.hack_sub.specs.NamesPut.{in_union_of}
use Rattle.hack_sub.specs.Sub.{most_height}
use Rattle.hack_walk.specs.WalkLaws.{asked_out_of_memory, asked_refused}
use Rattle.hack_walk.specs.inside.Calls.{ManyIn, members_apart}
use Rattle.hack_walk.proofs.Refinements.{in_kept, next_kept}
use Rattle.hack_walk.proofs.refining.members_apart.Goals as goal

pub loop-member-init : goal.loop-member-init
loop-member-init g c =
    unasked _ tt (λ m. c.new-apart.ensures.items) (λ symbols n. subst (λ ts. All (TypeIn symbols) ts) (sym c.new-apart.ensures.items) (λ k d lt. absurd (omega (arith, lt))))

pub loop-member-preserved : goal.loop-member-preserved
loop-member-preserved g c =
    let xs = c.args.members.now in let i = c.loop-member.member-index in let x = c.member-item.result in
    let T = c.args.tested.now in let scope = c.args.scope.now in
    let within = c.in_ok-within.within in
    let apart = c.loop-member.apart.items in
    let test = λ (m : Map) (ty : HackType). not (is_below m scope most_height ty T) in
    said {MeansB = λ m (told : Unit {0}). c.keep_unless.new.types.items ≡ members_apart m scope T (take (i + 1) xs)} tt (then {MeansC = λ m (b : Bool). (apart ≡ members_apart m scope T (take i xs)) × (b ≡ is_below m scope most_height x T)}
    {NamesC = λ symbols. ManyIn symbols scope xs T} {GivesC = λ symbols (b : Bool). All (TypeIn symbols) apart}
    (Ok within) c.loop-member.invariant c.in_ok-within.ensures
    (λ m b w e. (w, e)) (λ symbols n. n)
    (λ symbols n all. record { around = n.around; lower = in_list symbols xs i x c.loop-member-test.true c.member-item.is n.many; upper = n.other })
    (λ symbols b n all here. all))
    (λ m w.
    c.in_ok-keep_unless.ensures
    ∙ ap (λ (b : Bool). cond (not b) (apart ++ x ∷ []) apart) w.1
    ∙ ap (λ (ts : List HackType). cond (test m x) (ts ++ x ∷ []) ts) w.0
    ∙ next_kept (test m) xs i x c.loop-member-test.true c.member-item.is)
    (λ symbols n. n)
    (λ symbols n all. subst (λ ts. All (TypeIn symbols) ts) (sym c.in_ok-keep_unless.ensures)
    (in_kept symbols (not within) apart x all (in_list symbols xs i x c.loop-member-test.true c.member-item.is n.many)))

pub returns : goal.returns
returns g c =
    let xs = c.args.members.now in let i = c.loop-member.member-index in
    let apart = c.loop-member.apart.items in
    let whole : take i xs ≡ xs = take_all i xs (omega arith) in
    let slice : c.as_slice.result.now ≡ apart = c.as_slice.ensures.value in
    said _ c.loop-member.invariant
    (λ m w. c.in_ok-union_of.ensures ∙ ap union_of (slice ∙ w ∙ ap (members_apart m c.args.scope.now c.args.tested.now) whole))
    (λ symbols n. n)
    (λ symbols n all. subst (TypeIn symbols) (sym (c.in_ok-union_of.ensures ∙ ap union_of slice)) (in_union_of symbols apart all))

pub returns-in_err-within : goal.returns-in_err-within
returns-in_err-within g c =
    let xs = c.args.members.now in let i = c.loop-member.member-index in let x = c.member-item.result in
    let p = err_from_is_err_and c.from_residual.result c.from_residual.ensures.1 in
    rw (p.1, p.2) (asked_refused c.loop-member.invariant c.in_err-within.ensures
    (λ symbols n all. record { around = n.around; lower = in_list symbols xs i x c.loop-member-test.true c.member-item.is n.many; upper = n.other }))

pub returns-in_err-keep_unless : goal.returns-in_err-keep_unless
returns-in_err-keep_unless g c =
    let xs = c.args.members.now in let i = c.loop-member.member-index in let x = c.member-item.result in
    let p = err_from_is_err_and c.from_residual-in_err-keep_unless.result c.from_residual-in_err-keep_unless.ensures.1 in
    rw (p.1, p.2) (asked_out_of_memory c.loop-member.invariant c.in_ok-within.ensures
    (λ symbols n all. record { around = n.around; lower = in_list symbols xs i x c.loop-member-test.true c.member-item.is n.many; upper = n.other }))
