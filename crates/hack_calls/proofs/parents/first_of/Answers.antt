use Rattle.std.proofs.Common.{◌∙◌, ◌<◌, ◌+◌, IsTrue, Some, None, drop, length, sym, ap, subst, arith}
use Rattle.std.proofs.lemmas.Result.{err_from_is_err_and}
use Rattle.hack_decls.specs.AskLaws.{said}
use Rattle.hack_decls.specs.DeclState.{Symbols}
use Rattle.hack_decls.specs.NameLaws.{in_class}
use Rattle.hack_decls.specs.Names.{TypeIn, class_symbol}
use Rattle.hack_decls.specs.declared.folded.Ancestor.{Ancestor}
use Rattle.hack_walk.specs.WalkLaws.{asked_out_of_memory, asked_refused}
use Rattle.hack_calls.specs.inside.Rows.{ancestor_type, first_of}
use Rattle.hack_calls.proofs.Loops.{begun, found, none_left, passed, went_on}
use Rattle.hack_calls.proofs.parents.first_of.Goals as goal

-- what an ancestor among these names
in_one : (symbols : Symbols) (a : Ancestor) → TypeIn symbols (ancestor_type a) → IsTrue (symbols (class_symbol a.name))
in_one symbols a here = (in_class symbols a.name a.arguments here).0

pub loop-ancestor-init : goal.loop-ancestor-init
loop-ancestor-init g c = begun _ _

pub loop-ancestor-preserved : goal.loop-ancestor-preserved
loop-ancestor-preserved g c =
    let as_ = c.args.ancestors.now in let i = c.loop-ancestor.ancestor-index in let a = c.ancestor-item.result in
    let lt : i < length as_ = c.loop-ancestor-test.true in
    went_on (λ map. first_of map (drop (i + 1) as_)) c.loop-ancestor.invariant c.in_ok-fits.fits c.in_ok-fits.ensures
    (λ map e. passed map as_ i a lt c.ancestor-item.is c.in_ok-fits.fits e c.if-fits.false)
    (λ symbols n. in_one symbols a (subst (λ (x : Ancestor). TypeIn symbols (ancestor_type x)) (sym c.ancestor-item.is) (n i a lt)))

pub returns : goal.returns
returns g c =
    said None c.loop-ancestor.invariant
    (λ map w. none_left map c.args.ancestors.now c.loop-ancestor.ancestor-index (omega arith) ∙ sym w) (λ symbols n. n) (λ symbols n g. tt)

pub returns-then-fits : goal.returns-then-fits
returns-then-fits g c =
    let as_ = c.args.ancestors.now in let i = c.loop-ancestor.ancestor-index in let a = c.ancestor-item.result in
    let lt : i < length as_ = c.loop-ancestor-test.true in
    said (Some c.in_ok-type_of.field-0)
    (went_on (λ map. Some (ancestor_type a)) c.loop-ancestor.invariant c.in_ok-fits.fits c.in_ok-fits.ensures
    (λ map e. found map as_ i a lt c.ancestor-item.is c.in_ok-fits.fits e c.if-fits.true)
    (λ symbols n. in_one symbols a (subst (λ (x : Ancestor). TypeIn symbols (ancestor_type x)) (sym c.ancestor-item.is) (n i a lt))))
    (λ map w. ap Some c.in_ok-type_of.ensures ∙ sym w) (λ symbols n. n)
    (λ symbols n done. subst (TypeIn symbols) (sym c.in_ok-type_of.ensures) (subst (λ (x : Ancestor). TypeIn symbols (ancestor_type x)) (sym c.ancestor-item.is) (n i a lt)))

pub returns-in_err-fits : goal.returns-in_err-fits
returns-in_err-fits g c =
    let as_ = c.args.ancestors.now in let i = c.loop-ancestor.ancestor-index in let a = c.ancestor-item.result in
    let lt : i < length as_ = c.loop-ancestor-test.true in
    let p = err_from_is_err_and c.from_residual.result c.from_residual.ensures.1 in
    rw (p.1, p.2) (asked_refused c.loop-ancestor.invariant c.in_err-fits.ensures
    (λ symbols n done. in_one symbols a (subst (λ (x : Ancestor). TypeIn symbols (ancestor_type x)) (sym c.ancestor-item.is) (n i a lt))))

pub returns-in_err-type_of : goal.returns-in_err-type_of
returns-in_err-type_of g c =
    let as_ = c.args.ancestors.now in let i = c.loop-ancestor.ancestor-index in let a = c.ancestor-item.result in
    let lt : i < length as_ = c.loop-ancestor-test.true in
    let p = err_from_is_err_and c.from_residual-in_err-type_of.result c.from_residual-in_err-type_of.ensures.1 in
    rw (p.1, p.2) (asked_out_of_memory c.loop-ancestor.invariant c.in_ok-fits.ensures
    (λ symbols n done. in_one symbols a (subst (λ (x : Ancestor). TypeIn symbols (ancestor_type x)) (sym c.ancestor-item.is) (n i a lt))))
