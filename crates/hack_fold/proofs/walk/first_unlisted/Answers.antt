use Rattle.std.proofs.Common.{List, Bool, sym, ap, ◌∙◌}
use Rattle.std.specs.BTreeSet as sorted
use Rattle.hack_types.specs.declared.hack_type.HackType.{HackType}
use Rattle.hack_types.specs.declared.ids.SymbolId.{SymbolId}
use Rattle.hack_decls.specs.PlainMap.{symbol_order}
use Rattle.hack_fold.specs.Line.{type_symbols, unlisted}
use Rattle.hack_fold.proofs.WalkLemmas.{none_in, passed, stopped}
use Rattle.hack_fold.proofs.walk.first_unlisted.Goals as goal

abbrev left : (SymbolId → Bool) → List HackType → List SymbolId
left p types = unlisted p (type_symbols types)

pub returns-in-Some-unlisted_symbol : goal.returns-in-Some-unlisted_symbol
returns-in-Some-unlisted_symbol c =
    let p = λ (t : SymbolId). sorted.contains symbol_order c.args.listed.now t in
    sym c.loop-ty.invariant ∙ ap (left p) c.in-Some.ensures.cases.0 ∙ stopped p c.in-Some.ty.now c.in-Some.more.now c.in-Some-unlisted_symbol.symbol c.in-Some-unlisted_symbol.ensures

pub loop-ty-preserved : goal.loop-ty-preserved
loop-ty-preserved c =
    let p = λ (t : SymbolId). sorted.contains symbol_order c.args.listed.now t in
    sym (ap (left p) c.in-Some.ensures.cases.0 ∙ passed p c.in-Some.ty.now c.in-Some.more.now c.in_default-unlisted_symbol.ensures) ∙ c.loop-ty.invariant

pub returns : goal.returns
returns c =
    let p = λ (t : SymbolId). sorted.contains symbol_order c.args.listed.now t in
    sym c.loop-ty.invariant ∙ none_in p c.loop-ty.rest.now c.in_default.ensures.cases
