use Rattle.std.proofs.Common.{◌≡◌, [], sym, ◌∙◌, arith, below_more, true, true≢false}
use Rattle.std.specs.Str.{bytes_eq}
use Rattle.std.proofs.lemmas.Option.{get_or_from_slice_get}
use Rattle.std.proofs.lemmas.Slice.Eq.{bytes_eq-Decides}
use Rattle.hack_types.specs.Names.{fixed_names}
use Rattle.hack_types.proofs.NameLemmas.{none_equal, length-fixed_names}
use Rattle.hack_types.proofs.names.fixed_index.Goals as goal

pub loop-index-preserved : goal.loop-index-preserved
loop-index-preserved c = below_more _ _ c.loop-index.invariant (λ e.
    let here = get_or_from_slice_get fixed_names c.loop-index.index c.fixed_text.result.now [] c.fixed_text.ensures in
    let same : bytes_eq c.args.text.now c.fixed_text.result.now ≡ true = (bytes_eq-Decides c.args.text.now c.fixed_text.result.now).1 (sym e ∙ here) in
    true≢false (sym same ∙ sym c.eq.ensures ∙ c.if-eq.false))

pub returns-clause-none : goal.returns-clause-none
returns-clause-none c = none_equal fixed_names c.args.text.now (λ k l. c.loop-index.invariant k (omega (arith, length-fixed_names)))
