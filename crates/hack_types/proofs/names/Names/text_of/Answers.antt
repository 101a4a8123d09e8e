use Rattle.std.proofs.Common.{◌≡◌, ◌<◌, ◌+◌, ◌-◌, ℕ, arith, ap, sym, ◌∙◌, length, get_or, slice_get, Some}
use Rattle.std.proofs.lemmas.Option.{slice_get-get_or}
use Rattle.hack_types.specs.NamesInside.{texts}
use Rattle.hack_types.proofs.NameLemmas.{length-texts, texts-fixed, texts-added}
use Rattle.hack_types.proofs.names.Names.text_of.Goals as goal

pub bounds-as_slice-index : goal.bounds-as_slice-index
bounds-as_slice-index c =
    let long : length c.args.self.now ≡ 7 + length c.self.inside.added.keys = ap length (sym c.self.view_is) ∙ length-texts c.self.inside.added.keys in
    let same : length c.as_slice.result.now ≡ length c.self.inside.added.keys = ap length c.as_slice.ensures.keys in
    let value : c.number-index.result ≡ c.args.id = c.number-index.ensures.value in
    let inside : c.args.id < length c.args.self.now = c.requires in
    omega (arith, c.if-index-lt7.false)

pub returns-then-index-lt7 : goal.returns-then-index-lt7
returns-then-index-lt7 c =
    ap (λ names. slice_get names c.args.id) (sym c.self.view_is)
    ∙ ap (λ i. slice_get (texts c.self.inside.added.keys) i) (sym c.number-index.ensures.value)
    ∙ texts-fixed c.self.inside.added.keys c.number-index.result c.fixed_text.result.now c.fixed_text.ensures

pub returns-else-index-lt7 : goal.returns-else-index-lt7
returns-else-index-lt7 c =
    let added = c.self.inside.added.keys in
    let text = c.index-as_slice-index.result in
    let n : ℕ = c.number-index.result - 7 in
    let long : length c.args.self.now ≡ 7 + length added = ap length (sym c.self.view_is) ∙ length-texts added in
    let value : c.number-index.result ≡ c.args.id = c.number-index.ensures.value in
    let within : c.args.id < length c.args.self.now = c.requires in
    let inside : n < length added = omega (arith, c.if-index-lt7.false) in
    let at : slice_get added n ≡ Some text =
    slice_get-get_or added n text inside ∙ ap Some (sym (c.index-as_slice-index.is ∙ ap (λ names. get_or names n text) c.as_slice.ensures.keys)) in
    ap (λ names. slice_get names c.args.id) (sym c.self.view_is)
    ∙ texts-added added c.args.id n text (omega (arith, c.if-index-lt7.false)) at
    ∙ ap Some (sym c.as_slice-else-index-lt7.ensures.value)
