use Rattle.std.proofs.Common.{◌≡◌, ◌+◌, ℕ, drop, sym, ◌∙◌, subst, false}
use Rattle.std.specs.Option.{option_map}
use Rattle.hack_lexer.specs.Forms.{through_quote}
use Rattle.hack_lexer.proofs.Texts.{quote_on, quote_here, quote_nowhere, quote_start}
use Rattle.hack_lexer.proofs.text.through_quote.Goals as goal

pub loop-index-init : goal.loop-index-init
loop-index-init c = quote_start c.args.quote c.args.bytes.now

pub loop-index-preserved : goal.loop-index-preserved
loop-index-preserved c =
    let bytes = c.args.bytes.now in
    let i : ℕ = c.loop-index.index in
    subst (λ taken. through_quote c.args.quote false bytes ≡ option_map (λ n. i + 1 + n) (through_quote c.args.quote taken (drop (i + 1) bytes))) (sym c.is_open-taken.ensures)
    (quote_on c.args.quote c.loop-index.taken bytes i (through_quote c.args.quote false bytes) c.loop-index-test.true (sym c.is_open.ensures ∙ c.if-is_open.false) c.loop-index.invariant)

pub returns-then-is_open-clause-value : goal.returns-then-is_open-clause-value
returns-then-is_open-clause-value c =
    sym (quote_here c.args.quote c.loop-index.taken c.args.bytes.now c.loop-index.index (through_quote c.args.quote false c.args.bytes.now) c.loop-index-test.true
    (sym c.is_open.ensures ∙ c.if-is_open.true) c.loop-index.invariant)

pub returns-clause-value : goal.returns-clause-value
returns-clause-value c =
    sym (quote_nowhere c.args.quote c.loop-index.taken c.args.bytes.now c.loop-index.index (through_quote c.args.quote false c.args.bytes.now) c.loop-index-test.false c.loop-index.invariant)
