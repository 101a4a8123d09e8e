use Rattle.std.proofs.Common.{get_or, Some, None, sym, ap, ◌∙◌, false}
use Rattle.std.proofs.lemmas.List.{take_rest}
use Rattle.hack_lexer.specs.Forms.{through_quote}
use Rattle.hack_lexer.proofs.Numbers.{filled}
use Rattle.hack_lexer.proofs.Texts.{string_started}
use Rattle.hack_lexer.proofs.text.string_len.Goals as goal

pub returns-in-Some : goal.returns-in-Some
returns-in-Some c = string_started c.args.rest.now (filled c.args.rest.now c.is_empty.result c.is_empty.ensures c.if-is_empty.false) (sym c.is_quote.ensures ∙ c.if-not-is_quote.false) (Some c.in-Some.len)
    (ap (through_quote (get_or c.args.rest.now 0 0) false) (sym (take_rest c.args.rest.now 1)) ∙ sym c.in-Some.ensures.value)

pub returns-in-None : goal.returns-in-None
returns-in-None c = string_started c.args.rest.now (filled c.args.rest.now c.is_empty.result c.is_empty.ensures c.if-is_empty.false) (sym c.is_quote.ensures ∙ c.if-not-is_quote.false) None
    (ap (through_quote (get_or c.args.rest.now 0 0) false) (sym (take_rest c.args.rest.now 1)) ∙ sym c.in-None.ensures.value)
