use Rattle.std.proofs.Common.{◌≡◌, ◌+◌, drop, sym, ap, ◌∙◌, subst}
use Rattle.std.proofs.lemmas.List.{take_rest}
use Rattle.std.specs.List.{prefix_len}
use Rattle.hack_lexer.specs.Bytes.{is_word_byte}
use Rattle.hack_lexer.specs.Forms.{is_word}
use Rattle.hack_lexer.specs.Scan.{IsLongestPass}
use Rattle.hack_lexer.proofs.Numbers.{filled}
use Rattle.hack_lexer.proofs.Texts.{word_started}
use Rattle.hack_lexer.proofs.text.word_len.Goals as goal

pub returns : goal.returns
returns c =
    let run : c.run_len.result ≡ prefix_len is_word_byte (drop 1 c.args.rest.now) = c.run_len.ensures.run ∙ ap (prefix_len is_word_byte) (take_rest c.args.rest.now 1) in
    subst (λ n. IsLongestPass is_word c.args.rest.now (n + 1)) (sym run) (word_started c.args.rest.now (filled c.args.rest.now c.is_empty.result c.is_empty.ensures c.if-is_empty.false) (sym c.is_word_start.ensures ∙ c.if-not-is_word_start.false))
