use Rattle.std.proofs.Common.{Some, None, sym, ◌∙◌, subst}
use Rattle.std.proofs.lemmas.List.{take_rest}
use Rattle.hack_lexer.specs.Bytes.{is_hexadecimal, is_binary}
use Rattle.hack_lexer.specs.Forms.{are_some, is_behind_zero}
use Rattle.hack_lexer.specs.Scan.{HasLongest, IsLongestPass}
use Rattle.hack_lexer.proofs.Numbers.{zero_hexadecimal, zero_binary, zero_octal, filled}
use Rattle.hack_lexer.proofs.number.behind_zero_len.Goals as goal

pub returns-in-Some : goal.returns-in-Some
returns-in-Some c = zero_hexadecimal c.args.rest.now (filled c.args.rest.now c.is_empty.result c.is_empty.ensures c.if-is_empty.false) (sym c.is_hexadecimal_mark.ensures ∙ c.if-is_hexadecimal_mark.true) (Some c.in-Some.len) (subst (λ xs. HasLongest (are_some is_hexadecimal) xs (Some c.in-Some.len)) (take_rest c.args.rest.now 1) c.in-Some.ensures)

pub returns-in-None : goal.returns-in-None
returns-in-None c = zero_hexadecimal c.args.rest.now (filled c.args.rest.now c.is_empty.result c.is_empty.ensures c.if-is_empty.false) (sym c.is_hexadecimal_mark.ensures ∙ c.if-is_hexadecimal_mark.true) None (subst (λ xs. HasLongest (are_some is_hexadecimal) xs None) (take_rest c.args.rest.now 1) c.in-None.ensures)

pub returns-in-Some-some_len : goal.returns-in-Some-some_len
returns-in-Some-some_len c = zero_binary c.args.rest.now (filled c.args.rest.now c.is_empty.result c.is_empty.ensures c.if-is_empty.false) (sym c.is_hexadecimal_mark.ensures ∙ c.if-is_hexadecimal_mark.false) (sym c.is_binary_mark.ensures ∙ c.if-is_binary_mark.true) (Some c.in-Some-some_len.len) (subst (λ xs. HasLongest (are_some is_binary) xs (Some c.in-Some-some_len.len)) (take_rest c.args.rest.now 1) c.in-Some-some_len.ensures)

pub returns-in-None-some_len : goal.returns-in-None-some_len
returns-in-None-some_len c = zero_binary c.args.rest.now (filled c.args.rest.now c.is_empty.result c.is_empty.ensures c.if-is_empty.false) (sym c.is_hexadecimal_mark.ensures ∙ c.if-is_hexadecimal_mark.false) (sym c.is_binary_mark.ensures ∙ c.if-is_binary_mark.true) None (subst (λ xs. HasLongest (are_some is_binary) xs None) (take_rest c.args.rest.now 1) c.in-None-some_len.ensures)

pub returns : goal.returns
returns c = subst (λ n. IsLongestPass is_behind_zero c.args.rest.now n) (sym c.run_len.ensures.run) (zero_octal c.args.rest.now (filled c.args.rest.now c.is_empty.result c.is_empty.ensures c.if-is_empty.false) (sym c.is_hexadecimal_mark.ensures ∙ c.if-is_hexadecimal_mark.false) (sym c.is_binary_mark.ensures ∙ c.if-is_binary_mark.false))
