use Rattle.std.proofs.Common.{Some, None, sym, ◌∙◌, subst}
use Rattle.std.proofs.lemmas.List.{take_rest}
use Rattle.hack_lexer.specs.Bytes.{is_digit}
use Rattle.hack_lexer.specs.Forms.{are_some}
use Rattle.hack_lexer.specs.Scan.{HasLongest}
use Rattle.hack_lexer.proofs.Numbers.{signed_sign, filled}
use Rattle.hack_lexer.proofs.number.signed_len.Goals as goal

pub returns-in-Some : goal.returns-in-Some
returns-in-Some c = signed_sign c.args.rest.now (filled c.args.rest.now c.is_empty.result c.is_empty.ensures c.if-is_empty.false) (sym c.is_sign.ensures ∙ c.if-not-is_sign.false) (Some c.in-Some.len) (subst (λ xs. HasLongest (are_some is_digit) xs (Some c.in-Some.len)) (take_rest c.args.rest.now 1) c.in-Some.ensures)

pub returns-in-None : goal.returns-in-None
returns-in-None c = signed_sign c.args.rest.now (filled c.args.rest.now c.is_empty.result c.is_empty.ensures c.if-is_empty.false) (sym c.is_sign.ensures ∙ c.if-not-is_sign.false) None (subst (λ xs. HasLongest (are_some is_digit) xs None) (take_rest c.args.rest.now 1) c.in-None.ensures)
