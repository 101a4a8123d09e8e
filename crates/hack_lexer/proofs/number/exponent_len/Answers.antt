use Rattle.std.proofs.Common.{Some, None, sym, ◌∙◌, subst}
use Rattle.std.proofs.lemmas.List.{take_rest}
use Rattle.hack_lexer.specs.Forms.{is_signed}
use Rattle.hack_lexer.specs.Scan.{HasLongest}
use Rattle.hack_lexer.proofs.Numbers.{exponent_marked, filled}
use Rattle.hack_lexer.proofs.number.exponent_len.Goals as goal

pub returns-in-Some : goal.returns-in-Some
returns-in-Some c = exponent_marked c.args.rest.now (filled c.args.rest.now c.is_empty.result c.is_empty.ensures c.if-is_empty.false) (sym c.is_exponent_mark.ensures ∙ c.if-not-is_exponent_mark.false) (Some c.in-Some.len) (subst (λ xs. HasLongest is_signed xs (Some c.in-Some.len)) (take_rest c.args.rest.now 1) c.in-Some.ensures)

pub returns-in-None : goal.returns-in-None
returns-in-None c = exponent_marked c.args.rest.now (filled c.args.rest.now c.is_empty.result c.is_empty.ensures c.if-is_empty.false) (sym c.is_exponent_mark.ensures ∙ c.if-not-is_exponent_mark.false) None (subst (λ xs. HasLongest is_signed xs None) (take_rest c.args.rest.now 1) c.in-None.ensures)
