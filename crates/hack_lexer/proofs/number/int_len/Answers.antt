use Rattle.std.proofs.Common.{sym, subst}
use Rattle.std.proofs.lemmas.List.{take_rest}
use Rattle.hack_lexer.specs.Forms.{is_int, is_behind_zero}
use Rattle.hack_lexer.specs.Scan.{IsLongestPass}
use Rattle.hack_lexer.proofs.Numbers.{int_zero, int_decimal}
use Rattle.hack_lexer.proofs.number.int_len.Goals as goal

pub returns-then-rest-eq48 : goal.returns-then-rest-eq48
returns-then-rest-eq48 c = int_zero c.args.rest.now c.requires.not_empty c.if-rest-eq48.true c.behind_zero_len.result
    (subst (λ xs. IsLongestPass is_behind_zero xs c.behind_zero_len.result) (take_rest c.args.rest.now 1) c.behind_zero_len.ensures)

pub returns : goal.returns
returns c = subst (λ n. IsLongestPass is_int c.args.rest.now n) (sym c.run_len.ensures.run) (int_decimal c.args.rest.now c.requires.not_empty c.requires.digit c.if-rest-eq48.false)
