use Rattle.std.proofs.Common.{arith, Some, None, sym, subst}
use Rattle.std.proofs.lemmas.List.{take_rest}
use Rattle.hack_lexer.specs.Forms.{is_fraction, is_behind_whole}
use Rattle.hack_lexer.specs.Scan.{HasLongest, NonePasses}
use Rattle.hack_lexer.proofs.Numbers.{whole_point, whole_none, whole_exponent, filled}
use Rattle.hack_lexer.proofs.number.behind_whole_len.Goals as goal

pub returns-in-Some : goal.returns-in-Some
returns-in-Some c = whole_point c.args.digits c.args.rest.now (filled c.args.rest.now c.is_empty.result c.is_empty.ensures c.if-is_empty.false) c.if-rest-eq46.true (Some c.in-Some.len) (subst (λ xs. HasLongest is_fraction xs (Some c.in-Some.len)) (take_rest c.args.rest.now 1) c.in-Some.ensures)

pub returns-in-None : goal.returns-in-None
returns-in-None c = whole_point c.args.digits c.args.rest.now (filled c.args.rest.now c.is_empty.result c.is_empty.ensures c.if-is_empty.false) c.if-rest-eq46.true None (subst (λ xs. HasLongest is_fraction xs None) (take_rest c.args.rest.now 1) c.in-None.ensures)

pub returns-then-digits-eq0 : goal.returns-then-digits-eq0
returns-then-digits-eq0 c = subst (λ n. NonePasses (is_behind_whole n) c.args.rest.now) (sym c.if-digits-eq0.true) (whole_none c.args.rest.now (filled c.args.rest.now c.is_empty.result c.is_empty.ensures c.if-is_empty.false) c.if-rest-eq46.false)

pub returns : goal.returns
returns c = whole_exponent c.args.digits c.args.rest.now (filled c.args.rest.now c.is_empty.result c.is_empty.ensures c.if-is_empty.false) c.if-rest-eq46.false (omega (arith, c.if-digits-eq0.false)) c.exponent_len.result c.exponent_len.ensures
