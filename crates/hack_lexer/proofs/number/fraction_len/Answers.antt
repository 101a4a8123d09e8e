use Rattle.std.proofs.Common.{◌≡◌, ◌+◌, drop, arith, sym, ◌∙◌, subst}
use Rattle.std.proofs.lemmas.List.{take_rest}
use Rattle.std.specs.List.{prefix_len}
use Rattle.hack_lexer.specs.Bytes.{is_digit}
use Rattle.hack_lexer.specs.Forms.{is_fraction, is_end}
use Rattle.hack_lexer.specs.Scan.{IsLongestPass}
use Rattle.hack_lexer.proofs.Numbers.{fraction_some, fraction_none}
use Rattle.hack_lexer.proofs.number.fraction_len.Goals as goal

pub returns : goal.returns
returns c =
    let run : c.run_len-digits.result ≡ prefix_len is_digit c.args.rest.now = c.run_len-digits.ensures.run in
    let behind : IsLongestPass is_end (drop c.run_len-digits.result c.args.rest.now) c.end_len.result =
    subst (λ xs. IsLongestPass is_end xs c.end_len.result) (take_rest c.args.rest.now c.run_len-digits.result) c.end_len.ensures in
    subst (λ n. IsLongestPass is_fraction c.args.rest.now (n + c.end_len.result)) (sym run)
    (fraction_some c.args.rest.now c.end_len.result (omega (arith, c.if-digits-eq0.false)) (subst (λ n. IsLongestPass is_end (drop n c.args.rest.now) c.end_len.result) run behind))

pub returns-then-digits-eq0 : goal.returns-then-digits-eq0
returns-then-digits-eq0 c = fraction_none c.args.rest.now (sym c.run_len-digits.ensures.run ∙ c.if-digits-eq0.true)
