use Rattle.std.proofs.Common.{ℕ, ◌<◌, get_or, sym, ◌∙◌, refl, arith, length}
use Rattle.std.proofs.lemmas.Bool.{eqb-true}
use Rattle.hack_lexer.proofs.Longest.{found_word, found_variable, found_string, found_float, found_int, mark_alone, none_in_nothing}
use Rattle.hack_lexer.proofs.scan.token_at.Goals as goal

pub returns-then-is_empty : goal.returns-then-is_empty
returns-then-is_empty c = none_in_nothing c.args.rest.now (eqb-true (length c.args.rest.now) 0 (sym c.is_empty.ensures ∙ c.if-is_empty.true))

pub returns-in-Some : goal.returns-in-Some
returns-in-Some c =
    let byte : get_or c.args.rest.now 0 0 < 256 = omega (arith, c.type_inv.rest 0) in
    found_word c.args.rest.now _ byte c.in-Some.ensures c.word_sort-sort.ensures

pub returns-in-Some-variable_len : goal.returns-in-Some-variable_len
returns-in-Some-variable_len c =
    let byte : get_or c.args.rest.now 0 0 < 256 = omega (arith, c.type_inv.rest 0) in
    found_variable c.args.rest.now _ byte c.in_default.ensures c.in-Some-variable_len.ensures c.variable_sort-sort.ensures

pub returns-in-Some-string_len : goal.returns-in-Some-string_len
returns-in-Some-string_len c =
    let byte : get_or c.args.rest.now 0 0 < 256 = omega (arith, c.type_inv.rest 0) in
    found_string c.args.rest.now _ byte c.in_default.ensures c.in_default-variable_len.ensures c.in-Some-string_len.ensures c.string_sort-sort.ensures

pub returns-in-Some-float_len : goal.returns-in-Some-float_len
returns-in-Some-float_len c =
    let bytes : (i : ℕ) → get_or c.args.rest.now i 0 < 256 = (λ i. omega (arith, c.type_inv.rest i)) in
    found_float c.args.rest.now _ bytes c.in_default.ensures c.in_default-variable_len.ensures c.in_default-string_len.ensures c.in-Some-float_len.ensures refl

pub returns-then-is_digit : goal.returns-then-is_digit
returns-then-is_digit c =
    let byte : get_or c.args.rest.now 0 0 < 256 = omega (arith, c.type_inv.rest 0) in
    found_int c.args.rest.now _ byte (sym c.is_digit.ensures ∙ c.if-is_digit.true) c.in_default.ensures c.in_default-variable_len.ensures c.in_default-string_len.ensures c.in_default-float_len.ensures
    c.int_len.ensures refl

pub mark_at-requires-clause-alone : goal.mark_at-requires-clause-alone
mark_at-requires-clause-alone c =
    mark_alone c.args.rest.now (sym c.is_digit.ensures ∙ c.if-is_digit.false) c.in_default.ensures c.in_default-variable_len.ensures c.in_default-string_len.ensures c.in_default-float_len.ensures
