-- The length in a `file` command: digits as they are read, and the number that they write.
use Rattle.std.proofs.Common.{◌≡◌, ℕ, zero, suc, ◌^◌, ◌<◌, ◌≤◌, ◌&&◌, Bool, true, false, cond, List, [], ◌∷◌, Some, None, length, get_or, refl, sym, ap, ◌∙◌, arith, rules}
use Rattle.std.specs.List.{list_all}
use Rattle.std.specs.Fmt.{decimal}
use Rattle.std.proofs.lemmas.Bool.Decides.{nat_tests}
use Rattle.std.proofs.lemmas.Fmt.{digits_decimal, digits_value-decimal, decimal-digits_value, length-decimal-le, first_decimal, decimal_nonempty, decimal_digit}
use Rattle.std.proofs.lemmas.Str.Parse.{IsNumeralModel, numerals_by_fold, digits_value_short}
use Rattle.script_text.specs.Heads.{is_digit, is_plain, value_after, number}

-- std's words for digits and their value, in ours
own : IsNumeralModel (λ ds. list_all is_digit ds ≡ true) (value_after 0)
own = numerals_by_fold _ (search rules) value_after (search rules)

-- one to seven digits, and no zero in front of others
pub plain_length : (ds : List ℕ) → is_plain ds ≡ true → (0 < length ds) × (length ds ≤ 7) × (get_or ds 0 0 ≡ 48 → length ds ≡ 1)
plain_length [] e = absurd cc
plain_length (d ∷ []) e = (omega arith, omega arith, λ _. refl)
plain_length (d ∷ f ∷ ds) e = grind (arith, nat_tests)

plain_from : (ds : List ℕ) → 0 < length ds → length ds ≤ 7 → (get_or ds 0 0 ≡ 48 → length ds ≡ 1) → is_plain ds ≡ true
plain_from [] some short lone = absurd (omega arith)
plain_from (d ∷ []) some short lone = refl
plain_from (d ∷ f ∷ ds) some short lone = grind (arith, nat_tests)

both : (a b : Bool) (ds : List ℕ) (n : ℕ) → cond (a && b) (Some (value_after 0 ds)) None ≡ Some n → (a ≡ true) × (b ≡ true) × (value_after 0 ds ≡ n)
both true true ds n e = (refl, refl, cc)
both true false ds n e = absurd cc
both false b ds n e = absurd cc

-- what is read as a number is its decimal digits
pub number-digits : (ds : List ℕ) (n : ℕ) → number ds ≡ Some n → ds ≡ decimal n
unfolding number
number-digits ds n e =
    let parts = both (is_plain ds) (list_all is_digit ds) ds n e in
    let plain = plain_length ds parts.0 in
    let small : value_after 0 ds < 10 ^ 7 = digits_value_short own ds 7 parts.1 plain.1 in
    sym (decimal-digits_value own ds parts.1 plain.0 plain.2 (omega arith)) ∙ ap decimal parts.2

-- only 0 begins with a zero
lone_zero : (n : ℕ) → n < 2 ^ 64 → get_or (decimal n) 0 0 ≡ 48 → length (decimal n) ≡ 1
lone_zero zero fits is = ap length (decimal_digit 0 (omega arith))
lone_zero (suc n) fits is = absurd (omega (arith, first_decimal (suc n) (omega arith) fits))

-- the digits of a number of at most seven digits are read as it
pub number-decimal : (n : ℕ) → n < 10 ^ 7 → number (decimal n) ≡ Some n
unfolding number
number-decimal n small =
    let fits : n < 2 ^ 64 = omega arith in
    let plain = plain_from (decimal n) (decimal_nonempty n fits) (length-decimal-le 7 n (omega arith) small fits) (lone_zero n fits) in
    let digits = digits_decimal own n fits in
    ap (λ t. cond (t && list_all is_digit (decimal n)) (Some (value_after 0 (decimal n))) None) plain
    ∙ ap (λ t. cond t (Some (value_after 0 (decimal n))) None) digits ∙ ap Some (digits_value-decimal own n fits)

-- what a number writes is digits
pub decimal-digits : (n : ℕ) → n < 2 ^ 64 → list_all is_digit (decimal n) ≡ true
decimal-digits n fits = digits_decimal own n fits
