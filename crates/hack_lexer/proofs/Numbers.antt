-- The longest ints and floats at the front of bytes, from those of their parts.
use Rattle.std.proofs.Common.{◌≡◌, ◌<◌, ◌≤◌, ◌+◌, ◌&&◌, ◌||◌, ◌==◌, ℕ, zero, suc, List, [], ◌∷◌, length, take, drop, get_or, refl, sym, subst, ◌∙◌, arith, Bool, true, false, Option, Some, None, true≢false}
use Rattle.std.specs.Prelude.{MatchOption, nat_le}
use Rattle.std.specs.List.{prefix_len, list_all}
use Rattle.std.proofs.lemmas.Bool.{le-leb}
use Rattle.std.proofs.lemmas.Bool.Decides.{nat_tests}
use Rattle.hack_lexer.specs.Bytes.{is_digit, is_octal, is_binary, is_hexadecimal}
use Rattle.hack_lexer.specs.Forms.{are_some, is_behind_zero, is_int, is_signed, is_exponent, is_end, is_fraction, is_behind_whole, is_float, is_hexadecimal_mark, is_binary_mark}
use Rattle.hack_lexer.specs.Scan.{IsLongestPass, NonePasses, HasLongest}
use Rattle.hack_lexer.proofs.Passes.{longest_run, longest_same, none_same, longest_cons, none_cons, longest_none, longest_behind, none_behind, prefix_len-take, past_run, run_passes}

pub filled : (xs : List ℕ) (t : Bool) → t ≡ (length xs == 0) → t ≡ false → 0 < length xs
filled [] t e f = cc
filled (x ∷ xs) t e f = omega arith

pub not_that : (a b : ℕ) → (a ≡ b → ⊥) → (a == b) ≡ false
not_that a b h = grind (arith, nat_tests)

pub is_that_byte : (a b : ℕ) → a ≡ b → (a == b) ≡ true
is_that_byte a b h = grind (arith, nat_tests)

-- nothing but the empty text stands before the end
pub nothing : (t : List ℕ → Bool) → t [] ≡ false → NonePasses t []
nothing t e = record { none = by }
  where
    by : (n : ℕ) → n ≤ length {A = ℕ} [] → t (take n []) ≡ false
    by zero l = e
    by (suc n) l = e

pub empty_passes : (t : List ℕ → Bool) → t [] ≡ true → IsLongestPass t [] 0
empty_passes t e = record { inside = omega arith; passes = e; longest = λ n l m. absurd (omega arith) }

pub refuses_all : (t : List ℕ → Bool) (b : ℕ) (bs : List ℕ) → t [] ≡ false → ((xs : List ℕ) → t (b ∷ xs) ≡ false) → NonePasses t (b ∷ bs)
refuses_all t b bs start e = none_cons t (λ xs. false) b bs start e (record { none = λ n l. refl })

-- ---- exponents

pub signed_sign : (rest : List ℕ) → 0 < length rest → (get_or rest 0 0 == 43 || get_or rest 0 0 == 45) ≡ true → (found : Option ℕ) → HasLongest (are_some is_digit) (drop 1 rest) found
    → MatchOption found (NonePasses is_signed rest) (λ len. IsLongestPass is_signed rest (len + 1))
signed_sign [] l e found h = absurd (omega arith)
signed_sign (b ∷ bs) l e None h = none_cons is_signed (are_some is_digit) b bs refl (λ xs. rw e refl) h
signed_sign (b ∷ bs) l e (Some len) h = longest_cons is_signed (are_some is_digit) b bs len (λ xs. rw e refl) h

signed_same : (b : ℕ) (bs : List ℕ) → (b == 43 || b == 45) ≡ false → (n : ℕ) → is_signed (take n (b ∷ bs)) ≡ are_some is_digit (take n (b ∷ bs))
signed_same b bs e zero = refl
signed_same b bs e (suc n) = rw e refl

pub signed_plain : (rest : List ℕ) → 0 < length rest → (get_or rest 0 0 == 43 || get_or rest 0 0 == 45) ≡ false → (found : Option ℕ) → HasLongest (are_some is_digit) rest found → HasLongest is_signed rest found
signed_plain [] l e found h = absurd (omega arith)
signed_plain (b ∷ bs) l e None h = none_same is_signed (are_some is_digit) (b ∷ bs) (λ n m. signed_same b bs e n) h
signed_plain (b ∷ bs) l e (Some len) h = longest_same is_signed (are_some is_digit) (b ∷ bs) len (λ n m. signed_same b bs e n) h

pub signed_nothing : (rest : List ℕ) → length rest ≡ 0 → NonePasses is_signed rest
signed_nothing [] e = nothing is_signed refl
signed_nothing (b ∷ bs) e = absurd (omega arith)

pub exponent_nothing : (rest : List ℕ) → length rest ≡ 0 → NonePasses is_exponent rest
exponent_nothing [] e = nothing is_exponent refl
exponent_nothing (b ∷ bs) e = absurd (omega arith)

pub exponent_other : (rest : List ℕ) → 0 < length rest → (get_or rest 0 0 == 101 || get_or rest 0 0 == 69) ≡ false → NonePasses is_exponent rest
exponent_other [] l e = absurd (omega arith)
exponent_other (b ∷ bs) l e = refuses_all is_exponent b bs refl (λ xs. rw e refl)

pub exponent_marked : (rest : List ℕ) → 0 < length rest → (get_or rest 0 0 == 101 || get_or rest 0 0 == 69) ≡ true → (found : Option ℕ) → HasLongest is_signed (drop 1 rest) found
    → MatchOption found (NonePasses is_exponent rest) (λ len. IsLongestPass is_exponent rest (len + 1))
exponent_marked [] l e found h = absurd (omega arith)
exponent_marked (b ∷ bs) l e None h = none_cons is_exponent is_signed b bs refl (λ xs. rw e refl) h
exponent_marked (b ∷ bs) l e (Some len) h = longest_cons is_exponent is_signed b bs len (λ xs. rw e refl) h

-- nothing or an exponent: an exponent where there is one
pub longest_end : (rest : List ℕ) (found : Option ℕ) → HasLongest is_exponent rest found → MatchOption found (IsLongestPass is_end rest 0) (IsLongestPass is_end rest)
longest_end [] None h = empty_passes is_end refl
longest_end (b ∷ bs) None h = longest_none is_end (λ xs. is_exponent (b ∷ xs)) b bs refl (λ xs. refl) (record { none = λ n m. h.none (suc n) (omega arith) })
longest_end [] (Some len) h =
    let zero_len : len ≡ 0 = omega (arith, h.inside) in
    absurd (true≢false (sym (subst (λ n. is_exponent (take n []) ≡ true) zero_len h.passes)))
longest_end (b ∷ bs) (Some zero) h = absurd (true≢false (sym h.passes))
longest_end (b ∷ bs) (Some (suc len)) h = record { inside = h.inside; passes = h.passes; longest = by }
  where
    by : (n : ℕ) → suc len < n → n ≤ length (b ∷ bs) → is_end (take n (b ∷ bs)) ≡ false
    by zero l m = absurd (omega arith)
    by (suc n) l m = h.longest (suc n) l m

-- ---- floats

pub fraction_none : (rest : List ℕ) → prefix_len is_digit rest ≡ 0 → NonePasses is_fraction rest
fraction_none rest e = record { none = by }
  where
    by : (n : ℕ) → n ≤ length rest → is_fraction (take n rest) ≡ false
    by zero m = refl
    by (suc n) m = let none : prefix_len is_digit (take (suc n) rest) ≡ 0 = prefix_len-take is_digit rest (suc n) (omega arith) m ∙ e in rw none refl

pub fraction_some : (rest : List ℕ) (len : ℕ) → 0 < prefix_len is_digit rest → IsLongestPass is_end (drop (prefix_len is_digit rest) rest) len → IsLongestPass is_fraction rest (prefix_len is_digit rest + len)
fraction_some rest len pos h = longest_behind is_digit is_fraction (λ n xs. nat_le 1 n && is_end xs) (λ xs. refl) rest len
    (longest_same (λ xs. nat_le 1 (prefix_len is_digit rest) && is_end xs) is_end (drop (prefix_len is_digit rest) rest) len
    (λ n m. let one : nat_le 1 (prefix_len is_digit rest) ≡ true = le-leb 1 (prefix_len is_digit rest) (omega arith) in rw one refl) h)

pub whole_nothing : (digits : ℕ) (rest : List ℕ) → length rest ≡ 0 → NonePasses (is_behind_whole digits) rest
whole_nothing digits [] e = nothing (is_behind_whole digits) refl
whole_nothing digits (b ∷ bs) e = absurd (omega arith)

pub whole_point : (digits : ℕ) (rest : List ℕ) → 0 < length rest → get_or rest 0 0 ≡ 46 → (found : Option ℕ) → HasLongest is_fraction (drop 1 rest) found
    → MatchOption found (NonePasses (is_behind_whole digits) rest) (λ len. IsLongestPass (is_behind_whole digits) rest (len + 1))
whole_point digits [] l e found h = absurd (omega arith)
whole_point digits (b ∷ bs) l e None h = none_cons (is_behind_whole digits) is_fraction b bs refl (λ xs. rw e refl) h
whole_point digits (b ∷ bs) l e (Some len) h = longest_cons (is_behind_whole digits) is_fraction b bs len (λ xs. rw e refl) h

pub whole_none : (rest : List ℕ) → 0 < length rest → (get_or rest 0 0 ≡ 46 → ⊥) → NonePasses (is_behind_whole 0) rest
whole_none [] l e = absurd (omega arith)
whole_none (b ∷ bs) l e =
    let other : (b == 46) ≡ false = not_that b 46 e in
    refuses_all (is_behind_whole 0) b bs refl (λ xs. rw other refl)

whole_same : (digits b : ℕ) (bs : List ℕ) → 0 < digits → (b == 46) ≡ false → (n : ℕ) → is_behind_whole digits (take n (b ∷ bs)) ≡ is_exponent (take n (b ∷ bs))
whole_same digits b bs pos e zero = refl
whole_same digits b bs pos e (suc n) = let one : nat_le 1 digits ≡ true = le-leb 1 digits (omega arith) in rw e (rw one refl)

pub whole_exponent : (digits : ℕ) (rest : List ℕ) → 0 < length rest → (get_or rest 0 0 ≡ 46 → ⊥) → 0 < digits → (found : Option ℕ) → HasLongest is_exponent rest found → HasLongest (is_behind_whole digits) rest found
whole_exponent digits [] l e pos found h = absurd (omega arith)
whole_exponent digits (b ∷ bs) l e pos None h = none_same (is_behind_whole digits) is_exponent (b ∷ bs) (λ n m. whole_same digits b bs pos (not_that b 46 e) n) h
whole_exponent digits (b ∷ bs) l e pos (Some len) h = longest_same (is_behind_whole digits) is_exponent (b ∷ bs) len (λ n m. whole_same digits b bs pos (not_that b 46 e) n) h

pub float_from : (rest : List ℕ) (found : Option ℕ) → HasLongest (is_behind_whole (prefix_len is_digit rest)) (drop (prefix_len is_digit rest) rest) found
    → MatchOption found (NonePasses is_float rest) (λ len. IsLongestPass is_float rest (prefix_len is_digit rest + len))
float_from rest None h = none_behind is_digit is_float is_behind_whole (λ xs. refl) (λ n. refl) rest h
float_from rest (Some len) h = longest_behind is_digit is_float is_behind_whole (λ xs. refl) rest len h

-- ---- ints

pub int_zero : (rest : List ℕ) → 0 < length rest → get_or rest 0 0 ≡ 48 → (len : ℕ) → IsLongestPass is_behind_zero (drop 1 rest) len → IsLongestPass is_int rest (len + 1)
int_zero [] l e len h = absurd (omega arith)
int_zero (b ∷ bs) l e len h = longest_cons is_int is_behind_zero b bs len (λ xs. rw e refl) h

int_same : (b : ℕ) (bs : List ℕ) → (b == 48) ≡ false → (n : ℕ) → 0 < n → is_int (take n (b ∷ bs)) ≡ list_all is_digit (take n (b ∷ bs))
int_same b bs e zero l = absurd (omega arith)
int_same b bs e (suc n) l = rw e refl

run_pos : (p : ℕ → Bool) (b : ℕ) (bs : List ℕ) → p b ≡ true → 0 < prefix_len p (b ∷ bs)
run_pos p b bs e = rw e (omega arith)

pub int_decimal : (rest : List ℕ) → 0 < length rest → is_digit (get_or rest 0 0) ≡ true → (get_or rest 0 0 ≡ 48 → ⊥) → IsLongestPass is_int rest (prefix_len is_digit rest)
int_decimal [] l digit e = absurd (omega arith)
int_decimal (b ∷ bs) l digit e =
    let other : (b == 48) ≡ false = not_that b 48 e in
    let pos : 0 < prefix_len is_digit (b ∷ bs) = run_pos is_digit b bs digit in
    record {
      inside = (longest_run is_digit (b ∷ bs)).inside;
      passes = int_same b bs other (prefix_len is_digit (b ∷ bs)) pos ∙ run_passes is_digit (b ∷ bs);
      longest = λ n m k. int_same b bs other n (omega arith) ∙ past_run is_digit (b ∷ bs) n m k;
    }

pub zero_nothing : (rest : List ℕ) → length rest ≡ 0 → IsLongestPass is_behind_zero rest 0
zero_nothing [] e = empty_passes is_behind_zero refl
zero_nothing (b ∷ bs) e = absurd (omega arith)

pub zero_hexadecimal : (rest : List ℕ) → 0 < length rest → is_hexadecimal_mark (get_or rest 0 0) ≡ true → (found : Option ℕ) → HasLongest (are_some is_hexadecimal) (drop 1 rest) found
    → MatchOption found (IsLongestPass is_behind_zero rest 0) (λ len. IsLongestPass is_behind_zero rest (len + 1))
zero_hexadecimal [] l e found h = absurd (omega arith)
zero_hexadecimal (b ∷ bs) l e None h = longest_none is_behind_zero (are_some is_hexadecimal) b bs refl (λ xs. rw e refl) h
zero_hexadecimal (b ∷ bs) l e (Some len) h = longest_cons is_behind_zero (are_some is_hexadecimal) b bs len (λ xs. rw e refl) h

pub zero_binary : (rest : List ℕ) → 0 < length rest → is_hexadecimal_mark (get_or rest 0 0) ≡ false → is_binary_mark (get_or rest 0 0) ≡ true → (found : Option ℕ) → HasLongest (are_some is_binary) (drop 1 rest) found
    → MatchOption found (IsLongestPass is_behind_zero rest 0) (λ len. IsLongestPass is_behind_zero rest (len + 1))
zero_binary [] l plain e found h = absurd (omega arith)
zero_binary (b ∷ bs) l plain e None h = longest_none is_behind_zero (are_some is_binary) b bs refl (λ xs. rw plain (rw e refl)) h
zero_binary (b ∷ bs) l plain e (Some len) h = longest_cons is_behind_zero (are_some is_binary) b bs len (λ xs. rw plain (rw e refl)) h

octal_same : (b : ℕ) (bs : List ℕ) → is_hexadecimal_mark b ≡ false → is_binary_mark b ≡ false → (n : ℕ) → is_behind_zero (take n (b ∷ bs)) ≡ list_all is_octal (take n (b ∷ bs))
octal_same b bs plain plain_b zero = refl
octal_same b bs plain plain_b (suc n) = rw plain (rw plain_b refl)

pub zero_octal : (rest : List ℕ) → 0 < length rest → is_hexadecimal_mark (get_or rest 0 0) ≡ false → is_binary_mark (get_or rest 0 0) ≡ false → IsLongestPass is_behind_zero rest (prefix_len is_octal rest)
zero_octal [] l plain none = absurd (omega arith)
zero_octal (b ∷ bs) l plain plain_b = longest_same is_behind_zero (list_all is_octal) (b ∷ bs) (prefix_len is_octal (b ∷ bs)) (λ n m. octal_same b bs plain plain_b n) (longest_run is_octal (b ∷ bs))
