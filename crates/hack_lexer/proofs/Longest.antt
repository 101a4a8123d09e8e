-- The longest token at the front, from the longest of its form.
use Rattle.std.proofs.Common.{◌≡◌, ◌<◌, ◌≤◌, ◌+◌, ◌-◌, ◌&&◌, ◌||◌, ◌==◌, ℕ, zero, suc, List, [], ◌∷◌, length, take, drop, get_or, refl, sym, ap, subst, ◌∙◌, arith, Bool, true, false, Option, Some, None, true≢false, inl, inr, add_comm, add-one}
use Rattle.std.specs.Prelude.{if◌then◌else◌, nat_le}
use Rattle.std.specs.List.{prefix_len, list_all}
use Rattle.std.proofs.lemmas.Bool.{cases_lt, eqb-true}
use Rattle.std.proofs.lemmas.Bool.Decides.{nat_tests}
use Rattle.std.proofs.lemmas.List.{length-take-le, drop_all, drop_more}
use Rattle.hack_lexer.specs.Bytes.{is_digit, is_octal, is_word_start}
use Rattle.hack_lexer.specs.Forms.{is_word, is_variable, is_int, is_float, is_string, is_exponent, is_fraction, is_behind_whole, is_behind_zero, is_hexadecimal_mark, is_binary_mark, sort_of, sort_of_mark, sort_of_word, sort_of_variable, sort_of_string}
use Rattle.hack_lexer.specs.Tokens.{sort_at, is_cut_cast}
use Rattle.hack_lexer.specs.Scan.{IsLongestPass, NonePasses, IsFound, NoneFound, IsMarkAlone, IsMarkOf, FindsToken}
use Rattle.hack_lexer.specs.declared.scan.Found.{Found}
use Rattle.hack_lexer.proofs.Passes.{behind_run, prefix_len-take_all, past_run}
use Rattle.hack_lexer.proofs.Classes as classes

-- a text that doesn't begin with `?` is no cut `?as`
whole_cast : (rest : List ℕ) (n : ℕ) → (get_or rest 0 0 == 63) ≡ false → is_cut_cast rest n ≡ false
whole_cast rest zero e = refl
whole_cast [] (suc n) e = refl
whole_cast (b ∷ bs) (suc n) e = rw e refl

pub longest_pos : (t : List ℕ → Bool) (rest : List ℕ) (len : ℕ) → t [] ≡ false → IsLongestPass t rest len → 0 < len
longest_pos t rest zero e h = absurd (true≢false (sym h.passes ∙ e))
longest_pos t rest (suc len) e h = omega arith

pub found_from : (t : List ℕ → Bool) (s : List ℕ → ℕ) (rest : List ℕ) (found : Found) → t [] ≡ false → (get_or rest 0 0 == 63) ≡ false
    → ((n : ℕ) → found.len ≤ n → n ≤ length rest → sort_of (take n rest) ≡ (if t (take n rest) then Some (s (take n rest)) else None))
    → IsLongestPass t rest found.len → found.sort ≡ s (take found.len rest) → IsFound rest found
found_from t s rest found start cast sorts h sort = record {
  inside = h.inside;
  not_empty = longest_pos t rest found.len start h;
  sort = rw (whole_cast rest found.len cast) (sorts found.len (omega arith) h.inside ∙ rw h.passes (ap Some (sym sort)));
  longest = λ n l m. rw (whole_cast rest n cast) (sorts n (omega arith) m ∙ rw (h.longest n l m) refl);
}

-- ---- words, variables and strings

pub found_word : (rest : List ℕ) (found : Found) → get_or rest 0 0 < 256 → IsLongestPass is_word rest found.len → found.sort ≡ sort_of_word (take found.len rest) → IsFound rest found
found_word [] found l h sort = absurd (omega (arith, h.inside, longest_pos is_word [] found.len refl h))
found_word (b ∷ bs) found l h sort = found_from is_word sort_of_word (b ∷ bs) found refl (classes.apart is_word_start (λ x. x == 63) refl b l start) sorts h sort
  where
    by : (len : ℕ) → is_word (take len (b ∷ bs)) ≡ true → is_word_start b ≡ true
    by zero e = absurd (true≢false (sym e))
    by (suc len) e = (classes.both (is_word_start b) _ e).0

    start : is_word_start b ≡ true
    start = by found.len h.passes

    at : (x : List ℕ) → sort_of (b ∷ x) ≡ (if is_word (b ∷ x) then Some (sort_of_word (b ∷ x)) else None)
    at x = classes.only_word (b ∷ x)
        (classes.variable_false b x (classes.apart is_word_start (λ y. y == 36) refl b l start))
        (classes.int_false b x (classes.apart is_word_start (λ y. y == 48) refl b l start) (classes.apart is_word_start is_digit refl b l start))
        (classes.float_false b x (classes.apart is_word_start is_digit refl b l start) (classes.apart is_word_start (λ y. y == 46) refl b l start))
        (classes.string_false b x (classes.apart is_word_start classes.is_quote refl b l start))
        (classes.no_mark b x (classes.word_no_mark b l start))

    sorts : (n : ℕ) → found.len ≤ n → n ≤ length (b ∷ bs) → sort_of (take n (b ∷ bs)) ≡ (if is_word (take n (b ∷ bs)) then Some (sort_of_word (take n (b ∷ bs))) else None)
    sorts zero k m = absurd (omega (arith, longest_pos is_word (b ∷ bs) found.len refl h))
    sorts (suc n) k m = at (take n bs)

pub found_variable : (rest : List ℕ) (found : Found) → get_or rest 0 0 < 256 → NonePasses is_word rest → IsLongestPass is_variable rest found.len → found.sort ≡ sort_of_variable (take found.len rest) → IsFound rest found
found_variable [] found l words h sort = absurd (omega (arith, h.inside, longest_pos is_variable [] found.len refl h))
found_variable (b ∷ bs) found l words h sort = found_from is_variable sort_of_variable (b ∷ bs) found refl (classes.apart (λ x. x == 36) (λ x. x == 63) refl b l start) sorts h sort
  where
    by : (len : ℕ) → is_variable (take len (b ∷ bs)) ≡ true → (b == 36) ≡ true
    by zero e = absurd (true≢false (sym e))
    by (suc len) e = (classes.both (b == 36) _ e).0

    start : (b == 36) ≡ true
    start = by found.len h.passes

    at : (x : List ℕ) → is_word (b ∷ x) ≡ false → sort_of (b ∷ x) ≡ (if is_variable (b ∷ x) then Some (sort_of_variable (b ∷ x)) else None)
    at x w = classes.only_variable (b ∷ x) w
        (classes.int_false b x (classes.apart (λ y. y == 36) (λ y. y == 48) refl b l start) (classes.apart (λ y. y == 36) is_digit refl b l start))
        (classes.float_false b x (classes.apart (λ y. y == 36) is_digit refl b l start) (classes.apart (λ y. y == 36) (λ y. y == 46) refl b l start))
        (classes.string_false b x (classes.apart (λ y. y == 36) classes.is_quote refl b l start))
        (classes.no_mark b x (classes.dollar_no_mark b l start))

    sorts : (n : ℕ) → found.len ≤ n → n ≤ length (b ∷ bs) → sort_of (take n (b ∷ bs)) ≡ (if is_variable (take n (b ∷ bs)) then Some (sort_of_variable (take n (b ∷ bs))) else None)
    sorts zero k m = absurd (omega (arith, longest_pos is_variable (b ∷ bs) found.len refl h))
    sorts (suc n) k m = at (take n bs) (words.none (suc n) m)

pub found_string : (rest : List ℕ) (found : Found) → get_or rest 0 0 < 256 → NonePasses is_word rest → NonePasses is_variable rest → IsLongestPass is_string rest found.len → found.sort ≡ sort_of_string (take found.len rest) → IsFound rest found
found_string [] found l words variables h sort = absurd (omega (arith, h.inside, longest_pos is_string [] found.len refl h))
found_string (b ∷ bs) found l words variables h sort = found_from is_string sort_of_string (b ∷ bs) found refl (classes.apart classes.is_quote (λ x. x == 63) refl b l start) sorts h sort
  where
    by : (len : ℕ) → is_string (take len (b ∷ bs)) ≡ true → classes.is_quote b ≡ true
    by zero e = absurd (true≢false (sym e))
    by (suc len) e = (classes.both (classes.is_quote b) _ e).0

    start : classes.is_quote b ≡ true
    start = by found.len h.passes

    at : (x : List ℕ) → is_word (b ∷ x) ≡ false → is_variable (b ∷ x) ≡ false → sort_of (b ∷ x) ≡ (if is_string (b ∷ x) then Some (sort_of_string (b ∷ x)) else None)
    at x w v = classes.only_string (b ∷ x) w v
        (classes.int_false b x (classes.apart classes.is_quote (λ y. y == 48) refl b l start) (classes.apart classes.is_quote is_digit refl b l start))
        (classes.float_false b x (classes.apart classes.is_quote is_digit refl b l start) (classes.apart classes.is_quote (λ y. y == 46) refl b l start))
        (classes.no_mark b x (classes.quote_no_mark b l start))

    sorts : (n : ℕ) → found.len ≤ n → n ≤ length (b ∷ bs) → sort_of (take n (b ∷ bs)) ≡ (if is_string (take n (b ∷ bs)) then Some (sort_of_string (take n (b ∷ bs))) else None)
    sorts zero k m = absurd (omega (arith, longest_pos is_string (b ∷ bs) found.len refl h))
    sorts (suc n) k m = at (take n bs) (words.none (suc n) m) (variables.none (suc n) m)

-- ---- ints

pub found_int : (rest : List ℕ) (found : Found) → get_or rest 0 0 < 256 → is_digit (get_or rest 0 0) ≡ true → NonePasses is_word rest → NonePasses is_variable rest → NonePasses is_string rest → NonePasses is_float rest
    → IsLongestPass is_int rest found.len → found.sort ≡ 3 → IsFound rest found
found_int [] found l digit words variables strings floats h sort = absurd (omega (arith, h.inside, longest_pos is_int [] found.len refl h))
found_int (b ∷ bs) found l digit words variables strings floats h sort =
    found_from is_int (λ x. 3) (b ∷ bs) found refl (classes.apart is_digit (λ x. x == 63) refl b l digit) sorts h sort
  where
    sorts : (n : ℕ) → found.len ≤ n → n ≤ length (b ∷ bs) → sort_of (take n (b ∷ bs)) ≡ (if is_int (take n (b ∷ bs)) then Some 3 else None)
    sorts zero k m = absurd (omega (arith, longest_pos is_int (b ∷ bs) found.len refl h))
    sorts (suc n) k m = classes.only_int (b ∷ take n bs) (words.none (suc n) m) (variables.none (suc n) m) (floats.none (suc n) m) (strings.none (suc n) m)
        (classes.no_mark b (take n bs) (classes.digit_no_mark b l digit))

-- ---- marks

pub mark_alone : (rest : List ℕ) → is_digit (get_or rest 0 0) ≡ false → NonePasses is_word rest → NonePasses is_variable rest → NonePasses is_string rest → NonePasses is_float rest → IsMarkAlone rest
mark_alone rest digit words variables strings floats = record { alone = λ n m. classes.only_mark (take n rest) (words.none n m) (variables.none n m) (ints rest digit n) (floats.none n m) (strings.none n m) }
  where
    ints : (xs : List ℕ) → is_digit (get_or xs 0 0) ≡ false → (n : ℕ) → is_int (take n xs) ≡ false
    ints xs e zero = refl
    ints [] e (suc n) = refl
    ints (b ∷ bs) e (suc n) = classes.int_false b (take n bs) (classes.not_zero b e) e

-- bytes that end a run of digits in a float
abbrev pub is_stop : ℕ → Bool
is_stop b = b == 46 || (b == 101 || b == 69)

either : (s t u : Bool) → (s ≡ false → (t && u) ≡ true) → (s || t) ≡ true
either true t u h = refl
either false t u h = (classes.both t u (h refl)).0

-- the byte behind the digits of a float
float_stops : (rest : List ℕ) (m : ℕ) → m ≤ length rest → is_float (take m rest) ≡ true → (prefix_len is_digit rest < m) × (is_stop (get_or rest (prefix_len is_digit rest) 0) ≡ true)
float_stops rest m l e =
    elim (cases_lt (prefix_len is_digit rest) m) [
      | inl behind ↦ (behind, stop m l e behind)
      | inr within ↦ absurd (true≢false (sym e ∙ short within))
    ]
  where
    short : m ≤ prefix_len is_digit rest → is_float (take m rest) ≡ false
    short within =
        let run : prefix_len is_digit (take m rest) ≡ m = prefix_len-take_all is_digit rest m within in
        let none : drop m (take m rest) ≡ [] = drop_all m (take m rest) (omega (arith, length-take-le m rest l)) in
        rw run (rw none refl)

    mark : (digits c : ℕ) (cs : List ℕ) → is_behind_whole digits (c ∷ cs) ≡ true → is_stop c ≡ true
    mark digits c cs h = by (c == 46) h
      where
        by : (t : Bool) → (if t then is_fraction cs else (nat_le 1 digits && is_exponent (c ∷ cs))) ≡ true → (t || (c == 101 || c == 69)) ≡ true
        by true g = refl
        by false g = (classes.both (c == 101 || c == 69) _ (classes.both (nat_le 1 digits) _ g).1).0

    stop : (n : ℕ) → n ≤ length rest → is_float (take n rest) ≡ true → prefix_len is_digit rest < n → is_stop (get_or rest (prefix_len is_digit rest) 0) ≡ true
    stop n k h behind =
        let d : ℕ = prefix_len is_digit rest in
        let split : n ≡ d + suc (n - d - 1) = omega arith in
        let cut : drop d rest ≡ get_or rest d 0 ∷ drop (d + 1) rest = drop_more rest d 0 (omega arith) in
        let run = behind_run is_digit is_float is_behind_whole (λ xs. refl) rest (suc (n - d - 1)) (omega arith) in
        let here : is_behind_whole d (take (suc (n - d - 1)) (drop d rest)) ≡ true = sym run ∙ subst (λ j. is_float (take j rest) ≡ true) split h in
        mark d (get_or rest d 0) (take (n - d - 1) (drop (d + 1) rest)) (rw cut at here)

weaker : (p q : ℕ → Bool) → ((b : ℕ) → p b ≡ true → q b ≡ true) → (xs : List ℕ) → list_all q xs ≡ false → list_all p xs ≡ false
weaker p q each [] e = e
weaker p q each (x ∷ xs) e = by (p x) (q x) (each x) e (weaker p q each xs)
  where
    by : (s t : Bool) → (s ≡ true → t ≡ true) → (t && list_all q xs) ≡ false → (list_all q xs ≡ false → list_all p xs ≡ false) → (s && list_all p xs) ≡ false
    by true true h f more = more f
    by true false h f more = absurd (true≢false (sym (h refl)))
    by false t h f more = refl

octal_is_digit : (b : ℕ) → is_octal b ≡ true → is_digit b ≡ true
octal_is_digit b e = grind (arith, nat_tests)

-- behind the digits of a float there is no int that goes on
no_end_of_zero : (bs : List ℕ) (n : ℕ) → ((i : ℕ) → get_or bs i 0 < 256) → prefix_len is_digit bs < n → n ≤ length bs → is_stop (get_or bs (prefix_len is_digit bs) 0) ≡ true → is_behind_zero (take n bs) ≡ false
no_end_of_zero [] n bytes l m e = absurd (omega arith)
no_end_of_zero (c ∷ cs) zero bytes l m e = absurd (omega arith)
no_end_of_zero (c ∷ cs) (suc n) bytes l m e =
    by (is_hexadecimal_mark c) (is_binary_mark c) refl refl
  where
    here : is_digit c ≡ false → is_stop c ≡ true
    here other = rw other at e

    by : (s t : Bool) → is_hexadecimal_mark c ≡ s → is_binary_mark c ≡ t → is_behind_zero (c ∷ take n cs) ≡ false
    by true t h g =
        let stop : is_stop c ≡ true = here (classes.apart is_hexadecimal_mark is_digit refl c (bytes 0) h) in
        absurd (true≢false (sym stop ∙ classes.apart is_hexadecimal_mark is_stop refl c (bytes 0) h))
    by false true h g =
        let stop : is_stop c ≡ true = here (classes.apart is_binary_mark is_digit refl c (bytes 0) g) in
        absurd (true≢false (sym stop ∙ classes.apart is_binary_mark is_stop refl c (bytes 0) g))
    by false false h g = rw h (rw g (weaker is_octal is_digit octal_is_digit (c ∷ take n cs) (past_run is_digit (c ∷ cs) (suc n) l m)))

no_int : (b : ℕ) (bs : List ℕ) (n : ℕ) → ((i : ℕ) → get_or (b ∷ bs) i 0 < 256) → is_digit b ≡ true → prefix_len is_digit (b ∷ bs) < n → n ≤ length (b ∷ bs)
    → is_stop (get_or (b ∷ bs) (prefix_len is_digit (b ∷ bs)) 0) ≡ true → is_int (take n (b ∷ bs)) ≡ false
no_int b bs zero bytes digit l m e = absurd (omega arith)
no_int b bs (suc n) bytes digit l m e = by (b == 48) refl
  where
    longer : prefix_len is_digit (b ∷ bs) ≡ suc (prefix_len is_digit bs)
    longer = rw digit (rw (add_comm 1 (prefix_len is_digit bs)) (rw add-one refl))

    by : (t : Bool) → (b == 48) ≡ t → is_int (b ∷ take n bs) ≡ false
    by true h = rw h (no_end_of_zero bs n (λ i. bytes (suc i)) (omega (arith, longer)) (omega arith) (subst (λ k. is_stop (get_or (b ∷ bs) k 0) ≡ true) longer e))
    by false h = rw h (past_run is_digit (b ∷ bs) (suc n) l m)

-- a float that begins with a point has a digit behind it
point_first : (b : ℕ) (bs : List ℕ) (k : ℕ) → is_digit b ≡ false → is_float (b ∷ take k bs) ≡ true → ((b == 46) ≡ true) × (is_fraction (take k bs) ≡ true)
point_first b bs k other e = by (b == 46) refl (rw other at e)
  where
    by : (t : Bool) → (b == 46) ≡ t → (if t then is_fraction (take k bs) else (nat_le 1 0 && is_exponent (b ∷ take k bs))) ≡ true → ((b == 46) ≡ true) × (is_fraction (take k bs) ≡ true)
    by true h g = (h, g)
    by false h g = absurd (true≢false (sym g))

digit_first : (bs : List ℕ) (k : ℕ) → is_fraction (take k bs) ≡ true → (is_digit (get_or bs 0 0) ≡ true) × (0 < k)
digit_first bs zero e = absurd (true≢false (sym e))
digit_first [] (suc k) e = absurd (true≢false (sym e))
digit_first (c ∷ cs) (suc k) e = (by (is_digit c) refl e, omega arith)
  where
    by : (t : Bool) → is_digit c ≡ t → is_fraction (c ∷ take k cs) ≡ true → is_digit c ≡ true
    by true h g = h
    by false h g = absurd (true≢false (sym (rw h at g)))

no_mark_behind : (b : ℕ) (bs : List ℕ) (n : ℕ) → ((i : ℕ) → get_or (b ∷ bs) i 0 < 256) → (b == 46) ≡ true → is_digit (get_or bs 0 0) ≡ true → 2 ≤ n → n ≤ length (b ∷ bs) → sort_of_mark (take n (b ∷ bs)) ≡ None
no_mark_behind b bs zero bytes point digit l m = absurd (omega arith)
no_mark_behind b bs (suc zero) bytes point digit l m = absurd (omega arith)
no_mark_behind b [] (suc (suc n)) bytes point digit l m = absurd (omega arith)
no_mark_behind b (c ∷ cs) (suc (suc n)) bytes point digit l m =
    let dot : b ≡ 46 = eqb-true b 46 point in
    classes.no_long_mark b c (take n cs) (subst (λ x. classes.begins_long_mark x c ≡ false) (sym dot) (classes.point_digit_no_mark c (bytes 1) digit))

pub found_float : (rest : List ℕ) (found : Found) → ((i : ℕ) → get_or rest i 0 < 256) → NonePasses is_word rest → NonePasses is_variable rest → NonePasses is_string rest → IsLongestPass is_float rest found.len → found.sort ≡ 4 → IsFound rest found
found_float [] found bytes words variables strings h sort = absurd (omega (arith, h.inside, longest_pos is_float [] found.len refl h))
found_float (b ∷ bs) found bytes words variables strings h sort = by (is_digit b) refl
  where
    pos : 0 < found.len
    pos = longest_pos is_float (b ∷ bs) found.len refl h

    sorts : ((n : ℕ) → found.len ≤ n → n ≤ length (b ∷ bs) → (is_int (take n (b ∷ bs)) ≡ false) × (sort_of_mark (take n (b ∷ bs)) ≡ None))
        → (n : ℕ) → found.len ≤ n → n ≤ length (b ∷ bs) → sort_of (take n (b ∷ bs)) ≡ (if is_float (take n (b ∷ bs)) then Some 4 else None)
    sorts each n k m = classes.only_float (take n (b ∷ bs)) (words.none n m) (variables.none n m) (each n k m).0 (strings.none n m) (each n k m).1

    marks_of_digit : is_digit b ≡ true → (n : ℕ) → found.len ≤ n → n ≤ length (b ∷ bs) → sort_of_mark (take n (b ∷ bs)) ≡ None
    marks_of_digit digit zero k m = absurd (omega (arith, pos))
    marks_of_digit digit (suc n) k m = classes.no_mark b (take n bs) (classes.digit_no_mark b (bytes 0) digit)

    ints_of_other : is_digit b ≡ false → (n : ℕ) → is_int (take n (b ∷ bs)) ≡ false
    ints_of_other other zero = refl
    ints_of_other other (suc n) = classes.int_false b (take n bs) (classes.not_zero b other) other

    point : is_digit b ≡ false → (len : ℕ) → 0 < len → is_float (take len (b ∷ bs)) ≡ true → ((b == 46) ≡ true) × (is_digit (get_or bs 0 0) ≡ true) × (2 ≤ len)
    point other zero l e = absurd (omega arith)
    point other (suc k) l e =
        let first = point_first b bs k other e in
        let digit = digit_first bs k first.1 in
        (first.0, digit.0, omega (arith, digit.1))

    by : (t : Bool) → is_digit b ≡ t → IsFound (b ∷ bs) found
    by true digit =
        let stop = float_stops (b ∷ bs) found.len h.inside h.passes in
        found_from is_float (λ x. 4) (b ∷ bs) found refl (classes.apart is_digit (λ x. x == 63) refl b (bytes 0) digit)
        (sorts (λ n k m. (no_int b bs n bytes digit (omega (arith, stop.0)) m stop.1, marks_of_digit digit n k m))) h sort
    by false other =
        let dot = point other found.len pos h.passes in
        found_from is_float (λ x. 4) (b ∷ bs) found refl (classes.apart (λ x. x == 46) (λ x. x == 63) refl b (bytes 0) dot.0)
        (sorts (λ n k m. (ints_of_other other n, no_mark_behind b bs n bytes dot.0 dot.1 (omega (arith, dot.2)) m))) h sort

-- ---- nothing and marks

pub nothing_here : (rest : List ℕ) → sort_at rest 0 ≡ None
nothing_here rest = classes.empty_no_mark

pub none_in_nothing : (rest : List ℕ) → length rest ≡ 0 → NoneFound rest
none_in_nothing rest e = record { none = by }
  where
    by : (n : ℕ) → n ≤ length rest → sort_at rest n ≡ None
    by zero m = nothing_here rest
    by (suc n) m = absurd (omega arith)

none_either : (c : Bool) (o : Option ℕ) → o ≡ None → (if c then None else o) ≡ None
none_either true o e = refl
none_either false o e = e

past_marks : (rest : List ℕ) (n : ℕ) → IsMarkAlone rest → 3 < n → n ≤ length rest → sort_at rest n ≡ None
past_marks rest n alone l m =
    none_either (is_cut_cast rest n) (sort_of (take n rest)) (alone.alone n m ∙ classes.long_no_mark (take n rest) (omega (arith, length-take-le n rest m)))

pub found_mark : (rest : List ℕ) (len : ℕ) (found : Found) → IsMarkAlone rest → 0 < len → IsMarkOf rest len (Some found) → ((n : ℕ) → len < n → n ≤ 3 → n ≤ length rest → sort_at rest n ≡ None) → IsFound rest found
found_mark rest len found alone pos h longer = record {
  inside = omega (arith, h.0, h.1);
  not_empty = omega (arith, h.1);
  sort = subst (λ n. sort_at rest n ≡ Some found.sort) (sym h.1) h.2;
  longest = λ n l m. elim (cases_lt 3 n) [
    | inl past ↦ past_marks rest n alone past m
    | inr short ↦ longer n (omega (arith, h.1)) short m
  ];
}

-- the numbers from 1 to 3
up_to_three : (P : ℕ → Type 0) (n : ℕ) → 0 < n → n ≤ 3 → P 1 → P 2 → P 3 → P n
up_to_three P zero l m one two three = absurd (omega arith)
up_to_three P (suc zero) l m one two three = one
up_to_three P (suc (suc zero)) l m one two three = two
up_to_three P (suc (suc (suc zero))) l m one two three = three
up_to_three P (suc (suc (suc (suc n)))) l m one two three = absurd (omega arith)

pub found_mark_3 : (rest : List ℕ) (found : Found) → IsMarkAlone rest → IsMarkOf rest 3 (Some found) → IsFound rest found
found_mark_3 rest found alone h = found_mark rest 3 found alone (omega arith) h (λ n l s m. absurd (omega arith))

pub found_mark_2 : (rest : List ℕ) (found : Found) → IsMarkAlone rest → IsMarkOf rest 3 None → IsMarkOf rest 2 (Some found) → IsFound rest found
found_mark_2 rest found alone three h = found_mark rest 2 found alone (omega arith) h (λ n l s m. up_to_three (λ k. 2 < k → k ≤ length rest → sort_at rest k ≡ None) n (omega arith) s
    (λ k. absurd (omega arith)) (λ k. absurd (omega arith)) (λ k i. three i) l m)

pub found_mark_1 : (rest : List ℕ) (found : Option Found) → IsMarkAlone rest → IsMarkOf rest 3 None → IsMarkOf rest 2 None → IsMarkOf rest 1 found → FindsToken rest found
found_mark_1 rest None alone three two one = record { none = by }
  where
    by : (n : ℕ) → n ≤ length rest → sort_at rest n ≡ None
    by n m = elim (cases_lt 3 n) [
      | inl past ↦ past_marks rest n alone past m
      | inr short ↦ elim (cases_lt 0 n) [
        | inl pos ↦ up_to_three (λ k. k ≤ length rest → sort_at rest k ≡ None) n pos short one two three m
        | inr none ↦ let zero_is : n ≡ 0 = omega arith in subst (λ k. sort_at rest k ≡ None) (sym zero_is) (nothing_here rest)
      ]
    ]
found_mark_1 rest (Some found) alone three two h = found_mark rest 1 found alone (omega arith) h (λ n l s m. up_to_three (λ k. 1 < k → k ≤ length rest → sort_at rest k ≡ None) n (omega arith) s
    (λ k. absurd (omega arith)) (λ k i. two i) (λ k i. three i) l m)
