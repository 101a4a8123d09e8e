-- The longest words, variables and strings at the front of bytes, from those of their parts.
use Rattle.std.proofs.Common.{◌≡◌, ◌<◌, ◌≤◌, ◌+◌, ◌&&◌, ◌||◌, ◌==◌, not, ℕ, zero, suc, List, [], ◌∷◌, length, take, drop, get_or, refl, sym, ap, subst, ◌∙◌, arith, Bool, true, false, Option, Some, None}
use Rattle.std.specs.Prelude.{if◌then◌else◌, MatchOption}
use Rattle.std.specs.List.{prefix_len, list_all}
use Rattle.std.specs.Option.{option_map}
use Rattle.std.proofs.lemmas.List.{length-take-le, drop_more, drop_all}
use Rattle.hack_lexer.specs.Bytes.{is_word_start, is_word_byte}
use Rattle.hack_lexer.specs.Forms.{is_word, is_variable, is_string, through_quote, is_that}
use Rattle.hack_lexer.specs.Scan.{IsLongestPass, NonePasses, HasLongest}
use Rattle.hack_lexer.proofs.Passes.{longest_run, longest_cons, none_cons}
use Rattle.hack_lexer.proofs.Numbers.{nothing, refuses_all, is_that_byte, not_that}

pub word_nothing : (rest : List ℕ) → length rest ≡ 0 → NonePasses is_word rest
word_nothing [] e = nothing is_word refl
word_nothing (b ∷ bs) e = absurd (omega arith)

pub word_other : (rest : List ℕ) → 0 < length rest → is_word_start (get_or rest 0 0) ≡ false → NonePasses is_word rest
word_other [] l e = absurd (omega arith)
word_other (b ∷ bs) l e = refuses_all is_word b bs refl (λ xs. rw e refl)

pub word_started : (rest : List ℕ) → 0 < length rest → is_word_start (get_or rest 0 0) ≡ true → IsLongestPass is_word rest (prefix_len is_word_byte (drop 1 rest) + 1)
word_started [] l e = absurd (omega arith)
word_started (b ∷ bs) l e = longest_cons is_word (list_all is_word_byte) b bs (prefix_len is_word_byte bs) (λ xs. rw e refl) (longest_run is_word_byte bs)

pub variable_nothing : (rest : List ℕ) → length rest ≡ 0 → NonePasses is_variable rest
variable_nothing [] e = nothing is_variable refl
variable_nothing (b ∷ bs) e = absurd (omega arith)

pub variable_other : (rest : List ℕ) → 0 < length rest → (get_or rest 0 0 ≡ 36 → ⊥) → NonePasses is_variable rest
variable_other [] l e = absurd (omega arith)
variable_other (b ∷ bs) l e = let other : (b == 36) ≡ false = not_that b 36 e in refuses_all is_variable b bs refl (λ xs. rw other refl)

pub variable_started : (rest : List ℕ) → 0 < length rest → get_or rest 0 0 ≡ 36 → (found : Option ℕ) → HasLongest is_word (drop 1 rest) found
    → MatchOption found (NonePasses is_variable rest) (λ len. IsLongestPass is_variable rest (len + 1))
variable_started [] l e found h = absurd (omega arith)
variable_started (b ∷ bs) l e None h = let that : (b == 36) ≡ true = is_that_byte b 36 e in none_cons is_variable is_word b bs refl (λ xs. rw that refl) h
variable_started (b ∷ bs) l e (Some len) h = let that : (b == 36) ≡ true = is_that_byte b 36 e in longest_cons is_variable is_word b bs len (λ xs. rw that refl) h

-- ---- strings

-- a prefix has the next quote at the same place, or none
one_more : (c : Bool) (r short : Option ℕ) (n long : ℕ) → MatchOption r (short ≡ None) (λ m. (m ≤ long) × (m ≤ n → short ≡ Some m))
    → MatchOption (if c then Some 1 else option_map (λ k. k + 1) r) ((if c then Some 1 else option_map (λ k. k + 1) short) ≡ None)
    (λ m. (m ≤ suc long) × (m ≤ suc n → (if c then Some 1 else option_map (λ k. k + 1) short) ≡ Some m))
one_more true r short n long h = (omega arith, λ l. refl)
one_more false None short n long h = rw h refl
one_more false (Some m) short n long h = (omega (arith, h.0), λ l. rw (h.1 (omega arith)) refl)

none_yet : (c : Bool) (r short : Option ℕ) (long : ℕ) → MatchOption r (short ≡ None) (λ m. (m ≤ long) × (m ≤ 0 → short ≡ Some m))
    → MatchOption (if c then Some 1 else option_map (λ k. k + 1) r) (◌≡◌ {A = Option ℕ} None None) (λ m. (m ≤ suc long) × (m ≤ 0 → ◌≡◌ {A = Option ℕ} None (Some m)))
none_yet true r short long h = (omega arith, λ l. absurd (omega arith))
none_yet false None short long h = refl
none_yet false (Some m) short long h = (omega (arith, h.0), λ l. absurd (omega arith))

quote_in_prefix : (q : ℕ) (taken : Bool) (bs : List ℕ) (n : ℕ) → n ≤ length bs
    → MatchOption (through_quote q taken bs) (through_quote q taken (take n bs) ≡ None) (λ m. (m ≤ length bs) × (m ≤ n → through_quote q taken (take n bs) ≡ Some m))
quote_in_prefix q taken [] zero l = refl
quote_in_prefix q taken [] (suc n) l = absurd (omega arith)
quote_in_prefix q taken (b ∷ bs) zero l =
    none_yet (not taken && b == q) (through_quote q (not taken && b == 92) bs) (through_quote q (not taken && b == 92) (take 0 bs)) (length bs)
    (quote_in_prefix q (not taken && b == 92) bs 0 (omega arith))
quote_in_prefix q taken (b ∷ bs) (suc n) l =
    one_more (not taken && b == q) (through_quote q (not taken && b == 92) bs) (through_quote q (not taken && b == 92) (take n bs)) n (length bs)
    (quote_in_prefix q (not taken && b == 92) bs n (omega arith))

closed : (q : ℕ) (bs : List ℕ) (m : ℕ) → through_quote q false bs ≡ Some m → IsLongestPass (λ xs. is_that (through_quote q false xs) (length xs)) bs m
closed q bs m e =
    let at : (n : ℕ) → n ≤ length bs → (m ≤ length bs) × (m ≤ n → through_quote q false (take n bs) ≡ Some m) =
    (λ n l. subst (λ r. MatchOption r (through_quote q false (take n bs) ≡ None) (λ k. (k ≤ length bs) × (k ≤ n → through_quote q false (take n bs) ≡ Some k))) e (quote_in_prefix q false bs n l)) in
    let fits : m ≤ length bs = (at 0 (omega arith)).0 in
    record {
      inside = fits;
      passes = rw ((at m fits).1 (omega arith)) (is_that_byte m (length (take m bs)) (sym (length-take-le m bs fits)));
      longest = λ n l k. rw ((at n k).1 (omega arith)) (not_that m (length (take n bs)) (λ same. let long : length (take n bs) ≡ n = length-take-le n bs k in omega arith));
    }

never_closed : (q : ℕ) (bs : List ℕ) → through_quote q false bs ≡ None → NonePasses (λ xs. is_that (through_quote q false xs) (length xs)) bs
never_closed q bs e = record {
  none = λ n l.
      let none : through_quote q false (take n bs) ≡ None =
      subst (λ r. MatchOption r (through_quote q false (take n bs) ≡ None) (λ k. (k ≤ length bs) × (k ≤ n → through_quote q false (take n bs) ≡ Some k))) e (quote_in_prefix q false bs n l) in
      rw none refl;
}

pub string_other : (rest : List ℕ) → 0 < length rest → (get_or rest 0 0 == 39 || get_or rest 0 0 == 34) ≡ false → NonePasses is_string rest
string_other [] l e = absurd (omega arith)
string_other (b ∷ bs) l e = refuses_all is_string b bs refl (λ xs. rw e refl)

pub string_started : (rest : List ℕ) → 0 < length rest → (get_or rest 0 0 == 39 || get_or rest 0 0 == 34) ≡ true → (found : Option ℕ) → through_quote (get_or rest 0 0) false (drop 1 rest) ≡ found
    → MatchOption found (NonePasses is_string rest) (λ len. IsLongestPass is_string rest (len + 1))
string_started [] l e found h = absurd (omega arith)
string_started (b ∷ bs) l e None h = none_cons is_string (λ xs. is_that (through_quote b false xs) (length xs)) b bs refl (λ xs. rw e refl) (never_closed b bs h)
string_started (b ∷ bs) l e (Some len) h = longest_cons is_string (λ xs. is_that (through_quote b false xs) (length xs)) b bs len (λ xs. rw e refl) (closed b bs len h)

-- one byte on in the look for a quote
pub quote_on : (q : ℕ) (taken : Bool) (bytes : List ℕ) (i : ℕ) (r : Option ℕ) → i < length bytes → (not taken && get_or bytes i 0 == q) ≡ false
    → r ≡ option_map (λ n. i + n) (through_quote q taken (drop i bytes)) → r ≡ option_map (λ n. i + 1 + n) (through_quote q (not taken && get_or bytes i 0 == 92) (drop (i + 1) bytes))
quote_on q taken bytes i r l shut e =
    let cut : drop i bytes ≡ get_or bytes i 0 ∷ drop (i + 1) bytes = drop_more bytes i 0 l in
    e ∙ rw cut (rw shut (by (through_quote q (not taken && get_or bytes i 0 == 92) (drop (i + 1) bytes))))
  where
    by : (s : Option ℕ) → option_map (λ n. i + n) (option_map (λ n. n + 1) s) ≡ option_map (λ n. i + 1 + n) s
    by None = refl
    by (Some m) = ap Some (omega arith)

pub quote_here : (q : ℕ) (taken : Bool) (bytes : List ℕ) (i : ℕ) (r : Option ℕ) → i < length bytes → (not taken && get_or bytes i 0 == q) ≡ true
    → r ≡ option_map (λ n. i + n) (through_quote q taken (drop i bytes)) → r ≡ Some (i + 1)
quote_here q taken bytes i r l here e =
    let cut : drop i bytes ≡ get_or bytes i 0 ∷ drop (i + 1) bytes = drop_more bytes i 0 l in e ∙ rw cut (rw here refl)

pub quote_nowhere : (q : ℕ) (taken : Bool) (bytes : List ℕ) (i : ℕ) (r : Option ℕ) → length bytes ≤ i → r ≡ option_map (λ n. i + n) (through_quote q taken (drop i bytes)) → r ≡ None
quote_nowhere q taken bytes i r l e = let none : drop i bytes ≡ [] = drop_all i bytes l in e ∙ rw none refl

pub quote_start : (q : ℕ) (bytes : List ℕ) → through_quote q false bytes ≡ option_map (λ n. 0 + n) (through_quote q false (drop 0 bytes))
quote_start q bytes = by (through_quote q false bytes)
  where
    by : (s : Option ℕ) → s ≡ option_map (λ n. 0 + n) s
    by None = refl
    by (Some m) = ap Some (omega arith)
