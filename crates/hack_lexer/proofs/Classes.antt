-- Which forms can begin with which byte.
use Rattle.std.proofs.Common.{◌≡◌, ◌<◌, ◌+◌, ◌&&◌, ◌||◌, ◌==◌, not, ℕ, zero, suc, List, [], ◌∷◌, length, refl, sym, ap, subst, arith, Bool, true, false, Some, None, true≢false, cond, inl, inr}
use Rattle.std.specs.Prelude.{if◌then◌else◌, nat_le, slice_index}
use Rattle.std.specs.List.{list_any, position_from}
use Rattle.std.specs.Str.{bytes_eq}
use Rattle.std.proofs.lemmas.Bool.{cases_eq, false_from_ne_true, leb-false}
use Rattle.std.proofs.lemmas.Slice.Eq.{bytes_eq-Decides}
use Rattle.hack_lexer.specs.Bytes.{is_digit, is_word_start}
use Rattle.hack_lexer.specs.Forms.{is_word, is_variable, is_int, is_float, is_string, marks, sort_of, sort_of_mark, sort_of_word, sort_of_variable, sort_of_string}
use Rattle.hack_lexer.proofs.Numbers.{not_that}

-- ---- tests of every byte

abbrev pub all_below : ℕ → (ℕ → Bool) → Bool
all_below zero test = true
all_below (suc n) test = test n && all_below n test

pub both : (a b : Bool) → (a && b) ≡ true → (a ≡ true) × (b ≡ true)
both true b e = (refl, e)
both false b e = absurd (true≢false (sym e))

pub below : (n : ℕ) (test : ℕ → Bool) → all_below n test ≡ true → (b : ℕ) → b < n → test b ≡ true
below zero test e b l = absurd (omega arith)
below (suc n) test e b l =
    elim (cases_eq b n) [
      | inl same ↦ subst (λ x. test x ≡ true) (sym same) (both (test n) (all_below n test) e).0
      | inr apart ↦ below n test (both (test n) (all_below n test) e).1 b (omega arith)
    ]

-- ---- marks by their first bytes

-- some mark begins with this byte
abbrev pub begins_mark : ℕ → Bool
begins_mark b = list_any (λ m. b == slice_index m 0) marks

-- some mark begins with these two bytes
abbrev pub begins_long_mark : ℕ → ℕ → Bool
begins_long_mark b c = list_any (λ m. b == slice_index m 0 && c == slice_index m 1) marks

first_differs : (b : ℕ) (bs m : List ℕ) → (b == slice_index m 0) ≡ false → bytes_eq (b ∷ bs) m ≡ false
first_differs b bs [] e = refl
first_differs b bs (c ∷ cs) e = rw e refl

two_differ : (b c : ℕ) (bs m : List ℕ) → (b == slice_index m 0 && c == slice_index m 1) ≡ false → bytes_eq (b ∷ c ∷ bs) m ≡ false
two_differ b c bs [] e = refl
two_differ b c bs (x ∷ []) e = by (b == x)
  where
    by : (t : Bool) → (t && false) ≡ false
    by true = refl
    by false = refl
two_differ b c bs (x ∷ y ∷ ys) e = by (b == x) (c == y) (bytes_eq bs ys) e
  where
    by : (s t u : Bool) → (s && t) ≡ false → (s && (t && u)) ≡ false
    by true true u h = absurd (true≢false h)
    by true false u h = refl
    by false t u h = refl

nowhere : (p : List ℕ → Bool) (q : List ℕ → Bool) (start : ℕ) (ms : List (List ℕ)) → ((m : List ℕ) → q m ≡ false → p m ≡ false) → list_any q ms ≡ false → position_from p start ms ≡ None
nowhere p q start [] each e = refl
nowhere p q start (m ∷ ms) each e = by (q m) refl e (λ h. nowhere p q (start + 1) ms each h)
  where
    by : (t : Bool) → q m ≡ t → (t || list_any q ms) ≡ false → (list_any q ms ≡ false → position_from p (start + 1) ms ≡ None) → cond (p m) (Some start) (position_from p (start + 1) ms) ≡ None
    by true h f more = absurd (true≢false f)
    by false h f more = rw (each m h) (more f)

pub no_mark : (b : ℕ) (bs : List ℕ) → begins_mark b ≡ false → sort_of_mark (b ∷ bs) ≡ None
no_mark b bs e = nowhere (bytes_eq (b ∷ bs)) (λ m. b == slice_index m 0) 7 marks (λ m h. first_differs b bs m h) e

pub no_long_mark : (b c : ℕ) (bs : List ℕ) → begins_long_mark b c ≡ false → sort_of_mark (b ∷ c ∷ bs) ≡ None
no_long_mark b c bs e = nowhere (bytes_eq (b ∷ c ∷ bs)) (λ m. b == slice_index m 0 && c == slice_index m 1) 7 marks (λ m h. two_differ b c bs m h) e

-- a longer text than three bytes is no mark
marks_are_short : list_any (λ m. nat_le 4 (length m)) marks ≡ false
unfolding marks
marks_are_short = refl

pub long_no_mark : (text : List ℕ) → 3 < length text → sort_of_mark text ≡ None
long_no_mark text l = nowhere (bytes_eq text) (λ m. nat_le 4 (length m)) 7 marks
    (λ m h. false_from_ne_true _ (λ t.
    let same : length text ≡ length m = ap length ((bytes_eq-Decides text m).0 t) in
    let short : length m < 4 = leb-false 4 (length m) h in
    omega arith))
    marks_are_short

pub empty_no_mark : sort_of_mark [] ≡ None
unfolding marks
empty_no_mark = refl

-- ---- classes of bytes that have no byte in common

pub apart : (p q : ℕ → Bool) → all_below 256 (λ b. not (p b) || not (q b)) ≡ true → (b : ℕ) → b < 256 → p b ≡ true → q b ≡ false
apart p q tested b l e = by (p b) (q b) e (below 256 (λ x. not (p x) || not (q x)) tested b l)
  where
    by : (s t : Bool) → s ≡ true → (not s || not t) ≡ true → t ≡ false
    by true true h f = absurd (true≢false (sym f))
    by true false h f = refl
    by false t h f = absurd (true≢false (sym h))

pub word_no_mark : (b : ℕ) → b < 256 → is_word_start b ≡ true → begins_mark b ≡ false
unfolding marks
word_no_mark = apart is_word_start begins_mark refl

pub digit_no_mark : (b : ℕ) → b < 256 → is_digit b ≡ true → begins_mark b ≡ false
unfolding marks
digit_no_mark = apart is_digit begins_mark refl

pub point_digit_no_mark : (b : ℕ) → b < 256 → is_digit b ≡ true → begins_long_mark 46 b ≡ false
unfolding marks
point_digit_no_mark = apart is_digit (begins_long_mark 46) refl

abbrev pub is_quote : ℕ → Bool
is_quote b = b == 39 || b == 34

pub quote_no_mark : (b : ℕ) → b < 256 → is_quote b ≡ true → begins_mark b ≡ false
unfolding marks
quote_no_mark = apart is_quote begins_mark refl

pub dollar_no_mark : (b : ℕ) → b < 256 → (b == 36) ≡ true → begins_mark b ≡ false
unfolding marks
dollar_no_mark = apart (λ b. b == 36) begins_mark refl

-- ---- forms that a first byte rules out

pub variable_false : (b : ℕ) (text : List ℕ) → (b == 36) ≡ false → is_variable (b ∷ text) ≡ false
variable_false b text e = rw e refl

pub int_false : (b : ℕ) (text : List ℕ) → (b == 48) ≡ false → is_digit b ≡ false → is_int (b ∷ text) ≡ false
int_false b text e f = rw e (rw f refl)

pub float_false : (b : ℕ) (text : List ℕ) → is_digit b ≡ false → (b == 46) ≡ false → is_float (b ∷ text) ≡ false
float_false b text e f = rw e (rw f refl)

pub string_false : (b : ℕ) (text : List ℕ) → is_quote b ≡ false → is_string (b ∷ text) ≡ false
string_false b text e = rw e refl

-- ---- what is left of the sorts where the other forms don't hold

pub only_word : (x : List ℕ) → is_variable x ≡ false → is_int x ≡ false → is_float x ≡ false → is_string x ≡ false → sort_of_mark x ≡ None
    → sort_of x ≡ (if is_word x then Some (sort_of_word x) else None)
only_word x v i f s m = rw v (rw i (rw f (rw s (rw m refl))))

pub only_variable : (x : List ℕ) → is_word x ≡ false → is_int x ≡ false → is_float x ≡ false → is_string x ≡ false → sort_of_mark x ≡ None
    → sort_of x ≡ (if is_variable x then Some (sort_of_variable x) else None)
only_variable x w i f s m = rw w (rw i (rw f (rw s (rw m refl))))

pub only_string : (x : List ℕ) → is_word x ≡ false → is_variable x ≡ false → is_int x ≡ false → is_float x ≡ false → sort_of_mark x ≡ None
    → sort_of x ≡ (if is_string x then Some (sort_of_string x) else None)
only_string x w v i f m = rw w (rw v (rw i (rw f (rw m refl))))

pub only_float : (x : List ℕ) → is_word x ≡ false → is_variable x ≡ false → is_int x ≡ false → is_string x ≡ false → sort_of_mark x ≡ None
    → sort_of x ≡ (if is_float x then Some 4 else None)
only_float x w v i s m = rw w (rw v (rw i (rw s (rw m refl))))

pub only_int : (x : List ℕ) → is_word x ≡ false → is_variable x ≡ false → is_float x ≡ false → is_string x ≡ false → sort_of_mark x ≡ None
    → sort_of x ≡ (if is_int x then Some 3 else None)
only_int x w v f s m = rw w (rw v (rw f (rw s (rw m refl))))

pub only_mark : (x : List ℕ) → is_word x ≡ false → is_variable x ≡ false → is_int x ≡ false → is_float x ≡ false → is_string x ≡ false
    → sort_of x ≡ sort_of_mark x
only_mark x w v i f s = rw w (rw v (rw i (rw f (rw s refl))))

-- 0 is a digit
pub not_zero : (b : ℕ) → is_digit b ≡ false → (b == 48) ≡ false
not_zero b e = not_that b 48 (λ same. true≢false (subst (λ x. is_digit x ≡ false) same e))
