-- What a caller cites of a table that it writes out: tests that compute, and what they show.
use Rattle.std.proofs.Common.{◌≡◌, ◌<◌, ◌≤◌, ◌+◌, ◌&&◌, ◌==◌, ℕ, zero, suc, List, [], ◌∷◌, length, get_or, refl, sym, ap, subst, ◌∙◌, arith, Bool, true, false, Option, Some, None, cond, is_some, true≢false, add-one}
use Rattle.std.specs.Prelude.{IfNone, IfSome, IsSome, if◌then◌else◌, nat_le}
use Rattle.std.specs.List.{list_all, position_from, AllAdjacentBelow}
use Rattle.std.specs.Str.{bytes_eq}
use Rattle.std.specs.Ordering.{nat_cmp, is_lt}
use Rattle.std.specs.Cmp.Lexicographic.{slice_cmp}
use Rattle.std.specs.declared.cmp.Ordering.{Ordering}
use Rattle.std.specs.declared.cmp.Ordering.TheVariants.{Less, Equal, Greater}
use Rattle.std.proofs.lemmas.Bool.{eqb-true, leb-true}
use Rattle.std.proofs.lemmas.Slice.Eq.{bytes_eq-Decides}
use Rattle.case_table.specs.Cases.{words, AreKeys, IsBelow, value_of}
use Rattle.case_table.specs.Entries.{entries}
use Rattle.case_table.specs.declared.cases.Cases.{Cases}
use Rattle.case_table.proofs.Words.{rising_pairs}

-- ---- a text that is a list of rising words

abbrev pub rises : List (List ℕ) → Bool
rises [] = true
rises (w ∷ []) = true
rises (w ∷ v ∷ ws) = is_lt (slice_cmp nat_cmp w v) && rises (v ∷ ws)

abbrev pub are_keys : List ℕ → ℕ → Bool
are_keys keys number = (length (words keys) == number) && (list_all (λ w. nat_le 1 (length w)) (words keys) && rises (words keys))

both : (a b : Bool) → (a && b) ≡ true → (a ≡ true) × (b ≡ true)
both true b e = (refl, e)
both false b e = absurd (true≢false (sym e))

less : (o : Ordering) → is_lt o ≡ true → o ≡ Less
less Less e = refl
less Equal e = absurd (true≢false (sym e))
less Greater e = absurd (true≢false (sym e))

adjacent : (ws : List (List ℕ)) → rises ws ≡ true → AllAdjacentBelow IsBelow ws (length ws)
adjacent [] e k d l = absurd (omega arith)
adjacent (w ∷ []) e k d l = absurd (omega arith)
adjacent (w ∷ v ∷ ws) e zero d l = less (slice_cmp nat_cmp w v) (both (is_lt (slice_cmp nat_cmp w v)) (rises (v ∷ ws)) e).0
adjacent (w ∷ v ∷ ws) e (suc k) d l =
    let later : IsBelow (get_or (v ∷ ws) k d) (get_or (v ∷ ws) (k + 1) d) = adjacent (v ∷ ws) (both (is_lt (slice_cmp nat_cmp w v)) (rises (v ∷ ws)) e).1 k d (omega arith) in
    let one : k + 1 ≡ suc k = add-one k in
    let next : suc k + 1 ≡ suc (suc k) = add-one (suc k) in
    subst (λ n. IsBelow (get_or (v ∷ ws) k d) (get_or (w ∷ v ∷ ws) n d)) (sym next) (subst (λ n. IsBelow (get_or (v ∷ ws) k d) (get_or (v ∷ ws) n d)) one later)

each : {X : Type 0} (p : X → Bool) (xs : List X) → list_all p xs ≡ true → (k : ℕ) (d : X) → k < length xs → p (get_or xs k d) ≡ true
each p [] e k d l = absurd (omega arith)
each p (x ∷ xs) e zero d l = (both (p x) (list_all p xs) e).0
each p (x ∷ xs) e (suc k) d l = each p xs (both (p x) (list_all p xs) e).1 k d (omega arith)

pub AreKeys-tested : (keys : List ℕ) (number : ℕ) → are_keys keys number ≡ true → AreKeys keys number
AreKeys-tested keys number e =
    let first = both (length (words keys) == number) _ e in
    let second = both (list_all (λ w. nat_le 1 (length w)) (words keys)) (rises (words keys)) first.1 in
    record {
      count = eqb-true (length (words keys)) number first.0;
      not_empty = λ k d l same.
          let long : 1 ≤ length (get_or (words keys) k d) = leb-true 1 (length (get_or (words keys) k d)) (each (λ w. nat_le 1 (length w)) (words keys) second.0 k d l) in
          let none : length (get_or (words keys) k d) ≡ 0 = ap length same in omega arith;
      rising = rising_pairs (words keys) (adjacent (words keys) second.1);
    }

-- ---- a table that says where each word of a list stands

abbrev pub is_just : Option ℕ → ℕ → Bool
is_just None n = false
is_just (Some m) n = m == n

abbrev pub places_words : List (List ℕ × ℕ) → ℕ → List (List ℕ) → Bool
places_words table start list =
    list_all (λ e. is_just (position_from (bytes_eq e.0) start list) e.1) table && list_all (λ w. is_some (value_of table w)) list

just : (o : Option ℕ) (n : ℕ) → is_just o n ≡ true → o ≡ Some n
just None n e = absurd (true≢false (sym e))
just (Some m) n e = ap Some (eqb-true m n e)

passes_at : (p : List ℕ × ℕ → Bool) (table : List (List ℕ × ℕ)) (text : List ℕ) (v : ℕ) → value_of table text ≡ Some v → list_all p table ≡ true → p (text, v) ≡ true
passes_at p [] text v e h = cc
passes_at p (entry ∷ rest) text v e h = by (bytes_eq entry.0 text) refl e (λ found. passes_at p rest text v found (both (p entry) (list_all p rest) h).1)
  where
    by : (t : Bool) → bytes_eq entry.0 text ≡ t → (if t then Some entry.1 else value_of rest text) ≡ Some v → (value_of rest text ≡ Some v → p (text, v) ≡ true) → p (text, v) ≡ true
    by true same found later =
        let key : entry.0 ≡ text = (bytes_eq-Decides entry.0 text).0 same in
        let value : entry.1 ≡ v = cc in
        let pair : entry ≡ (text, v) = (λ i. (key i, value i)) in
        subst (λ x. p x ≡ true) pair (both (p entry) (list_all p rest) h).0
    by false other found later = later found

nowhere : (table : List (List ℕ × ℕ)) (list : List (List ℕ)) (start : ℕ) (text : List ℕ) → value_of table text ≡ None → list_all (λ w. is_some (value_of table w)) list ≡ true → position_from (bytes_eq text) start list ≡ None
nowhere table [] start text e h = refl
nowhere table (w ∷ ws) start text e h = by (bytes_eq text w) refl (nowhere table ws (start + 1) text e (both (is_some (value_of table w)) (list_all (λ x. is_some (value_of table x)) ws) h).1)
  where
    by : (t : Bool) → bytes_eq text w ≡ t → position_from (bytes_eq text) (start + 1) ws ≡ None → cond t (Some start) (position_from (bytes_eq text) (start + 1) ws) ≡ None
    by true same later =
        let key : text ≡ w = (bytes_eq-Decides text w).0 same in
        let there : is_some (value_of table w) ≡ true = (both (is_some (value_of table w)) _ h).0 in
        let absent : is_some (value_of table w) ≡ false = ap (λ x. is_some (value_of table x)) (sym key) ∙ ap is_some e in
        absurd (true≢false (sym there ∙ absent))
    by false other later = later

pub value_of-places : (table : List (List ℕ × ℕ)) (start : ℕ) (list : List (List ℕ)) → places_words table start list ≡ true → (text : List ℕ) → value_of table text ≡ position_from (bytes_eq text) start list
value_of-places table start list e text = by (value_of table text) refl
  where
    by : (o : Option ℕ) → value_of table text ≡ o → value_of table text ≡ position_from (bytes_eq text) start list
    by None none = none ∙ sym (nowhere table list start text none (both _ (list_all (λ w. is_some (value_of table w)) list) e).1)
    by (Some v) found =
        let passes = passes_at (λ x. is_just (position_from (bytes_eq x.0) start list) x.1) table text v found (both _ (list_all (λ w. is_some (value_of table w)) list) e).0 in
        found ∙ sym (just (position_from (bytes_eq text) start list) v passes)

-- a table whose keys are a list of rising words is made
pub is_made : {X : Type 0} (made : Option X) (keys : List ℕ) (number : ℕ) → IfNone made (AreKeys keys number → ⊥) → are_keys keys number ≡ true → IsSome made
is_made None keys number none e = absurd (none (AreKeys-tested keys number e))
is_made (Some table) keys number none e = refl

-- what such a table answers is where each word of the list stands
pub value_of-made : {N : ℕ} (made : Option (Cases N)) (table : Cases N) (all : List (List ℕ × ℕ)) (start : ℕ) (list : List (List ℕ)) → IfSome made (λ t. entries t ≡ all) → made ≡ Some table
    → places_words all start list ≡ true → (text : List ℕ) → value_of (entries table) text ≡ position_from (bytes_eq text) start list
value_of-made made table all start list some e places text =
    let same : entries table ≡ all = subst (λ o. IfSome o (λ t. entries t ≡ all)) e some in
    ap (λ t. value_of t text) same ∙ value_of-places all start list places text
