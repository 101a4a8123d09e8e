-- A list cut at the first of a byte.
use Rattle.std.proofs.Common.{◌≡◌, ◌≢◌, ℕ, suc, ◌+◌, ◌==◌, Bool, true, false, cond, List, [], ◌∷◌, ◌++◌, Option, Some, None, length, take, drop, position, nat_lt, refl, sym, ap, ◌∙◌, arith}
use Rattle.std.specs.Prelude.{not}
use Rattle.std.specs.Option.{option_map}
use Rattle.std.specs.List.{position_or_len, AllByRecursion}
use Rattle.std.proofs.lemmas.Bool.Decides.{nat_tests}
use Rattle.std.proofs.Math.Numerals.{one-add, add-one}
use Rattle.script_text.specs.Heads.{split_first, ◌>>=◌}

-- the two parts round an index
abbrev pub parts_at : List ℕ → ℕ → List ℕ × List ℕ
parts_at xs k = (take k xs, drop (k + 1) xs)

nat_lt-zero : (n : ℕ) → nat_lt 0 (suc n) ≡ true
nat_lt-zero n = grind (arith, nat_tests)

nat_lt-suc : (m n : ℕ) → nat_lt (1 + m) (suc n) ≡ nat_lt m n
nat_lt-suc m n = grind (arith, nat_tests)

parts_at-suc : (x : ℕ) (xs : List ℕ) (k : ℕ) → parts_at (x ∷ xs) (1 + k) ≡ (x ∷ take k xs, drop (k + 1) xs)
parts_at-suc x xs k = ap (λ m. (take m (x ∷ xs), drop (m + 1) (x ∷ xs))) (one-add k) ∙ ap (λ m. (x ∷ take k xs, drop m (x ∷ xs))) (add-one (suc k)) ∙ ap (λ m. (x ∷ take k xs, drop m xs)) (sym (add-one k))

-- the first element, and then the search in the rest
one_more : (x : ℕ) (xs : List ℕ) (b : Bool) (n : ℕ) →
    cond b (Some ([], xs)) (option_map (parts_at xs) (cond (nat_lt n (length xs)) (Some n) None) >>= λ parts. Some (x ∷ parts.0, parts.1))
    ≡ option_map (parts_at (x ∷ xs)) (cond (nat_lt (cond (not b) (1 + n) 0) (suc (length xs))) (Some (cond (not b) (1 + n) 0)) None)
one_more x xs true n = sym (ap (λ t. option_map (parts_at (x ∷ xs)) (cond t (Some 0) None)) (nat_lt-zero (length xs)))
one_more x xs false n =
    inside (nat_lt n (length xs)) ∙ sym (ap (λ t. option_map (parts_at (x ∷ xs)) (cond t (Some (1 + n)) None)) (nat_lt-suc n (length xs)))
  where
    inside : (t : Bool) → (option_map (parts_at xs) (cond t (Some n) None) >>= λ parts. Some (x ∷ parts.0, parts.1)) ≡ option_map (parts_at (x ∷ xs)) (cond t (Some (1 + n)) None)
    inside true = ap Some (sym (parts_at-suc x xs n))
    inside false = refl

-- what a search for the byte gives, as the parts round the index
pub split_first-position : (byte : ℕ) (xs : List ℕ) → split_first byte xs ≡ option_map (parts_at xs) (position (λ b. b == byte) xs)
split_first-position byte [] = refl
split_first-position byte (x ∷ xs) =
    ap (λ o. cond (x == byte) (Some ([], xs)) (o >>= λ parts. Some (x ∷ parts.0, parts.1))) (split_first-position byte xs)
    ∙ one_more x xs (x == byte) (position_or_len (λ b. b == byte) xs)

-- ---- the parts, and the list

same_is : (b : ℕ) → (b == b) ≡ true
same_is b = grind (arith, nat_tests)

other_is : (x b : ℕ) → x ≢ b → (x == b) ≡ false
other_is x b apart = grind (arith, nat_tests)

-- the front and the byte and the rest are cut there, where the front has no such byte
pub split_first-found : (byte : ℕ) (front rest : List ℕ) → AllByRecursion (λ b. b ≢ byte) front → split_first byte (front ++ byte ∷ rest) ≡ Some (front, rest)
split_first-found byte [] rest none = ap (λ t. cond t (Some ([], rest)) (split_first byte rest >>= λ parts. Some (byte ∷ parts.0, parts.1))) (same_is byte)
split_first-found byte (x ∷ front) rest none =
    ap (λ t. cond t (Some ([], front ++ byte ∷ rest)) (split_first byte (front ++ byte ∷ rest) >>= λ parts. Some (x ∷ parts.0, parts.1))) (other_is x byte none.0)
    ∙ ap (λ o. o >>= λ parts. Some (x ∷ parts.0, parts.1)) (split_first-found byte front rest none.1)

split_some : (x byte : ℕ) (xs : List ℕ) (b : Bool) (o : Option (List ℕ × List ℕ)) (parts : List ℕ × List ℕ) → (x == byte) ≡ b → split_first byte xs ≡ o
    → ((inner : List ℕ × List ℕ) → o ≡ Some inner → xs ≡ inner.0 ++ byte ∷ inner.1)
    → cond b (Some ([], xs)) (o >>= λ parts. Some (x ∷ parts.0, parts.1)) ≡ Some parts → x ∷ xs ≡ parts.0 ++ byte ∷ parts.1
split_some x byte xs true o parts test is inner e =
    let same : x ≡ byte = grind (arith, nat_tests) in
    let p : ([], xs) ≡ parts = cc in
    ap (λ y. y ∷ xs) same ∙ ap (λ (q : List ℕ × List ℕ). q.0 ++ byte ∷ q.1) p
split_some x byte xs false None parts test is inner e = absurd cc
split_some x byte xs false (Some found) parts test is inner e =
    let p : (x ∷ found.0, found.1) ≡ parts = cc in
    ap (λ ys. x ∷ ys) (inner found refl) ∙ ap (λ (q : List ℕ × List ℕ). q.0 ++ byte ∷ q.1) p

-- the parts round the byte make the list
pub split_first-parts : (byte : ℕ) (xs : List ℕ) (parts : List ℕ × List ℕ) → split_first byte xs ≡ Some parts → xs ≡ parts.0 ++ byte ∷ parts.1
split_first-parts byte [] parts e = absurd cc
split_first-parts byte (x ∷ xs) parts e = split_some x byte xs (x == byte) (split_first byte xs) parts refl refl (λ inner is. split_first-parts byte xs inner is) e
