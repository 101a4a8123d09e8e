-- A place that is told from the start of its declaration is the place in the file again.
use Rattle.std.proofs.Common.{◌≡◌, ℕ, ◌+◌, ◌-◌, ◌^◌, ◌<◌, ◌≤◌, Bool, true, false, cond, eqb, inl, inr, ◌⊎◌, List, [], ◌∷◌, length, take, drop, refl, sym, ap, ◌∙◌, subst, arith}
use Rattle.std.proofs.Math.Nat.{min-eq_left}
use Rattle.std.proofs.lemmas.Bool.{eqb-true, eqb-false, ne_eqb}
use Rattle.std.proofs.lemmas.List.{length-take}
use Rattle.hack_types.specs.declared.place.Place.{Place}
use Rattle.hack_types.specs.Places.{behind, behind_all, place_of}
use Rattle.hack_parse_expr.specs.Input.{relative}
use Rattle.hack_parse_file.specs.Files.{counted, absolute}
use Rattle.hack_lexer.proofs.InOrder.{place_next}

-- the second place is not before the first
abbrev pub NotBefore : Place → Place → Type 0
NotBefore a b = (a.line < b.line) ⊎ ((a.line ≡ b.line) × (a.column ≤ b.column))

-- a place behind so many bytes
record IsBehind (at end : Place) (count : ℕ) : Type 0 where
  order : NotBefore at end
  line : end.line ≤ at.line + count
  column : end.column ≤ at.column + count

-- a place is behind itself
no_further : (at : Place) → IsBehind at at 0
no_further at = record { order = inr (refl, omega arith); line = omega arith; column = omega arith }

-- what is not before a second place is not before a first
behind_trans : (a b c : Place) → NotBefore a b → NotBefore b c → NotBefore a c
behind_trans a b c (inl h) (inl k) = inl (omega arith)
behind_trans a b c (inl h) (inr k) = inl (omega (arith, k.0))
behind_trans a b c (inr h) (inl k) = inl (omega (arith, h.0))
behind_trans a b c (inr h) (inr k) = inr (h.0 ∙ k.0, omega (arith, h.1, k.1))

-- one byte on
one_behind : (at : Place) (is_end : Bool) → 1 ≤ at.column →
    let next : Place = cond is_end (record { line = at.line + 1; column = 1 }) (record { line = at.line; column = at.column + 1 }) in
    IsBehind at next 1 × (1 ≤ next.column)
one_behind at true h = (record { order = inl (omega arith); line = omega arith; column = omega arith }, omega arith)
one_behind at false h = (record { order = inr (refl, omega arith); line = omega arith; column = omega arith }, omega arith)

-- all the bytes on
all_behind : (at : Place) (bytes : List ℕ) → 1 ≤ at.column → IsBehind at (behind_all at bytes) (length bytes)
all_behind at [] h = no_further at
all_behind at (byte ∷ bytes) h =
    let first = one_behind at (eqb byte 10) h in
    let next : Place = behind at byte in
    let rest : IsBehind next (behind_all next bytes) (length bytes) = all_behind next bytes first.1 in
    record {
      order = behind_trans at next (behind_all next bytes) first.0.order rest.order;
      line = omega (arith, first.0.line, rest.line);
      column = omega (arith, first.0.column, rest.column);
    }

-- places rise
pub places_rise : (bytes : List ℕ) (i j : ℕ) → i ≤ j → NotBefore (place_of bytes i) (place_of bytes j)
places_rise bytes i j le =
    let start : Place = record { line = 1; column = 1 } in
    let here = all_behind start (take i bytes) (omega arith) in
    let column : 1 ≤ (place_of bytes i).column = first_column start (take i bytes) (omega arith) in
    let there = all_behind (place_of bytes i) (take (j - i) (drop i bytes)) column in
    subst (NotBefore (place_of bytes i)) (place_next bytes i j (place_of bytes i) (behind_all (place_of bytes i) (take (j - i) (drop i bytes))) le refl refl) there.order
  where
    first_column : (at : Place) (text : List ℕ) → 1 ≤ at.column → 1 ≤ (behind_all at text).column
    first_column at [] h = h
    first_column at (byte ∷ text) h = first_column (behind at byte) text (one_behind at (eqb byte 10) h).1

-- no line or column is beyond the bytes
pub place_bounds : (bytes : List ℕ) (i : ℕ) → ((place_of bytes i).line ≤ 1 + length bytes) × ((place_of bytes i).column ≤ 1 + length bytes)
place_bounds bytes i =
    let start : Place = record { line = 1; column = 1 } in
    let all = all_behind start (take i bytes) (omega arith) in
    let short : length (take i bytes) ≤ length bytes = simp length-take (omega arith) in
    (omega (arith, all.line), omega (arith, all.column))

-- a number that is not too large is counted as it is
counted_is : (n : ℕ) → n < 2 ^ 32 → counted n ≡ n
counted_is n below = min-eq_left (omega arith)

-- the place is kept, by whether the lines are the same
kept_by : (start at : Place) (same : Bool) → eqb at.line start.line ≡ same → NotBefore start at → at.line < 2 ^ 32 → at.column < 2 ^ 32 →
    absolute start (cond same (record { line = 0; column = at.column - start.column }) (record { line = at.line - start.line; column = at.column })) ≡ at
kept_by start at true same (inl before) line column = let e : at.line ≡ start.line = eqb-true _ _ same in absurd (omega arith)
kept_by start at true same (inr after) line column =
    let sum : start.column + (at.column - start.column) ≡ at.column = omega (arith, after.1) in
    let c : counted (start.column + (at.column - start.column)) ≡ at.column = ap counted sum ∙ counted_is at.column column in
    let l : start.line ≡ at.line = after.0 in
    λ i. record { line = l i; column = c i }
kept_by start at false same order line column = further order
  where
    differ : start.line ≡ at.line → ⊥
    differ e = eqb-false _ _ same (sym e)

    further : NotBefore start at → absolute start (record { line = at.line - start.line; column = at.column }) ≡ at
    further (inr after) = absurd (differ after.0)
    further (inl before) =
        let more : eqb (at.line - start.line) 0 ≡ false = ne_eqb _ _ (λ e. omega arith) in
        let sum : start.line + (at.line - start.line) ≡ at.line = omega arith in
        let l : counted (start.line + (at.line - start.line)) ≡ at.line = ap counted sum ∙ counted_is at.line line in
        let whole : absolute start (record { line = at.line - start.line; column = at.column }) ≡ record { line = counted (start.line + (at.line - start.line)); column = at.column } = rw more refl in
        whole ∙ (λ i. record { line = l i; column = at.column })

-- a place that is not before the start is kept
pub kept : (start at : Place) → NotBefore start at → at.line < 2 ^ 32 → at.column < 2 ^ 32 → absolute start (relative start at) ≡ at
kept start at order line column = kept_by start at (eqb at.line start.line) refl order line column

-- the same of two places of a file that isn't too long
pub kept_in : (bytes : List ℕ) (i j : ℕ) → length bytes + 1 < 2 ^ 32 → i ≤ j → absolute (place_of bytes i) (relative (place_of bytes i) (place_of bytes j)) ≡ place_of bytes j
kept_in bytes i j short le =
    let bounds = place_bounds bytes j in
    kept (place_of bytes i) (place_of bytes j) (places_rise bytes i j le) (omega (arith, bounds.0)) (omega (arith, bounds.1))
