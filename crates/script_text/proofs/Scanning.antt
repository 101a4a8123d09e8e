-- A search for LF that goes on where an earlier one ended.
use Rattle.std.proofs.Common.{◌≡◌, ℕ, ◌+◌, ◌-◌, ◌<◌, ◌≤◌, ◌==◌, ◌⊎◌, inl, inr, List, length, drop, slice_range, sym, ap, ◌∙◌, subst, arith}
use Rattle.std.specs.Prelude.{slice_index}
use Rattle.std.proofs.lemmas.List.{get_or-take, get_or-drop}
use Rattle.memchr.specs.Find.{Nowhere, NoneBefore, Passes, is_byte}
use Rattle.script_text.proofs.Ranges.{range-length}

split_at : (m n : ℕ) → (n < m) ⊎ (m ≤ n)
split_at m n = grind arith

range-index : (xs : List ℕ) (i j k : ℕ) → i + k < j → slice_index (slice_range xs i j) k ≡ slice_index xs (i + k)
range-index xs i j k h = get_or-take (j - i) (drop i xs) k 0 (omega (arith, h)) ∙ get_or-drop i xs k 0

-- none before, and none in the part behind
nowhere : (xs : List ℕ) (seen most end : ℕ) → Nowhere (Passes (is_byte 10) xs) 0 seen → end ≤ most - seen
    → Nowhere (Passes (is_byte 10) (slice_range xs seen most)) 0 end → Nowhere (Passes (is_byte 10) xs) 0 (seen + end)
nowhere xs seen most end before fits none k low high p = cases (split_at seen k)
  where
    cases : (k < seen) ⊎ (seen ≤ k) → ⊥
    cases (inl h) = before k low h p
    cases (inr h) =
        let place : seen + (k - seen) ≡ k = omega (arith, h) in
        let same : slice_index (slice_range xs seen most) (k - seen) ≡ slice_index xs k =
        range-index xs seen most (k - seen) (omega (arith, h, high, fits)) ∙ ap (slice_index xs) place in
        none (k - seen) (omega arith) (omega (arith, h, high)) (ap (λ b. b == 10) same ∙ p)

pub scan-none : (xs : List ℕ) (seen most : ℕ) → seen ≤ most → most ≤ length xs → Nowhere (Passes (is_byte 10) xs) 0 seen
    → Nowhere (Passes (is_byte 10) (slice_range xs seen most)) 0 (length (slice_range xs seen most)) → Nowhere (Passes (is_byte 10) xs) 0 most
scan-none xs seen most order inside before none =
    let len = range-length xs seen most order inside in
    let whole : seen + length (slice_range xs seen most) ≡ most = omega (arith, len, order) in
    subst (Nowhere (Passes (is_byte 10) xs) 0) whole (nowhere xs seen most (length (slice_range xs seen most)) before (omega (arith, len)) none)

pub scan-some : (xs : List ℕ) (seen most at : ℕ) → seen ≤ most → most ≤ length xs → Nowhere (Passes (is_byte 10) xs) 0 seen
    → NoneBefore (Passes (is_byte 10) (slice_range xs seen most)) 0 (length (slice_range xs seen most)) at × Passes (is_byte 10) (slice_range xs seen most) at
    → NoneBefore (Passes (is_byte 10) xs) 0 most (seen + at) × Passes (is_byte 10) xs (seen + at)
scan-some xs seen most at order inside before found =
    let len = range-length xs seen most order inside in
    let high = found.0.high in
    let fits : seen + at < most = omega (arith, len, high, order) in (
      record { low = omega arith; high = fits; before = nowhere xs seen most at before (omega (arith, fits)) found.0.before },
      ap (λ b. b == 10) (sym (range-index xs seen most at fits)) ∙ found.1,
    )
