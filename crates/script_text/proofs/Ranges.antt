-- Parts of a block of bytes.
use Rattle.std.proofs.Common.{◌≡◌, ℕ, ◌+◌, ◌-◌, ◌≤◌, List, length, take, drop, slice_range, sym, ap, ◌∙◌, arith, length-drop, length-take-le}
use Rattle.std.proofs.lemmas.List.{take-take, drop-take, drop-drop}

-- the part without its first c bytes
pub range-drop : (xs : List ℕ) (i c j : ℕ) → i + c ≤ j → drop c (slice_range xs i j) ≡ slice_range xs (i + c) j
range-drop xs i c j h =
    let count : j - i ≡ c + (j - (i + c)) = omega (arith, h) in
    ap (λ n. drop c (take n (drop i xs))) count ∙ drop-take c (j - (i + c)) (drop i xs) ∙ ap (take (j - (i + c))) (drop-drop c i xs)

-- the first bytes of the part
pub range-take : (xs : List ℕ) (i m j : ℕ) → m ≤ j → take (m - i) (slice_range xs i j) ≡ slice_range xs i m
range-take xs i m j h = take-take (m - i) (j - i) (drop i xs) (omega (arith, h))

-- the part is one of a front
pub range-front : (xs : List ℕ) (i m : ℕ) → i ≤ m → slice_range xs i m ≡ drop i (take m xs)
range-front xs i m h =
    let count : m ≡ i + (m - i) = omega (arith, h) in
    sym (drop-take i (m - i) xs) ∙ ap (λ n. drop i (take n xs)) (sym count)

-- blocks with one front have the same parts in it
pub range-same : (xs ys : List ℕ) (i m : ℕ) → i ≤ m → take m xs ≡ take m ys → slice_range xs i m ≡ slice_range ys i m
range-same xs ys i m h e = range-front xs i m h ∙ ap (drop i) e ∙ sym (range-front ys i m h)

pub range-length : (xs : List ℕ) (i j : ℕ) → i ≤ j → j ≤ length xs → length (slice_range xs i j) ≡ j - i
range-length xs i j h k = length-take-le (j - i) (drop i xs) (omega (arith, h, k, length-drop i xs))
