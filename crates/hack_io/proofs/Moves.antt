-- What a copy between two lists of bytes moves.
use Rattle.std.proofs.Common.{◌≡◌, Option, ℕ, ◌+◌, ◌-◌, ◌≤◌, ◌<◌, min, List, [], ◌++◌, length, take, drop, sym, ap, ◌∙◌, subst, arith, take-append-drop, length-take-le, length-drop}
use Rattle.std.proofs.lemmas.List.{take_at, drop-drop, take-take, drop-take, drop_all, take_rest}
use Rattle.std.specs.Io.KnownBytes.{Appends}
use Rattle.std.proofs.KnownBytes.{Appends-trans}

-- the first n bytes went to the front of another list, and are n bytes after
pub take-moved : (n : ℕ) (bytes into : List ℕ) → n ≤ length bytes → take n (take n bytes ++ drop n into) ≡ take n bytes
take-moved n bytes into h = take_at (take n bytes) (drop n into) n (length-take-le n bytes h)

-- what moved, and what is left from there on, are what was left before
pub left_before : (n at : ℕ) (bytes into : List ℕ) → n ≤ length (drop at bytes)
    → drop at bytes ≡ take n (take n (drop at bytes) ++ drop n into) ++ drop (at + n) bytes
left_before n at bytes into h =
    sym (take-append-drop n (drop at bytes)) ∙ ap (λ xs. xs ++ drop n (drop at bytes)) (sym (take-moved n (drop at bytes) into h))
    ∙ ap (λ xs. take n (take n (drop at bytes) ++ drop n into) ++ xs) (drop-drop n at bytes)

-- the next m bytes of what is left after n are the ones up to n + m
pub take-more : (n m : ℕ) (xs : List ℕ) → n ≤ length xs → take n xs ++ take m (drop n xs) ≡ take (n + m) xs
take-more n m xs h =
    let e : take n (take (n + m) xs) ≡ take n xs = take-take n (n + m) xs (omega arith) in
    let f : drop n (take (n + m) xs) ≡ take m (drop n xs) = drop-take n m xs in
    ap (λ ys. ys ++ take m (drop n xs)) (sym e) ∙ ap (λ ys. take n (take (n + m) xs) ++ ys) (sym f) ∙ take-append-drop n (take (n + m) xs)

-- n bytes of what is left are copied to the front of another list, and the rest stays left
pub left_by_copy : (n at : ℕ) (bytes left copied into : List ℕ) → left ≡ drop at bytes → n ≤ length left → copied ≡ take n left
    → drop at bytes ≡ take n (copied ++ drop n into) ++ drop (at + n) bytes
left_by_copy n at bytes left copied into left_is fits copied_is =
    let few : n ≤ length (drop at bytes) = subst (λ xs. n ≤ length xs) left_is fits in
    let front : copied ≡ take n (drop at bytes) = copied_is ∙ ap (take n) left_is in
    left_before n at bytes into few ∙ ap (λ xs. take n (xs ++ drop n into) ++ drop (at + n) bytes) (sym front)

-- where nothing is moved into a list that isn't empty, in pieces that aren't either, nothing is left
pub none_left : (n at piece : ℕ) (bytes left into : List ℕ) → left ≡ drop at bytes → n ≡ min piece (min (length into) (length left)) → 1 ≤ piece → n ≡ 0 → 0 < length into
    → drop (at + n) bytes ≡ []
none_left n at piece bytes left into left_is n_is positive zero some =
    drop_all (at + n) bytes (omega (arith, length-drop at bytes, ap length left_is))

-- n bytes of a piece were appended, and then k bytes of the rest
pub pushed_more : (old mid new : Option (List ℕ)) (piece rest : List ℕ) (n k : ℕ) → n ≤ length piece → rest ≡ drop n piece → Appends old mid (take n piece)
    → k ≤ length rest → Appends mid new (take k rest)
    → (x : ℕ) × (x ≤ length piece) × (take (length rest - k) (drop k rest) ≡ drop x piece) × Appends old new (take x piece)
pushed_more old mid new piece rest n k few rest_is before fits now = (
  n + k,
  omega (arith, length-drop n piece, ap length rest_is),
  take_rest rest k ∙ ap (drop k) rest_is ∙ drop-drop k n piece,
  subst (Appends old new) (ap (λ xs. take n piece ++ take k xs) rest_is ∙ take-more n k piece few) (Appends-trans old mid new _ _ before now),
)
