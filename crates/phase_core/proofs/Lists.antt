-- What the first items of a list are.
use Rattle.std.proofs.Common.{◌≡◌, ◌⊎◌, ◌<◌, ◌≤◌, refl, sym, ◌∙◌, subst, ℕ, ◌+◌, List, [], ◌∷◌, ◌++◌, take, length, get_or, arith, zero, suc, ap, Some, None}
use Rattle.std.specs.Prelude.{Contains, slice_get, replicate}
use Rattle.std.proofs.lemmas.List.{take_more, take_all}
use Rattle.std.proofs.lemmas.List.Elements.{Contains-append_left, Contains-push, Contains-push_cases}

module _ {X : Type 0} where
  pub in_none : (xs : List X) (x : X) → Contains (take 0 xs) x → ⊥
  in_none xs x h = let l : h.0 < length (take 0 xs) = h.1 in omega arith

  pub in_more : (xs : List X) (i : ℕ) (d : X) → i < length xs → (x : X) → Contains (take (i + 1) xs) x → Contains (take i xs) x ⊎ (get_or xs i d ≡ x)
  in_more xs i d l x h = Contains-push_cases (take i xs) (get_or xs i d) x (subst (λ ys. Contains ys x) (take_more xs i d l) h)

  pub in_before : (xs : List X) (i : ℕ) (d : X) → i < length xs → (x : X) → Contains (take i xs) x → Contains (take (i + 1) xs) x
  in_before xs i d l x h = subst (λ ys. Contains ys x) (sym (take_more xs i d l)) (Contains-append_left (take i xs) (get_or xs i d ∷ []) x h)

  pub in_now : (xs : List X) (i : ℕ) (d : X) → i < length xs → Contains (take (i + 1) xs) (get_or xs i d)
  in_now xs i d l = subst (λ ys. Contains ys (get_or xs i d)) (sym (take_more xs i d l)) (Contains-push (take i xs) (get_or xs i d))

  pub in_whole : (xs : List X) (i : ℕ) → length xs ≤ i → (x : X) → Contains xs x → Contains (take i xs) x
  in_whole xs i l x h = subst (λ ys. Contains ys x) (sym (take_all i xs l)) h

  -- what is at a number
  pub slice_get_at : (xs : List X) (n : ℕ) (x : X) → slice_get xs n ≡ Some x → (n < length xs) × (get_or xs n x ≡ x)
  slice_get_at [] n x h = absurd (let e : None ≡ Some x = h in cc)
  slice_get_at (y ∷ xs) zero x h = let e : Some y ≡ Some x = h in (omega arith, cc)
  slice_get_at (y ∷ xs) (suc n) x h = let r = slice_get_at xs n x h in let l : n < length xs = r.0 in (omega arith, r.1)

  pub at_slice_get : (xs : List X) (n : ℕ) (x : X) → n < length xs → x ≡ get_or xs n x → slice_get xs n ≡ Some x
  at_slice_get [] n x l e = absurd (omega arith)
  at_slice_get (y ∷ xs) zero x l e = ap (λ z. Some z) (sym e)
  at_slice_get (y ∷ xs) (suc n) x l e = at_slice_get xs n x (omega arith) e

  pub in_at : (xs : List X) (i : ℕ) (x : X) → i < length xs → x ≡ get_or xs i x → Contains xs x
  in_at xs i x l is = (i, l, sym is)

  -- a list that grows to a copy
  pub copied_more : (xs ys zs : List X) (i : ℕ) (x v : X) → i < length xs → x ≡ get_or xs i x → v ≡ x → ys ≡ take i xs → zs ≡ ys ++ v ∷ [] → zs ≡ take (i + 1) xs
  copied_more xs ys zs i x v l is same so_far put = put ∙ (λ j. so_far j ++ (same ∙ is) j ∷ []) ∙ sym (take_more xs i x l)

  -- one more of the same
  pub replicate_more : (n : ℕ) (x : X) → replicate n x ++ x ∷ [] ≡ replicate (suc n) x
  replicate_more zero x = refl
  replicate_more (suc n) x = ap (λ ys. x ∷ ys) (replicate_more n x)
