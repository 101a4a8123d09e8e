-- The last of some steps.
use Rattle.std.proofs.Common.{◌≡◌, ◌∙◌, ◌+◌, ◌-◌, ◌<◌, ◌≤◌, ◌++◌, Some, None, List, [], ◌∷◌, length, take, refl, sym, ap, arith}
use Rattle.std.proofs.lemmas.List.{take_all, take_more}
use Rattle.std.proofs.lemmas.Option.{get_or_from_slice_get, slice_get-get_or, slice_get_within}
use Rattle.std.specs.List.{slice_get}
use Rattle.hack_sub.specs.NamesOf.{nothing_there}

-- it stands behind the others
pub last_there : {X : Type 0} (xs : List X) (x : X) → Some x ≡ slice_get xs (length xs - 1) → xs ≡ take (length xs - 1) xs ++ x ∷ []
last_there xs x is =
    let i = length xs - 1 in
    let lt : i < length xs = slice_get_within xs i x (sym is) in
    let all : length xs ≤ i + 1 = omega arith in
    sym (take_all (i + 1) xs all) ∙ take_more xs i x lt ∙ ap (λ y. take i xs ++ y ∷ []) (get_or_from_slice_get xs i x x (sym is))

-- there is none
pub none_there : {X : Type 0} (xs : List X) → None ≡ slice_get xs (length xs - 1) → xs ≡ []
none_there [] is = refl
none_there (x ∷ xs) is =
    let lt : length (x ∷ xs) - 1 < length (x ∷ xs) = omega arith in
    absurd (nothing_there _ (sym (is ∙ slice_get-get_or (x ∷ xs) (length (x ∷ xs) - 1) x lt)))

pub none_left : {X : Type 0} (xs : List X) → length xs ≡ 0 → xs ≡ []
none_left [] is = refl
none_left (x ∷ xs) is = absurd (omega (arith, is))
