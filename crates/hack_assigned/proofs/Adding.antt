-- Names that are added behind others.
use Rattle.std.proofs.Common.{◌≡◌, ◌∙◌, ◌<◌, ◌+◌, ◌++◌, ℕ, Result, OnOk, List, [], ◌∷◌, drop, get_or, length, refl, sym, ap}
use Rattle.std.specs.List.{flat_map}
use Rattle.std.proofs.lemmas.List.{append_assoc, drop_more}
use Rattle.std.proofs.lemmas.List.Concat.{flat_map-cons}
use Rattle.std.proofs.lemmas.Result.{on_ok_weaker}

pub behind_none : (names : List ℕ) → names ++ [] ≡ names
behind_none [] = refl
behind_none (name ∷ names) = ap (λ rest. name ∷ rest) (behind_none names)

-- nothing is added
pub nothing : (names : List ℕ) {all : List ℕ} → [] ≡ all → names ≡ names ++ all
nothing names is = sym (behind_none names) ∙ ap (λ added. names ++ added) is

-- two lists, one behind the other
pub both : (names first second : List ℕ) {middle later : List ℕ} → middle ≡ names ++ first → later ≡ middle ++ second → later ≡ names ++ (first ++ second)
both names first second one two = two ∙ ap (λ l. l ++ second) one ∙ append_assoc names first second

-- the same names under another name
pub told : {A E : Type 0} (result : Result A E) (names later : List ℕ) {added all : List ℕ} → added ≡ all → OnOk result (later ≡ names ++ added) → OnOk result (later ≡ names ++ all)
told result names later is given = on_ok_weaker result (λ put. put ∙ ap (λ l. names ++ l) is) given

-- the last of two
pub told_both : {A E : Type 0} (result : Result A E) (names later first second : List ℕ) {middle all : List ℕ} → first ++ second ≡ all
    → middle ≡ names ++ first → OnOk result (later ≡ middle ++ second) → OnOk result (later ≡ names ++ all)
told_both result names later first second is one given = on_ok_weaker result (λ put. both names first second one put ∙ ap (λ l. names ++ l) is) given

-- one more of a list
pub one_more : {X : Type 0} (f : X → List ℕ) (xs : List X) (i : ℕ) (x : X) (names : List ℕ) {later whole : List ℕ} → i < length xs → x ≡ get_or xs i x
    → later ≡ names ++ f x → names ++ flat_map f (drop i xs) ≡ whole → later ++ flat_map f (drop (i + 1) xs) ≡ whole
one_more f xs i x names below is put so_far =
    let rest = drop (i + 1) xs in
    ap (λ l. l ++ flat_map f rest) put ∙ append_assoc names (f x) (flat_map f rest)
    ∙ ap (λ l. names ++ l) (sym (flat_map-cons f x rest))
    ∙ ap (λ ys. names ++ flat_map f ys) (sym (drop_more xs i x below ∙ ap (λ y. y ∷ rest) (sym is))) ∙ so_far

-- functions that agree
pub same_each : {X : Type 0} (f g : X → List ℕ) → ((x : X) → f x ≡ g x) → (xs : List X) → flat_map f xs ≡ flat_map g xs
same_each f g same [] = refl
same_each f g same (x ∷ xs) =
    flat_map-cons f x xs ∙ ap (λ l. l ++ flat_map f xs) (same x) ∙ ap (λ l. g x ++ l) (same_each f g same xs) ∙ sym (flat_map-cons g x xs)
