-- Where a name stands first in a list with one more name.
use Rattle.std.proofs.Common.{◌≡◌, ◌==◌, ◌++◌, ◌∷◌, ℕ, suc, Bool, true, false, List, [], Option, Some, None, length, ap, ◌∙◌, refl, if◌then◌else◌}
use Rattle.std.specs.Option.{option_map}
use Rattle.hack_shallow.specs.Scope.{first_at}
use Rattle.hack_shallow.specs.Positions.{first_by}

further_by : (name index query : ℕ) (found : Option ℕ) → option_map suc (first_by name index query found) ≡ first_by name (suc index) query (option_map suc found)
further_by name index query (Some position) = refl
further_by name index query None = by (name == query)
  where
    by : (b : Bool) → option_map suc (if b then Some index else None) ≡ (if b then Some (suc index) else None)
    by true = refl
    by false = refl

later : (b : Bool) (name index query : ℕ) (found more : Option ℕ) → more ≡ first_by name index query found
    → (if b then Some 0 else option_map suc more) ≡ first_by name (suc index) query (if b then Some 0 else option_map suc found)
later true name index query found more e = refl
later false name index query found more e = ap (option_map suc) e ∙ further_by name index query found

pub first_at_push : (name query : ℕ) (names : List ℕ) → first_at query (names ++ name ∷ []) ≡ first_by name (length names) query (first_at query names)
first_at_push name query [] = refl
first_at_push name query (n ∷ names) = later (n == query) name (length names) query (first_at query names) (first_at query (names ++ name ∷ [])) (first_at_push name query names)
