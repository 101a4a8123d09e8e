-- Runs over a source that tells its bytes, the script.
use Rattle.std.specs.Prelude.{◌≡◌, ℕ, List, ◌++◌, Option, None, Some}
use Rattle.std.specs.Io.KnownBytes.{Appends}

-- P holds of the script, what was taken of it, what is left, and what was written; of a source that tells nothing, nothing is said
abbrev pub OfScript : Option (List ℕ) → Option (List ℕ) → Option (List ℕ) → Option (List ℕ)
    → (List ℕ → List ℕ → Option (List ℕ) → List ℕ → Type 0) → Type 0
OfScript None left before now P = Unit {0}
OfScript (Some script) left before now P = (taken rest out : List ℕ)
    × (script ≡ taken ++ rest) × (left ≡ Some rest) × Appends before now out × P script taken left out
