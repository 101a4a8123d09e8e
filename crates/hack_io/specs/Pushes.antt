-- What a push leaves written (docs/definitions.md, Sinks).
use Rattle.std.specs.Prelude.{◌≤◌, ℕ, List, Option, Result, MatchResult, length, take}
use Rattle.std.specs.Io.KnownBytes.{Appends}

-- the whole piece at `Ok`, and at `Err` its first n bytes, for some n
abbrev pub Pushes : {E : Type 0} → Option (List ℕ) → Option (List ℕ) → Result (Unit {0}) E → List ℕ → Type 0
Pushes old new result piece =
    MatchResult result (λ _. Appends old new piece) (λ _. (n : ℕ) × (n ≤ length piece) × Appends old new (take n piece))
