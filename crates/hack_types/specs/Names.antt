-- Names: a list of texts, in which an id is a position (docs/language.md, Names).
use Rattle.std.specs.Prelude.{◌≢◌, ℕ, List, [], ◌∷◌, ◌++◌, if◌then◌else◌, codes, AllPairs}
use Rattle.std.specs.List.{list_any}
use Rattle.std.specs.Str.{bytes_eq}

-- the names that are there from the start, under the ids from 0 on
unfoldable pub fixed_names : List (List ℕ)
fixed_names =
    codes "Traversable" ∷ codes "KeyedTraversable" ∷ codes "Container" ∷ codes "KeyedContainer" ∷ codes "Throwable" ∷ codes "Exception"
    ∷ codes "__construct" ∷ []

-- no text stands twice
abbrev pub EachOnce : List (List ℕ) → Type 0
EachOnce names = AllPairs (λ a b. a ≢ b) names

-- the names once this text is one: it goes last where it isn't there, and every id stays
abbrev pub with_name : List (List ℕ) → List ℕ → List (List ℕ)
with_name names text = if list_any (bytes_eq text) names then names else names ++ text ∷ []
