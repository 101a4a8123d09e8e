-- A table of the first positions of names, as the code fills it.
use Rattle.std.specs.Prelude.{◌≡◌, ℕ, ◌==◌, if◌then◌else◌, Option, Some, None}
use Rattle.std.specs.Ordering.{nat_cmp}
use Rattle.std.specs.BTreeMap.{BTreeMap, get}

-- the position that a name has once this one is put at this index, where it had a position or none
abbrev pub first_by : ℕ → ℕ → ℕ → Option ℕ → Option ℕ
first_by name index query (Some position) = Some position
first_by name index query None = if name == query then Some index else None

abbrev pub PutsFirst : BTreeMap ℕ ℕ → ℕ → ℕ → BTreeMap ℕ ℕ → Type 0
PutsFirst before name index after = (query : ℕ) → get nat_cmp after query ≡ first_by name index query (get nat_cmp before query)
