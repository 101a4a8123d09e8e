-- Lists in the order of their ids, each id once.
use Rattle.std.specs.Prelude.{ℕ, List, map}
use Rattle.std.specs.List.Sorted.{IsStrictlySortedBy}
use Rattle.std.specs.Ordering.{nat_cmp}
use Rattle.hack_types.specs.declared.fields.Field.{Field}

-- each name's id is below those of the names after it
abbrev pub NamesRise : List ℕ → Type 0
NamesRise names = IsStrictlySortedBy nat_cmp names

-- the keys of the fields rise
abbrev pub FieldsRise : {T : Type 0} → List (Field T) → Type 0
FieldsRise fields = NamesRise (map (λ field. field.key) fields)
