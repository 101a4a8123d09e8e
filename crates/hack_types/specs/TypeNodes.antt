-- The nodes of a type (docs/language.md, Types and their texts): each constructor is one, and a field of a shape counts as its
-- type.
use Rattle.std.specs.Prelude.{ℕ, ◌+◌, sum, sum_by}
use Rattle.hack_types.specs.declared.hack_type.HackType.{HackType}
use Rattle.hack_types.specs.declared.hack_type.HackType.TheOpen.{HackType-F}
use Rattle.hack_types.specs.declared.hack_type.HackType.TheFolds.{fold-HackType}

-- one constructor, with the number of its nodes in the place of each type inside
abbrev pub node_count : HackType-F ℕ → ℕ
node_count (HackType-F.Option inside) = 1 + inside
node_count (HackType-F.Vector item) = 1 + item
node_count (HackType-F.Dict key value) = 1 + key + value
node_count (HackType-F.Keyset item) = 1 + item
node_count (HackType-F.Shape fields rest) = 1 + sum_by (λ field. field.ty) fields
node_count (HackType-F.Class name arguments) = 1 + sum arguments
node_count (HackType-F.Union members) = 1 + sum members
node_count _ = 1

abbrev pub nodes : HackType → ℕ
nodes = fold-HackType ℕ node_count
