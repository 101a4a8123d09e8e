-- Types with types in the place of class parameters (docs/language.md, Types and their texts).
use Rattle.std.specs.Prelude.{◌≡◌, ◌<◌, ◌≤◌, ℕ, if◌then◌else◌, nat_le, Result, Ok, Err, List, slice_index_or}
use Rattle.hack_types.specs.OptionOf.{option_of}
use Rattle.hack_types.specs.TypeNodes.{nodes}
use Rattle.hack_types.specs.UnionOf.{union_of}
use Rattle.hack_types.specs.declared.type_substitute.SubstStop.{SubstStop}
use Rattle.hack_types.specs.declared.type_substitute.SubstStop.TheVariants as stop
use Rattle.hack_types.specs.declared.hack_type.HackType.{HackType, roll-HackType}
use Rattle.hack_types.specs.declared.hack_type.HackType.TheOpen.{HackType-F}
use Rattle.hack_types.specs.declared.hack_type.HackType.TheFolds.{fold-HackType}
use Rattle.hack_types.specs.declared.hack_type.HackType.TheVariants.{Any}

-- one constructor with what stands in the place of each type inside; a class parameter gives the argument of its position, and `_`
-- where there is none
abbrev pub substitute_by : List HackType → HackType-F HackType → HackType
substitute_by arguments (HackType-F.ClassParam position name) = slice_index_or arguments position Any
substitute_by arguments (HackType-F.Option inside) = option_of inside
substitute_by arguments (HackType-F.Union members) = union_of members
substitute_by arguments layer = roll-HackType layer

unfoldable pub substitute : List HackType → HackType → HackType
substitute arguments = fold-HackType HackType (substitute_by arguments)

-- how many nodes a type may have
abbrev pub most_nodes : ℕ
most_nodes = 256

-- a type of more nodes is `_`
abbrev pub limited : HackType → HackType
limited type = if nat_le (nodes type) most_nodes then type else Any

-- the answer is this type, and `TooBig` exactly where it has too many nodes
abbrev pub IsUnlessTooBig : Result HackType SubstStop → HackType → Type 0
IsUnlessTooBig (Ok answer) type = (answer ≡ type) × (nodes type ≤ most_nodes)
IsUnlessTooBig (Err stop.TooBig) type = most_nodes < nodes type
IsUnlessTooBig (Err stop.NoMemory) type = Unit {0}
