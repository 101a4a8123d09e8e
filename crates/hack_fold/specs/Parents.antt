-- The parents of a class, an interface or a trait, and which of them are good (docs/language.md, Folding).
use Rattle.std.specs.Prelude.{ℕ, ◌==◌, ◌&&◌, Bool, false, true, Option, Some, None, List, ◌++◌, map, length, is_some, option_and_then, if◌then◌else◌}
use Rattle.std.specs.List.{filter_map, list_all}
use Rattle.hack_types.specs.declared.hack_type.HackType.{HackType, out-HackType}
use Rattle.hack_types.specs.declared.hack_type.HackType.TheOpen.{HackType-F}
use Rattle.hack_types.specs.declared.ids.SymbolId.{SymbolId}
use Rattle.hack_types.specs.declared.shallow.ClassSig.{ClassSig}
use Rattle.hack_types.specs.declared.shallow.Shallow.{Shallow}
use Rattle.hack_types.specs.declared.shallow.Shallow.TheVariants as shallow
use Rattle.hack_types.specs.declared.shallow.Sort.{Sort}
use Rattle.hack_types.specs.declared.shallow.Sort.TheVariants as sort
use Rattle.hack_decls.specs.Names.{class_symbol}
use Rattle.hack_decls.specs.declared.folded.Ancestor.{Ancestor}

-- the signature that is declared under each symbol, where anything is
abbrev pub Shallows : Type 0
Shallows = SymbolId → Option Shallow

abbrev pub class_by : Option Shallow → Option ClassSig
class_by (Some (shallow.ClassLike sig)) = Some sig
class_by _ = None

-- the class, interface or trait of this name
abbrev pub class_of : Shallows → ℕ → Option ClassSig
class_of shallows name = class_by (shallows (class_symbol name))

-- a parent as it is written, and what it must be to stand there
pub record Parent : Type 0 where
  pub wanted : Sort
  pub type : HackType

-- a class's `extends` names a class, an interface's names interfaces
abbrev pub extends_sort : Sort → Sort
extends_sort sort.Class = sort.Class
extends_sort other = sort.Interface

abbrev pub placed : Sort → List HackType → List Parent
placed wanted types = map (λ type. record { wanted = wanted; type = type }) types

-- the types of `use`, then `extends`, then `implements`
abbrev pub parents : ClassSig → List Parent
parents sig = placed sort.Trait sig.uses ++ placed (extends_sort sig.sort) sig.extends ++ placed sort.Interface sig.implements

abbrev pub named_by : HackType-F HackType → Option Ancestor
named_by (HackType-F.Class name arguments) = Some (record { name = name; arguments = arguments })
named_by _ = None

-- the name and the arguments of a parent; a type parameter and `_` have none
abbrev pub named : Parent → Option Ancestor
named parent = named_by (out-HackType parent.type)

abbrev pub same_sort : Sort → Sort → Bool
same_sort sort.Class sort.Class = true
same_sort sort.Interface sort.Interface = true
same_sort sort.Trait sort.Trait = true
same_sort _ _ = false

abbrev pub fits : Option ClassSig → Sort → ℕ → Bool
fits None wanted count = false
fits (Some sig) wanted count = same_sort sig.sort wanted && (count == length sig.type_params)

abbrev pub if_fits : Shallows → Sort → Ancestor → Option Ancestor
if_fits shallows wanted parent = if fits (class_of shallows parent.name) wanted (length parent.arguments) then Some parent else None

-- a good parent is class-like, of the sort that it must have there, and has the right number of arguments
abbrev pub good : Shallows → Parent → Option Ancestor
good shallows parent = option_and_then (if_fits shallows parent.wanted) (named parent)

abbrev pub good_parents : Shallows → ClassSig → List Ancestor
good_parents shallows sig = filter_map (good shallows) (parents sig)

abbrev pub all_good : Shallows → ClassSig → Bool
all_good shallows sig = list_all (λ parent. is_some (good shallows parent)) (parents sig)
