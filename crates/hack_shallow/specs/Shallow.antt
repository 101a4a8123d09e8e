-- The signature of a declaration by itself (docs/language.md, Signatures).
use Rattle.std.specs.Prelude.{◌≡◌, ◌↔◌, IsTrue, ℕ, Bool, true, false, List, [], ◌∷◌, map, Option, Some, None}
use Rattle.std.specs.List.{list_any, flat_map}
use Rattle.std.specs.Ordering.{nat_cmp}
use Rattle.std.specs.BTreeSet.{insert_key}
use Rattle.hack_tree.specs.declared.declaration.Callable.{Callable}
use Rattle.hack_tree.specs.declared.declaration.ClassModifier.{ClassModifier}
use Rattle.hack_tree.specs.declared.declaration.ClassModifier.TheVariants as modifier
use Rattle.hack_tree.specs.declared.declaration.EnumCase.{EnumCase}
use Rattle.hack_tree.specs.declared.declaration.Member.{Member as MemberTree}
use Rattle.hack_tree.specs.declared.declaration.Member.TheVariants as tree
use Rattle.hack_tree.specs.declared.declaration.TypeParameter.{TypeParameter}
use Rattle.hack_tree.specs.declared.declaration.UnitTree.{UnitTree}
use Rattle.hack_tree.specs.declared.declaration.UnitTree.TheVariants as unit
use Rattle.hack_tree.specs.declared.written_type.ClassType.{ClassType}
use Rattle.hack_tree.specs.declared.written_type.WrittenType.{WrittenType}
use Rattle.hack_types.specs.declared.hack_type.HackType.{HackType}
use Rattle.hack_types.specs.declared.hack_type.HackType.TheVariants as type
use Rattle.hack_types.specs.declared.shallow.Sort.{Sort}
use Rattle.hack_types.specs.declared.shallow.Sort.TheVariants as sort
use Rattle.hack_types.specs.declared.shallow.EnumSig.{EnumSig}
use Rattle.hack_types.specs.declared.shallow.Shallow.{Shallow}
use Rattle.hack_types.specs.declared.shallow.Shallow.TheVariants.{ClassLike, Enum, Alias, Function, Constant}
use Rattle.hack_shallow.specs.Scope.{Scope, names_of}
use Rattle.hack_shallow.specs.Resolved.{type_of, parent_of}
use Rattle.hack_shallow.specs.Signatures.{type_params, signature}
use Rattle.hack_shallow.specs.Members.{own_members}

-- where there are no type parameters
abbrev pub no_scope : Scope
no_scope = record { class = []; function = [] }

-- of a class or alias
abbrev pub class_scope : List TypeParameter → Scope
class_scope parameters = record { class = names_of parameters; function = [] }

-- of a function
abbrev pub function_scope : Callable → Scope
function_scope callable = record { class = []; function = names_of callable.type_parameters }

abbrev pub is_abstract : ClassModifier → Bool
is_abstract modifier.Abstract = true
is_abstract modifier.Final = false

abbrev pub is_final : ClassModifier → Bool
is_final modifier.Abstract = false
is_final modifier.Final = true

-- the traits that a member names, where it is a `use`
abbrev pub used : MemberTree → List ClassType
used (tree.Use at traits) = traits
used _ = []

abbrev pub extended : Option ClassType → List ClassType
extended None = []
extended (Some class) = class ∷ []

-- a class, an interface or a trait
abbrev pub class_like : Sort → List ClassModifier → ℕ → List TypeParameter → List ClassType → List ClassType → List MemberTree → Shallow
class_like sort modifiers name parameters extends implements members = ClassLike (record {
  sort = sort;
  is_abstract = list_any is_abstract modifiers;
  is_final = list_any is_final modifiers;
  type_params = type_params (class_scope parameters) parameters;
  uses = map (parent_of (class_scope parameters)) (flat_map used members);
  extends = map (parent_of (class_scope parameters)) extends;
  implements = map (parent_of (class_scope parameters)) implements;
  members = own_members (record { name = name; parameters = names_of parameters }) members;
})

-- the names of these cases, each once, by id
abbrev pub case_names : List ℕ → List EnumCase → List ℕ
case_names names [] = names
case_names names (case ∷ cases) = case_names (insert_key nat_cmp names case.name.name) cases

-- a bound is written, and is the base
abbrev pub IsBounded : HackType → Option WrittenType → Type 0
IsBounded base None = ⊥
IsBounded base (Some bound) = type_of no_scope bound ≡ base

pub record IsEnum (type : HackType) (bound : Option WrittenType) (named : List EnumCase) (sig : EnumSig) : Type 0 where
  pub base : sig.base ≡ type
  pub bounded : IsTrue sig.bounded ↔ IsBounded type bound
  pub cases : sig.cases ≡ case_names [] named

abbrev pub IsShallowEnum : WrittenType → Option WrittenType → List EnumCase → Shallow → Type 0
IsShallowEnum base bound cases s = (sig : EnumSig) × (s ≡ Enum sig) × IsEnum (type_of no_scope base) bound cases sig

abbrev pub alias : List TypeParameter → WrittenType → Shallow
alias parameters aliased =
    Alias (record { type_params = type_params (class_scope parameters) parameters; body = type_of (class_scope parameters) aliased })

-- the shallow declaration of a tree
abbrev pub IsShallow : UnitTree → Shallow → Type 0
IsShallow (unit.Function attributes callable body) s =
    s ≡ Function (signature (function_scope callable) type.Any callable)
IsShallow (unit.Class attributes modifiers name parameters extends implements members) s =
    s ≡ class_like sort.Class modifiers name.name parameters (extended extends) implements members
IsShallow (unit.Interface attributes name parameters extends members) s =
    s ≡ class_like sort.Interface [] name.name parameters extends [] members
IsShallow (unit.Trait attributes name parameters implements members) s =
    s ≡ class_like sort.Trait [] name.name parameters [] implements members
IsShallow (unit.Enum attributes name base bound cases) s = IsShallowEnum base bound cases s
IsShallow (unit.Alias attributes name parameters aliased) s =
    s ≡ alias parameters aliased
IsShallow (unit.Constant attributes written name value) s = s ≡ Constant (type_of no_scope written)
