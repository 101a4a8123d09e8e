-- What a map says of a named type (docs/language.md, Subtyping).
use Rattle.std.specs.Prelude.{ℕ, ◌==◌, Bool, true, false, not, ◌||◌, if◌then◌else◌, Option, Some, None, List, [], length, map, find, option_map, option_and_then}
use Rattle.hack_types.specs.Substituted.{substitute}
use Rattle.hack_types.specs.declared.hack_type.HackType.{HackType}
use Rattle.hack_types.specs.declared.shallow.EnumSig.{EnumSig}
use Rattle.hack_types.specs.declared.shallow.Sort.{Sort}
use Rattle.hack_types.specs.declared.shallow.Sort.TheVariants as sort
use Rattle.hack_types.specs.declared.signature.TypeParam.{TypeParam}
use Rattle.hack_decls.specs.DeclState.{Map}
use Rattle.hack_decls.specs.Names.{class_symbol}
use Rattle.hack_decls.specs.declared.folded.Folded.{Folded}
use Rattle.hack_decls.specs.declared.folded.Folded.TheVariants as folded
use Rattle.hack_sub.specs.Parts.{arguments_of, name_of}
use Rattle.hack_sub.specs.declared.known.Known.{Known}
use Rattle.hack_sub.specs.declared.known.Known.TheVariants as sorts

abbrev pub is_trait : Sort → Bool
is_trait sort.Trait = true
is_trait _ = false

-- what a type with so many arguments is by what is declared under its name: it is bad where nothing is declared there, or a trait, or what
-- has another number of parameters
abbrev pub known_class : ℕ → Sort → List TypeParam → Bool → Known
known_class count which params partial = if is_trait which || not (count == length params) then sorts.Bad else sorts.ClassLike partial

abbrev pub known_by : ℕ → Option Folded → Known
known_by count (Some (folded.ClassLike class)) = known_class count class.sort class.type_params class.partial
known_by count (Some (folded.Enum sig)) = if count == 0 then sorts.Enum else sorts.Bad
known_by count (Some (folded.Alias sig)) = if count == length sig.type_params then sorts.Alias else sorts.Bad
known_by count _ = sorts.Bad

abbrev pub known_as : Map → ℕ → Option ℕ → Known
known_as map count (Some name) = known_by count (map (class_symbol name))
known_as map count None = sorts.Unnamed

abbrev pub known : Map → HackType → Known
known map type = known_as map (length (arguments_of type)) (name_of type)

abbrev pub is_bad : Known → Bool
is_bad sorts.Bad = true
is_bad _ = false

abbrev pub is_class_like : Known → Bool
is_class_like (sorts.ClassLike partial) = true
is_class_like _ = false

abbrev pub is_partial : Known → Bool
is_partial (sorts.ClassLike partial) = partial
is_partial _ = false

abbrev pub is_enum : Known → Bool
is_enum sorts.Enum = true
is_enum _ = false

abbrev pub is_alias : Known → Bool
is_alias sorts.Alias = true
is_alias _ = false

-- the body of an alias with these arguments in the place of its parameters
abbrev pub expanded_by : List HackType → Option Folded → Option HackType
expanded_by arguments (Some (folded.Alias sig)) =
    if length arguments == length sig.type_params then Some (substitute arguments sig.body) else None
expanded_by arguments _ = None

abbrev pub expanded : Map → HackType → Option HackType
expanded map type = option_and_then (λ name. expanded_by (arguments_of type) (map (class_symbol name))) (name_of type)

-- the enum of a type
abbrev pub enum_by : ℕ → Option Folded → Option EnumSig
enum_by count (Some (folded.Enum sig)) = if count == 0 then Some sig else None
enum_by count _ = None

abbrev pub enum_of : Map → HackType → Option EnumSig
enum_of map type = option_and_then (λ name. enum_by (length (arguments_of type)) (map (class_symbol name))) (name_of type)

-- the type parameters that a declaration writes
abbrev pub parameters_by : Option Folded → List TypeParam
parameters_by (Some (folded.ClassLike class)) = class.type_params
parameters_by (Some (folded.Alias sig)) = sig.type_params
parameters_by _ = []

abbrev pub parameters : Map → ℕ → List TypeParam
parameters map name = parameters_by (map (class_symbol name))

-- the arguments that a class gives its ancestor of this name
abbrev pub ancestor_by : ℕ → Option Folded → Option (List HackType)
ancestor_by name (Some (folded.ClassLike class)) =
    option_map (λ ancestor. ancestor.arguments) (find (λ ancestor. ancestor.name == name) class.ancestors)
ancestor_by name _ = None

-- the arguments that `C<..>` gives D: its own where D is C, and else those that C gives its ancestor D, with C's put in
abbrev pub given : Map → ℕ → List HackType → ℕ → Option (List HackType)
given m class arguments name =
    if class == name then Some arguments else option_map (map (substitute arguments)) (ancestor_by name (m (class_symbol class)))
