-- Subtyping as a function: whether S is below T by a tree of this height. It is equal to the relation, and asks what is cheap first.
use Rattle.std.specs.Prelude.{◌&&◌, ◌||◌, ◌==◌, nat_le, nat_lt, not, ℕ, zero, suc, Bool, true, false, if◌then◌else◌, Option, Some, None, List, [], ◌∷◌, is_some, length, map, option_and_then, option_map}
use Rattle.std.specs.List.{list_all, list_any}
use Rattle.hack_types.specs.SameType.{same_type}
use Rattle.hack_types.specs.Substituted.{most_nodes, substitute}
use Rattle.hack_types.specs.TypeNodes.{nodes}
use Rattle.hack_types.specs.declared.fields.Field.{Field}
use Rattle.hack_types.specs.declared.hack_type.HackType.{HackType}
use Rattle.hack_types.specs.declared.hack_type.HackType.TheVariants as type
use Rattle.hack_types.specs.declared.shallow.EnumSig.{EnumSig}
use Rattle.hack_types.specs.declared.signature.TypeParam.{TypeParam}
use Rattle.hack_types.specs.declared.signature.Variance.{Variance}
use Rattle.hack_types.specs.declared.signature.Variance.TheVariants as variance
use Rattle.hack_decls.specs.DeclState.{Map}
use Rattle.hack_decls.specs.Names.{class_symbol}
use Rattle.hack_sub.specs.Knowing.{ancestor_by, enum_of, expanded, is_alias, is_bad, is_class_like, is_enum, is_partial, known, parameters}
use Rattle.hack_sub.specs.Parts.{arguments_of, as_keyed, dict_parts, is_open, keyset_item, name_of, option_inside, shape_fields, top_of, union_members, vector_item}
use Rattle.hack_sub.specs.Rules.{field_at}
use Rattle.hack_sub.specs.Scopes.{own_params, param_of}
use Rattle.hack_sub.specs.Tops.{is_any, is_made, is_mixed, is_nonnull, is_nothing, is_null, is_option, is_this, is_void, widens}
use Rattle.hack_sub.specs.declared.known.Known.{Known}
use Rattle.hack_sub.specs.declared.scope.Scope.{Scope}
use Rattle.hack_sub.specs.declared.top.Top.{Top}
use Rattle.hack_sub.specs.declared.way.Way.{Way}
use Rattle.hack_sub.specs.declared.way.Way.TheVariants as way

abbrev pub Test : Type 0
Test = HackType → HackType → Bool

-- the test of what is inside
abbrev pub some_and : {A : Type 0} → Option A → (A → Bool) → Bool
some_and None test = false
some_and (Some a) test = test a

-- what needs no lookup
abbrev pub is_plain : Top → Top → Bool
is_plain S T = is_any S || is_any T || is_nothing S || (is_mixed T && not (is_void S)) || widens S T || (is_nonnull T && is_made S) || (is_null S && is_option T)

-- what needs to know what is declared under the names of the two types
abbrev pub is_looked : Known → Known → Top → Bool
is_looked S T top =
    is_bad S || is_bad T || (is_partial S && is_class_like T) || (is_nonnull top && (is_class_like S || is_enum S))

abbrev pub into_option : Test → Test
into_option r S T = some_and (option_inside T) (λ U. r S U)

abbrev pub from_option : Test → Test
from_option r S T = some_and (option_inside S) (λ U. r type.Null T && r U T)

abbrev pub from_union : Test → Test
from_union r S T = some_and (union_members S) (λ members. list_all (λ U. r U T) members)

abbrev pub into_union : Test → Test
into_union r S T = some_and (union_members T) (λ members. list_any (λ U. r S U) members)

abbrev pub vectors : Test → Test
vectors r S T = some_and (vector_item S) (λ U. some_and (vector_item T) (λ V. r U V))

abbrev pub dicts : Test → Test
dicts r S T = some_and (dict_parts S) (λ s. some_and (dict_parts T) (λ t. r s.0 t.0 && r s.1 t.1))

abbrev pub keysets : Test → Test
keysets r S T = some_and (keyset_item S) (λ U. some_and (keyset_item T) (λ V. r U V))

abbrev pub into_keyed : Test → Test
into_keyed r S T = is_some (name_of T) && some_and (as_keyed S) (λ U. r U T)

-- a type that a tree may have at a node
abbrev pub is_small : HackType → Bool
is_small ty = nat_le (nodes ty) most_nodes

abbrev pub small_only : HackType → Option HackType
small_only ty = if is_small ty then Some ty else None

abbrev pub expanded_small : Map → HackType → Option HackType
expanded_small map ty = option_and_then small_only (expanded map ty)

abbrev pub from_alias : Map → Known → Test → Test
from_alias map s r S T = is_alias s && some_and (expanded_small map S) (λ U. r U T)

abbrev pub into_alias : Map → Known → Test → Test
into_alias map t r S T = is_alias t && some_and (expanded_small map T) (λ U. r S U)

-- of a field of T
abbrev pub meets_by : Test → Bool → Field HackType → Option (Field HackType) → Bool
meets_by r further field None = field.optional && not further
meets_by r further field (Some own) = (not own.optional || field.optional) && r own.ty field.ty

abbrev pub meets_field : Test → Bool → List (Field HackType) → Field HackType → Bool
meets_field r further fields field = meets_by r further field (field_at fields field.key)

abbrev pub covers : List (Field HackType) → List (Field HackType) → Bool
covers others fields = list_all (λ field. is_some (field_at others field.key)) fields

abbrev pub shape : Test → Test
shape r S T = some_and (shape_fields S) (λ fields. some_and (shape_fields T) (λ others.
    (is_open T || (not (is_open S) && covers others fields)) && list_all (meets_field r (is_open S) fields) others))

abbrev pub varies : Test → Variance → Test
varies r variance.Covariant U V = r U V
varies r variance.Contravariant U V = r V U
varies r variance.Invariant U V = r U V && r V U

abbrev pub fit : Test → List TypeParam → List HackType → List HackType → Bool
fit r [] [] [] = true
fit r (param ∷ params) (U ∷ Us) (V ∷ Vs) = varies r param.variance U V && fit r params Us Vs
fit r _ _ _ = false

-- all of them, where none is too large
abbrev pub all_small : List HackType → Option (List HackType)
all_small types = if list_all is_small types then Some types else None

-- what a class gives an ancestor of another name
abbrev pub ancestor_given : Map → ℕ → List HackType → ℕ → Option (List HackType)
ancestor_given m class arguments name =
    option_and_then all_small (option_map (map (substitute arguments)) (ancestor_by name (m (class_symbol class))))

abbrev pub class_names : Map → ℕ → ℕ → Test → List HackType → List HackType → Bool
class_names map class name r lowers uppers =
    if class == name then fit r (parameters map name) lowers uppers
    else some_and (ancestor_given map class lowers name) (λ arguments. fit r (parameters map name) arguments uppers)

abbrev pub class_types : Map → Test → Test
class_types map r S T = some_and (name_of S) (λ class. some_and (name_of T) (λ name.
    class_names map class name r (arguments_of S) (arguments_of T)))

abbrev pub from_param : Scope → Test → Test
from_param scope r S T = some_and (param_of scope S) (λ param. list_any (λ U. r U T) param.upper)

abbrev pub into_param : Scope → Test → Test
into_param scope r S T = some_and (param_of scope T) (λ param. list_any (λ U. r S U) param.lower)

-- the scope's class with its own parameters, where they aren't too many for a type
abbrev pub class_type_by : Option (ℕ × List TypeParam) → Option HackType
class_type_by (Some class) = if nat_lt (length class.1) most_nodes then Some (type.Class class.0 (own_params 0 class.1)) else None
class_type_by None = None

abbrev pub class_type_small : Scope → Option HackType
class_type_small scope = class_type_by scope.class

abbrev pub from_this : Scope → Test → Test
from_this scope r S T = is_this (top_of S) && some_and (class_type_small scope) (λ U. r U T)

-- the base that an enum is declared `as`
abbrev pub bound_of : EnumSig → Option HackType
bound_of sig = if sig.bounded then Some sig.base else None

abbrev pub bounded_base : Map → HackType → Option HackType
bounded_base map ty = option_and_then bound_of (enum_of map ty)

abbrev pub from_enum : Map → Known → Test → Test
from_enum map s r S T = is_enum s && (r type.Arraykey T || some_and (bounded_base map S) (λ base. r base T))

-- the rules and their halves that have premises
abbrev pub goes : Way → Map → Scope → Known → Known → Test → Test
goes way.IntoOption map scope s t r = into_option r
goes way.FromOption map scope s t r = from_option r
goes way.FromUnion map scope s t r = from_union r
goes way.IntoUnion map scope s t r = into_union r
goes way.Vectors map scope s t r = vectors r
goes way.Dicts map scope s t r = dicts r
goes way.Keysets map scope s t r = keysets r
goes way.IntoKeyed map scope s t r = into_keyed r
goes way.FromAlias map scope s t r = from_alias map s r
goes way.IntoAlias map scope s t r = into_alias map t r
goes way.Shapes map scope s t r = shape r
goes way.ClassTypes map scope s t r = class_types map r
goes way.FromParam map scope s t r = from_param scope r
goes way.IntoParam map scope s t r = into_param scope r
goes way.FromThis map scope s t r = from_this scope r
goes way.FromEnum map scope s t r = from_enum map s r

-- in the order in which they are tried
abbrev pub all_ways : List Way
all_ways =
    way.IntoOption ∷ way.FromOption ∷ way.FromUnion ∷ way.IntoUnion ∷ way.Vectors ∷ way.Dicts ∷ way.Keysets ∷ way.Shapes ∷ way.FromAlias
    ∷ way.IntoAlias ∷ way.ClassTypes ∷ way.FromParam ∷ way.IntoParam ∷ way.FromThis ∷ way.FromEnum ∷ way.IntoKeyed ∷ []

-- whether one of the ways goes, where this is known of the two types
abbrev pub some_way : Map → Scope → Known → Known → Test → Test
some_way map scope s t r S T = list_any (λ way. goes way map scope s t r S T) all_ways

-- whether a rule without premises that needs a lookup applies, or one of the ways goes
abbrev pub by_known : Map → Scope → Known → Known → Test → Test
by_known map scope s t r S T = is_looked s t (top_of T) || some_way map scope s t r S T

abbrev pub by_rules : Map → Scope → Test → Test
by_rules map scope r S T =
    (is_small S && is_small T) && ((same_type S T || is_plain (top_of S) (top_of T)) || by_known map scope (known map S) (known map T) r S T)

unfoldable pub is_below : Map → Scope → ℕ → HackType → HackType → Bool
is_below map scope zero S T = false
is_below map scope (suc height) S T = by_rules map scope (is_below map scope height) S T
