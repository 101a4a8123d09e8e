-- The sixteen rules of subtyping, in the order and with the words of docs/language.md, Subtyping. Each says when S is below T, where R is
-- what its premises are in.
use Rattle.std.specs.Prelude.{◌≡◌, ◌==◌, ℕ, not, ◌&&◌, ◌||◌, ◌⊎◌, Option, List, [], ◌∷◌, All, Any, find, IsTrue, IsFalse, IsSome, IsSomeAnd, MatchOption}
use Rattle.hack_types.specs.declared.fields.Field.{Field}
use Rattle.hack_types.specs.declared.hack_type.HackType.{HackType}
use Rattle.hack_types.specs.declared.hack_type.HackType.TheVariants as type
use Rattle.hack_types.specs.declared.signature.TypeParam.{TypeParam}
use Rattle.hack_types.specs.declared.signature.Variance.{Variance}
use Rattle.hack_types.specs.declared.signature.Variance.TheVariants as variance
use Rattle.hack_decls.specs.DeclState.{Map}
use Rattle.hack_sub.specs.Knowing.{enum_of, expanded, given, is_bad, is_class_like, is_enum, is_partial, known, parameters}
use Rattle.hack_sub.specs.Parts.{arguments_of, dict_parts, as_keyed, is_open, keyset_item, name_of, option_inside, shape_fields, top_of, union_members, vector_item}
use Rattle.hack_sub.specs.Scopes.{class_type, param_of}
use Rattle.hack_sub.specs.Tops.{is_any, is_made, is_mixed, is_nonnull, is_nothing, is_null, is_option, is_this, is_void, widens}
use Rattle.hack_sub.specs.declared.scope.Scope.{Scope}

abbrev pub Relation : Type 1
Relation = HackType → HackType → Type 0

-- the two are equal
abbrev pub equal : Relation
equal S T = S ≡ T

-- one of them is `_` or bad; or S is a class type that is partial, and T is a class type
abbrev pub unknown : Map → Relation
unknown map S T = IsTrue (is_any (top_of S) || is_any (top_of T) || is_bad (known map S) || is_bad (known map T)
    || (is_partial (known map S) && is_class_like (known map T)))

-- S is `nothing`; or T is `mixed`, and S isn't `void`
abbrev pub extreme : Relation
extreme S T = IsTrue (is_nothing (top_of S) || (is_mixed (top_of T) && not (is_void (top_of S))))

-- a primitive below another
abbrev pub primitive : Relation
primitive S T = IsTrue (widens (top_of S) (top_of T))

-- T is `nonnull`, and S is a container, a shape, `this`, a class type or an enum
abbrev pub not_null : Map → Relation
not_null map S T = IsTrue (is_nonnull (top_of T) && (is_made (top_of S) || is_class_like (known map S) || is_enum (known map S)))

-- S is `null`, and T is an option
abbrev pub null : Relation
null S T = IsTrue (is_null (top_of S) && is_option (top_of T))

-- T is `?U`, and S is below U
abbrev pub into_option : Relation → Relation
into_option R S T = IsSomeAnd (option_inside T) (λ U. R S U)

-- S is `?U`, and `null` and U are below T
abbrev pub from_option : Relation → Relation
from_option R S T = IsSomeAnd (option_inside S) (λ U. R type.Null T × R U T)

-- S is a union, and each member is below T
abbrev pub from_union : Relation → Relation
from_union R S T = IsSomeAnd (union_members S) (λ members. All (λ U. R U T) members)

-- T is a union, and S is below a member
abbrev pub into_union : Relation → Relation
into_union R S T = IsSomeAnd (union_members T) (λ members. Any (λ U. R S U) members)

-- both are vecs, dicts or keysets, and each argument is below its like
abbrev pub containers : Relation → Relation
containers R S T =
    IsSomeAnd (vector_item S) (λ U. IsSomeAnd (vector_item T) (λ V. R U V))
    ⊎ (IsSomeAnd (dict_parts S) (λ s. IsSomeAnd (dict_parts T) (λ t. R s.0 t.0 × R s.1 t.1))
    ⊎ IsSomeAnd (keyset_item S) (λ U. IsSomeAnd (keyset_item T) (λ V. R U V)))

-- S is a container, which as a `KeyedContainer` is below T, and T has a name
abbrev pub into_keyed : Relation → Relation
into_keyed R S T = IsSome (name_of T) × IsSomeAnd (as_keyed S) (λ U. R U T)

abbrev pub container : Relation → Relation
container R S T = containers R S T ⊎ into_keyed R S T

-- S is an alias whose body with its arguments is below T; or T is one, and S is below that of T
abbrev pub alias : Map → Relation → Relation
alias map R S T = IsSomeAnd (expanded map S) (λ U. R U T) ⊎ IsSomeAnd (expanded map T) (λ U. R S U)

abbrev pub field_at : List (Field HackType) → ℕ → Option (Field HackType)
field_at fields key = find (λ field. field.key == key) fields

-- of a field of T: where S has one of this key, that is there where T's must be, and its type is below T's; where S has none, T's may
-- be missing and S has no further fields
abbrev pub meets_field : Relation → HackType → List (Field HackType) → Field HackType → Type 0
meets_field R S fields field =
    MatchOption (field_at fields field.key)
    (IsTrue field.optional × IsFalse (is_open S))
    (λ own. (IsTrue own.optional → IsTrue field.optional) × R own.ty field.ty)

-- both are shapes: where T has no further fields, S has none either, and all of its own are in T; and S meets each field of T
abbrev pub shape : Relation → Relation
shape R S T = IsSomeAnd (shape_fields S) (λ fields. IsSomeAnd (shape_fields T) (λ others.
    (IsFalse (is_open T) → IsFalse (is_open S) × All (λ field. IsSome (field_at others field.key)) fields)
    × All (meets_field R S fields) others))

-- two arguments for one parameter, by its sign
abbrev pub varies : Relation → Variance → Relation
varies R variance.Covariant U V = R U V
varies R variance.Contravariant U V = R V U
varies R variance.Invariant U V = R U V × R V U

-- there is one argument on each side for each parameter
abbrev pub Fit : Relation → List TypeParam → List HackType → List HackType → Type 0
Fit R [] [] [] = Unit {0}
Fit R (param ∷ params) (U ∷ Us) (V ∷ Vs) = varies R param.variance U V × Fit R params Us Vs
Fit R _ _ _ = ⊥

-- S is `C<..>` and T is `D<..>`, where D is C or an ancestor of C, and what C gives D fits T's arguments by the signs that D writes
abbrev pub class_types : Map → Relation → Relation
class_types map R S T = IsSomeAnd (name_of S) (λ class. IsSomeAnd (name_of T) (λ name. IsSomeAnd (given map class (arguments_of S) name)
    (λ arguments. Fit R (parameters map name) arguments (arguments_of T))))

-- S is a type parameter, and one of its bounds behind `as` is below T; or T is one, and S is below one of its bounds behind `super`; or S
-- is `this`, and the scope's class with its own parameters is below T
abbrev pub bound : Scope → Relation → Relation
bound scope R S T =
    IsSomeAnd (param_of scope S) (λ param. Any (λ U. R U T) param.upper)
    ⊎ (IsSomeAnd (param_of scope T) (λ param. Any (λ U. R S U) param.lower)
    ⊎ (IsTrue (is_this (top_of S)) × IsSomeAnd (class_type scope) (λ U. R U T)))

-- S is an enum, and `arraykey` is below T, or it is declared `as` its base and that is
abbrev pub enum_types : Map → Relation → Relation
enum_types map R S T = IsSomeAnd (enum_of map S) (λ sig. R type.Arraykey T ⊎ (IsTrue sig.bounded × R sig.base T))
