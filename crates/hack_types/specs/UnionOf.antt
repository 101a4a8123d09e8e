-- The type of a value of one of some types (docs/language.md, Types and their texts). The types are in the form that `option_of`,
-- `union_of` and `substitute` leave: what is inside `?` is no `?`, and the members of a union are neither unions nor `?` nor `null`.
use Rattle.std.specs.Prelude.{ℕ, Bool, true, false, ◌||◌, if◌then◌else◌, nat_lt, List, [], ◌∷◌, ◌++◌, length}
use Rattle.std.specs.List.{flat_map, fold, list_any}
use Rattle.hack_types.specs.OptionOf.{option_of}
use Rattle.hack_types.specs.SameType.{same_type}
use Rattle.hack_types.specs.declared.hack_type.HackType.{HackType, out-HackType}
use Rattle.hack_types.specs.declared.hack_type.HackType.TheOpen.{HackType-F}
use Rattle.hack_types.specs.declared.hack_type.HackType.TheVariants.{Any, Mixed, Nothing, Union}

-- of a union its members, of `nothing` and `null` none, and any other type itself
abbrev pub members_by : HackType → HackType-F HackType → List HackType
members_by type (HackType-F.Union members) = members
members_by type HackType-F.Nothing = []
members_by type HackType-F.Null = []
members_by type _ = type ∷ []

-- of `?T` those of T
abbrev pub parts_by : HackType → HackType-F HackType → List HackType
parts_by type (HackType-F.Option inside) = members_by inside (out-HackType inside)
parts_by type layer = members_by type layer

abbrev pub parts_of : HackType → List HackType
parts_of type = parts_by type (out-HackType type)

-- `null` and `?T` have null
abbrev pub null_by : HackType-F HackType → Bool
null_by HackType-F.Null = true
null_by (HackType-F.Option inside) = true
null_by _ = false

abbrev pub has_null : HackType → Bool
has_null type = null_by (out-HackType type)

-- one more type behind those before it, where it isn't among them
abbrev pub with_part : List HackType → HackType → List HackType
with_part before type = if list_any (same_type type) before then before else before ++ type ∷ []

-- each type once, at its first place
unfoldable pub once : List HackType → List HackType
once types = fold with_part [] types

-- the type of a value of one of these, which differ
abbrev pub joined : List HackType → HackType
joined [] = Nothing
joined (type ∷ []) = type
joined (type ∷ other ∷ more) = Union (type ∷ other ∷ more)

-- how many members a union may have
abbrev pub most_members : ℕ
most_members = 8

-- with a `_` it is `_`; else with a `mixed`, or where there are more members than a union may have, it is `mixed`
abbrev pub joined_within : List HackType → HackType
joined_within parts =
    if list_any (same_type Any) parts then Any
    else (if list_any (same_type Mixed) parts || nat_lt most_members (length (once parts)) then Mixed else joined (once parts))

-- null joins as `option_of` says, which leaves `_` and `mixed` as they are
unfoldable pub union_of : List HackType → HackType
union_of types = if list_any has_null types then option_of (joined_within (flat_map parts_of types)) else joined_within (flat_map parts_of types)
