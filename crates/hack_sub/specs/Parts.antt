-- What a type is, and the types inside it (docs/language.md, Types and their texts).
use Rattle.std.specs.Prelude.{ℕ, Bool, false, Option, Some, None, List, [], ◌∷◌}
use Rattle.hack_types.specs.declared.fields.Field.{Field}
use Rattle.hack_types.specs.declared.hack_type.HackType.{HackType, out-HackType}
use Rattle.hack_types.specs.declared.hack_type.HackType.TheOpen.{HackType-F}
use Rattle.hack_types.specs.declared.hack_type.HackType.TheVariants as type
use Rattle.hack_sub.specs.declared.top.Top.{Top}
use Rattle.hack_sub.specs.declared.top.Top.TheVariants as top

abbrev pub top_by : {T : Type 0} → HackType-F T → Top
top_by HackType-F.Any = top.Any
top_by HackType-F.Mixed = top.Mixed
top_by HackType-F.Nonnull = top.Nonnull
top_by HackType-F.Nothing = top.Nothing
top_by HackType-F.Null = top.Null
top_by HackType-F.Void = top.Void
top_by HackType-F.Bool = top.Bool
top_by HackType-F.Int = top.Int
top_by HackType-F.Float = top.Float
top_by HackType-F.Num = top.Num
top_by HackType-F.Str = top.Str
top_by HackType-F.Arraykey = top.Arraykey
top_by HackType-F.This = top.This
top_by (HackType-F.Option inside) = top.Option
top_by (HackType-F.Vector item) = top.Container
top_by (HackType-F.Dict key value) = top.Container
top_by (HackType-F.Keyset item) = top.Container
top_by (HackType-F.Shape fields rest) = top.Shape
top_by _ = top.Other

abbrev pub top_of : HackType → Top
top_of ty = top_by (out-HackType ty)

-- the type inside `?`
abbrev pub option_by : {T : Type 0} → HackType-F T → Option T
option_by (HackType-F.Option inside) = Some inside
option_by _ = None

abbrev pub option_inside : HackType → Option HackType
option_inside ty = option_by (out-HackType ty)

abbrev pub members_by : {T : Type 0} → HackType-F T → Option (List T)
members_by (HackType-F.Union members) = Some members
members_by _ = None

abbrev pub union_members : HackType → Option (List HackType)
union_members ty = members_by (out-HackType ty)

abbrev pub vector_by : {T : Type 0} → HackType-F T → Option T
vector_by (HackType-F.Vector item) = Some item
vector_by _ = None

abbrev pub vector_item : HackType → Option HackType
vector_item ty = vector_by (out-HackType ty)

abbrev pub keyset_by : {T : Type 0} → HackType-F T → Option T
keyset_by (HackType-F.Keyset item) = Some item
keyset_by _ = None

abbrev pub keyset_item : HackType → Option HackType
keyset_item ty = keyset_by (out-HackType ty)

-- the types of the keys and of the values of a dict
abbrev pub dict_by : {T : Type 0} → HackType-F T → Option (T × T)
dict_by (HackType-F.Dict key value) = Some (key, value)
dict_by _ = None

abbrev pub dict_parts : HackType → Option (HackType × HackType)
dict_parts ty = dict_by (out-HackType ty)

-- the id of the name `KeyedContainer`
abbrev pub keyed_container : ℕ
keyed_container = 3

abbrev pub keyed : HackType → HackType → HackType
keyed key value = type.Class keyed_container (key ∷ value ∷ [])

-- a container as a `KeyedContainer`
abbrev pub keyed_by : HackType-F HackType → Option HackType
keyed_by (HackType-F.Vector item) = Some (keyed type.Int item)
keyed_by (HackType-F.Dict key value) = Some (keyed key value)
keyed_by (HackType-F.Keyset item) = Some (keyed item item)
keyed_by _ = None

abbrev pub as_keyed : HackType → Option HackType
as_keyed ty = keyed_by (out-HackType ty)

abbrev pub fields_by : {T : Type 0} → HackType-F T → Option (List (Field T))
fields_by (HackType-F.Shape fields rest) = Some fields
fields_by _ = None

abbrev pub shape_fields : HackType → Option (List (Field HackType))
shape_fields ty = fields_by (out-HackType ty)

-- whether the type is a shape with `...`
abbrev pub open_by : {T : Type 0} → HackType-F T → Bool
open_by (HackType-F.Shape fields rest) = rest
open_by _ = false

abbrev pub is_open : HackType → Bool
is_open ty = open_by (out-HackType ty)

-- the name of a class, an interface, a trait, an enum or an alias
abbrev pub name_by : {T : Type 0} → HackType-F T → Option ℕ
name_by (HackType-F.Class name arguments) = Some name
name_by _ = None

abbrev pub name_of : HackType → Option ℕ
name_of ty = name_by (out-HackType ty)

-- its arguments
abbrev pub arguments_by : {T : Type 0} → HackType-F T → List T
arguments_by (HackType-F.Class name arguments) = arguments
arguments_by _ = []

abbrev pub arguments_of : HackType → List HackType
arguments_of ty = arguments_by (out-HackType ty)
