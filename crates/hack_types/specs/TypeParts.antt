-- A type as its head, which says what it is apart from the types inside it, and these types (docs/language.md, Types and their
-- texts).
use Rattle.std.specs.Prelude.{List, [], ◌∷◌}
use Rattle.hack_types.specs.declared.fields.Field.{Field}
use Rattle.hack_types.specs.declared.hack_type.HackType.{HackType, out-HackType}
use Rattle.hack_types.specs.declared.hack_type.HackType.TheOpen.{HackType-F}
use Rattle.hack_types.specs.declared.type_same.Head.{Head}
use Rattle.hack_types.specs.declared.type_same.Head.TheVariants as head

abbrev pub head_by : {T : Type 0} → HackType-F T → Head
head_by HackType-F.Any = head.Any
head_by HackType-F.Mixed = head.Mixed
head_by HackType-F.Nonnull = head.Nonnull
head_by HackType-F.Nothing = head.Nothing
head_by HackType-F.Null = head.Null
head_by HackType-F.Void = head.Void
head_by HackType-F.Noreturn = head.Noreturn
head_by HackType-F.Bool = head.Bool
head_by HackType-F.Int = head.Int
head_by HackType-F.Float = head.Float
head_by HackType-F.Num = head.Num
head_by HackType-F.Str = head.Str
head_by HackType-F.Arraykey = head.Arraykey
head_by HackType-F.This = head.This
head_by (HackType-F.Option inside) = head.Option
head_by (HackType-F.Vector item) = head.Vector
head_by (HackType-F.Dict key value) = head.Dict
head_by (HackType-F.Keyset item) = head.Keyset
head_by (HackType-F.Shape fields rest) = head.Shape rest
head_by (HackType-F.Class name arguments) = head.Class name
head_by (HackType-F.ClassParam position name) = head.ClassParam position name
head_by (HackType-F.FunParam position name) = head.FunParam position name
head_by (HackType-F.Union members) = head.Union

-- the types inside, in their order; of a dict, that of its keys
abbrev pub types_by : {T : Type 0} → HackType-F T → List T
types_by (HackType-F.Option inside) = inside ∷ []
types_by (HackType-F.Vector item) = item ∷ []
types_by (HackType-F.Dict key value) = key ∷ []
types_by (HackType-F.Keyset item) = item ∷ []
types_by (HackType-F.Class name arguments) = arguments
types_by (HackType-F.Union members) = members
types_by _ = []

-- of a dict, the type of its values
abbrev pub values_by : {T : Type 0} → HackType-F T → List T
values_by (HackType-F.Dict key value) = value ∷ []
values_by _ = []

-- of a shape, its fields
abbrev pub fields_by : {T : Type 0} → HackType-F T → List (Field T)
fields_by (HackType-F.Shape fields rest) = fields
fields_by _ = []

abbrev pub head_of : HackType → Head
head_of type = head_by (out-HackType type)

abbrev pub types_of : HackType → List HackType
types_of type = types_by (out-HackType type)

abbrev pub values_of : HackType → List HackType
values_of type = values_by (out-HackType type)

abbrev pub fields_of : HackType → List (Field HackType)
fields_of type = fields_by (out-HackType type)
