-- How a type is written in a text of the report (docs/language.md, Types and their texts).
use Rattle.std.specs.Prelude.{ℕ, Bool, if◌then◌else◌, List, [], ◌∷◌, ◌++◌, map, codes, slice_get}
use Rattle.std.specs.List.{fold, join_by}
use Rattle.std.specs.Option.{unwrap_or}
use Rattle.std.specs.BTreeMap.{insert_entry}
use Rattle.std.specs.Map.{values_of}
use Rattle.hack_base.specs.Files.{byte_order}
use Rattle.hack_types.specs.declared.fields.Field.{Field}
use Rattle.hack_types.specs.declared.hack_type.HackType.{HackType}
use Rattle.hack_types.specs.declared.hack_type.HackType.TheOpen.{HackType-F}
use Rattle.hack_types.specs.declared.hack_type.HackType.TheFolds.{fold-HackType}

-- the texts in a row, with this one between each two
abbrev pub joined : List ℕ → List (List ℕ) → List ℕ
joined between texts = join_by (λ text. text) between texts

-- the text of the name of this id
abbrev pub name_text : List (List ℕ) → ℕ → List ℕ
name_text names name = unwrap_or (slice_get names name) []

-- the fields, each at the text of its key, in the order of the bytes of these: each goes to its place among those before it
abbrev pub placed : {T : Type 0} → List (List ℕ) → List (Field T) → List (List ℕ × Field T)
placed names fields = fold (λ entries field. insert_entry byte_order entries (name_text names field.key) field) [] fields

abbrev pub by_key : {T : Type 0} → List (List ℕ) → List (Field T) → List (Field T)
by_key names fields = values_of (placed names fields)

-- `'key' => `, with `?` before it where the field may be missing
abbrev pub key_text : List ℕ → Bool → List ℕ
key_text key optional = (if optional then codes "?" else []) ++ codes "'" ++ key ++ codes "' => "

-- `'key' => T`
abbrev pub field_text : List (List ℕ) → Field (List ℕ) → List ℕ
field_text names field = key_text (name_text names field.key) field.optional ++ field.ty

-- what stands last in a shape that may have further fields
abbrev pub rest_text : Bool → List (List ℕ)
rest_text rest = if rest then codes "..." ∷ [] else []

-- `shape(..)`, with its fields in the order of their keys
abbrev pub shape_text : List (List ℕ) → List (Field (List ℕ)) → Bool → List ℕ
shape_text names fields rest = codes "shape(" ++ joined (codes ", ") (map (field_text names) (by_key names fields) ++ rest_text rest) ++ codes ")"

-- `<A, B>`, and nothing where there are no arguments
abbrev pub arguments_text : List (List ℕ) → List ℕ
arguments_text [] = []
arguments_text (argument ∷ arguments) = codes "<" ++ joined (codes ", ") (argument ∷ arguments) ++ codes ">"

-- the word of a type that is a word, and nothing for others
abbrev pub word_by : {T : Type 0} → HackType-F T → List ℕ
word_by HackType-F.Any = codes "_"
word_by HackType-F.Mixed = codes "mixed"
word_by HackType-F.Nonnull = codes "nonnull"
word_by HackType-F.Nothing = codes "nothing"
word_by HackType-F.Null = codes "null"
word_by HackType-F.Void = codes "void"
word_by HackType-F.Noreturn = codes "noreturn"
word_by HackType-F.Bool = codes "bool"
word_by HackType-F.Int = codes "int"
word_by HackType-F.Float = codes "float"
word_by HackType-F.Num = codes "num"
word_by HackType-F.Str = codes "string"
word_by HackType-F.Arraykey = codes "arraykey"
word_by HackType-F.This = codes "this"
word_by _ = []

-- one constructor, with the text of each type inside in its place
abbrev pub text_by : List (List ℕ) → HackType-F (List ℕ) → List ℕ
text_by names (HackType-F.Option inside) = codes "?" ++ inside
text_by names (HackType-F.Vector item) = codes "vec<" ++ item ++ codes ">"
text_by names (HackType-F.Dict key value) = codes "dict<" ++ key ++ codes ", " ++ value ++ codes ">"
text_by names (HackType-F.Keyset item) = codes "keyset<" ++ item ++ codes ">"
text_by names (HackType-F.Shape fields rest) = shape_text names fields rest
text_by names (HackType-F.Class name arguments) = name_text names name ++ arguments_text arguments
text_by names (HackType-F.ClassParam position name) = name_text names name
text_by names (HackType-F.FunParam position name) = name_text names name
text_by names (HackType-F.Union members) = codes "(" ++ joined (codes "|") members ++ codes ")"
text_by names type = word_by type

abbrev pub type_text : List (List ℕ) → HackType → List ℕ
type_text names = fold-HackType (List ℕ) (text_by names)
