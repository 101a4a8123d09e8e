-- Index, as a value and as a target (docs/language.md, Typing expressions, Index).
use Rattle.std.specs.Prelude.{ℕ, ◌==◌, Bool, true, false, Option, Some, None, List, [], ◌∷◌, ◌++◌, find}
use Rattle.hack_types.specs.OptionOf.{option_of}
use Rattle.hack_types.specs.UnionOf.{union_of}
use Rattle.hack_types.specs.declared.fields.Field.{Field}
use Rattle.hack_types.specs.declared.hack_type.HackType.{HackType, out-HackType}
use Rattle.hack_types.specs.declared.hack_type.HackType.TheOpen.{HackType-F}
use Rattle.hack_types.specs.declared.hack_type.HackType.TheVariants as type
use Rattle.hack_types.specs.declared.place.Place.{Place}
use Rattle.hack_shallow.specs.Resolved.{last_fields}
use Rattle.hack_types.specs.Substituted.{limited}
use Rattle.hack_sub.specs.Parts.{keyed_container}
use Rattle.hack_rules.specs.Heads.{head_of}
use Rattle.hack_infer.specs.Seeing.{seen_as}
use Rattle.hack_rules.specs.Meanings.{Index}
use Rattle.hack_diag.specs.Messages.{field_may_miss, may_be_null, no_field, not_indexed}
use Rattle.hack_rules.specs.Walks.{Walk, ◌>>=◌, ◌>>◌, pure, reads, expect, refuse, report}

-- ---- as a value

-- the index expects the key, and the element has this type
unfoldable pub element_at : Index → HackType → HackType → Walk HackType
element_at index key value = do
  expect index.at key index.ty
  pure (limited value)

-- a field of a shape: one that may be missing is an option in the left of `??`, and else 4015 and the field's type
abbrev pub optional_field : Place → Bool → Field HackType → Bool → Walk HackType
optional_field at left field false = pure field.ty
optional_field at true field true = pure (limited (option_of field.ty))
optional_field at false field true = do
  report at (field_may_miss field.key)
  pure field.ty

-- the field of a key, else 4014
abbrev pub field_or : Place → Bool → ℕ → Option (Field HackType) → Walk HackType
field_or at left key (Some field) = optional_field at left field field.optional
field_or at left key None = refuse at (no_field key)

-- a shape takes a key string
abbrev pub shape_element : Place → Bool → HackType → List (Field HackType) → Option ℕ → Walk HackType
shape_element at left head fields (Some key) = field_or at left key (find (λ field. field.key == key) fields)
shape_element at left head fields None = refuse at (not_indexed head)

-- a class below `KeyedContainer` is indexed by its key
abbrev pub keyed_element : Place → HackType → Index → Option (List HackType) → Walk HackType
keyed_element at head index (Some (key ∷ value ∷ [])) = element_at index key value
keyed_element at head index _ = refuse at (not_indexed head)

-- a class by what it is as a `KeyedContainer`
unfoldable pub class_element : Place → HackType → Index → Walk HackType
class_element at head index = do
  arguments ← reads (λ map scope. seen_as map keyed_container head)
  keyed_element at head index arguments

-- by the head, with an index
abbrev pub indexed_by : Place → Bool → HackType → Index → HackType-F HackType → Walk HackType
indexed_by at left head index (HackType-F.Vector item) = element_at index type.Int item
indexed_by at left head index HackType-F.Str = element_at index type.Int type.Str
indexed_by at left head index (HackType-F.Dict key value) = element_at index key value
indexed_by at left head index (HackType-F.Keyset item) = element_at index item item
indexed_by at left head index (HackType-F.Shape fields rest) = shape_element at left head fields index.key
indexed_by at left head index (HackType-F.Class name arguments) = class_element at head index
indexed_by at left head index _ = refuse at (not_indexed head)

-- without an index nothing else has an element
abbrev pub element_or : Place → Bool → HackType → Option Index → Walk HackType
element_or at left head (Some index) = indexed_by at left head index (out-HackType head)
element_or at left head None = refuse at (not_indexed head)

-- `_` gives `_`, and an option and null are 4010
abbrev pub element_by : Place → Bool → HackType → Option Index → HackType-F HackType → Walk HackType
element_by at left head index HackType-F.Any = pure type.Any
element_by at left head index (HackType-F.Option inside) = refuse at may_be_null
element_by at left head index HackType-F.Null = refuse at may_be_null
element_by at left head index _ = element_or at left head index

-- the element of a base of this type; whether it stands in the left of `??`
unfoldable pub element : Place → Bool → HackType → Option Index → Walk HackType
element at left base index = do
  head ← reads (λ map scope. head_of map scope base)
  element_by at left head index (out-HackType head)

-- ---- as a target

-- an index expects this type, where there is one
abbrev pub expect_index : HackType → Option Index → Walk (Unit {0})
expect_index key None = pure tt
expect_index key (Some index) = expect index.at key index.ty

-- a vec takes int, and values behind its last one
unfoldable pub vector_with : HackType → HackType → Option Index → Walk HackType
vector_with item new index = do
  expect_index type.Int index
  pure (limited (type.Vector (union_of (item ∷ new ∷ []))))

-- a dict takes arraykeys
unfoldable pub dict_with : Place → HackType → HackType → HackType → HackType → Option Index → Walk HackType
dict_with at head key value new None = refuse at (not_indexed head)
dict_with at head key value new (Some index) = do
  expect index.at type.Arraykey index.ty
  pure (limited (type.Dict (union_of (key ∷ index.ty ∷ [])) (union_of (value ∷ new ∷ []))))

-- a keyset takes values behind its last one alone
unfoldable pub keyset_with : Place → Place → HackType → HackType → HackType → Option Index → Walk HackType
keyset_with at value_at head item new (Some index) = refuse at (not_indexed head)
keyset_with at value_at head item new None = do
  expect value_at type.Arraykey new
  pure (limited (type.Keyset (union_of (item ∷ new ∷ []))))

-- the field of a key has the new type, and must be there
abbrev pub fields_with : List (Field HackType) → ℕ → HackType → List (Field HackType)
fields_with fields key new = last_fields (fields ++ record { key = key; optional = false; ty = new } ∷ [])

-- the key string of an index
abbrev pub key_of : Option Index → Option ℕ
key_of None = None
key_of (Some index) = index.key

-- a shape takes a key string
abbrev pub shape_with : Place → HackType → List (Field HackType) → Bool → HackType → Option ℕ → Walk HackType
shape_with at head fields rest new None = refuse at (not_indexed head)
shape_with at head fields rest new (Some key) = pure (limited (type.Shape (fields_with fields key new) rest))

-- by the head
abbrev pub with_element_by : Place → Place → HackType → HackType → Option Index → HackType-F HackType → Walk HackType
with_element_by at value_at head new index HackType-F.Any = pure type.Any
with_element_by at value_at head new index (HackType-F.Vector item) = vector_with item new index
with_element_by at value_at head new index (HackType-F.Dict key value) = dict_with at head key value new index
with_element_by at value_at head new index (HackType-F.Keyset item) = keyset_with at value_at head item new index
with_element_by at value_at head new index (HackType-F.Shape fields rest) = shape_with at head fields rest new (key_of index)
with_element_by at value_at head new index _ = refuse at (not_indexed head)

-- what a base of this type becomes where an element of it gets a type; the second place is that of what is assigned
unfoldable pub with_element : Place → Place → HackType → Option Index → HackType → Walk HackType
with_element at value_at base index new = do
  head ← reads (λ map scope. head_of map scope base)
  with_element_by at value_at head new index (out-HackType head)
