-- The rows of this crate in the pieces that its functions are.
use Rattle.std.specs.Prelude.{ℕ, Bool, false, Option, Some, None, IfSome, List, [], ◌∷◌, All}
use Rattle.std.specs.BTreeMap.{insert_entry}
use Rattle.std.specs.Ordering.{nat_cmp}
use Rattle.hack_types.specs.Substituted.{limited}
use Rattle.hack_types.specs.UnionOf.{union_of}
use Rattle.hack_types.specs.declared.fields.Field.{Field}
use Rattle.hack_types.specs.declared.hack_type.HackType.{HackType}
use Rattle.hack_types.specs.declared.hack_type.HackType.TheVariants as type
use Rattle.hack_types.specs.declared.place.Place.{Place}
use Rattle.hack_decls.specs.DeclState.{Symbols}
use Rattle.hack_decls.specs.Names.{TypeIn}
use Rattle.hack_infer.specs.Seeing.{given}
use Rattle.hack_rules.specs.Indices.{keyed_element}
use Rattle.hack_rules.specs.Meanings.{Index}
use Rattle.hack_rules.specs.Walks.{Walk, ◌>>=◌, ◌>>◌, expect, pure, reads}
use Rattle.hack_shallow.specs.Resolved.{in_order, with_fields}
use Rattle.hack_sub.specs.Parts.{keyed_container}
use Rattle.hack_targets.specs.AimIn.{IndexIn}
use Rattle.hack_targets.specs.declared.steps.Step.{Step}

-- what a base and an index name
abbrev pub BaseIn : Symbols → HackType → Option Index → Type 0
BaseIn symbols base index = TypeIn symbols base × IfSome index (IndexIn symbols)

-- what a step names
abbrev pub StepIn : Symbols → Step → Type 0
StepIn symbols step = BaseIn symbols step.ty step.index

-- what a dict, what it gets and its index name
pub record DictIn (symbols : Symbols) (K V T : HackType) (typed : Option Index) : Type 0 where
  pub key : TypeIn symbols K
  pub value : TypeIn symbols V
  pub new : TypeIn symbols T
  pub index : IfSome typed (IndexIn symbols)

-- what the fields of a shape and what it gets name
pub record ShapeIn (symbols : Symbols) (own : List (Field HackType)) (T : HackType) : Type 0 where
  pub fields : All (λ field. TypeIn symbols field.ty) own
  pub new : TypeIn symbols T

-- what an index and arguments name
pub record KeyedIn (symbols : Symbols) (typed : Index) (given : Option (List HackType)) : Type 0 where
  pub index : IndexIn symbols typed
  pub arguments : IfSome given (All (TypeIn symbols))

-- a class with these arguments by what it is as a `KeyedContainer`
unfoldable pub named_element : Place → HackType → Index → ℕ → List HackType → Walk HackType
named_element at head index name own = do
  arguments ← reads (λ map scope. given map name own keyed_container)
  keyed_element at head index arguments

-- two arguments
abbrev pub pair_of : List HackType → Option (HackType × HackType)
pair_of (key ∷ value ∷ []) = Some (key, value)
pair_of _ = None

-- ---- what bases become

abbrev pub vector_made : HackType → HackType → HackType
vector_made item new = limited (type.Vector (union_of (item ∷ new ∷ [])))

abbrev pub keyset_made : HackType → HackType → HackType
keyset_made item new = limited (type.Keyset (union_of (item ∷ new ∷ [])))

abbrev pub dict_made : HackType → HackType → HackType → HackType → HackType
dict_made key new_key value new = limited (type.Dict (union_of (key ∷ new_key ∷ [])) (union_of (value ∷ new ∷ [])))

abbrev pub shape_made : List (Field HackType) → Bool → ℕ → HackType → HackType
shape_made fields rest key new = limited (type.Shape (in_order (insert_entry nat_cmp (with_fields [] fields) key (false, new))) rest)

-- a dict once it has a value under this index
unfoldable pub dict_at : HackType → HackType → HackType → Index → Walk HackType
dict_at key value new index = do
  expect index.at type.Arraykey index.ty
  pure (dict_made key index.ty value new)

-- a keyset once it has this value
unfoldable pub keyset_behind : Place → HackType → HackType → Walk HackType
keyset_behind value_at item new = do
  expect value_at type.Arraykey new
  pure (keyset_made item new)
