-- The rows of this crate in the pieces that its functions are.
use Rattle.std.specs.Prelude.{ℕ, ◌≡◌, Bool, false, cond, not, Option, Some, None, if◌then◌else◌, List, [], ◌∷◌}
use Rattle.std.specs.BTreeMap.{BTreeMap, get, insert_entry}
use Rattle.std.specs.Ordering.{is_eq, nat_cmp}
use Rattle.hack_shallow.specs.Resolved.{container_type, in_order}
use Rattle.hack_tree.specs.declared.expression.Entry.{Entry}
use Rattle.hack_tree.specs.declared.expression.Expr.{Expr}
use Rattle.hack_tree.specs.declared.expression.FieldValue.{FieldValue}
use Rattle.hack_tree.specs.declared.expression.TestOperator.{TestOperator}
use Rattle.hack_tree.specs.declared.expression.TestOperator.TheVariants as test
use Rattle.hack_tree.specs.declared.expression.TypeTest.{TypeTest}
use Rattle.hack_tree.specs.declared.written_type.Container.{Container}
use Rattle.hack_tree.specs.declared.written_type.Container.TheVariants as container
use Rattle.hack_types.specs.Substituted.{limited}
use Rattle.hack_types.specs.UnionOf.{union_of}
use Rattle.hack_types.specs.declared.hack_type.HackType.{HackType}
use Rattle.hack_types.specs.declared.hack_type.HackType.TheVariants as type
use Rattle.hack_types.specs.declared.place.Place.{Place}
use Rattle.hack_decls.specs.DeclState.{Symbols}
use Rattle.hack_decls.specs.Names.{TypeIn}
use Rattle.hack_decls.specs.declared.answers.HeadingAnswer.{HeadingAnswer}
use Rattle.hack_decls.specs.declared.answers.HeadingAnswer.TheVariants as heading
use Rattle.hack_decls.specs.declared.folded.Folded.{Folded}
use Rattle.hack_decls.specs.declared.folded.Folded.TheVariants as folded
use Rattle.hack_diag.specs.Messages.{field_twice, unbound_constant}
use Rattle.hack_rules.specs.Classes.{scope_class, this_type}
use Rattle.hack_rules.specs.Expressions.{meaning_of}
use Rattle.hack_rules.specs.Meanings.{Branches}
use Rattle.hack_rules.specs.Refining.{tested_branches}
use Rattle.hack_rules.specs.WrittenTypes.{written}
use Rattle.hack_rules.specs.Walks.{Walk, ◌>>=◌, ◌>>◌, expect, for_pairs, pure, refuse, unless}
use Rattle.hack_sub.specs.declared.scope.Scope.{Scope}

-- what `$this` is
abbrev pub this_of : Scope → Option HackType
this_of scope = if scope.in_static then None else this_type (scope_class scope)

-- ---- constants

-- the type of a constant, of what is declared
abbrev pub constant_by : Option Folded → Option HackType
constant_by (Some (folded.Constant ty)) = Some ty
constant_by _ = None

-- the same of what a lookup answers
abbrev pub constant_in : HeadingAnswer → Option HackType
constant_in (heading.Constant ty) = Some ty
constant_in _ = None

-- its type, else 4003
abbrev pub declared_or : Place → ℕ → Option HackType → Walk HackType
declared_or at name (Some ty) = pure ty
declared_or at name None = refuse at (unbound_constant name)

-- ---- containers

-- an element of a keyset, or a key of a dict
abbrev pub expect_key : Expr → HackType → Walk (Unit {0})
expect_key e ty = expect (meaning_of e).at type.Arraykey ty

-- the elements of a keyset, which have these types
abbrev pub expect_keys : List Expr → List HackType → Walk (Unit {0})
expect_keys elements types = for_pairs expect_key elements types

-- those of a vec are whatever they are
abbrev pub expect_elements : Container → List Expr → List HackType → Walk (Unit {0})
expect_elements container.Vec elements types = pure tt
expect_elements container.Keyset elements types = expect_keys elements types

-- the container whose elements have these types
abbrev pub container_of : Container → List HackType → HackType
container_of container types = limited (container_type container (union_of types))

-- what goes on once the elements have these types
unfoldable pub contained : Container → List Expr → List HackType → Walk HackType
contained container elements types = do
  expect_elements container elements types
  pure (container_of container types)

-- ---- dicts

-- all that two types name is among these symbols
pub record TypesIn (symbols : Symbols) (types : HackType × HackType) : Type 0 where
  pub key : TypeIn symbols types.0
  pub value : TypeIn symbols types.1

-- the type of a key
unfoldable pub key_type : Expr → Walk HackType
key_type key = do
  ty ← (meaning_of key).walk
  expect_key key ty
  pure ty

-- the types of an entry
unfoldable pub entry_types : Entry → Walk (HackType × HackType)
entry_types entry = do
  key ← key_type entry.key
  value ← (meaning_of entry.value).walk
  pure (key, value)

-- the dict whose keys and values have these types
abbrev pub dict_of : List HackType → List HackType → HackType
dict_of keys values = limited (type.Dict (union_of keys) (union_of values))

-- ---- shapes

-- the type of a field; 4023 where its key was given before
unfoldable pub field_type : FieldValue → Bool → Walk HackType
field_type field given = do
  unless (not given) field.key_at (field_twice field.key)
  (meaning_of field.value).walk

-- a type is put under its key
pub record IsPut (before : BTreeMap ℕ (Bool × HackType)) (key : ℕ) (ty : HackType) (after : BTreeMap ℕ (Bool × HackType)) : Type 0 where
  pub entries : after.entries ≡ insert_entry nat_cmp before.entries key (false, ty)
  pub found : (query : ℕ) → get nat_cmp after query ≡ cond (is_eq (nat_cmp key query)) (Some (false, ty)) (get nat_cmp before query)

-- the shape with the fields under these keys
abbrev pub shape_of : List (ℕ × (Bool × HackType)) → HackType
shape_of entries = limited (type.Shape (in_order entries) false)

-- ---- tests

-- a test that is an `is`
abbrev pub is_of : TypeTest → TestOperator → Option TypeTest
is_of t test.Is = Some t
is_of t _ = None

-- the test, where it is one `is` alone
abbrev pub only_is : List TypeTest → Option TypeTest
only_is (t ∷ []) = is_of t t.operator
only_is _ = None

-- what an `is` says of a variable
unfoldable pub branches_of : Option ℕ → TypeTest → Walk Branches
branches_of subject t = do
  tested ← written t.tested
  tested_branches subject tested
