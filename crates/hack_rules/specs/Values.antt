-- Expressions that are values by themselves: literals, variables, `$this`, brackets, containers, shapes, constants, tests and casts
-- (docs/language.md, Typing expressions).
use Rattle.std.specs.Prelude.{ℕ, not, Bool, true, false, if◌then◌else◌, Option, Some, None, List, [], ◌∷◌, ◌++◌, map, codes}
use Rattle.std.specs.List.{flat_map}
use Rattle.hack_tree.specs.declared.expression.CastType.{CastType}
use Rattle.hack_tree.specs.declared.expression.CastType.TheVariants as cast
use Rattle.hack_tree.specs.declared.expression.Literal.{Literal}
use Rattle.hack_tree.specs.declared.expression.Literal.TheVariants as literal
use Rattle.hack_tree.specs.declared.expression.TestOperator.{TestOperator}
use Rattle.hack_tree.specs.declared.expression.TestOperator.TheVariants as test
use Rattle.hack_tree.specs.declared.expression.TypeTest.{TypeTest}
use Rattle.hack_tree.specs.declared.written_type.Container.{Container}
use Rattle.hack_tree.specs.declared.written_type.Container.TheVariants as container
use Rattle.hack_types.specs.OptionOf.{option_of}
use Rattle.hack_types.specs.UnionOf.{union_of}
use Rattle.hack_types.specs.declared.fields.Field.{Field}
use Rattle.hack_types.specs.declared.hack_type.HackType.{HackType}
use Rattle.hack_types.specs.declared.hack_type.HackType.TheVariants as type
use Rattle.hack_types.specs.declared.ids.Kind.TheVariants.{Const}
use Rattle.hack_types.specs.declared.place.Place.{Place}
use Rattle.hack_shallow.specs.Resolved.{last_fields}
use Rattle.hack_types.specs.Substituted.{limited}
use Rattle.hack_decls.specs.declared.folded.Folded.{Folded}
use Rattle.hack_decls.specs.declared.folded.Folded.TheVariants as folded
use Rattle.hack_rules.specs.Calls.{arguments_of}
use Rattle.hack_rules.specs.Classes.{this_type, scope_class}
use Rattle.hack_rules.specs.Meanings.{Branches, Meaning, no_aim, plain, plain_branches, variable as variable_aim}
use Rattle.hack_diag.specs.Messages.{field_twice, not_allowed, unbound_constant}
use Rattle.hack_rules.specs.Refining.{bare_branches, behind_as, tested_branches}
use Rattle.hack_rules.specs.Targets.{look_up}
use Rattle.hack_rules.specs.Walks.{Walk, ◌>>=◌, ◌>>◌, pure, reads, expect, for_each, refuse, replace, unless}
use Rattle.hack_rules.specs.WrittenTypes.{Argument, is_key_of, written}

-- what is assigned in any of these
abbrev pub assigned_in_all : List Meaning → List ℕ
assigned_in_all meanings = flat_map (λ m. m.assigned) meanings

-- ---- literals

-- a literal's primitive
abbrev pub literal_type : Literal → HackType
literal_type literal.Int = type.Int
literal_type literal.Float = type.Float
literal_type literal.Text = type.Str
literal_type (literal.KeyText key) = type.Str
literal_type literal.True = type.Bool
literal_type literal.False = type.Bool
literal_type literal.Null = type.Null

-- comparisons with `null` refine
abbrev pub is_null_literal : Literal → Bool
is_null_literal literal.Null = true
is_null_literal _ = false

-- key strings name fields
abbrev pub key_literal : Literal → Option ℕ
key_literal (literal.KeyText key) = Some key
key_literal _ = None

-- its primitive
abbrev pub literal_value : Place → Literal → Meaning
literal_value at l = record (plain at (pure (literal_type l)) []) { is_null = is_null_literal l; key = key_literal l }

-- ---- variables

-- a bare variable as a condition
unfoldable pub variable_branches : Place → ℕ → Walk Branches
variable_branches at name = do
  look_up at name
  bare_branches name

-- the environment's type, else 4005 and `_`
abbrev pub variable_value : Place → ℕ → Meaning
variable_value at name = record (plain at (look_up at name) []) {
  branches = variable_branches at name;
  aim = pure (variable_aim at name);
  left_aim = pure (variable_aim at name);
  subject = Some name;
  roots = name ∷ [];
}

-- its type, else 4020
abbrev pub this_or : Place → Option HackType → Walk HackType
this_or at (Some ty) = pure ty
this_or at None = refuse at (not_allowed (codes "$this"))

-- `this` in a method that isn't static, else 4020 and `_`
unfoldable pub this_row : Place → Walk HackType
this_row at = do
  ty ← reads (λ map scope. if scope.in_static then None else this_type (scope_class scope))
  this_or at ty

-- `$this`
abbrev pub this_value : Place → Meaning
this_value at = plain at (this_row at) []

-- ---- brackets

-- what stands in them, but no target and no key string
abbrev pub bracketed : Place → Meaning → Meaning
bracketed at inner = record (plain at inner.walk inner.assigned) {
  left = inner.left;
  branches = inner.branches;
  left_aim = no_aim at inner.left;
  subject = inner.subject;
  is_null = inner.is_null;
}

-- ---- containers and shapes

-- the types of arguments
abbrev pub types_of : List Argument → List HackType
types_of arguments = map (λ a. a.ty) arguments

-- of the union of the elements; those of a keyset expect arraykey
unfoldable pub container_row : Container → List Meaning → Walk HackType
container_row container.Vec elements = do
  given ← arguments_of elements
  pure (limited (type.Vector (union_of (types_of given))))
container_row container.Keyset elements = do
  given ← arguments_of elements
  for_each (λ a. expect a.at type.Arraykey a.ty) given
  pure (limited (type.Keyset (union_of (types_of given))))

-- `vec[..]`, `keyset[..]`
abbrev pub container_value : Place → Container → List Meaning → Meaning
container_value at c elements = plain at (container_row c elements) (assigned_in_all elements)

-- an entry of a dict
pub record Pair : Type 0 where
  pub key : Meaning
  pub value : Meaning

-- the types of the keys, which expect arraykey, and those of the values
unfoldable pub entries_types : List Pair → Walk (List HackType × List HackType)
entries_types [] = pure ([], [])
entries_types (entry ∷ entries) = do
  key ← entry.key.walk
  expect entry.key.at type.Arraykey key
  value ← entry.value.walk
  others ← entries_types entries
  pure (key ∷ others.0, value ∷ others.1)

-- of the unions of the keys and of the values
unfoldable pub dict_row : List Pair → Walk HackType
dict_row entries = do
  types ← entries_types entries
  pure (limited (type.Dict (union_of types.0) (union_of types.1)))

-- `dict[..]`
abbrev pub dict_value : Place → List Pair → Meaning
dict_value at entries = plain at (dict_row entries) (flat_map (λ entry. entry.key.assigned ++ entry.value.assigned) entries)

-- a field of a shape
pub record Given : Type 0 where
  pub at : Place
  pub key : ℕ
  pub value : Meaning

-- the fields in their order; 4023 for a key that was given before
unfoldable pub fields_types : List ℕ → List Given → Walk (List (Field HackType))
fields_types keys [] = pure []
fields_types keys (field ∷ fields) = do
  unless (not (is_key_of field.key keys)) field.at (field_twice field.key)
  ty ← field.value.walk
  others ← fields_types (field.key ∷ keys) fields
  pure (record { key = field.key; optional = false; ty = ty } ∷ others)

-- closed, and all fields are there; of two with one key the last counts
unfoldable pub shape_row : List Given → Walk HackType
shape_row fields = do
  types ← fields_types [] fields
  pure (limited (type.Shape (last_fields types) false))

-- `shape(..)`
abbrev pub shape_value : Place → List Given → Meaning
shape_value at fields = plain at (shape_row fields) (flat_map (λ field. field.value.assigned) fields)

-- ---- constants

-- the constant's type, else 4003
abbrev pub constant_or : Place → ℕ → Option Folded → Walk HackType
constant_or at name (Some (folded.Constant ty)) = pure ty
constant_or at name _ = refuse at (unbound_constant name)

-- its type, else 4003 and `_`
unfoldable pub constant_row : Place → ℕ → Walk HackType
constant_row at name = do
  declaration ← reads (λ map scope. map (record { kind = Const; name = name }))
  constant_or at name declaration

-- a name alone
abbrev pub constant_value : Place → ℕ → Meaning
constant_value at name = plain at (constant_row at name) []

-- ---- tests and casts

-- a variable is refined behind an `as` that is the first test of a chain; behind later tests, and behind `is` and `?as`, nothing is
abbrev pub test_by : Option ℕ → TestOperator → HackType → Walk HackType
test_by subject test.Is tested = pure type.Bool
test_by subject test.NullAs tested = pure (limited (option_of tested))
test_by subject test.As tested = do
  behind ← behind_as subject tested
  replace behind
  pure tested

-- a word and a written type
unfoldable pub test_row : Option ℕ → TypeTest → Walk HackType
test_row subject t = do
  tested ← written t.tested
  test_by subject t.operator tested

-- `is` gives bool, `as` the type, `?as` its option; what stands before a further test is no variable
unfoldable pub tests_row : Option ℕ → HackType → List TypeTest → Walk HackType
tests_row subject before [] = pure before
tests_row subject before (t ∷ tests) = do
  ty ← test_row subject t
  tests_row None ty tests

-- the operand, and then its tests
unfoldable pub tested_row : Meaning → List TypeTest → Walk HackType
tested_row operand tests = do
  ty ← operand.walk
  tests_row operand.subject ty tests

-- `e is T` as a condition
unfoldable pub is_branches : Meaning → TypeTest → Walk Branches
is_branches operand t = do
  operand.walk
  tested ← written t.tested
  tested_branches operand.subject tested

-- `is` alone says something
abbrev pub branches_by : Meaning → TypeTest → TestOperator → Walk Branches
branches_by operand t test.Is = is_branches operand t
branches_by operand t _ = plain_branches (tested_row operand (t ∷ []))

-- as a condition it says something where it is one `is` alone
abbrev pub test_branches : Meaning → List TypeTest → Walk Branches
test_branches operand (t ∷ []) = branches_by operand t t.operator
test_branches operand tests = plain_branches (tested_row operand tests)

-- `e is T`, `e as T`, `e ?as T`
abbrev pub test_value : Place → Meaning → List TypeTest → Meaning
test_value at operand tests = record (plain at (tested_row operand tests) operand.assigned) { branches = test_branches operand tests }

-- the type of a cast
abbrev pub cast_type : CastType → HackType
cast_type cast.Int = type.Int
cast_type cast.Float = type.Float
cast_type cast.String = type.Str
cast_type cast.Bool = type.Bool

-- the named primitive
unfoldable pub cast_row : CastType → Meaning → Walk HackType
cast_row to operand = do
  operand.walk
  pure (cast_type to)

-- `(int) e` and its kin
abbrev pub cast_value : Place → CastType → Meaning → Meaning
cast_value at to operand = plain at (cast_row to operand) operand.assigned
