-- `new` (docs/language.md, Typing expressions, New).
use Rattle.std.specs.Prelude.{ℕ, ◌==◌, ◌&&◌, not, nat_le, Bool, false, if◌then◌else◌, Option, Some, None, List, [], ◌∷◌, ◌++◌, length, map, take, find, unwrap_or}
use Rattle.hack_tree.specs.declared.expression.ClassReference.{ClassReference}
use Rattle.hack_tree.specs.declared.expression.ClassReference.TheVariants as reference
use Rattle.hack_tree.specs.declared.written_type.WrittenType.{WrittenType}
use Rattle.hack_types.specs.Substituted.{most_nodes}
use Rattle.hack_types.specs.TypeNodes.{nodes}
use Rattle.hack_types.specs.declared.hack_type.HackType.{HackType}
use Rattle.hack_types.specs.declared.hack_type.HackType.TheVariants as type
use Rattle.hack_types.specs.declared.place.Place.{Place}
use Rattle.hack_types.specs.declared.shallow.Member.{Member}
use Rattle.hack_types.specs.declared.shallow.MemberKind.{MemberKind}
use Rattle.hack_types.specs.declared.shallow.MemberKind.TheVariants as kind
use Rattle.hack_types.specs.declared.signature.Signature.{Signature}
use Rattle.hack_types.specs.declared.signature.TypeParam.{TypeParam}
use Rattle.hack_shallow.specs.Members.{construct}
use Rattle.hack_types.specs.Substituted.{limited}
use Rattle.hack_decls.specs.DeclState.{Map}
use Rattle.hack_decls.specs.Names.{class_symbol}
use Rattle.hack_decls.specs.Picks.{is_member}
use Rattle.hack_decls.specs.declared.answers.MemberTag.TheVariants as tag
use Rattle.hack_decls.specs.declared.folded.ClassFolded.{ClassFolded}
use Rattle.hack_decls.specs.declared.folded.Folded.{Folded}
use Rattle.hack_sub.specs.Knowing.{parameters_by}
use Rattle.hack_sub.specs.Parts.{arguments_of as arguments_in, name_of}
use Rattle.hack_sub.specs.Scopes.{class_type}
use Rattle.hack_sub.specs.declared.scope.Scope.{Scope}
use Rattle.hack_rules.specs.Calls.{arguments_of, call_with, expect_count, solved_types}
use Rattle.hack_rules.specs.Classes.{class_named, is_class_sort, mentioned, name_or, referred}
use Rattle.hack_rules.specs.Lifting.{lifted}
use Rattle.hack_rules.specs.Meanings.{Meaning, plain}
use Rattle.hack_rules.specs.Members.{any_use, expect_usable}
use Rattle.hack_diag.specs.Messages.{not_instantiable, other_arguments, too_big}
use Rattle.hack_rules.specs.Values.{assigned_in_all}
use Rattle.hack_rules.specs.Walks.{Walk, ◌>>=◌, ◌>>◌, pure, reads, each, refuse, unless}
use Rattle.hack_rules.specs.WrittenTypes.{Argument, Mention, expect_arguments, mention, names_of, whole_mention}

-- ---- constructors

-- the constructor of a class
abbrev pub constructor_by : Option ClassFolded → Option Member
constructor_by None = None
constructor_by (Some class) = find (is_member tag.Method construct) class.members

-- the folded `__construct` of the class of this name
abbrev pub constructor_of : Map → ℕ → Option Member
constructor_of map name = constructor_by (class_named map name)

-- whether something that it may inherit isn't known
abbrev pub partial_by : Option ClassFolded → Bool
partial_by None = false
partial_by (Some class) = class.partial

-- the same of the class of a name
abbrev pub is_partial_class : Map → ℕ → Bool
is_partial_class map name = partial_by (class_named map name)

-- a constructor is called
abbrev pub called_by : Place → Option (List HackType) → (List HackType → Option HackType) → List Argument → MemberKind → Walk HackType
called_by at class this given (kind.Method signature) = call_with at (record { signature = signature; class = class; this = this }) given
called_by at class this given _ = pure type.Any

-- without a constructor there must be no arguments, but for a partial class
unfoldable pub without_constructor : Place → ℕ → List Argument → Walk (Unit {0})
without_constructor at name given = do
  partial ← reads (λ map scope. is_partial_class map name)
  if partial then pure tt else expect_count at 0 0 given

-- with a constructor or without
abbrev pub construct_by : Place → ℕ → List HackType → HackType → List Argument → Option Member → Walk HackType
construct_by at name arguments this given None = do
  without_constructor at name given
  pure (limited this)
construct_by at name arguments this given (Some member) = do
  expect_usable at any_use member
  called_by at (Some arguments) (λ solved. Some this) given member.kind
  pure (limited this)

-- the arguments go to the constructor of the class of this name with these type arguments; the whole has the type `this`, or `_` where
-- this has more than 256 nodes
unfoldable pub constructed : Place → ℕ → List HackType → HackType → List Argument → Walk HackType
constructed at name arguments this given = do
  member ← reads (λ m scope. constructor_of m name)
  construct_by at name arguments this given member

-- ---- without type arguments

-- a type parameter with its bounds
abbrev pub lifted_param : ℕ → TypeParam → TypeParam
lifted_param count param =
    record { name = param.name; variance = param.variance; upper = map (lifted count) param.upper; lower = map (lifted count) param.lower }

-- the constructor of a class as a function that has the class's parameters before its own
abbrev pub lifted_signature : List TypeParam → Signature → Signature
lifted_signature params signature = record {
  type_params = map (lifted_param (length params)) (params ++ signature.type_params);
  params = map (λ param. record { ty = lifted (length params) param.ty; optional = param.optional }) signature.params;
  result = type.Void;
}

-- the class with the first of the solved types
abbrev pub class_of_solved : ℕ → List TypeParam → List HackType → HackType
class_of_solved name params solved = type.Class name (take (length params) solved)

-- the constructor is called as such a function
unfoldable pub solved_by : Place → ℕ → List TypeParam → List Argument → Signature → Walk HackType
solved_by at name params given signature = do
  solved ← solved_types (lifted_signature params signature) given
  call_with at (record { signature = lifted_signature params signature; class = None; this = λ types. Some (class_of_solved name params types) }) given
  pure (limited (class_of_solved name params solved))

-- a constructor is a method
abbrev pub solved_kind : Place → ℕ → List TypeParam → List Argument → MemberKind → Walk HackType
solved_kind at name params given (kind.Method signature) = solved_by at name params given signature
solved_kind at name params given _ = pure type.Any

-- a class without a constructor gets `_` for its parameters
abbrev pub solved_or : Place → ℕ → List TypeParam → List Argument → Option Member → Walk HackType
solved_or at name params given None = do
  without_constructor at name given
  pure (limited (type.Class name (map (λ param. type.Any) params)))
solved_or at name params given (Some member) = do
  expect_usable at any_use member
  solved_kind at name params given member.kind

-- the class's parameters are solved with the constructor's own
unfoldable pub solved_class : Place → ℕ → List TypeParam → List Argument → Walk HackType
solved_class at name params given = do
  member ← reads (λ m scope. constructor_of m name)
  solved_or at name params given member

-- ---- names

-- a class that isn't abstract
abbrev pub instance_by : Option ClassFolded → Bool
instance_by None = false
instance_by (Some class) = is_class_sort class.sort && not class.is_abstract

-- 4011 unless the name itself is a class that isn't abstract
unfoldable pub expect_instance : Place → ℕ → Walk (Unit {0})
expect_instance at name = do
  fits ← reads (λ m scope. instance_by (class_named m name))
  unless fits at (not_instantiable name)

-- with type arguments that fit in number: above 256 nodes it is 3006 and `_`; else their bounds, and the constructor
unfoldable pub new_with : Place → Place → ℕ → List TypeParam → List Argument → List Argument → Walk HackType
new_with at name_at name params types given =
    if not (nat_le (nodes (type.Class name (map (λ a. a.ty) types))) most_nodes) then refuse name_at too_big
    else (do
      expect_arguments params types
      expect_instance at name
      constructed at name (map (λ a. a.ty) types) (type.Class name (map (λ a. a.ty) types)) given)

-- without written type arguments
unfoldable pub new_without : Place → ℕ → List TypeParam → List Argument → Walk HackType
new_without at name [] given = do
  expect_instance at name
  constructed at name [] (type.Class name []) given
new_without at name (param ∷ params) given = do
  expect_instance at name
  solved_class at name (param ∷ params) given

-- with type arguments or without; another number gives `_`
abbrev pub new_declared : Place → Place → ℕ → List TypeParam → List Argument → List Argument → Walk HackType
new_declared at name_at name params [] given = new_without at name params given
new_declared at name_at name params (ty ∷ types) given =
    if length params == length (ty ∷ types) then new_with at name_at name params (ty ∷ types) given else pure type.Any

-- where nothing goes on from the name it is `_`
abbrev pub new_by : Place → Place → ℕ → List Argument → List Argument → Option Folded → Walk HackType
new_by at name_at name types given None = pure type.Any
new_by at name_at name types given (Some declaration) = new_declared at name_at name (parameters_by (Some declaration)) types given

-- 3002 where type arguments are written, and are another number; of a trait too
abbrev pub expect_number : Place → ℕ → List Argument → Option Folded → Walk (Unit {0})
expect_number name_at name [] declaration = pure tt
expect_number name_at name types None = pure tt
expect_number name_at name types (Some declaration) =
    unless (length (parameters_by (Some declaration)) == length types) name_at
    (other_arguments name (length (parameters_by (Some declaration))) (length types))

-- each written argument is a written type
unfoldable pub type_argument : Mention → Walk Argument
type_argument m = do
  ty ← whole_mention m
  pure (record { at = m.at; ty = ty })

-- the type arguments, in order
unfoldable pub type_arguments : List WrittenType → Walk (List Argument)
type_arguments types = do
  names ← reads (λ m scope. names_of scope)
  each type_argument (map (mention names) types)

-- `new` and a name
unfoldable pub new_named : Place → Place → ℕ → List WrittenType → List Argument → Walk HackType
new_named at name_at name types given = do
  goes_on ← mentioned name_at name
  arguments ← type_arguments types
  declaration ← reads (λ m scope. m (class_symbol name))
  expect_number name_at name arguments declaration
  new_by at name_at name arguments given goes_on

-- ---- words

-- `new static` has the type `this`, and is of the scope's class as `new self` is
abbrev pub class_behind : ClassReference → HackType → Scope → HackType
class_behind reference.Static ty scope = unwrap_or (class_type scope) ty
class_behind _ ty scope = ty

-- 4011 for `new parent` of an abstract class
abbrev pub expect_parent : Place → ClassReference → HackType → Walk (Unit {0})
expect_parent at reference.Parent ty = expect_instance at (name_or (name_of ty))
expect_parent at _ ty = pure tt

-- `new` and a word
abbrev pub new_word : Place → ClassReference → List Argument → Option HackType → Walk HackType
new_word at word given None = pure type.Any
new_word at word given (Some ty) = do
  expect_parent at word ty
  class ← reads (λ m scope. class_behind word ty scope)
  constructed at (name_or (name_of class)) (arguments_in class) ty given

-- `new` and what stands behind it
abbrev pub new_class : Place → Place → ClassReference → List WrittenType → List Argument → Walk HackType
new_class at class_at (reference.Named name) types given = new_named at class_at name types given
new_class at class_at word types given = do
  ty ← referred class_at word
  new_word at word given ty

-- the arguments are typed first
unfoldable pub new_row : Place → Place → ClassReference → List WrittenType → List Meaning → Walk HackType
new_row at class_at class types arguments = do
  given ← arguments_of arguments
  new_class at class_at class types given

-- `new C<T>(arguments)`
abbrev pub new_value : Place → Place → ClassReference → List WrittenType → List Meaning → Meaning
new_value at class_at class types arguments = plain at (new_row at class_at class types arguments) (assigned_in_all arguments)
