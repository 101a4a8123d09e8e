-- The rows of `new` in the pieces that its functions are.
use Rattle.std.specs.Prelude.{ℕ, ◌==◌, ◌||◌, ◌&&◌, not, Bool, false, if◌then◌else◌, Option, Some, None, List, All, IfSome, IsTrue, is_some, length}
use Rattle.hack_tree.specs.declared.expression.ClassReference.{ClassReference}
use Rattle.hack_tree.specs.declared.expression.ClassReference.TheVariants as reference
use Rattle.hack_tree.specs.declared.written_type.WrittenType.{WrittenType}
use Rattle.hack_types.specs.Substituted.{limited}
use Rattle.hack_types.specs.declared.hack_type.HackType.{HackType}
use Rattle.hack_types.specs.declared.hack_type.HackType.TheVariants as type
use Rattle.hack_types.specs.declared.place.Place.{Place}
use Rattle.hack_types.specs.declared.shallow.Member.{Member}
use Rattle.hack_types.specs.declared.shallow.MemberKind.{MemberKind}
use Rattle.hack_types.specs.declared.signature.TypeParam.{TypeParam}
use Rattle.hack_shallow.specs.Members.{construct}
use Rattle.hack_decls.specs.DeclState.{Symbols}
use Rattle.hack_decls.specs.Names.{TypeIn, class_symbol, types_of_kind}
use Rattle.hack_decls.specs.Picks.{member_answer}
use Rattle.hack_decls.specs.declared.answers.ClassHeading.{ClassHeading}
use Rattle.hack_decls.specs.declared.answers.HeadingAnswer.{HeadingAnswer}
use Rattle.hack_decls.specs.declared.answers.HeadingAnswer.TheVariants as heading
use Rattle.hack_decls.specs.declared.answers.MemberAnswer.{MemberAnswer}
use Rattle.hack_decls.specs.declared.answers.MemberAnswer.TheVariants as member
use Rattle.hack_decls.specs.declared.answers.MemberTag.TheVariants as tag
use Rattle.hack_decls.specs.declared.folded.Folded.{Folded}
use Rattle.hack_diag.specs.Messages.{other_arguments}
use Rattle.hack_rules.specs.Calls.{expect_count}
use Rattle.hack_rules.specs.Classes.{is_class_sort, name_or, referred}
use Rattle.hack_rules.specs.Members.{any_use, expect_usable}
use Rattle.hack_rules.specs.News.{called_by, class_behind, expect_instance, new_declared, new_word}
use Rattle.hack_rules.specs.Walks.{Walk, ◌>>=◌, ◌>>◌, each, pure, reads, unless}
use Rattle.hack_rules.specs.WrittenTypes.{Argument, expect_arguments, written}
use Rattle.hack_sub.specs.Parts.{arguments_of as arguments_in, name_of}
use Rattle.hack_sub.specs.Scopes.{class_type}
use Rattle.hack_sub.specs.declared.scope.Scope.{Scope}
use Rattle.hack_written.specs.Within.{ParamsIn, arguments_of}
use Rattle.hack_calls.specs.declared.mentions.Declared.{Declared}
use Rattle.hack_new.specs.declared.constructors.Constructor.{Constructor}
use Rattle.hack_new.specs.declared.constructors.Constructor.TheVariants as constructor

-- ---- constructors

-- what a look-up of the constructor says
abbrev pub found_by : MemberAnswer → Constructor
found_by (member.At own) = constructor.Found own
found_by (member.Missing partial) = constructor.Missing partial
found_by _ = constructor.Missing false

-- the same of what is declared
abbrev pub constructor_in : Option Folded → Constructor
constructor_in entry = found_by (member_answer tag.Method construct entry)

-- what it names
abbrev pub ConstructorIn : Symbols → Constructor → Type 0
ConstructorIn symbols (constructor.Found own) = All (TypeIn symbols) (types_of_kind own.kind)
ConstructorIn symbols (constructor.Missing partial) = Unit {0}

-- without a constructor there must be no arguments, but for a partial class
unfoldable pub without : Place → Bool → List Argument → Walk (Unit {0})
without at partial given = if partial then pure tt else expect_count at 0 0 given

-- what the call gives says nothing
unfoldable pub call_kind : Place → List HackType → HackType → List Argument → MemberKind → Walk (Unit {0})
call_kind at arguments made given kind = do
  called_by at (Some arguments) (λ solved. Some made) given kind
  pure tt

-- with a constructor
unfoldable pub use_constructor : Place → List HackType → HackType → List Argument → Member → Walk (Unit {0})
use_constructor at arguments made given own = do
  expect_usable at any_use own
  call_kind at arguments made given own.kind

-- with a constructor or without
abbrev pub construct_by : Place → List HackType → HackType → List Argument → Constructor → Walk (Unit {0})
construct_by at arguments made given (constructor.Found own) = use_constructor at arguments made given own
construct_by at arguments made given (constructor.Missing partial) = without at partial given

-- the arguments go to the constructor
unfoldable pub construct_row : Place → ℕ → List HackType → HackType → List Argument → Walk (Unit {0})
construct_row at name arguments made given = do
  found ← reads (λ m scope. constructor_in (m (class_symbol name)))
  construct_by at arguments made given found

-- ---- instances

-- whether there are objects of exactly the class
abbrev pub is_whole : ClassHeading → Bool
is_whole class = is_class_sort class.sort && not class.is_abstract

-- the same of what a look-up answers
abbrev pub is_instance : HeadingAnswer → Bool
is_instance (heading.ClassLike class) = is_whole class
is_instance _ = false

-- ---- words

-- the class that isn't the type itself
abbrev pub own_class : ClassReference → Scope → Option HackType
own_class reference.Static scope = class_type scope
own_class _ scope = None

-- the arguments go to the constructor of a type's class
abbrev pub construct_of : Place → HackType → HackType → List Argument → Walk (Unit {0})
construct_of at class made given = construct_row at (name_or (name_of class)) (arguments_in class) made given

-- the class of a word, and its constructor
unfoldable pub by_class : Place → ClassReference → List Argument → HackType → Walk HackType
by_class at word given ty = do
  class ← reads (λ m scope. class_behind word ty scope)
  construct_of at class ty given
  pure (limited ty)

-- `new` and a word
unfoldable pub by_word : Place → Place → ClassReference → List Argument → Walk HackType
by_word at class_at word given = do
  ty ← referred class_at word
  new_word at word given ty

-- the type has a name
abbrev pub IsNamed : HackType → Type 0
IsNamed class = IsTrue (is_some (name_of class))

-- ---- names

-- the written type arguments
unfoldable pub types_row : List WrittenType → Walk (List HackType)
types_row types = each written types

-- 3002 for another number of type arguments, where some are written
unfoldable pub expect_wanted : Place → ℕ → ℕ → ℕ → Walk (Unit {0})
expect_wanted name_at name wanted count = unless ((count == 0) || (wanted == count)) name_at (other_arguments name wanted count)

-- the same of what is declared
abbrev pub expect_number : Place → ℕ → ℕ → Option Declared → Walk (Unit {0})
expect_number name_at name count None = pure tt
expect_number name_at name count (Some declared) = expect_wanted name_at name (length declared.type_params) count

-- what its type parameters name is among these symbols
abbrev pub DeclaredIn : Symbols → Option Declared → Type 0
DeclaredIn symbols declared = IfSome declared (λ own. ParamsIn symbols own.type_params)

-- the bounds of the type arguments, and the constructor
unfoldable pub small_class : Place → ℕ → List TypeParam → List WrittenType → HackType → List Argument → Walk (Unit {0})
small_class at name params types made given = do
  expect_arguments params (arguments_of types (arguments_in made))
  expect_instance at name
  construct_row at name (arguments_in made) made given

-- what goes on from the name
abbrev pub new_by : Place → Place → ℕ → List Argument → List Argument → Option Declared → Walk HackType
new_by at name_at name types given None = pure type.Any
new_by at name_at name types given (Some declared) =
    if declared.is_trait then pure type.Any else new_declared at name_at name declared.type_params types given

-- behind the type arguments
unfoldable pub behind_types : Place → Place → ℕ → List WrittenType → List Argument → Option Declared → List HackType → Walk HackType
behind_types at name_at name types given declared own = do
  expect_number name_at name (length own) declared
  new_by at name_at name (arguments_of types own) given declared

-- behind the mention
unfoldable pub behind_mention : Place → Place → ℕ → List WrittenType → List Argument → Option Declared → Walk HackType
behind_mention at name_at name types given declared = do
  own ← types_row types
  behind_types at name_at name types given declared own
