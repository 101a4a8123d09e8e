-- `new` without written type arguments, in the pieces that its functions are.
use Rattle.std.specs.Prelude.{ℕ, Bool, Some, None, List, map}
use Rattle.hack_types.specs.Substituted.{limited}
use Rattle.hack_types.specs.declared.hack_type.HackType.{HackType}
use Rattle.hack_types.specs.declared.hack_type.HackType.TheVariants as type
use Rattle.hack_types.specs.declared.place.Place.{Place}
use Rattle.hack_types.specs.declared.shallow.Member.{Member}
use Rattle.hack_types.specs.declared.signature.Signature.{Signature}
use Rattle.hack_types.specs.declared.signature.TypeParam.{TypeParam}
use Rattle.hack_decls.specs.Names.{class_symbol}
use Rattle.hack_rules.specs.Calls.{solved_types}
use Rattle.hack_rules.specs.Members.{any_use, expect_usable}
use Rattle.hack_rules.specs.News.{class_of_solved, solved_kind}
use Rattle.hack_rules.specs.Walks.{Walk, ◌>>=◌, ◌>>◌, pure, reads}
use Rattle.hack_rules.specs.WrittenTypes.{Argument}
use Rattle.hack_calls.specs.Solved.{call_solved}
use Rattle.hack_new.specs.declared.constructors.Constructor.{Constructor}
use Rattle.hack_new.specs.declared.constructors.Constructor.TheVariants as constructor
use Rattle.hack_new.specs.inside.Rows.{constructor_in, without}

-- what the call gives says nothing
unfoldable pub call_as : Place → Signature → HackType → List HackType → List Argument → Walk (Unit {0})
call_as at signature this solved given = do
  call_solved at signature None (Some this) solved given
  pure tt

-- the constructor is called for an object of this class, which is the type
unfoldable pub made_as : Place → Signature → HackType → List HackType → List Argument → Walk HackType
made_as at signature this solved given = do
  call_as at signature this solved given
  pure (limited this)

-- the constructor as a function is called with what its parameters become
unfoldable pub made_by : Place → ℕ → List TypeParam → List Argument → Signature → Walk HackType
made_by at name params given signature = do
  solved ← solved_types signature given
  made_as at signature (class_of_solved name params solved) solved given

-- with a constructor
unfoldable pub with_constructor : Place → ℕ → List TypeParam → List Argument → Member → Walk HackType
with_constructor at name params given own = do
  expect_usable at any_use own
  solved_kind at name params given own.kind

-- a class with `_` for each of its parameters
abbrev pub class_of_any : ℕ → List TypeParam → HackType
class_of_any name params = type.Class name (map (λ param. type.Any) params)

-- without a constructor
unfoldable pub made_without : Place → ℕ → List TypeParam → List Argument → Bool → Walk HackType
made_without at name params given partial = do
  without at partial given
  pure (limited (class_of_any name params))

-- with a constructor or without
abbrev pub made_for : Place → ℕ → List TypeParam → List Argument → Constructor → Walk HackType
made_for at name params given (constructor.Found own) = with_constructor at name params given own
made_for at name params given (constructor.Missing partial) = made_without at name params given partial

-- the constructor is looked up once
unfoldable pub solved_row : Place → ℕ → List TypeParam → List Argument → Walk HackType
solved_row at name params given = do
  found ← reads (λ m scope. constructor_in (m (class_symbol name)))
  made_for at name params given found
