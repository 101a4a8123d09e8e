-- Calls of functions, members behind `::` and `->`, indices and `++` behind an operand (docs/language.md, Typing expressions, Members).
use Rattle.std.specs.Prelude.{ℕ, Bool, true, false, if◌then◌else◌, Option, Some, None, List, [], ◌++◌}
use Rattle.hack_tree.specs.declared.expression.ClassReference.{ClassReference}
use Rattle.hack_tree.specs.declared.expression.ClassReference.TheVariants as reference
use Rattle.hack_types.specs.declared.hack_type.HackType.{HackType}
use Rattle.hack_types.specs.declared.hack_type.HackType.TheVariants.{Any}
use Rattle.hack_types.specs.declared.ids.Kind.TheVariants.{Func}
use Rattle.hack_types.specs.declared.place.Place.{Place}
use Rattle.hack_decls.specs.declared.folded.Folded.{Folded}
use Rattle.hack_decls.specs.declared.folded.Folded.TheVariants as folded
use Rattle.hack_sub.specs.declared.scope.Scope.{Scope}
use Rattle.hack_rules.specs.Calls.{arguments_of, call_with}
use Rattle.hack_rules.specs.Classes.{referred, shown_name}
use Rattle.hack_rules.specs.Indices.{element}
use Rattle.hack_rules.specs.Meanings.{Aim, Index, Meaning, assigned_in_any, element as element_aim, plain, property}
use Rattle.hack_rules.specs.Members.{StaticUse, any_use, constant_of, instance_alone, member_of, method_of, property_of, static_alone}
use Rattle.hack_diag.specs.Messages.{unbound_function}
use Rattle.hack_rules.specs.Targets.{read}
use Rattle.hack_rules.specs.Values.{assigned_in_all}
use Rattle.hack_rules.specs.Walks.{Walk, ◌>>=◌, pure, reads, refuse}
use Rattle.hack_rules.specs.WrittenTypes.{Argument}

-- ---- functions

-- the function is called, else 4002
abbrev pub function_or : Place → ℕ → List Argument → Option Folded → Walk HackType
function_or at name given (Some (folded.Function signature)) =
    call_with at (record { signature = signature; class = None; this = λ solved. None }) given
function_or at name given _ = refuse at (unbound_function name)

-- an undeclared function is 4002 and `_`
unfoldable pub call_row : Place → ℕ → List Meaning → Walk HackType
call_row at name arguments = do
  given ← arguments_of arguments
  declaration ← reads (λ map scope. map (record { kind = Func; name = name }))
  function_or at name given declaration

-- `f(..)`
abbrev pub call_value : Place → ℕ → List Meaning → Meaning
call_value at name arguments = plain at (call_row at name arguments) (assigned_in_all arguments)

-- ---- behind `::`

-- where there is no type it is `_`
abbrev pub through : (HackType → Walk HackType) → Option HackType → Walk HackType
through go_on None = pure Any
through go_on (Some ty) = go_on ty

-- `C::$p`
unfoldable pub static_property : Place → ClassReference → ℕ → Walk HackType
static_property at class name = do
  ty ← referred at class
  through (member_of at (property_of static_alone false name)) ty

-- 4008 shows what stands before `::`
unfoldable pub constant_walk : Place → ClassReference → ℕ → HackType → Walk HackType
constant_walk at class name ty = do
  shown ← reads (λ map scope. shown_name class ty scope)
  member_of at (constant_of shown name) ty

-- `C::K`
unfoldable pub class_constant : Place → ClassReference → ℕ → Walk HackType
class_constant at class name = do
  ty ← referred at class
  through (constant_walk at class name) ty

-- behind `parent::` in a method that isn't static, a method needn't be static
abbrev pub static_use : ClassReference → Scope → StaticUse
static_use reference.Parent scope = if scope.in_static then static_alone else any_use
static_use _ scope = static_alone

-- `C::m(..)`
unfoldable pub static_call : Place → ClassReference → ℕ → List Meaning → Walk HackType
static_call at class name arguments = do
  ty ← referred at class
  given ← arguments_of arguments
  use_ ← reads (λ map scope. static_use class scope)
  through (member_of at (method_of at use_ false name given)) ty

-- its parts and its type, as a value
unfoldable pub property_aim : Walk HackType → Walk Aim
property_aim walk = do
  ty ← walk
  pure (property ty)

-- a property is a target of the type that it has as a value
abbrev pub property_value : Place → Walk HackType → List ℕ → Meaning
property_value at walk assigned = record (plain at walk assigned) { aim = property_aim walk; left_aim = property_aim walk }

-- a word behind `::`
abbrev pub word_value : Place → ClassReference → ℕ → Option (List Meaning) → Meaning
word_value at class name None = plain at (class_constant at class name) []
word_value at class name (Some arguments) = plain at (static_call at class name arguments) (assigned_in_all arguments)

-- ---- behind an operand

-- `e->p`
unfoldable pub property_row : Meaning → Bool → ℕ → Walk HackType
property_row base null_safe name = do
  ty ← base.walk
  member_of base.at (property_of instance_alone null_safe name) ty

-- `e->m(..)`
unfoldable pub method_row : Meaning → Bool → ℕ → List Meaning → Walk HackType
method_row base null_safe name arguments = do
  ty ← base.walk
  given ← arguments_of arguments
  member_of base.at (method_of base.at instance_alone null_safe name given) ty

-- a word behind `->` or `?->`
abbrev pub member_value : Meaning → Bool → ℕ → Option (List Meaning) → Meaning
member_value base null_safe name None = property_value base.at (property_row base null_safe name) base.assigned
member_value base null_safe name (Some arguments) =
    plain base.at (method_row base null_safe name arguments) (base.assigned ++ assigned_in_all arguments)

-- the index is typed, where there is one
unfoldable pub index_row : Option Meaning → Walk (Option Index)
index_row None = pure None
index_row (Some index) = do
  ty ← index.walk
  pure (Some (record { at = index.at; key = index.key; ty = ty }))

-- the base, then the index
unfoldable pub element_row : Bool → Meaning → Option Meaning → Walk HackType
element_row left base index = do
  ty ← base.walk
  typed ← index_row index
  element base.at left ty typed

-- a target's base is a target too, and is read with all codes of a value
unfoldable pub element_target : Meaning → Option Meaning → Walk Aim
element_target base index = do
  aim ← base.aim
  ty ← read false aim
  typed ← index_row index
  pure (element_aim base.at aim ty typed)

-- `e[i]` and `e[]`
abbrev pub index_value : Meaning → Option Meaning → Meaning
index_value base index = record (plain base.at (element_row false base index) (base.assigned ++ assigned_in_any index)) {
  left = element_row true base index;
  aim = element_target base index;
  left_aim = element_target base index;
  roots = base.roots;
}
