-- Whether `$this` is anything here.
use Rattle.std.proofs.Common.{◌≡◌, ℕ, Bool, true, false, Option, Some, None, is_some, refl}
use Rattle.std.specs.Bool.{if◌then◌else◌}
use Rattle.hack_types.specs.declared.hack_type.HackType.{HackType}
use Rattle.hack_types.specs.declared.hack_type.HackType.TheVariants as type
use Rattle.hack_rules.specs.Classes.{scope_class, this_type}
use Rattle.hack_sub.specs.declared.scope.Scope.{Scope}
use Rattle.hack_values.specs.inside.Rows.{this_of}

abbrev this_by : Bool → Option ℕ → Option HackType
this_by static class = if static then None else this_type class

some_by : (static : Bool) (class : Option ℕ) → true ≡ is_some (this_by static class) → this_by static class ≡ Some type.This
some_by true class is = absurd cc
some_by false None is = absurd cc
some_by false (Some class) is = refl

none_by : (static : Bool) (class : Option ℕ) → false ≡ is_some (this_by static class) → this_by static class ≡ None
none_by true class is = refl
none_by false None is = refl
none_by false (Some class) is = absurd cc

pub some_this : (scope : Scope) → true ≡ is_some (this_of scope) → this_of scope ≡ Some type.This
some_this scope is = some_by scope.in_static (scope_class scope) is

pub no_this : (scope : Scope) → false ≡ is_some (this_of scope) → this_of scope ≡ None
no_this scope is = none_by scope.in_static (scope_class scope) is
