-- The type parameter that a type is.
use Rattle.std.proofs.Common.{◌≡◌, ◌∙◌, ℕ, sym, ap}
use Rattle.std.specs.List.{slice_get}
use Rattle.hack_types.specs.declared.hack_type.HackType.{HackType}
use Rattle.hack_types.specs.declared.hack_type.HackType.TheOpen.{HackType-F}
use Rattle.hack_types.specs.declared.hack_type.HackType.TheVariants as type
use Rattle.hack_types.specs.declared.hack_type.HackType.TheViews.{out-roll-HackType}
use Rattle.hack_sub.specs.Scopes.{class_params_by, param_by, param_of}
use Rattle.hack_sub.specs.declared.scope.Scope.{Scope}

module _ (scope : Scope) (ty : HackType) (position name : ℕ) where
  pub at_class : ty ≡ type.ClassParam position name → slice_get (class_params_by scope.class) position ≡ param_of scope ty
  at_class is = sym (ap (param_of scope) (is ∙ sym (type.rolls-ClassParam position name))
      ∙ ap (param_by scope) (out-roll-HackType (HackType-F.ClassParam position name)))

  pub at_fun : ty ≡ type.FunParam position name → slice_get scope.fun_params position ≡ param_of scope ty
  at_fun is = sym (ap (param_of scope) (is ∙ sym (type.rolls-FunParam position name))
      ∙ ap (param_by scope) (out-roll-HackType (HackType-F.FunParam position name)))
