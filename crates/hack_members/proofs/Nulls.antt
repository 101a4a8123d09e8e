-- What null gives, and what is inside an option.
use Rattle.std.proofs.Common.{◌≡◌, Bool, true, false, refl}
use Rattle.hack_decls.specs.DeclState.{Map}
use Rattle.hack_diag.specs.Messages.{may_be_null}
use Rattle.hack_rules.specs.Members.{through_null}
use Rattle.hack_rules.specs.Walks.{Setting, State, Walk, ◌>>=◌, ◌>>◌, pure, report}
use Rattle.hack_types.specs.OptionOf.{option_of}
use Rattle.hack_types.specs.Substituted.{limited}
use Rattle.hack_types.specs.declared.hack_type.HackType.{HackType}
use Rattle.hack_types.specs.declared.hack_type.HackType.TheVariants.{Any}
use Rattle.hack_types.specs.declared.place.Place.{Place}

module _ (at : Place) where
  pub null_safe_law : (null_safe : Bool) (setting : Setting) (m : Map) (here : State) → null_safe ≡ true
      → through_null at null_safe (pure Any) setting m here ≡ pure (limited (option_of Any)) setting m here
  unfolding through_null ◌>>=◌ pure
  null_safe_law true setting m here is = refl
  null_safe_law false setting m here is = absurd cc

  pub null_law : (null_safe : Bool) (setting : Setting) (m : Map) (here : State) → null_safe ≡ false
      → through_null at null_safe (pure Any) setting m here ≡ (report at may_be_null >>= (λ _. pure Any)) setting m here
  unfolding through_null ◌>>◌
  null_law false setting m here is = refl
  null_law true setting m here is = absurd cc

  pub safe : (null_safe : Bool) (inside : Walk HackType) → null_safe ≡ true → through_null at null_safe inside ≡ (inside >>= (λ ty. pure (limited (option_of ty))))
  unfolding through_null
  safe true inside is = refl
  safe false inside is = absurd cc

  pub reported : (null_safe : Bool) (inside : Walk HackType) → null_safe ≡ false → through_null at null_safe inside ≡ (report at may_be_null >> inside)
  unfolding through_null
  reported false inside is = refl
  reported true inside is = absurd cc
