-- What is below at a height, by the rules.
use Rattle.std.proofs.Common.{◌≡◌, ℕ, zero, suc, false, refl, ap, arith}
use Rattle.hack_types.specs.declared.hack_type.HackType.{HackType}
use Rattle.hack_decls.specs.DeclState.{Map}
use Rattle.hack_sub.specs.IsBelow.{by_rules, is_below}
use Rattle.hack_sub.specs.declared.scope.Scope.{Scope}

module _ (map : Map) (scope : Scope) (S T : HackType) where
  pub at_zero : (height : ℕ) → height ≡ zero → false ≡ is_below map scope height S T
  unfolding is_below
  at_zero zero is = refl
  at_zero (suc height) is = absurd (omega (arith, is))

  pub at_more : (height less : ℕ) → height ≡ suc less → by_rules map scope (is_below map scope less) S T ≡ is_below map scope height S T
  unfolding is_below
  at_more zero less is = absurd (omega (arith, is))
  at_more (suc height) less is =
      let same : less ≡ height = omega (arith, is) in
      ap (λ k. by_rules map scope (is_below map scope k) S T) same
