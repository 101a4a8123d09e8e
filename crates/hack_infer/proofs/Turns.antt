-- What is made in so many turns, by what is made in one less.
use Rattle.std.proofs.Common.{◌≡◌, ℕ, zero, suc, None, refl, ap, arith}
use Rattle.hack_types.specs.declared.hack_type.HackType.{HackType}
use Rattle.hack_decls.specs.DeclState.{Map}
use Rattle.hack_sub.specs.Parts.{option_inside}
use Rattle.hack_infer.specs.Matching.{by_wanted, match_in}
use Rattle.hack_infer.specs.Seeing.{opened}
use Rattle.hack_infer.specs.WithoutNull.{comes_to, coming_by, option_by, without_null_in}
use Rattle.hack_infer.specs.declared.taken.Taken.{Taken}

module _ (map : Map) where
  pub none_left : (ty : HackType) (turns : ℕ) → turns ≡ zero → ty ≡ without_null_in turns map ty
  unfolding without_null_in
  none_left ty zero is = refl
  none_left ty (suc turns) is = absurd (omega (arith, is))

  pub one_turn : (ty : HackType) (turns less : ℕ) → turns ≡ suc less → option_by (without_null_in less map) map ty (option_inside ty) ≡ without_null_in turns map ty
  unfolding without_null_in
  one_turn ty zero less is = absurd (omega (arith, is))
  one_turn ty (suc turns) less is =
      let same : less ≡ turns = omega (arith, is) in
      ap (λ k. option_by (without_null_in k map) map ty (option_inside ty)) same

  pub no_step : (ty : HackType) (steps : ℕ) → steps ≡ zero → None ≡ comes_to steps map ty
  unfolding comes_to
  no_step ty zero is = refl
  no_step ty (suc steps) is = absurd (omega (arith, is))

  pub one_step : (ty : HackType) (steps less : ℕ) → steps ≡ suc less → coming_by (comes_to less map) (opened map ty) ≡ comes_to steps map ty
  unfolding comes_to
  one_step ty zero less is = absurd (omega (arith, is))
  one_step ty (suc steps) less is =
      let same : less ≡ steps = omega (arith, is) in
      ap (λ k. coming_by (comes_to k map) (opened map ty)) same

  pub no_depth : (wanted given : HackType) (taken : Taken) (depth : ℕ) → depth ≡ zero → taken ≡ match_in depth map wanted given taken
  unfolding match_in
  no_depth wanted given taken zero is = refl
  no_depth wanted given taken (suc depth) is = absurd (omega (arith, is))

  pub one_deeper : (wanted given : HackType) (taken : Taken) (depth less : ℕ) → depth ≡ suc less
      → by_wanted (match_in less map) map wanted given taken ≡ match_in depth map wanted given taken
  unfolding match_in
  one_deeper wanted given taken zero less is = absurd (omega (arith, is))
  one_deeper wanted given taken (suc depth) less is =
      let same : less ≡ depth = omega (arith, is) in
      ap (λ k. by_wanted (match_in k map) map wanted given taken) same
