-- Arguments that fit from one place on.
use Rattle.std.proofs.Common.{◌≡◌, ◌&&◌, ◌∙◌, ◌<◌, ◌≤◌, ◌+◌, Bool, true, false, List, [], ◌∷◌, length, get_or, drop, refl, sym, ap, arith, ℕ, suc}
use Rattle.std.proofs.lemmas.List.{at_drop_more, at_drop_all}
use Rattle.hack_types.specs.declared.hack_type.HackType.{HackType}
use Rattle.hack_types.specs.declared.signature.TypeParam.{TypeParam}
use Rattle.hack_sub.specs.IsBelow.{Test, fit, varies}

pub never : false ≡ true → ⊥
never e = cc

never_both : (a : Bool) → (a && false) ≡ false
never_both true = refl
never_both false = refl

module _ (r : Test) where
  -- where there aren't as many, they don't fit
  pub too_few : (params : List TypeParam) (us vs : List HackType) → (length us ≡ length params → length vs ≡ length params → ⊥) → fit r params us vs ≡ false
  too_few [] [] [] apart = absurd (apart refl refl)
  too_few [] [] (v ∷ vs) apart = refl
  too_few [] (u ∷ us) vs apart = refl
  too_few (p ∷ ps) [] vs apart = refl
  too_few (p ∷ ps) (u ∷ us) [] apart = refl
  too_few (p ∷ ps) (u ∷ us) (v ∷ vs) apart =
      let rest : fit r ps us vs ≡ false = too_few ps us vs (λ l m. apart (ap suc l) (ap suc m)) in
      ap (λ b. varies r p.variance u v && b) rest ∙ never_both (varies r p.variance u v)

  module _ (ps : List TypeParam) (us vs : List HackType) (i : ℕ) where
    pub fit_left : length ps ≤ i → length us ≡ length ps → length vs ≡ length ps → fit r (drop i ps) (drop i us) (drop i vs) ≡ true
    fit_left le l m =
        let lu : length us ≤ i = omega (arith, l, le) in
        let lv : length vs ≤ i = omega (arith, m, le) in
        at_drop_all (λ x. fit r x (drop i us) (drop i vs)) ps i le
        ∙ at_drop_all (λ x. fit r [] x (drop i vs)) us i lu ∙ at_drop_all (λ x. fit r [] [] x) vs i lv

    module _ (p : TypeParam) (u v : HackType) (lp : i < length ps) (lu : i < length us) (lv : i < length vs) where
      fit_next : fit r (drop i ps) (drop i us) (drop i vs)
          ≡ (varies r (get_or ps i p).variance (get_or us i u) (get_or vs i v) && fit r (drop (i + 1) ps) (drop (i + 1) us) (drop (i + 1) vs))
      fit_next =
          at_drop_more (λ x. fit r x (drop i us) (drop i vs)) ps i p lp
          ∙ at_drop_more (λ x. fit r (get_or ps i p ∷ drop (i + 1) ps) x (drop i vs)) us i u lu
          ∙ at_drop_more (λ x. fit r (get_or ps i p ∷ drop (i + 1) ps) (get_or us i u ∷ drop (i + 1) us) x) vs i v lv

      read_as : {b : Bool} → u ≡ get_or us i u → v ≡ get_or vs i v → varies r (get_or ps i p).variance u v ≡ b
          → varies r (get_or ps i p).variance (get_or us i u) (get_or vs i v) ≡ b
      read_as iu iv e =
          sym (ap (λ x. varies r (get_or ps i p).variance x v) iu ∙ ap (λ y. varies r (get_or ps i p).variance (get_or us i u) y) iv) ∙ e

      pub fit_passed : varies r (get_or ps i p).variance (get_or us i u) (get_or vs i v) ≡ true
          → fit r (drop i ps) (drop i us) (drop i vs) ≡ fit r (drop (i + 1) ps) (drop (i + 1) us) (drop (i + 1) vs)
      fit_passed e = fit_next ∙ ap (λ b. b && fit r (drop (i + 1) ps) (drop (i + 1) us) (drop (i + 1) vs)) e

      pub fit_failed : varies r (get_or ps i p).variance (get_or us i u) (get_or vs i v) ≡ false → fit r (drop i ps) (drop i us) (drop i vs) ≡ false
      fit_failed e = fit_next ∙ ap (λ b. b && fit r (drop (i + 1) ps) (drop (i + 1) us) (drop (i + 1) vs)) e

      -- the same of arguments that were read
      pub fit_stepped : u ≡ get_or us i u → v ≡ get_or vs i v → varies r (get_or ps i p).variance u v ≡ true
          → fit r (drop i ps) (drop i us) (drop i vs) ≡ fit r (drop (i + 1) ps) (drop (i + 1) us) (drop (i + 1) vs)
      fit_stepped iu iv e = fit_passed (read_as iu iv e)

      pub fit_stopped : u ≡ get_or us i u → v ≡ get_or vs i v → varies r (get_or ps i p).variance u v ≡ false
          → fit r (drop i ps) (drop i us) (drop i vs) ≡ false
      fit_stopped iu iv e = fit_failed (read_as iu iv e)
