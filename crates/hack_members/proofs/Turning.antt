-- Members of unions and options, so deep, by those one level less deep.
use Rattle.std.proofs.Common.{◌≡◌, ℕ, zero, suc, refl, ap, arith}
use Rattle.hack_decls.specs.DeclState.{Map}
use Rattle.hack_members.specs.inside.Rows.{by_head, inside_option}
use Rattle.hack_rules.specs.Heads.{head_of}
use Rattle.hack_rules.specs.Members.{Wanted, members_within}
use Rattle.hack_rules.specs.Walks.{Setting, State, ◌>>=◌, pure, reads}
use Rattle.hack_types.specs.declared.hack_type.HackType.{HackType}
use Rattle.hack_types.specs.declared.hack_type.HackType.TheVariants.{Any}
use Rattle.hack_types.specs.declared.place.Place.{Place}

module _ (at : Place) (wanted : Wanted) where
  pub no_turn : (turns options : ℕ) (ty : HackType) → turns ≡ zero → members_within turns at wanted options ty ≡ pure Any
  unfolding members_within
  no_turn zero options ty is = refl
  no_turn (suc turns) options ty is = absurd (omega (arith, is))

  pub one_turn : (turns less options : ℕ) (ty : HackType) → turns ≡ suc less → (setting : Setting) (m : Map) (here : State)
      → members_within turns at wanted options ty setting m here ≡ by_head less options at wanted ty (head_of m setting.scope ty) setting m here
  unfolding members_within ◌>>=◌ reads
  one_turn zero less options ty is setting m here = absurd (omega (arith, is))
  one_turn (suc turns) less options ty is setting m here =
      let same : turns ≡ less = omega (arith, is) in
      ap (λ (k : ℕ). by_head k options at wanted ty (head_of m setting.scope ty) setting m here) same

  pub no_option : (turns options : ℕ) (inside : HackType) → options ≡ zero → inside_option turns options at wanted inside ≡ pure Any
  no_option turns zero inside is = refl
  no_option turns (suc options) inside is = absurd (omega (arith, is))

  pub one_option : (turns options less : ℕ) (inside : HackType) → options ≡ suc less → inside_option turns options at wanted inside ≡ members_within turns at wanted less inside
  one_option turns zero less inside is = absurd (omega (arith, is))
  one_option turns (suc options) less inside is =
      let same : options ≡ less = omega (arith, is) in
      ap (λ (k : ℕ). members_within turns at wanted k inside) same
