-- The steps of matching, by what the code asks of the two types.
use Rattle.std.proofs.Common.{◌≡◌, ◌≢◌, ◌⊎◌, ◌-◌, ◌==◌, Bool, true, false, cond, inl, inr, sym, ap}
use Rattle.std.proofs.lemmas.Bool.Decides.{eqb_tells}
use Rattle.hack_types.specs.declared.hack_type.HackType.{HackType}
use Rattle.hack_infer.specs.Matching.{Matches, expanding}
use Rattle.hack_infer.specs.declared.taken.Taken.{Taken}

module _ (match : Matches) (W G : HackType) (t : Taken) where
  abbrev chosen : Bool → Taken
  chosen none = cond none t (match W G (record t { steps = t.steps - 1 }))

  pub no_more : t.steps ≡ 0 → t ≡ expanding match W G t
  no_more is = by (t.steps == 0) (eqb_tells t.steps 0)
    where
      by : (b : Bool) → ((b ≡ true) × (t.steps ≡ 0)) ⊎ ((b ≡ false) × (t.steps ≢ 0)) → t ≡ chosen b
      by b (inl here) = sym (ap chosen here.0)
      by b (inr other) = absurd (other.1 is)

  pub one_more : (t.steps ≡ 0 → ⊥) → match W G (record t { steps = t.steps - 1 }) ≡ expanding match W G t
  one_more isnt = by (t.steps == 0) (eqb_tells t.steps 0)
    where
      by : (b : Bool) → ((b ≡ true) × (t.steps ≡ 0)) ⊎ ((b ≡ false) × (t.steps ≢ 0)) → match W G (record t { steps = t.steps - 1 }) ≡ chosen b
      by b (inl here) = absurd (isnt here.1)
      by b (inr other) = sym (ap chosen other.0)
