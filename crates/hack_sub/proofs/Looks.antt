-- The rules without premises: the tests as they are made, and as the rules have them.
use Rattle.std.proofs.Common.{◌≡◌, ◌&&◌, ◌||◌, ◌⊎◌, Bool, true, inl, inr}
use Rattle.hack_sub.proofs.Decides.{and_parts, and_true, or_elim, or_left, or_right}

-- `any_S` and so on are what is tested of the two types
module _ (any_S any_T nothing mixed widens nonnull made null bad_S bad_T partial class enum : Bool) where
  abbrev any : Bool
  any = any_S || any_T

  abbrev upto_nothing : Bool
  upto_nothing = any || nothing

  abbrev upto_mixed : Bool
  upto_mixed = upto_nothing || mixed

  abbrev upto_widens : Bool
  upto_widens = upto_mixed || widens

  abbrev upto_made : Bool
  upto_made = upto_widens || (nonnull && made)

  abbrev pub plain : Bool
  plain = upto_made || null

  abbrev bad : Bool
  bad = bad_S || bad_T

  abbrev upto_partial : Bool
  upto_partial = bad || partial

  abbrev pub looked : Bool
  looked = upto_partial || (nonnull && (class || enum))

  -- as the rules have them
  abbrev any_bad : Bool
  any_bad = any || bad_S

  abbrev any_bads : Bool
  any_bads = any_bad || bad_T

  abbrev pub unknown : Bool
  unknown = any_bads || partial

  abbrev pub extreme : Bool
  extreme = nothing || mixed

  abbrev made_class : Bool
  made_class = made || class

  abbrev pub not_null : Bool
  not_null = nonnull && (made_class || enum)

  pub data Five : Type 0 where
    is_unknown : unknown ≡ true → Five
    is_extreme : extreme ≡ true → Five
    is_primitive : widens ≡ true → Five
    is_not_null : not_null ≡ true → Five
    is_null : null ≡ true → Five

  of_any : any ≡ true → Five
  of_any e = is_unknown (or_left any_bads partial (or_left any_bad bad_T (or_left any bad_S e)))

  of_made : (nonnull && made) ≡ true → Five
  of_made e = let parts = and_parts nonnull made e in
      is_not_null (and_true nonnull (made_class || enum) parts.0 (or_left made_class enum (or_left made class parts.1)))

  pub of_plain : plain ≡ true → Five
  of_plain =
      or_elim upto_made null Five
      (or_elim upto_widens (nonnull && made) Five
      (or_elim upto_mixed widens Five
      (or_elim upto_nothing mixed Five
      (or_elim any nothing Five of_any (λ e. is_extreme (or_left nothing mixed e)))
      (λ e. is_extreme (or_right nothing mixed e)))
      is_primitive)
      of_made)
      is_null

  of_named : (nonnull && (class || enum)) ≡ true → Five
  of_named e = let parts = and_parts nonnull (class || enum) e in
      is_not_null (and_true nonnull (made_class || enum) parts.0
      (or_elim class enum ((made_class || enum) ≡ true) (λ k. or_left made_class enum (or_right made class k)) (λ k. or_right made_class enum k) parts.1))

  pub of_looked : looked ≡ true → Five
  of_looked =
      or_elim upto_partial (nonnull && (class || enum)) Five
      (or_elim bad partial Five
      (or_elim bad_S bad_T Five
      (λ e. is_unknown (or_left any_bads partial (or_left any_bad bad_T (or_right any bad_S e))))
      (λ e. is_unknown (or_left any_bads partial (or_right any_bad bad_T e))))
      (λ e. is_unknown (or_right any_bads partial e)))
      of_named

  -- and back
  from_any : any ≡ true → plain ≡ true
  from_any e = or_left upto_made null (or_left upto_widens (nonnull && made) (or_left upto_mixed widens (or_left upto_nothing mixed (or_left any nothing e))))

  from_bad : bad ≡ true → looked ≡ true
  from_bad e = or_left upto_partial (nonnull && (class || enum)) (or_left bad partial e)

  abbrev Told : Type 0
  Told = (plain ≡ true) ⊎ (looked ≡ true)

  pub told_unknown : unknown ≡ true → Told
  told_unknown =
      or_elim any_bads partial Told
      (or_elim any_bad bad_T Told
      (or_elim any bad_S Told (λ e. inl (from_any e)) (λ e. inr (from_bad (or_left bad_S bad_T e))))
      (λ e. inr (from_bad (or_right bad_S bad_T e))))
      (λ e. inr (or_left upto_partial (nonnull && (class || enum)) (or_right bad partial e)))

  pub told_extreme : extreme ≡ true → plain ≡ true
  told_extreme =
      or_elim nothing mixed (plain ≡ true)
      (λ e. or_left upto_made null (or_left upto_widens (nonnull && made) (or_left upto_mixed widens (or_left upto_nothing mixed (or_right any nothing e)))))
      (λ e. or_left upto_made null (or_left upto_widens (nonnull && made) (or_left upto_mixed widens (or_right upto_nothing mixed e))))

  pub told_primitive : widens ≡ true → plain ≡ true
  told_primitive e = or_left upto_made null (or_left upto_widens (nonnull && made) (or_right upto_mixed widens e))

  told_named : nonnull ≡ true → (class || enum) ≡ true → looked ≡ true
  told_named n e = or_right upto_partial (nonnull && (class || enum)) (and_true nonnull (class || enum) n e)

  told_made : nonnull ≡ true → made ≡ true → plain ≡ true
  told_made n e = or_left upto_made null (or_right upto_widens (nonnull && made) (and_true nonnull made n e))

  pub told_not_null : not_null ≡ true → Told
  told_not_null e = let parts = and_parts nonnull (made_class || enum) e in
      or_elim made_class enum Told
      (or_elim made class Told (λ k. inl (told_made parts.0 k)) (λ k. inr (told_named parts.0 (or_left class enum k))))
      (λ k. inr (told_named parts.0 (or_right class enum k))) parts.1

  pub told_null : null ≡ true → plain ≡ true
  told_null e = or_right upto_made null e
