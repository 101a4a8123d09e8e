-- How fields rise as they are pushed in the order of their keys.
use Rattle.std.proofs.Common.{◌≡◌, ◌<◌, ℕ, List, [], ◌∷◌, ◌++◌, All, map, sym}
use Rattle.std.specs.List.{AllByRecursion}
use Rattle.std.specs.List.Sorted.{IsStrictlySortedBy}
use Rattle.std.specs.Cmp.{nat_cmp_is}
use Rattle.std.specs.Ordering.{nat_cmp}
use Rattle.std.specs.declared.cmp.Ordering.TheVariants.{Less}
use Rattle.std.proofs.lemmas.List.Elements.{All-head, All-tail}
use Rattle.hack_types.specs.Rising.{FieldsRise}
use Rattle.hack_types.specs.declared.fields.Field.{Field}

pub no_fields_rise : (T : Type 0) → FieldsRise {T = T} []
unfolding IsStrictlySortedBy
no_fields_rise T = tt

module _ {T : Type 0} where
  abbrev keys : List (Field T) → List ℕ
  keys = map (λ field. field.key)

  all_pushed : (P : ℕ → Type 0) (fields : List (Field T)) (field : Field T) → AllByRecursion P (keys fields) → P field.key → AllByRecursion P (keys (fields ++ field ∷ []))
  all_pushed P [] field all one = (one, tt)
  all_pushed P (f ∷ fs) field all one = (all.0, all_pushed P fs field all.1 one)

  pub fields_rise_pushed : (fields : List (Field T)) (field : Field T) → FieldsRise fields → All (λ f. f.key < field.key) fields → FieldsRise (fields ++ field ∷ [])
  unfolding IsStrictlySortedBy
  fields_rise_pushed [] field rise below = (tt, tt)
  fields_rise_pushed (f ∷ fs) field rise below = (
    all_pushed (λ key. nat_cmp f.key key ≡ Less) fs field rise.0 (sym (nat_cmp_is f.key field.key Less (All-head (λ g. g.key < field.key) f fs below))),
    fields_rise_pushed fs field rise.1 (All-tail (λ g. g.key < field.key) f fs below),
  )

  pub two_fields_rise : (a b : Field T) → a.key < b.key → FieldsRise (a ∷ b ∷ [])
  unfolding IsStrictlySortedBy
  two_fields_rise a b lt = ((sym (nat_cmp_is a.key b.key Less lt), tt), (tt, tt))
