-- What a tested type leaves of another, by what is tested.
use Rattle.std.proofs.Common.{◌≡◌, ◌∙◌, ◌+◌, ◌<◌, ◌++◌, ℕ, Bool, true, false, cond, IsTrue, List, [], ◌∷◌, length, take, get_or, All, filter, refl, sym, ap}
use Rattle.std.proofs.lemmas.List.{take_more}
use Rattle.std.proofs.lemmas.List.Elements.{All-cons, All-head, All-tail}
use Rattle.hack_types.specs.declared.hack_type.HackType.{HackType, out-HackType}
use Rattle.hack_types.specs.declared.hack_type.HackType.TheOpen.{HackType-F}
use Rattle.hack_types.specs.declared.hack_type.HackType.TheVariants.{Null}
use Rattle.hack_decls.specs.DeclState.{Map, Symbols}
use Rattle.hack_decls.specs.Names.{TypeIn}
use Rattle.hack_infer.specs.WithoutNull.{without_null}
use Rattle.hack_rules.specs.Refining.{is_by, is_not_by, narrowed, others_by, where_is, where_is_not}
use Rattle.hack_sub.specs.IsBelow.{is_below}
use Rattle.hack_sub.specs.Parts.{members_by}
use Rattle.hack_sub.specs.Sub.{most_height}
use Rattle.hack_sub.specs.declared.scope.Scope.{Scope}
use Rattle.hack_walk.specs.inside.Calls.{is_nonnull, is_null, nonnull_by, null_by, others, others_in}

pub same_truth : (a b : Bool) → (IsTrue a → IsTrue b) → (IsTrue b → IsTrue a) → a ≡ b
same_truth true true onward back = refl
same_truth false false onward back = refl
same_truth true false onward back = sym (onward refl)
same_truth false true onward back = back refl

module _ (map : Map) (scope : Scope) (tested own : HackType) where
  -- ---- where a value is of the tested type

  is_by_test : (layer : HackType-F HackType) → is_by map scope own tested layer ≡ cond (nonnull_by layer) (without_null map own) (narrowed map scope own tested)
  is_by_test HackType-F.Nonnull = refl
  is_by_test _ = refl

  pub where_nonnull : is_nonnull tested ≡ true → where_is map scope tested own ≡ without_null map own
  unfolding where_is
  where_nonnull is = is_by_test (out-HackType tested) ∙ ap (λ b. cond b (without_null map own) (narrowed map scope own tested)) is

  pub where_other : is_nonnull tested ≡ false → where_is map scope tested own ≡ narrowed map scope own tested
  unfolding where_is
  where_other is = is_by_test (out-HackType tested) ∙ ap (λ b. cond b (without_null map own) (narrowed map scope own tested)) is

  pub narrowed_to : is_below map scope most_height tested own ≡ true → narrowed map scope own tested ≡ tested
  unfolding narrowed
  narrowed_to is = ap (λ b. cond b tested (cond (is_below map scope most_height own tested) own tested)) is

  pub narrowed_else : is_below map scope most_height tested own ≡ false → narrowed map scope own tested ≡ cond (is_below map scope most_height own tested) own tested
  unfolding narrowed
  narrowed_else is = ap (λ b. cond b tested (cond (is_below map scope most_height own tested) own tested)) is

  -- ---- where it isn't

  not_by_test : (layer : HackType-F HackType)
      → is_not_by map scope own tested layer ≡ cond (nonnull_by layer) Null (cond (null_by layer) (without_null map own) (others_by map scope own tested (out-HackType own)))
  not_by_test HackType-F.Nonnull = refl
  not_by_test HackType-F.Null = refl
  not_by_test _ = refl

  others_by_members : (layer : HackType-F HackType) → others_by map scope own tested layer ≡ others_in map scope own tested (members_by layer)
  others_by_members (HackType-F.Union members) = refl
  others_by_members _ = refl

  abbrev left : Bool → Bool → HackType
  left nonnull null = cond nonnull Null (cond null (without_null map own) (others_by map scope own tested (out-HackType own)))

  pub not_nonnull : is_nonnull tested ≡ true → where_is_not map scope tested own ≡ Null
  unfolding where_is_not
  not_nonnull is = not_by_test (out-HackType tested) ∙ ap (λ b. left b (is_null tested)) is

  pub not_null : is_nonnull tested ≡ false → is_null tested ≡ true → where_is_not map scope tested own ≡ without_null map own
  unfolding where_is_not
  not_null isnt is = not_by_test (out-HackType tested) ∙ ap (λ b. left b (is_null tested)) isnt ∙ ap (λ b. left false b) is

  pub not_other : is_nonnull tested ≡ false → is_null tested ≡ false → where_is_not map scope tested own ≡ others map scope own tested
  unfolding where_is_not
  not_other isnt none =
      not_by_test (out-HackType tested) ∙ ap (λ b. left b (is_null tested)) isnt ∙ ap (λ b. left false b) none ∙ others_by_members (out-HackType own)

-- ---- lists

module _ {X : Type 0} (p : X → Bool) where
  skipped : (b c : Bool) (y z : X) (ys : List X)
      → cond b (cond c (y ∷ ys) ys ++ z ∷ []) (cond c (y ∷ ys) ys) ≡ cond c (y ∷ cond b (ys ++ z ∷ []) ys) (cond b (ys ++ z ∷ []) ys)
  skipped true true y z ys = refl
  skipped true false y z ys = refl
  skipped false true y z ys = refl
  skipped false false y z ys = refl

  kept_last : (xs : List X) (x : X) → cond (p x) (filter p xs ++ x ∷ []) (filter p xs) ≡ filter p (xs ++ x ∷ [])
  kept_last [] x = refl
  kept_last (y ∷ ys) x = skipped (p x) (p y) y x (filter p ys) ∙ ap (λ zs. cond (p y) (y ∷ zs) zs) (kept_last ys x)

  -- one more that is kept or not
  pub next_kept : (xs : List X) (i : ℕ) (x : X) → i < length xs → x ≡ get_or xs i x
      → cond (p x) (filter p (take i xs) ++ x ∷ []) (filter p (take i xs)) ≡ filter p (take (i + 1) xs)
  next_kept xs i x inside at = kept_last (take i xs) x ∙ ap (filter p) (ap (λ y. take i xs ++ y ∷ []) at ∙ sym (take_more xs i x inside))

module _ (symbols : Symbols) where
  pub in_chosen : (b : Bool) (one other : HackType) → TypeIn symbols one → TypeIn symbols other → TypeIn symbols (cond b one other)
  in_chosen true one other here there = here
  in_chosen false one other here there = there

  with_last : (types : List HackType) (ty : HackType) → All (TypeIn symbols) types → TypeIn symbols ty → All (TypeIn symbols) (types ++ ty ∷ [])
  with_last [] ty all here = All-cons (TypeIn symbols) ty [] here all
  with_last (x ∷ types) ty all here =
      All-cons (TypeIn symbols) x (types ++ ty ∷ []) (All-head (TypeIn symbols) x types all) (with_last types ty (All-tail (TypeIn symbols) x types all) here)

  pub in_kept : (b : Bool) (types : List HackType) (ty : HackType) → All (TypeIn symbols) types → TypeIn symbols ty → All (TypeIn symbols) (cond b (types ++ ty ∷ []) types)
  in_kept true types ty all here = with_last types ty all here
  in_kept false types ty all here = all
