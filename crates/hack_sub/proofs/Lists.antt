-- Lists that are made element by element, and what is still to come.
use Rattle.std.proofs.Common.{◌≡◌, ◌∙◌, ◌<◌, ◌≤◌, ◌+◌, ◌++◌, ◌&&◌, ℕ, suc, Bool, true, false, Option, Some, None, List, [], ◌∷◌, length, map, get_or, drop, refl, sym, ap, append_assoc, arith, option_map}
use Rattle.std.proofs.lemmas.List.{append-nil, at_drop_more, at_drop_all}
use Rattle.std.specs.Bool.{if◌then◌else◌}
use Rattle.std.specs.List.{list_all}
use Rattle.std.specs.Option.{option_and_then}
use Rattle.hack_types.specs.declared.hack_type.HackType.{HackType}
use Rattle.hack_types.specs.declared.hack_type.HackType.TheVariants.{ClassParam}
use Rattle.hack_types.specs.declared.signature.TypeParam.{TypeParam}
use Rattle.hack_sub.specs.IsBelow.{all_small, is_small, small_only}
use Rattle.hack_sub.specs.Scopes.{own_params}

next_by : (a b : Bool) (y : HackType) (ys : List HackType)
    → (if a && b then Some (y ∷ ys) else None) ≡ option_and_then (λ z. option_map (λ zs. z ∷ zs) (if b then Some ys else None)) (if a then Some y else None)
next_by true true y ys = refl
next_by true false y ys = refl
next_by false b y ys = refl

-- all of them are small where the first and all others are
next : (y : HackType) (ys : List HackType) → all_small (y ∷ ys) ≡ option_and_then (λ z. option_map (λ zs. z ∷ zs) (all_small ys)) (small_only y)
next y ys = next_by (is_small y) (list_all is_small ys) y ys

behind : (made : List HackType) (z : HackType) (o : Option (List HackType))
    → option_map (λ zs. made ++ zs) (option_map (λ zs. z ∷ zs) o) ≡ option_map (λ zs. (made ++ z ∷ []) ++ zs) o
behind made z None = refl
behind made z (Some zs) = ap Some (sym (append_assoc made (z ∷ []) zs))

pub nothing_made : (o : Option (List HackType)) → o ≡ option_map (λ zs. [] ++ zs) o
nothing_made None = refl
nothing_made (Some zs) = refl

module _ (put : HackType → HackType) (xs : List HackType) (i : ℕ) where
  -- what has been made is what there is
  pub all_made : length xs ≤ i → (made : List HackType) → option_map (λ zs. made ++ zs) (all_small (map put (drop i xs))) ≡ Some made
  all_made le made = at_drop_all (λ zs. option_map (λ zs. made ++ zs) (all_small (map put zs))) xs i le ∙ ap Some (append-nil made)

  module _ (x : HackType) (lt : i < length xs) (at : x ≡ get_or xs i x) where
    opened : all_small (map put (drop i xs)) ≡ option_and_then (λ z. option_map (λ zs. z ∷ zs) (all_small (map put (drop (i + 1) xs)))) (small_only (put x))
    opened = at_drop_more (λ zs. all_small (map put zs)) xs i x lt
        ∙ ap (λ y. all_small (put y ∷ map put (drop (i + 1) xs))) (sym at) ∙ next (put x) (map put (drop (i + 1) xs))

    pub one_made : (made : List HackType) (z : HackType) → small_only (put x) ≡ Some z
        → option_map (λ zs. made ++ zs) (all_small (map put (drop i xs))) ≡ option_map (λ zs. (made ++ z ∷ []) ++ zs) (all_small (map put (drop (i + 1) xs)))
    one_made made z e = ap (option_map (λ zs. made ++ zs)) (opened ∙ ap (option_and_then (λ z. option_map (λ zs. z ∷ zs) (all_small (map put (drop (i + 1) xs))))) e)
        ∙ behind made z (all_small (map put (drop (i + 1) xs)))

    pub too_large : (made : List HackType) → small_only (put x) ≡ None → option_map (λ zs. made ++ zs) (all_small (map put (drop i xs))) ≡ None
    too_large made e = ap (option_map (λ zs. made ++ zs)) (opened ∙ ap (option_and_then (λ z. option_map (λ zs. z ∷ zs) (all_small (map put (drop (i + 1) xs))))) e)

more_is : (i : ℕ) → suc i ≡ i + 1
more_is i = omega arith

-- a class's parameters as its arguments
module _ (params : List TypeParam) (i : ℕ) where
  pub own_all : length params ≤ i → (made : List HackType) → made ++ own_params i (drop i params) ≡ made
  own_all le made = at_drop_all (λ ps. made ++ own_params i ps) params i le ∙ append-nil made

  pub own_next : (param : TypeParam) → i < length params → param ≡ get_or params i param → (made : List HackType)
      → made ++ own_params i (drop i params) ≡ (made ++ ClassParam i param.name ∷ []) ++ own_params (i + 1) (drop (i + 1) params)
  own_next param lt at made =
      at_drop_more (λ ps. made ++ own_params i ps) params i param lt
      ∙ ap (λ (p : TypeParam). made ++ (ClassParam i p.name ∷ own_params (suc i) (drop (i + 1) params))) (sym at)
      ∙ ap (λ j. made ++ (ClassParam i param.name ∷ own_params j (drop (i + 1) params))) (more_is i)
      ∙ sym (append_assoc made (ClassParam i param.name ∷ []) (own_params (i + 1) (drop (i + 1) params)))
