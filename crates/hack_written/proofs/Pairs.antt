-- Arguments against their parameters, one after another.
use Rattle.std.proofs.Common.{◌≡◌, ◌∙◌, ◌<◌, ◌+◌, ◌++◌, ◌∷◌, ℕ, List, [], length, map, take, get_or, sym, ap, arith}
use Rattle.std.proofs.lemmas.List.{length-take-le, take_more}
use Rattle.hack_tree.specs.declared.written_type.WrittenType.{WrittenType}
use Rattle.hack_types.specs.Substituted.{limited, substitute}
use Rattle.hack_types.specs.declared.hack_type.HackType.{HackType}
use Rattle.hack_types.specs.declared.place.Place.{Place}
use Rattle.hack_types.specs.declared.signature.TypeParam.{TypeParam}
use Rattle.hack_decls.specs.DeclState.{Map}
use Rattle.hack_infer.specs.Filling.{filled_limited}
use Rattle.hack_rules.specs.Walks.{Setting, State, Walk, for_pairs}
use Rattle.hack_rules.specs.WrittenTypes.{Argument, expect_within}
use Rattle.hack_written.specs.Within.{arguments_of, place_of}
use Rattle.hack_written.proofs.Lists.{for_pairs_more}
use Rattle.hack_written.proofs.Puts.{argument_at, argument_count, for_class, same_put, types_of_arguments}

-- one argument of these against its parameter
abbrev pub expect_one : List Argument → TypeParam → Argument → Walk (Unit {0})
expect_one arguments param argument = expect_within (λ bound. limited (substitute (map (λ a. a.ty) arguments) bound)) argument.at param argument.ty

module _ (written : List WrittenType) (types : List HackType) (same : length written ≡ length types) where
  put_so : filled_limited (for_class types) ≡ (λ (bound : HackType). limited (substitute (map (λ (a : Argument). a.ty) (arguments_of written types)) bound))
  put_so = λ i bound. limited ((same_put types bound ∙ ap (λ (ts : List HackType). substitute ts bound) (sym (types_of_arguments written types same))) i)

  pub pair_next : (params : List TypeParam) (i : ℕ) (p : TypeParam) (w : WrittenType) (t : HackType) (at : Place) (setting : Setting) (m : Map) (s mid : State)
      → i < length params → i < length types → p ≡ get_or params i p → w ≡ get_or written i w → t ≡ get_or types i t → at ≡ place_of w
      → for_pairs (expect_one (arguments_of written types)) (take i params) (take i (arguments_of written types)) setting m s ≡ (tt, mid)
      → for_pairs (expect_one (arguments_of written types)) (take (i + 1) params) (take (i + 1) (arguments_of written types)) setting m s
      ≡ expect_within (filled_limited (for_class types)) at p t setting m mid
  pair_next params i p w t at setting m s mid lp lt ap_ aw at_ here is =
      let as_ = arguments_of written types in let a : Argument = record { at = place_of w; ty = t } in
      let la : i < length as_ = omega (arith, argument_count written types same, lt) in
      let lw : i < length written = omega (arith, same, lt) in
      let ps : take (i + 1) params ≡ take i params ++ p ∷ [] = take_more params i p lp ∙ ap (λ (x : TypeParam). take i params ++ x ∷ []) (sym ap_) in
      let more : take (i + 1) as_ ≡ take i as_ ++ a ∷ [] = take_more as_ i a la ∙ ap (λ (x : Argument). take i as_ ++ x ∷ []) (argument_at written types i w t a lw lt aw at_) in
      let count : length (take i params) ≡ length (take i as_) = length-take-le i params (omega (arith, lp)) ∙ sym (length-take-le i as_ (omega (arith, la))) in
      (λ k. for_pairs (expect_one as_) (ps k) (more k) setting m s)
      ∙ for_pairs_more setting m (expect_one as_) (take i params) (take i as_) p a s count
      ∙ ap (λ (r : Unit {0} × State). expect_one as_ p a setting m r.1) is
      ∙ ap (λ (put : HackType → HackType). expect_within put (place_of w) p t setting m mid) (sym put_so)
      ∙ ap (λ (x : Place). expect_within (filled_limited (for_class types)) x p t setting m mid) (sym here)
