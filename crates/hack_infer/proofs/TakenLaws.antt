-- What was taken, and lists of pairs from one place on.
use Rattle.std.proofs.Common.{◌≡◌, ◌∙◌, ◌⊎◌, ◌+◌, ◌<◌, ◌≤◌, ◌==◌, inl, inr, min, ℕ, Bool, true, false, cond, List, [], ◌∷◌, ◌++◌, length, get_or, drop, All, map, refl, sym, ap, arith}
use Rattle.std.proofs.lemmas.Bool.{cases_lt}
use Rattle.std.proofs.lemmas.List.{at_drop_more, at_drop_all}
use Rattle.std.proofs.lemmas.List.Elements.{All-cons, All-head, All-tail}
use Rattle.std.specs.List.{fold, range_with_len}
use Rattle.hack_types.specs.Substituted.{limited}
use Rattle.hack_types.specs.declared.hack_type.HackType.{HackType}
use Rattle.hack_decls.specs.DeclState.{Symbols}
use Rattle.hack_decls.specs.Names.{TypeIn}
use Rattle.hack_infer.proofs.PutLaws.{in_limited}
use Rattle.hack_infer.specs.Named.{ListsIn}
use Rattle.hack_infer.specs.inside.Calls.{TakenIn}
use Rattle.hack_infer.specs.Matching.{Matches, lists, nothing_taken, pairs, taking, types_at}
use Rattle.hack_infer.specs.declared.taken.Taken.{Taken}
use Rattle.hack_infer.specs.declared.taken.Took.{Took}

-- pairs, where one of the lists has ended
ended : (r : Matches) (ws : List HackType) (t : Taken) → pairs r ws [] t ≡ t
unfolding pairs
ended r [] t = refl
ended r (w ∷ ws) t = refl

begun : (r : Matches) (gs : List HackType) (t : Taken) → pairs r [] gs t ≡ t
unfolding pairs
begun r [] t = refl
begun r (g ∷ gs) t = refl

module _ (r : Matches) (ws gs : List HackType) (i : ℕ) (t : Taken) where
  pub no_wanted : length ws ≤ i → pairs r (drop i ws) (drop i gs) t ≡ t
  no_wanted le = at_drop_all (λ x. pairs r x (drop i gs) t) ws i le ∙ begun r (drop i gs) t

  pub no_given : length gs ≤ i → pairs r (drop i ws) (drop i gs) t ≡ t
  no_given le = at_drop_all (λ x. pairs r (drop i ws) x t) gs i le ∙ ended r (drop i ws) t

  pub next_pair : (w g : HackType) → i < length ws → i < length gs → w ≡ get_or ws i w → g ≡ get_or gs i g
      → pairs r (drop i ws) (drop i gs) t ≡ pairs r (drop (i + 1) ws) (drop (i + 1) gs) (r w g t)
  unfolding pairs
  next_pair w g lw lg iw ig =
      at_drop_more (λ x. pairs r x (drop i gs) t) ws i w lw
      ∙ at_drop_more (λ x. pairs r (get_or ws i w ∷ drop (i + 1) ws) x t) gs i g lg
      ∙ ap (λ x. pairs r (drop (i + 1) ws) (drop (i + 1) gs) (r x (get_or gs i g) t)) (sym iw)
      ∙ ap (λ y. pairs r (drop (i + 1) ws) (drop (i + 1) gs) (r w y t)) (sym ig)

-- a fold from one place on
module _ {X : Type 0} (f : Taken → X → Taken) (xs : List X) (i : ℕ) (t : Taken) where
  pub no_member : length xs ≤ i → fold f t (drop i xs) ≡ t
  no_member le = at_drop_all (λ x. fold f t x) xs i le

  pub next_member : (x : X) → i < length xs → x ≡ get_or xs i x → fold f t (drop i xs) ≡ fold f (f t x) (drop (i + 1) xs)
  next_member x lt at = at_drop_more (λ l. fold f t l) xs i x lt ∙ ap (λ y. fold f (f t y) (drop (i + 1) xs)) (sym at)

module _ (symbols : Symbols) where
  abbrev In : Took → Type 0
  In took = TypeIn symbols took.ty

  pushed : (xs : List Took) (x : Took) → All In xs → In x → All In (xs ++ x ∷ [])
  pushed [] x all here = All-cons In x [] here all
  pushed (y ∷ ys) x all here = All-cons In y (ys ++ x ∷ []) (All-head In y ys all) (pushed ys x (All-tail In y ys all) here)

  pub in_taking : (position : ℕ) (ty : HackType) (taken : Taken) → TypeIn symbols ty → TakenIn symbols taken → TakenIn symbols (taking position ty taken)
  in_taking position ty taken here was = record { found = pushed taken.found (record { position = position; ty = limited ty }) was.found (in_limited symbols ty here) }

  chosen : (b : Bool) (ty : HackType) (types : List HackType) → TypeIn symbols ty → All (TypeIn symbols) types → All (TypeIn symbols) (cond b (ty ∷ []) [] ++ types)
  chosen true ty types here all = All-cons (TypeIn symbols) ty types here all
  chosen false ty types here all = all

  in_types : (found : List Took) (position : ℕ) → All In found → All (TypeIn symbols) (types_at found position)
  in_types [] position all = λ k d lt. absurd (omega (arith, lt))
  in_types (took ∷ found) position all = chosen (took.position == position) took.ty (types_at found position) (All-head In took found all) (in_types found position (All-tail In took found all))

  abbrev Each : List HackType → Type 0
  Each types = All (TypeIn symbols) types

  in_each : (found : List Took) → All In found → (positions : List ℕ) → All Each (map (types_at found) positions)
  in_each found all [] = λ k d lt. absurd (omega (arith, lt))
  in_each found all (p ∷ ps) = All-cons Each (types_at found p) (map (types_at found) ps) (in_types found p all) (in_each found all ps)

  pub in_lists : (taken : Taken) (count : ℕ) → TakenIn symbols taken → ListsIn symbols (lists taken.found count)
  in_lists taken count was = in_each taken.found was.found (range_with_len 0 count)

-- the shorter of two lists ends first
pub shorter : (a b i : ℕ) → min a b ≤ i → (a ≤ i) ⊎ (b ≤ i)
shorter a b i le = by (cases_lt i a)
  where
    by : (i < a) ⊎ (a ≤ i) → (a ≤ i) ⊎ (b ≤ i)
    by (inr here) = inl here
    by (inl other) = inr (omega (arith, le, other))

pub no_pair : (r : Matches) (ws gs : List HackType) (i : ℕ) (t : Taken) → (length ws ≤ i) ⊎ (length gs ≤ i) → pairs r (drop i ws) (drop i gs) t ≡ t
no_pair r ws gs i t (inl le) = no_wanted r ws gs i t le
no_pair r ws gs i t (inr le) = no_given r ws gs i t le

pub none_taken : (symbols : Symbols) → TakenIn symbols nothing_taken
none_taken symbols = record { found = λ k d lt. absurd (omega (arith, lt)) }
