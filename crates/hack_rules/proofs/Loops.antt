-- Loops go well.
use Rattle.std.proofs.Common.{ℕ, Option, Some, None, List, [], ◌∷◌, ◌++◌}
use Rattle.std.specs.Bool.{nat_le}
use Rattle.std.specs.List.{AllByRecursion}
use Rattle.std.specs.Option.{option_to_list}
use Rattle.hack_types.specs.declared.hack_type.HackType.{HackType, out-HackType}
use Rattle.hack_types.specs.declared.hack_type.HackType.TheOpen.{HackType-F}
use Rattle.hack_types.specs.declared.place.Place.{Place}
use Rattle.hack_rules.specs.Ends.{Doing, Ends, Inside}
use Rattle.hack_rules.specs.Loops.{Turn, assign_key, behind_test, class_types, deeper, do_ends, do_test, do_turn, for_ends, for_loop, for_steps, for_test, for_turn, foreach_ends, foreach_loop, foreach_turn, foreach_types, keyed_by, most_loops, null_types, reached, refuse_loop, three_passes, traversed, types_by, unless_deep, values_by, while_ends, while_turn}
use Rattle.hack_rules.specs.Meanings.{Meaning}
use Rattle.hack_rules.specs.Variables.{Variables, either}
use Rattle.hack_rules.specs.Walks.{Walk}
use Rattle.hack_rules.proofs.Ends.{GoodDoing, GoodEnds, goes_ends_here}
use Rattle.hack_rules.proofs.Environments.{Follows, MayFollow, follows_either, follows_joined_with, follows_widened}
use Rattle.hack_rules.proofs.Meanings.{AllSound, MaySound, Parted, Sound}
use Rattle.hack_rules.proofs.Steps.{Free, Goes, free_reads, goes_assign, goes_each, goes_either, goes_next, goes_pure, goes_quietly, goes_replace, goes_report, goes_then, goes_variables}

-- all that a turn leaves follows
abbrev pub GoodTurn : Variables → Turn → Type 0
GoodTurn base turn = AllByRecursion (Follows base) turn.ends × MayFollow base turn.behind × MayFollow base turn.breaks

module _ (base : Variables) where
  good_reached_by : (normal continues : Option Variables) → MayFollow base normal → MayFollow base continues
      → AllByRecursion (Follows base) (option_to_list normal ++ option_to_list continues)
  good_reached_by None None n c = tt
  good_reached_by None (Some there) n c = (c, tt)
  good_reached_by (Some here) None n c = (n, tt)
  good_reached_by (Some here) (Some there) n c = (n, (c, tt))

  good_reached : (ends : Ends) → GoodEnds base ends → AllByRecursion (Follows base) (reached ends)
  good_reached ends e = good_reached_by ends.normal ends.continues e.0 e.2

  may_behind : (condition : Option Meaning) (here : Variables) → Follows base here → MayFollow base (behind_test condition here)
  may_behind None here f = tt
  may_behind (Some condition) here f = f

module _ {base : Variables} where
  goes_three_passes : {turn : Walk Turn} → Goes base (GoodTurn base) turn → Goes base (GoodEnds base) (three_passes turn)
  unfolding three_passes
  goes_three_passes p = goes_then goes_variables (λ entry f. goes_then (goes_quietly f p) (λ first g.
      goes_then (goes_pure {Gives = Follows base} _ (follows_joined_with first.ends entry f g.0)) (λ second_entry h. goes_then (goes_quietly h p) (λ second k.
      goes_next (goes_replace (follows_widened second_entry (follows_joined_with second.ends second_entry h k.0)))
      (goes_then p (λ third l. goes_pure _ (follows_either base third.behind third.breaks l.1 l.2, tt, tt)))))))

  goes_refuse_loop : (at : Place) → Goes base (GoodEnds base) (refuse_loop at)
  unfolding refuse_loop
  goes_refuse_loop _ = goes_next (goes_report _ _) goes_ends_here

  goes_unless_deep : (at : Place) (inside : Inside) {loop : Walk Ends} → Goes base (GoodEnds base) loop → Goes base (GoodEnds base) (unless_deep at inside loop)
  unfolding unless_deep
  goes_unless_deep _ inside p = goes_either (nat_le most_loops inside.loops) (goes_refuse_loop _) p

  -- ---- while

  goes_while_turn : {condition : Meaning} {body : Doing} (inside : Inside) → Sound base condition → GoodDoing base body → Goes base (GoodTurn base) (while_turn condition body inside)
  unfolding while_turn
  goes_while_turn inside c b = goes_then c.branches (λ branches f. goes_next (goes_replace f.0)
      (goes_then (b.ends (deeper inside)) (λ ends e. goes_pure _ (good_reached base ends e, f.1, e.1))))

  pub goes_while : (at : Place) {condition : Meaning} {body : Doing} (inside : Inside) → Sound base condition → GoodDoing base body
      → Goes base (GoodEnds base) (while_ends at condition body inside)
  unfolding while_ends
  goes_while _ inside c b = goes_unless_deep _ inside (goes_three_passes (goes_while_turn inside c b))

  -- ---- do

  goes_do_test : {condition : Meaning} → Sound base condition → (ends : Ends) → GoodEnds base ends → (here : Option Variables) → MayFollow base here
      → Goes base (GoodTurn base) (do_test condition ends here)
  goes_do_test c ends e None n = goes_pure _ (tt, tt, e.1)
  goes_do_test c ends e (Some here) n = goes_next (goes_replace n) (goes_then c.branches (λ branches f. goes_pure _ ((f.0, tt), f.1, e.1)))

  goes_do_turn : {body : Doing} {condition : Meaning} (inside : Inside) → GoodDoing base body → Sound base condition → Goes base (GoodTurn base) (do_turn body condition inside)
  unfolding do_turn
  goes_do_turn inside b c = goes_then (b.ends (deeper inside)) (λ ends e.
      goes_do_test c ends e (either ends.normal ends.continues) (follows_either base ends.normal ends.continues e.0 e.2))

  pub goes_do : (at : Place) {body : Doing} {condition : Meaning} (inside : Inside) → GoodDoing base body → Sound base condition
      → Goes base (GoodEnds base) (do_ends at body condition inside)
  unfolding do_ends
  goes_do _ inside b c = goes_unless_deep _ inside (goes_three_passes (goes_do_turn inside b c))

  -- ---- for

  goes_for_test : (condition : Option Meaning) → MaySound base condition → Goes base (Parted base) (for_test condition)
  goes_for_test None c = goes_then goes_variables (λ here f. goes_pure _ (f, f))
  goes_for_test (Some condition) c = c.branches

  goes_for_steps : (steps : List Meaning) → AllSound base steps → (behind breaks : Option Variables) → MayFollow base behind → MayFollow base breaks
      → (here : Option Variables) → MayFollow base here → Goes base (GoodTurn base) (for_steps steps behind breaks here)
  goes_for_steps steps all behind breaks b r None n = goes_pure _ (tt, b, r)
  goes_for_steps steps all behind breaks b r (Some here) n = goes_next (goes_replace n)
      (goes_next (goes_each (Sound base) (λ step good. good.walk) steps all) (goes_then goes_variables (λ end f. goes_pure _ ((f, tt), b, r))))

  goes_for_turn : (condition : Option Meaning) (steps : List Meaning) {body : Doing} (inside : Inside) → MaySound base condition → AllSound base steps → GoodDoing base body
      → Goes base (GoodTurn base) (for_turn condition steps body inside)
  unfolding for_turn
  goes_for_turn condition steps inside c all b = goes_then (goes_for_test condition c) (λ branches f. goes_next (goes_replace f.0)
      (goes_then (b.ends (deeper inside)) (λ ends e. goes_for_steps steps all (behind_test condition branches.when_false) ends.breaks
      (may_behind base condition branches.when_false f.1) e.1 (either ends.normal ends.continues) (follows_either base ends.normal ends.continues e.0 e.2))))

  goes_for_loop : (start : List Meaning) (condition : Option Meaning) (steps : List Meaning) {body : Doing} (inside : Inside) → AllSound base start
      → MaySound base condition → AllSound base steps → GoodDoing base body → Goes base (GoodEnds base) (for_loop start condition steps body inside)
  unfolding for_loop
  goes_for_loop start condition steps inside s c all b =
      goes_next (goes_each (Sound base) (λ e good. good.walk) start s) (goes_three_passes (goes_for_turn condition steps inside c all b))

  pub goes_for : (at : Place) (start : List Meaning) (condition : Option Meaning) (steps : List Meaning) {body : Doing} (inside : Inside) → AllSound base start
      → MaySound base condition → AllSound base steps → GoodDoing base body → Goes base (GoodEnds base) (for_ends at start condition steps body inside)
  unfolding for_ends
  goes_for _ start condition steps inside s c all b = goes_unless_deep _ inside (goes_for_loop start condition steps inside s c all b)

  -- ---- foreach

  goes_values_by : (at : Place) (head : HackType) (arguments : Option (List HackType)) → Goes base Free (values_by at head arguments)
  goes_values_by _ _ (Some (value ∷ [])) = goes_pure _ tt
  goes_values_by _ _ _ = goes_next (goes_report _ _) (goes_pure _ tt)

  goes_traversed : (at : Place) (head : HackType) → Goes base Free (traversed at head)
  unfolding traversed
  goes_traversed _ _ = goes_then (free_reads _) (λ arguments g. goes_values_by _ _ arguments)

  goes_keyed_by : (at : Place) (head : HackType) (arguments : Option (List HackType)) → Goes base Free (keyed_by at head arguments)
  goes_keyed_by _ _ (Some (key ∷ value ∷ [])) = goes_pure _ tt
  goes_keyed_by _ _ _ = goes_traversed _ _

  goes_class_types : (at : Place) (head : HackType) → Goes base Free (class_types at head)
  unfolding class_types
  goes_class_types _ _ = goes_then (free_reads _) (λ arguments g. goes_keyed_by _ _ arguments)

  goes_null_types : (at : Place) → Goes base Free (null_types at)
  unfolding null_types
  goes_null_types _ = goes_next (goes_report _ _) (goes_pure _ tt)

  goes_types_by : (at : Place) (head : HackType) (layer : HackType-F HackType) → Goes base Free (types_by at head layer)
  goes_types_by _ _ HackType-F.Any = goes_pure _ tt
  goes_types_by _ _ (HackType-F.Vector item) = goes_pure _ tt
  goes_types_by _ _ (HackType-F.Dict key value) = goes_pure _ tt
  goes_types_by _ _ (HackType-F.Keyset item) = goes_pure _ tt
  goes_types_by _ _ (HackType-F.Option inside) = goes_null_types _
  goes_types_by _ _ HackType-F.Null = goes_null_types _
  goes_types_by _ _ _ = goes_class_types _ _

  goes_foreach_types : {subject : Meaning} → Sound base subject → Goes base Free (foreach_types subject)
  unfolding foreach_types
  goes_foreach_types s = goes_then s.walk (λ ty g. goes_then (free_reads _) (λ head h. goes_types_by _ _ (out-HackType head)))

  goes_assign_key : (ty : HackType) (key : Option ℕ) → Goes base Free (assign_key key ty)
  goes_assign_key _ None = goes_pure _ tt
  goes_assign_key _ (Some name) = goes_assign _ _

  goes_foreach_turn : (value : ℕ) (types : HackType × HackType) (key : Option ℕ) {body : Doing} (inside : Inside) → GoodDoing base body
      → Goes base (GoodTurn base) (foreach_turn types key value body inside)
  unfolding foreach_turn
  goes_foreach_turn _ types key inside b = goes_then goes_variables (λ entry f. goes_next (goes_assign_key _ key) (goes_next (goes_assign _ _)
      (goes_then (b.ends (deeper inside)) (λ ends e. goes_pure _ (good_reached base ends e, f, e.1)))))

  goes_foreach_loop : (value : ℕ) {subject : Meaning} (key : Option ℕ) {body : Doing} (inside : Inside) → Sound base subject → GoodDoing base body
      → Goes base (GoodEnds base) (foreach_loop subject key value body inside)
  unfolding foreach_loop
  goes_foreach_loop _ key inside s b = goes_then (goes_foreach_types s) (λ types g. goes_three_passes (goes_foreach_turn _ types key inside b))

  pub goes_foreach : (at : Place) (value : ℕ) {subject : Meaning} (key : Option ℕ) {body : Doing} (inside : Inside) → Sound base subject → GoodDoing base body
      → Goes base (GoodEnds base) (foreach_ends at subject key value body inside)
  unfolding foreach_ends
  goes_foreach _ _ key inside s b = goes_unless_deep _ inside (goes_foreach_loop _ key inside s b)
