-- Loops that leave the environment of their entry.
use Rattle.std.proofs.Common.{◌≡◌, ◌<◌, ◌≤◌, ◌==◌, ◌∙◌, ◌++◌, ℕ, Bool, true, false, cond, Option, Some, None, List, [], ◌∷◌, map, refl, sym, ap, subst, arith}
use Rattle.std.proofs.lemmas.Bool.{eq-eqb, le-leb, ne_eqb}
use Rattle.std.specs.Bool.{if◌then◌else◌, nat_le}
use Rattle.std.specs.List.{AllByRecursion, cons_option, find, fold}
use Rattle.std.specs.Option.{IfSome, option_map, option_to_list}
use Rattle.hack_types.specs.SameLaws.{same_of_itself}
use Rattle.hack_types.specs.Substituted.{limited, most_nodes}
use Rattle.hack_types.specs.TypeNodes.{nodes}
use Rattle.hack_types.specs.UnionOf.{union_of}
use Rattle.hack_types.specs.declared.diag.Diag.{Diag}
use Rattle.hack_types.specs.declared.hack_type.HackType.{HackType}
use Rattle.hack_types.specs.declared.hack_type.HackType.TheVariants.{Any, Mixed}
use Rattle.hack_types.specs.declared.place.Place.{Place}
use Rattle.hack_decls.specs.DeclState.{Map}
use Rattle.hack_rules.specs.Behind.{IsBelow, Rises, state_of}
use Rattle.hack_rules.specs.Ends.{Ends, Inside, ends_here}
use Rattle.hack_rules.specs.Idle.{GoesRound, IsSettled, one_pass}
use Rattle.hack_rules.specs.Loops.{Turn, most_loops, refuse_loop, three_passes, unless_deep}
use Rattle.hack_rules.specs.Variables.{Variables, either, joined, joined_entry, joined_with, type_in, union_of_two, widened, widened_entry}
use Rattle.hack_rules.specs.Walks.{Setting, State, Walk, ◌>>=◌, ◌>>◌, after, pure, quietly, replace, report, variables}

abbrev Entry : Type 0
Entry = ℕ × HackType

-- ---- each variable is found where the ids rise

-- the variables of the one have their types in the other
abbrev pub AreIn : Variables → Variables → Type 0
AreIn whole es = AllByRecursion (λ (e : Entry). type_in whole e.0 ≡ Some e.1) es

found_past : (e : Entry) (whole : Variables) (name : ℕ) (ty : HackType) → (e.0 == name) ≡ false → type_in whole name ≡ Some ty → type_in (e ∷ whole) name ≡ Some ty
unfolding type_in
found_past e whole name ty apart is =
    ap (λ b. option_map (λ (x : Entry). x.1) (cond b (Some e) (find (λ (x : Entry). x.0 == name) whole))) apart ∙ is

in_more : (e : Entry) (whole es : Variables) → IsBelow e.0 es → AreIn whole es → AreIn (e ∷ whole) es
in_more e whole [] below all = tt
in_more e whole (x ∷ xs) below all = let lt : e.0 < x.0 = below.0 in
    (found_past e whole x.0 x.1 (ne_eqb e.0 x.0 (λ same. omega (arith, lt, same))) all.0, in_more e whole xs below.1 all.1)

found_first : (e : Entry) (es : Variables) → type_in (e ∷ es) e.0 ≡ Some e.1
unfolding type_in
found_first e es = ap (λ b. option_map (λ (x : Entry). x.1) (cond b (Some e) (find (λ (x : Entry). x.0 == e.0) es))) (eq-eqb e.0 e.0 refl)

pub all_in : (es : Variables) → Rises es → AreIn es es
all_in [] s = tt
all_in (e ∷ es) s = (found_first e es, in_more e es es s.0 (all_in es s.1))

-- ---- an environment with itself

widened_from : (whole es : Variables) → AreIn whole es → map (λ (e : Entry). widened_entry e (type_in whole e.0)) es ≡ es
widened_from whole [] all = refl
widened_from whole (e ∷ es) all =
    ap (λ o. widened_entry e o ∷ map (λ (x : Entry). widened_entry x (type_in whole x.0)) es) all.0
    ∙ ap (λ b. cond {A = Entry} b e (e.0, Mixed) ∷ map (λ (x : Entry). widened_entry x (type_in whole x.0)) es) (same_of_itself e.1)
    ∙ ap (λ more. e ∷ more) (widened_from whole es all.1)

widened_itself : (entry : Variables) → Rises entry → widened entry entry ≡ entry
unfolding widened
widened_itself entry s = widened_from entry entry (all_in entry s)

-- each type is its union with itself, and no union is too large
abbrev Settled : Variables → Type 0
Settled es = AllByRecursion (λ (e : Entry). union_of_two e.1 e.1 ≡ e.1) es

settled_one : (ty : HackType) → union_of (ty ∷ ty ∷ []) ≡ ty → nodes ty ≤ most_nodes → union_of_two ty ty ≡ ty
unfolding union_of_two
settled_one ty u le = ap limited u ∙ ap (λ b. cond b ty Any) (le-leb (nodes ty) most_nodes le)

settled_all : (es : Variables) → AllByRecursion (λ (e : Entry). union_of (e.1 ∷ e.1 ∷ []) ≡ e.1) es → AllByRecursion (λ (e : Entry). nodes e.1 ≤ most_nodes) es → Settled es
settled_all [] u n = tt
settled_all (e ∷ es) u n = (settled_one e.1 u.0 n.0, settled_all es u.1 n.1)

joined_within : (whole es : Variables) → AreIn whole es → Settled es → joined es whole ≡ es
unfolding joined
joined_within whole [] all u = refl
joined_within whole (e ∷ es) all u =
    ap (λ o. cons_option (joined_entry e o) (joined es whole)) all.0
    ∙ ap (λ (ty : HackType). (e.0, ty) ∷ joined es whole) u.0
    ∙ ap (λ more. e ∷ more) (joined_within whole es all.1 u.1)

pub joined_from : (whole entry : Variables) → AreIn whole entry → IsSettled entry → joined entry whole ≡ entry
joined_from whole entry all s = joined_within whole entry all (settled_all entry s.unions s.sizes)

pub joined_itself : (entry : Variables) → IsSettled entry → joined entry entry ≡ entry
joined_itself entry s = joined_from entry entry (all_in entry s.rises) s

joined_back : (entry : Variables) (ends : List Variables) → AllByRecursion (λ end. joined entry end ≡ entry) ends → joined_with entry ends ≡ entry
unfolding joined_with
joined_back entry [] all = refl
joined_back entry (end ∷ ends) all = ap (λ here. fold joined here ends) all.0 ∙ joined_back entry ends all.1

-- ---- three passes are one

module _ (setting : Setting) (m : Map) (entry : Variables) (rises : Rises entry) (turn : Walk Turn) (round : GoesRound setting m entry turn) where
  abbrev once_more : Variables → Variables
  once_more here = joined_with here (turn setting m (state_of here [])).0.ends

  stays : once_more entry ≡ entry
  stays = joined_back entry (turn setting m (state_of entry [])).0.ends round

  third : widened (once_more entry) (once_more (once_more entry)) ≡ entry
  third = ap (λ here. widened here (once_more here)) stays ∙ ap (λ here. widened entry here) stays ∙ widened_itself entry rises

  abbrev ended : Turn → Walk Ends
  ended last = pure (record { normal = either last.behind last.breaks; breaks = None; continues = None })

  pub passes : (found : List Diag) → ◌≡◌ {A = Ends × State} (three_passes turn setting m (state_of entry found)) (one_pass turn setting m (state_of entry found))
  unfolding three_passes one_pass ◌>>=◌ ◌>>◌ pure variables quietly replace
  passes found = ap (λ here. after (turn setting m (state_of here found)) ended setting m) third

-- ---- ends that are an environment which joins with the entry

module _ (entry start : Variables) (joins : joined entry start ≡ entry) where
  back : (end : Variables) → end ≡ start → joined entry end ≡ entry
  back end is = ap (λ e. joined entry e) is ∙ joins

  pub all_back : (normal continues : Option Variables) → IfSome normal (λ end. end ≡ start) → IfSome continues (λ end. end ≡ start)
      → AllByRecursion (λ end. joined entry end ≡ entry) (option_to_list normal ++ option_to_list continues)
  all_back None None n c = tt
  all_back None (Some y) n c = (back y c, tt)
  all_back (Some x) None n c = (back x n, tt)
  all_back (Some x) (Some y) n c = (back x n, (back y c, tt))

  with_breaks : (breaks : Option Variables) → IfSome breaks (λ end. end ≡ start) → either (Some entry) breaks ≡ Some entry
  unfolding either
  with_breaks None b = refl
  with_breaks (Some here) b = ap Some (back here b)

  -- what a turn leaves whose end is reached
  abbrev pub Leaves : Turn → Type 0
  Leaves turn = AllByRecursion (λ end. joined entry end ≡ entry) turn.ends × (turn.behind ≡ Some entry) × IfSome turn.breaks (λ end. end ≡ start)

  left : (turn : Turn) → Leaves turn → either turn.behind turn.breaks ≡ Some entry
  left turn leaves = ap (λ o. either o turn.breaks) leaves.1 ∙ with_breaks turn.breaks leaves.2

  module _ (setting : Setting) (m : Map) (rises : Rises entry) (turn : Walk Turn) (leaves : (found : List Diag) → Leaves (turn setting m (state_of entry found)).0) where
    once : (found : List Diag) → (one_pass turn setting m (state_of entry found)).0.normal ≡ Some entry
    unfolding one_pass ◌>>=◌ pure
    once found = left (turn setting m (state_of entry found)).0 (leaves found)

    pub leaves_entry : (found : List Diag) → (three_passes turn setting m (state_of entry found)).0.normal ≡ Some entry
    leaves_entry found = ap (λ (r : Ends × State). r.0.normal) (passes setting m entry rises turn (leaves []).0 found) ∙ once found

module _ (entry : Variables) (itself : joined entry entry ≡ entry) where
  pub both_keep : (left right : Option Variables) → IfSome left (λ end. end ≡ entry) → IfSome right (λ end. end ≡ entry) → IfSome (either left right) (λ end. end ≡ entry)
  unfolding either
  both_keep None right l r = r
  both_keep (Some x) None l r = l
  both_keep (Some x) (Some y) l r = ap (λ e. joined e y) l ∙ ap (λ e. joined entry e) r ∙ itself

  -- what a turn leaves whose end may not be reached
  abbrev pub MayLeave : Turn → Type 0
  MayLeave turn = AllByRecursion (λ end. joined entry end ≡ entry) turn.ends × IfSome turn.behind (λ end. end ≡ entry) × IfSome turn.breaks (λ end. end ≡ entry)

  module _ (setting : Setting) (m : Map) (rises : Rises entry) (turn : Walk Turn) (leaves : (found : List Diag) → MayLeave (turn setting m (state_of entry found)).0) where
    may_once : (found : List Diag) → IfSome (one_pass turn setting m (state_of entry found)).0.normal (λ end. end ≡ entry)
    unfolding one_pass ◌>>=◌ pure
    may_once found = both_keep (turn setting m (state_of entry found)).0.behind (turn setting m (state_of entry found)).0.breaks (leaves found).1 (leaves found).2

    pub may_leave_entry : (found : List Diag) → IfSome (three_passes turn setting m (state_of entry found)).0.normal (λ end. end ≡ entry)
    may_leave_entry found =
        subst (λ (r : Ends × State). IfSome r.0.normal (λ end. end ≡ entry)) (sym (passes setting m entry rises turn (leaves []).0 found)) (may_once found)

-- ---- a loop inside eight others

module _ (setting : Setting) (m : Map) (entry : Variables) (P : Option Variables → Type 0) (here : P (Some entry)) (at : Place) (loop : Walk Ends)
    (holds : (found : List Diag) → P (loop setting m (state_of entry found)).0.normal) where
  refused : (found : List Diag) → P (refuse_loop at setting m (state_of entry found)).0.normal
  unfolding refuse_loop ends_here report variables ◌>>=◌ ◌>>◌ pure
  refused found = here

  by_depth : (deep : Bool) (found : List Diag) → P ((if deep then refuse_loop at else loop) setting m (state_of entry found)).0.normal
  by_depth true found = refused found
  by_depth false found = holds found

  pub of_deep : (inside : Inside) (found : List Diag) → P (unless_deep at inside loop setting m (state_of entry found)).0.normal
  unfolding unless_deep
  of_deep inside found = by_depth (nat_le most_loops inside.loops) found
