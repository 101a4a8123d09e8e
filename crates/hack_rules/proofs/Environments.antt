-- Environments that follow another: they rise where that rises, and have all its variables.
use Rattle.std.proofs.Common.{◌≡◌, ◌<◌, ◌⊎◌, ◌==◌, ◌∙◌, ℕ, Bool, true, false, cond, Option, Some, None, List, [], ◌∷◌, map, Ordering, Less, Equal, Greater, nat_cmp, refl, sym, subst, inl, inr, arith}
use Rattle.std.proofs.lemmas.Bool.{eqb-true, eqb-false, false≢true}
use Rattle.std.specs.BTreeMap.{insert_entry}
use Rattle.std.specs.Bool.{if◌then◌else◌}
use Rattle.std.specs.Cmp.{ranks}
use Rattle.std.specs.List.{AllByRecursion, cons_option, find}
use Rattle.std.specs.Option.{IsSome, option_map}
use Rattle.std.specs.Ordering.{MatchOrdering, match_ordering}
use Rattle.hack_types.specs.SameType.{same_type}
use Rattle.hack_types.specs.Substituted.{limited}
use Rattle.hack_types.specs.declared.hack_type.HackType.{HackType}
use Rattle.hack_types.specs.declared.hack_type.HackType.TheVariants.{Mixed}
use Rattle.hack_rules.specs.Behind.{IsBelow, Rises, Stays}
use Rattle.hack_rules.specs.Variables.{Variables, either, is_among, joined, joined_entry, joined_with, mixed_in, refined, refined_by, taken_by, taking, type_in, widened, widened_entry, with_variable}

abbrev Entry : Type 0
Entry = ℕ × HackType

-- a variable is there
abbrev pub Has : ℕ → Variables → Type 0
Has name [] = ⊥
Has name (entry ∷ variables) = (entry.0 ≡ name) ⊎ Has name variables

-- ---- looking up

past : (e : Entry) (es : Variables) (name : ℕ) → Has name (e ∷ es) → (e.0 == name) ≡ false → Has name es
past e es name (inl i) apart = absurd (eqb-false e.0 name apart i)
past e es name (inr j) apart = j

found_by : (e : Entry) (o : Option Entry) (b : Bool) → (b ≡ false → IsSome (option_map (λ (x : Entry). x.1) o))
    → IsSome (option_map (λ (x : Entry). x.1) (cond b (Some e) o))
found_by e o true f = refl
found_by e o false f = f refl

pub found : (es : Variables) (name : ℕ) → Has name es → IsSome (type_in es name)
unfolding type_in
found [] name h = absurd h
found (e ∷ es) name h = found_by e (find (λ (x : Entry). x.0 == name) es) (e.0 == name) (λ apart. found es name (past e es name h apart))

has_by : (e : Entry) (es : Variables) (name : ℕ) (o : Option Entry) (b : Bool) → (e.0 == name) ≡ b
    → IsSome (option_map (λ (x : Entry). x.1) (cond b (Some e) o)) → (IsSome (option_map (λ (x : Entry). x.1) o) → Has name es) → Has name (e ∷ es)
has_by e es name o true is s f = inl (eqb-true e.0 name is)
has_by e es name o false is s f = inr (f s)

pub has_found : (es : Variables) (name : ℕ) → IsSome (type_in es name) → Has name es
unfolding type_in
has_found [] name s = absurd (false≢true s)
has_found (e ∷ es) name s = has_by e es name (find (λ (x : Entry). x.0 == name) es) (e.0 == name) refl s (λ t. has_found es name t)

-- ---- one more entry

lower : (n k : ℕ) (es : Variables) → n < k → IsBelow k es → IsBelow n es
lower n k [] lt a = tt
lower n k (e ∷ es) lt a = let here : k < e.0 = a.0 in (omega (arith, lt, here), lower n k es lt a.1)

below_at : (n k : ℕ) (v : HackType) (e : Entry) (es more : Variables) → n < k → IsBelow n (e ∷ es) → IsBelow n more
    → (r : Ordering) → IsBelow n (match_ordering r ((k, v) ∷ e ∷ es) ((e.0, v) ∷ es) (e ∷ more))
below_at n k v e es more lt a rest Less = (lt, a)
below_at n k v e es more lt a rest Equal = a
below_at n k v e es more lt a rest Greater = (a.0, rest)

below_put : (n k : ℕ) (v : HackType) (es : Variables) → n < k → IsBelow n es → IsBelow n (insert_entry nat_cmp es k v)
below_put n k v [] lt a = (lt, tt)
below_put n k v (e ∷ es) lt a = below_at n k v e es (insert_entry nat_cmp es k v) lt a (below_put n k v es lt a.1) (nat_cmp k e.0)

rises_at : (k : ℕ) (v : HackType) (e : Entry) (es more : Variables) → Rises (e ∷ es) → (e.0 < k → IsBelow e.0 more) → Rises more
    → (r : Ordering) → MatchOrdering r (k < e.0) (k ≡ e.0) (e.0 < k) → Rises (match_ordering r ((k, v) ∷ e ∷ es) ((e.0, v) ∷ es) (e ∷ more))
rises_at k v e es more s f rest Less m = ((m, lower k e.0 es m s.0), s)
rises_at k v e es more s f rest Equal m = s
rises_at k v e es more s f rest Greater m = (f m, rest)

rises_put : (k : ℕ) (v : HackType) (es : Variables) → Rises es → Rises (insert_entry nat_cmp es k v)
rises_put k v [] s = (tt, tt)
rises_put k v (e ∷ es) s =
    rises_at k v e es (insert_entry nat_cmp es k v) s (λ lt. below_put e.0 k v es lt s.0) (rises_put k v es s.1) (nat_cmp k e.0) (ranks k e.0)

has_at : (name k : ℕ) (v : HackType) (e : Entry) (es more : Variables) (r : Ordering) → Has name (e ∷ es) → (Has name es → Has name more)
    → Has name (match_ordering r ((k, v) ∷ e ∷ es) ((e.0, v) ∷ es) (e ∷ more))
has_at name k v e es more Less h f = inr h
has_at name k v e es more Equal h f = h
has_at name k v e es more Greater (inl i) f = inl i
has_at name k v e es more Greater (inr j) f = inr (f j)

has_put : (name k : ℕ) (v : HackType) (es : Variables) → Has name es → Has name (insert_entry nat_cmp es k v)
has_put name k v [] h = absurd h
has_put name k v (e ∷ es) h = has_at name k v e es (insert_entry nat_cmp es k v) (nat_cmp k e.0) h (λ j. has_put name k v es j)

-- ---- the variables of both sides

below_met : (n : ℕ) (e : Entry) (more : Variables) → n < e.0 → IsBelow n more → (o : Option HackType) → IsBelow n (cons_option (joined_entry e o) more)
below_met n e more lt rest None = rest
below_met n e more lt rest (Some ty) = (lt, rest)

below_joined : (n : ℕ) (right left : Variables) → IsBelow n left → IsBelow n (joined left right)
unfolding joined
below_joined n right [] a = tt
below_joined n right (e ∷ es) a = below_met n e (joined es right) a.0 (below_joined n right es a.1) (type_in right e.0)

rises_met : (e : Entry) (more : Variables) → IsBelow e.0 more → Rises more → (o : Option HackType) → Rises (cons_option (joined_entry e o) more)
rises_met e more a rest None = rest
rises_met e more a rest (Some ty) = (a, rest)

rises_joined : (right left : Variables) → Rises left → Rises (joined left right)
unfolding joined
rises_joined right [] s = tt
rises_joined right (e ∷ es) s = rises_met e (joined es right) (below_joined e.0 right es s.0) (rises_joined right es s.1) (type_in right e.0)

has_first : (name : ℕ) (e : Entry) (more : Variables) → e.0 ≡ name → (o : Option HackType) → IsSome o → Has name (cons_option (joined_entry e o) more)
has_first name e more i None s = absurd (false≢true s)
has_first name e more i (Some ty) s = inl i

has_rest : (name : ℕ) (e : Entry) (more : Variables) → Has name more → (o : Option HackType) → Has name (cons_option (joined_entry e o) more)
has_rest name e more h None = h
has_rest name e more h (Some ty) = inr h

has_joined : (name : ℕ) (right left : Variables) → Has name right → Has name left → Has name (joined left right)
unfolding joined
has_joined name right [] r h = absurd h
has_joined name right (e ∷ es) r (inl i) =
    has_first name e (joined es right) i (type_in right e.0) (found right e.0 (subst (λ n. Has n right) (sym i) r))
has_joined name right (e ∷ es) r (inr j) = has_rest name e (joined es right) (has_joined name right es r j) (type_in right e.0)

-- ---- the same ids

abbrev SameIds : (Entry → Entry) → Type 0
SameIds f = (e : Entry) → (f e).0 ≡ e.0

below_map : (f : Entry → Entry) → SameIds f → (n : ℕ) (es : Variables) → IsBelow n es → IsBelow n (map f es)
below_map f same n [] a = tt
below_map f same n (e ∷ es) a = (subst (λ k. n < k) (sym (same e)) a.0, below_map f same n es a.1)

rises_map : (f : Entry → Entry) → SameIds f → (es : Variables) → Rises es → Rises (map f es)
rises_map f same [] s = tt
rises_map f same (e ∷ es) s = (subst (λ k. IsBelow k (map f es)) (sym (same e)) (below_map f same e.0 es s.0), rises_map f same es s.1)

has_map : (f : Entry → Entry) → SameIds f → (name : ℕ) (es : Variables) → Has name es → Has name (map f es)
has_map f same name [] h = absurd h
has_map f same name (e ∷ es) (inl i) = inl (same e ∙ i)
has_map f same name (e ∷ es) (inr j) = inr (has_map f same name es j)

-- ---- what follows an environment

pub record Follows (base here : Variables) : Type 0 where
  pub rises : Rises base → Rises here
  pub keeps : (name : ℕ) → Has name base → Has name here

pub follows_self : {base : Variables} → Follows base base
follows_self = record { rises = λ s. s; keeps = λ name h. h }

pub follows_with : {base here : Variables} (name : ℕ) (ty : HackType) → Follows base here → Follows base (with_variable here name ty)
unfolding with_variable
follows_with {here = here} name ty f = record {
  rises = λ s. rises_put name (limited ty) here (f.rises s);
  keeps = λ n h. has_put n name (limited ty) here (f.keeps n h);
}

pub follows_joined : {base left right : Variables} → Follows base left → Follows base right → Follows base (joined left right)
follows_joined {left = left} {right = right} l r = record {
  rises = λ s. rises_joined right left (l.rises s);
  keeps = λ n h. has_joined n right left (r.keeps n h) (l.keeps n h);
}

follows_map : {base here : Variables} (f : Entry → Entry) → SameIds f → Follows base here → Follows base (map f here)
follows_map {here = here} f same w = record {
  rises = λ s. rises_map f same here (w.rises s);
  keeps = λ n h. has_map f same n here (w.keeps n h);
}

abbrev mixed_if : Bool → Entry → Entry
mixed_if b e = if b then (e.0, Mixed) else e

same_if : (b : Bool) (e : Entry) → (mixed_if b e).0 ≡ e.0
same_if true e = refl
same_if false e = refl

pub follows_mixed : {base here : Variables} (names : List ℕ) → Follows base here → Follows base (mixed_in names here)
unfolding mixed_in
follows_mixed names f = follows_map (λ e. mixed_if (is_among names e.0) e) (λ e. same_if (is_among names e.0) e) f

abbrev mixed_unless : Bool → Entry → Entry
mixed_unless b e = if b then e else (e.0, Mixed)

same_unless : (b : Bool) (e : Entry) → (mixed_unless b e).0 ≡ e.0
same_unless true e = refl
same_unless false e = refl

same_widened : (e : Entry) (o : Option HackType) → (widened_entry e o).0 ≡ e.0
same_widened e None = refl
same_widened e (Some before) = same_unless (same_type before e.1) e

pub follows_widened : {base here : Variables} (before : Variables) → Follows base here → Follows base (widened before here)
unfolding widened
follows_widened before f = follows_map (λ e. widened_entry e (type_in before e.0)) (λ e. same_widened e (type_in before e.0)) f

follows_taken : {base here : Variables} (name : ℕ) (o : Option HackType) → Follows base here → Follows base (taken_by here name o)
follows_taken name None f = f
follows_taken name (Some ty) f = follows_with name ty f

pub follows_taking : {base : Variables} (names : List ℕ) (from here : Variables) → Follows base here → Follows base (taking names from here)
unfolding taking
follows_taking [] from here f = f
follows_taking (name ∷ names) from here f =
    follows_taking names from (taken_by here name (type_in from name)) (follows_taken name (type_in from name) f)

follows_refined_by : {base here : Variables} (g : HackType → HackType) (name : ℕ) (o : Option HackType) → Follows base here → Follows base (refined_by here name g o)
follows_refined_by g name None f = f
follows_refined_by g name (Some ty) f = follows_with name (g ty) f

pub follows_refined : {base here : Variables} (g : HackType → HackType) (subject : Option ℕ) → Follows base here → Follows base (refined here subject g)
unfolding refined
follows_refined g None f = f
follows_refined {here = here} g (Some name) f = follows_refined_by g name (type_in here name) f

pub follows_joined_with : {base : Variables} (ends : List Variables) (here : Variables) → Follows base here → AllByRecursion (Follows base) ends
    → Follows base (joined_with here ends)
unfolding joined_with
follows_joined_with [] here f all = f
follows_joined_with (end ∷ ends) here f all = follows_joined_with ends (joined here end) (follows_joined f all.0) all.1

-- an end that may not be reached
abbrev pub MayFollow : Variables → Option Variables → Type 0
MayFollow base None = Unit {0}
MayFollow base (Some here) = Follows base here

pub follows_either : (base : Variables) (left right : Option Variables) → MayFollow base left → MayFollow base right → MayFollow base (either left right)
unfolding either
follows_either base None right l r = r
follows_either base (Some left) None l r = l
follows_either base (Some left) (Some right) l r = follows_joined l r

-- ---- in the words of the laws

pub stays_of : {base here : Variables} → Follows base here → Stays base here
stays_of {base = base} {here = here} f = λ name s. found here name (f.keeps name (has_found base name s))
