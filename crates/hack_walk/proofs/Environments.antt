-- Environments that grow at their end, and what is looked up in them.
use Rattle.std.proofs.Common.{◌≡◌, ◌<◌, ◌==◌, ◌||◌, ◌++◌, ◌∙◌, ℕ, Bool, true, false, cond, not, Option, Some, None, List, [], ◌∷◌, Ordering, Less, Equal, Greater, nat_cmp, is_eq, option_map, map, refl, sym, ap, ap₂, subst, append-nil, eq-eqb, ne_eqb, arith}
use Rattle.std.proofs.lemmas.Cmp.{nat_cmp_total}
use Rattle.std.proofs.lemmas.List.{map_push}
use Rattle.std.specs.BTreeMap.{insert_entry, is_at}
use Rattle.std.specs.Cmp.{ranks}
use Rattle.std.specs.List.{AllByRecursion, cons_option, find, list_any}
use Rattle.std.specs.List.Sorted.{IsStrictlySortedBy}
use Rattle.std.specs.Map.{keys_of, lookup}
use Rattle.std.specs.Ordering.{MatchOrdering, match_ordering, ordering_reverse}
use Rattle.hack_types.specs.SameType.{same_type}
use Rattle.hack_types.specs.declared.hack_type.HackType.{HackType}
use Rattle.hack_types.specs.declared.hack_type.HackType.TheVariants.{Mixed}
use Rattle.hack_rules.specs.Variables.{Variables, is_among, joined, joined_entry, mixed_in, type_in, union_of_two, widened, widened_entry}
use Rattle.hack_walk.specs.inside.Calls.{widened_type, with_joined}

abbrev pub Entry : Type 0
Entry = ℕ × HackType

-- ---- the order

abbrev pub Rise : Variables → Type 0
Rise es = IsStrictlySortedBy nat_cmp (keys_of es)

-- a name that is above all of these
abbrev pub Above : ℕ → Variables → Type 0
Above name [] = Unit {0}
Above name (e ∷ es) = (nat_cmp name e.0 ≡ Greater) × Above name es

below_middle : (first : Entry) (es : Variables) (e : Entry) (more : Variables) → AllByRecursion (λ y. nat_cmp first.0 y ≡ Less) (keys_of (es ++ e ∷ more)) → nat_cmp first.0 e.0 ≡ Less
below_middle first [] e more h = h.0
below_middle first (x ∷ es) e more h = below_middle first es e more h.1

pub above_those : (done : Variables) (e : Entry) (more : Variables) → Rise (done ++ e ∷ more) → Above e.0 done
unfolding IsStrictlySortedBy
above_those [] e more h = tt
above_those (first ∷ done) e more h = (nat_cmp_total.antisymm e.0 first.0 ∙ ap ordering_reverse (below_middle first done e more h.0), above_those done e more h.1)

pub above_parts : (name : ℕ) (done : Variables) (e : Entry) → Above name (done ++ e ∷ []) → Above name done × (nat_cmp name e.0 ≡ Greater)
above_parts name [] e h = (tt, h.0)
above_parts name (d ∷ done) e h = let parts = above_parts name done e h.1 in ((h.0, parts.0), parts.1)

-- a variable above all others goes last
pub put_last : (done : Variables) (name : ℕ) (ty : HackType) → Above name done → insert_entry nat_cmp done name ty ≡ done ++ (name, ty) ∷ []
put_last [] name ty h = refl
put_last (first ∷ done) name ty h =
    ap (λ o. match_ordering o ((name, ty) ∷ first ∷ done) ((first.0, ty) ∷ done) (first ∷ insert_entry nat_cmp done name ty)) h.0
    ∙ ap (λ es. first ∷ es) (put_last done name ty h.1)

-- ---- what is looked up

same_test : (name key : ℕ) (o : Ordering) → MatchOrdering o (name < key) (name ≡ key) (key < name) → is_eq o ≡ (key == name)
same_test name key Less lt = sym (ne_eqb key name (λ e. omega (arith, e)))
same_test name key Equal e = sym (eq-eqb key name (sym e))
same_test name key Greater lt = sym (ne_eqb key name (λ e. omega (arith, e)))

found_by : (e : Entry) (here there : Bool) (found : Option HackType) (entry : Option Entry) → here ≡ there → found ≡ option_map (λ (x : Entry). x.1) entry
    → cond here (Some e.1) found ≡ option_map (λ (x : Entry). x.1) (cond there (Some e) entry)
found_by e true true found entry same is = refl
found_by e false false found entry same is = is
found_by e true false found entry same is = absurd cc
found_by e false true found entry same is = absurd cc

pub looked_up : (es : Variables) (name : ℕ) → lookup (is_at (nat_cmp name)) es ≡ type_in es name
unfolding type_in
looked_up [] name = refl
looked_up (e ∷ es) name =
    found_by e (is_eq (nat_cmp name e.0)) (e.0 == name) (lookup (is_at (nat_cmp name)) es) (find (λ (x : Entry). x.0 == name) es)
    (same_test name e.0 (nat_cmp name e.0) (ranks name e.0)) (looked_up es name)

-- ---- a join so far

above_one : (name : ℕ) (d : Entry) (other : Option HackType) (more : Variables) → nat_cmp name d.0 ≡ Greater → Above name more → Above name (cons_option (joined_entry d other) more)
above_one name d None more here rest = rest
above_one name d (Some ty) more here rest = (here, rest)

above_joined : (name : ℕ) (done right : Variables) → Above name done → Above name (joined done right)
unfolding joined
above_joined name [] right h = tt
above_joined name (d ∷ done) right h = above_one name d (type_in right d.0) (joined done right) h.0 (above_joined name done right h.1)

front : (o : Option Entry) (xs ys : Variables) → cons_option o (xs ++ ys) ≡ cons_option o xs ++ ys
front None xs ys = refl
front (Some e) xs ys = refl

joined_more : (done : Variables) (e : Entry) (right : Variables) → joined (done ++ e ∷ []) right ≡ joined done right ++ cons_option (joined_entry e (type_in right e.0)) []
unfolding joined
joined_more [] e right = refl
joined_more (d ∷ done) e right =
    ap (λ es. cons_option (joined_entry d (type_in right d.0)) es) (joined_more done e right)
    ∙ front (joined_entry d (type_in right d.0)) (joined done right) (cons_option (joined_entry e (type_in right e.0)) [])

put_one : (es : Variables) (e : Entry) (other : Option HackType) → Above e.0 es → with_joined es (joined_entry e other) ≡ es ++ cons_option (joined_entry e other) []
put_one es e None h = sym (append-nil es)
put_one es e (Some ty) h = put_last es e.0 (union_of_two e.1 ty) h

pub joined_next : (done : Variables) (e : Entry) (right : Variables) → Above e.0 done
    → with_joined (joined done right) (joined_entry e (type_in right e.0)) ≡ joined (done ++ e ∷ []) right
joined_next done e right h = put_one (joined done right) e (type_in right e.0) (above_joined e.0 done right h) ∙ sym (joined_more done e right)

pub joined_none : (right : Variables) → [] ≡ joined [] right
unfolding joined
joined_none right = refl

-- a name above an entry isn't that entry's
pub not_at : (name key : ℕ) → nat_cmp name key ≡ Greater → is_at (nat_cmp key) name ≡ false
not_at name key h = ap is_eq (nat_cmp_total.antisymm key name ∙ ap ordering_reverse h)

-- ---- environments whose types change

module _ (g : Entry → Entry) (keeps : (e : Entry) → (g e).0 ≡ e.0) where
  above_mapped : (name : ℕ) (done : Variables) → Above name done → Above name (map g done)
  above_mapped name [] h = tt
  above_mapped name (d ∷ done) h = (subst (λ key. nat_cmp name key ≡ Greater) (sym (keeps d)) h.0, above_mapped name done h.1)

  -- one more at the end
  pub mapped_next : (done : Variables) (e : Entry) (ty : HackType) → Above e.0 done → ty ≡ (g e).1 → insert_entry nat_cmp (map g done) e.0 ty ≡ map g (done ++ e ∷ [])
  mapped_next done e ty h is =
      put_last (map g done) e.0 ty (above_mapped e.0 done h)
      ∙ ap (λ (x : Entry). map g done ++ x ∷ []) (λ i. (sym (keeps e) i, is i)) ∙ sym (map_push g done e)

-- widened
abbrev pub wide : Variables → Entry → Entry
wide before e = widened_entry e (type_in before e.0)

wide_keeps : (e : Entry) (was : Option HackType) → (widened_entry e was).0 ≡ e.0
wide_keeps e None = refl
wide_keeps e (Some ty) = by (same_type ty e.1)
  where
    by : (b : Bool) → (cond b e (e.0, Mixed)).0 ≡ e.0
    by true = refl
    by false = refl

wide_type : (e : Entry) (was : Option HackType) → widened_type was e.1 ≡ (widened_entry e was).1
wide_type e None = refl
wide_type e (Some ty) = by (same_type ty e.1)
  where
    by : (b : Bool) → cond b e.1 Mixed ≡ (cond b e (e.0, Mixed)).1
    by true = refl
    by false = refl

pub wide_next : (before done : Variables) (e : Entry) (ty : HackType) → Above e.0 done → ty ≡ widened_type (type_in before e.0) e.1
    → insert_entry nat_cmp (map (wide before) done) e.0 ty ≡ map (wide before) (done ++ e ∷ [])
wide_next before done e ty h is =
    mapped_next (wide before) (λ d. wide_keeps d (type_in before d.0)) done e ty h (is ∙ wide_type e (type_in before e.0))

pub wide_all : (before all : Variables) → map (wide before) all ≡ widened before all
unfolding widened
wide_all before all = refl

-- made `mixed`
abbrev pub mix : List ℕ → Entry → Entry
mix names e = cond (is_among names e.0) (e.0, Mixed) e

mix_by : (b : Bool) (e : Entry) → ((cond b (e.0, Mixed) e).0 ≡ e.0) × (cond (not b) e.1 Mixed ≡ (cond b (e.0, Mixed) e).1)
mix_by true e = (refl, refl)
mix_by false e = (refl, refl)

pub mix_next : (names : List ℕ) (done : Variables) (e : Entry) (ty : HackType) → Above e.0 done → ty ≡ cond (not (is_among names e.0)) e.1 Mixed
    → insert_entry nat_cmp (map (mix names) done) e.0 ty ≡ map (mix names) (done ++ e ∷ [])
mix_next names done e ty h is = mapped_next (mix names) (λ d. (mix_by (is_among names d.0) d).0) done e ty h (is ∙ (mix_by (is_among names e.0) e).1)

pub mix_all : (names : List ℕ) (all : Variables) → map (mix names) all ≡ mixed_in names all
unfolding mixed_in
mix_all names all = refl

pub among : (names : List ℕ) (name : ℕ) → list_any (is_at (nat_cmp name)) names ≡ is_among names name
among [] name = refl
among (n ∷ ns) name = ap₂ (λ (a b : Bool). a || b) (same_test name n (nat_cmp name n) (ranks name n)) (among ns name)
