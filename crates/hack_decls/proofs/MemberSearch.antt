-- A search by halves finds, in members that rise, what a search from the front finds.
use Rattle.std.proofs.Common.{◌≡◌, ◌+◌, ◌<◌, ◌≤◌, ◌&&◌, ◌⊎◌, inl, inr, ℕ, zero, suc, Bool, true, false, cond, Some, None, List, [], ◌∷◌, length, get_or, All, refl, sym, ap, subst, ◌∙◌, arith, eq-eqb, eqb-true}
use Rattle.std.proofs.lemmas.Bool.{cases_lt}
use Rattle.std.proofs.lemmas.Cmp.{nat_cmp_total, then_total, on_total, tied_itself}
use Rattle.std.proofs.lemmas.List.Elements.{All-head, All-tail}
use Rattle.std.proofs.lemmas.List.Sorted.{searchable_from_sorted}
use Rattle.std.proofs.lemmas.Map.Keys.{Less-from_sorted}
use Rattle.std.specs.Cmp.{IsTotalOrder}
use Rattle.std.specs.FinMap.{nat_cmp-IsAntisymmetric}
use Rattle.std.specs.List.{find, HoldsAt}
use Rattle.std.specs.List.Sorted.{IsStrictlySortedBy, IsNonDecreasingBy, IsPartitionPoint}
use Rattle.std.specs.Ordering.{is_lt, nat_cmp, ordering_index, ordering_reverse, ordering_then}
use Rattle.std.specs.declared.cmp.Ordering.{Ordering}
use Rattle.std.specs.declared.cmp.Ordering.TheVariants.{Less, Equal, Greater}
use Rattle.hack_types.specs.MembersRise.{MembersRise, kind_rank, member_order}
use Rattle.hack_types.specs.declared.shallow.Member.{Member}
use Rattle.hack_decls.specs.declared.answers.MemberTag.{MemberTag}
use Rattle.hack_decls.specs.Picks.{is_member, tag_rank}
use Rattle.hack_decls.proofs.PlainLemmas.{both_tie}

-- ---- tests

both_true : (p q : Bool) → p ≡ true → q ≡ true → (p && q) ≡ true
both_true true q first second = second
both_true false q first second = absurd cc

of_both : (p q : Bool) → (p && q) ≡ true → (p ≡ true) × (q ≡ true)
of_both true q both = (refl, both)
of_both false q both = absurd cc

not_true : (b : Bool) → (b ≡ true → ⊥) → b ≡ false
not_true true never = absurd (never refl)
not_true false never = refl

-- ---- a member's place

abbrev pub Key : Type 0
Key = ℕ × ℕ

abbrev pub key_of : Member → Key
key_of m = (kind_rank m.kind, m.name)

abbrev pub key_order : Key → Key → Ordering
key_order a b = ordering_then (nat_cmp a.0 b.0) (nat_cmp a.1 b.1)

key_total : IsTotalOrder key_order
key_total = then_total (on_total (λ (k : Key). k.0) nat_cmp_total) (on_total (λ (k : Key). k.1) nat_cmp_total)

same_key : (a b : Key) → key_order a b ≡ Equal → (a.0 ≡ b.0) × (a.1 ≡ b.1)
same_key a b e = let parts = both_tie (nat_cmp a.0 b.0) (nat_cmp a.1 b.1) e in (nat_cmp-IsAntisymmetric a.0 b.0 parts.0, nat_cmp-IsAntisymmetric a.1 b.1 parts.1)

ties : (a b : Key) → a.0 ≡ b.0 → a.1 ≡ b.1 → key_order a b ≡ Equal
ties a b first second =
    let e : a ≡ b = λ i. (first i, second i) in
    subst (λ (k : Key). key_order a k ≡ Equal) e (tied_itself key_total a)

-- ---- the member that is looked for

module _ (tag : MemberTag) (name : ℕ) where
  abbrev pub place : Member → Ordering
  place m = key_order (key_of m) (tag_rank tag, name)

  is_there : (m : Member) → place m ≡ Equal → is_member tag name m ≡ true
  is_there m e =
      let same = same_key (key_of m) (tag_rank tag, name) e in
      both_true _ _ (eq-eqb _ _ same.0) (eq-eqb _ _ same.1)

  at_place : (m : Member) → is_member tag name m ≡ true → (kind_rank m.kind ≡ tag_rank tag) × (m.name ≡ name)
  at_place m holds = let both = of_both _ _ holds in (eqb-true _ _ both.0, eqb-true _ _ both.1)

  not_there : (m : Member) (o : Ordering) → place m ≡ o → (o ≡ Equal → ⊥) → is_member tag name m ≡ false
  not_there m o is apart = not_true (is_member tag name m) (λ holds. let at = at_place m holds in apart (sym is ∙ ties (key_of m) (tag_rank tag, name) at.0 at.1))

  apart : (m n : Member) → member_order m n ≡ Less → is_member tag name n ≡ true → is_member tag name m ≡ false
  apart m n less holds = not_true (is_member tag name m) (λ also.
      let one = at_place m also in
      let other = at_place n holds in
      let e : member_order m n ≡ Equal = ties (key_of m) (key_of n) (one.0 ∙ sym other.0) (one.1 ∙ sym other.1) in
      cc)

  found_at : (members : List Member) → MembersRise members → (i : ℕ) (m : Member) → i < length members → m ≡ get_or members i m → is_member tag name m ≡ true → find (is_member tag name) members ≡ Some m
  unfolding IsStrictlySortedBy
  found_at [] rise i m inside at holds = absurd (omega arith)
  found_at (n ∷ ns) rise zero m inside at holds =
      subst (λ (x : Member). cond (is_member tag name x) (Some x) (find (is_member tag name) ns) ≡ Some m) at (ap (λ b. cond b (Some m) (find (is_member tag name) ns)) holds)
  found_at (n ∷ ns) rise (suc i) m inside at holds =
      let less = subst (λ x. member_order n x ≡ Less) (sym at) (Less-from_sorted member_order (n ∷ ns) 0 (suc i) m rise (omega arith) inside) in
      ap (λ b. cond b (Some n) (find (is_member tag name) ns)) (apart n m less holds) ∙ found_at ns rise.1 i m (omega arith) at holds

  none_found : (members : List Member) → All (λ m. is_member tag name m ≡ false) members → find (is_member tag name) members ≡ None
  none_found [] all = refl
  none_found (m ∷ ms) all =
      ap (λ b. cond b (Some m) (find (is_member tag name) ms)) (All-head (λ m. is_member tag name m ≡ false) m ms all) ∙ none_found ms (All-tail (λ m. is_member tag name m ≡ false) m ms all)

  -- the places of members that rise rise
  rising : (members : List Member) → MembersRise members → IsNonDecreasingBy (λ m. ordering_index (place m)) members
  rising members rise = searchable_from_sorted key_total key_of members (tag_rank tag, name) (λ k d low inside.
      let less = Less-from_sorted member_order members k (k + 1) d rise (omega arith) inside in
      ap is_lt (key_total.antisymm (key_of (get_or members (k + 1) d)) (key_of (get_or members k d)) ∙ ap ordering_reverse less))

  pub at_found : (members own : List Member) → members ≡ own → MembersRise own → (i : ℕ) (m : Member) → i < length members → m ≡ get_or members i m → HoldsAt (λ m. place m ≡ Equal) members i
      → Some m ≡ find (is_member tag name) own
  at_found members own same rise i m inside at holds =
      let there = is_there m (subst (λ x. place x ≡ Equal) (sym at) (holds m)) in
      sym (found_at members (subst MembersRise (sym same) rise) i m inside at there) ∙ ap (find (is_member tag name)) same

  missing : (m : Member) → (place m ≡ Less) ⊎ (place m ≡ Greater) → is_member tag name m ≡ false
  missing m (inl below) = not_there m Less below (λ e. cc)
  missing m (inr above) = not_there m Greater above (λ e. cc)

  side : (members : List Member) (i k : ℕ) (d : Member) → IsPartitionPoint (λ m. place m ≡ Less) (λ m. place m ≡ Greater) members i → k < length members → (k < i) ⊎ (i ≤ k)
      → (place (get_or members k d) ≡ Less) ⊎ (place (get_or members k d) ≡ Greater)
  side members i k d parted inside (inl below) = inl (parted.0 k d (omega arith) below)
  side members i k d parted inside (inr above) = inr (parted.1 k d above inside)

  pub at_none : (members own : List Member) → members ≡ own → MembersRise own → (i : ℕ)
      → (IsNonDecreasingBy (λ m. ordering_index (place m)) members → IsPartitionPoint (λ m. place m ≡ Less) (λ m. place m ≡ Greater) members i) → None ≡ find (is_member tag name) own
  at_none members own same rise i parts =
      let parted = parts (rising members (subst MembersRise (sym same) rise)) in
      sym (none_found members (λ k d inside. missing (get_or members k d) (side members i k d parted inside (cases_lt k i)))) ∙ ap (find (is_member tag name)) same
