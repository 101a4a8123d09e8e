-- The member of a kind and name is the first by place that isn't abstract, else the first.
use Rattle.std.proofs.Common.{◌≡◌, ◌∷◌, ◌&&◌, ◌||◌, not, Bool, true, false, cond, if◌then◌else◌, List, [], Option, Some, None, refl, sym, ap, ◌∙◌}
use Rattle.std.specs.Ordering.{is_eq, match_ordering, nat_cmp, ordering_then}
use Rattle.std.specs.declared.cmp.Ordering.{Ordering}
use Rattle.std.specs.declared.cmp.Ordering.TheVariants.{Less, Equal, Greater}
use Rattle.hack_types.specs.declared.shallow.Member.{Member}
use Rattle.hack_types.specs.MembersRise.{member_order, kind_rank}
use Rattle.hack_shallow.specs.Members.{counts_before, same_among, inserted, with_member, with_members}
use Rattle.hack_shallow.specs.Chosen.{first_concrete, else_by, chosen}
use Rattle.hack_shallow.proofs.PutMember.{same_place}

abbrev same : Member → Member → Bool
same q m = is_eq (member_order q m)

-- members of one kind and name are looked up alike
alike : (q m : Member) → member_order q m ≡ Equal → (x : Member) → member_order q x ≡ member_order m x
alike q m e x =
    let place = same_place q m e in
    ap (λ r. ordering_then (nat_cmp r (kind_rank x.kind)) (nat_cmp q.name x.name)) place.0 ∙ ap (λ n. ordering_then (nat_cmp (kind_rank m.kind) (kind_rank x.kind)) (nat_cmp n x.name)) place.1

alike_from : (q m x : Member) → member_order m x ≡ Equal → member_order q x ≡ member_order q m
alike_from q m x e =
    let place = same_place m x e in
    ap (λ r. ordering_then (nat_cmp (kind_rank q.kind) r) (nat_cmp q.name x.name)) (sym place.0) ∙ ap (λ n. ordering_then (nat_cmp (kind_rank q.kind) (kind_rank m.kind)) (nat_cmp q.name n)) (sym place.1)

among_alike : (own : List Member) (q m : Member) → member_order q m ≡ Equal → same_among own q ≡ same_among own m
among_alike [] q m e = refl
among_alike (x ∷ own) q m e =
    ap (λ o. cond (is_eq o) (Some x) (same_among own q)) (alike q m e x) ∙ ap (λ f. cond (same m x) (Some x) f) (among_alike own q m e)

-- what is found at a kind and name once a member was put at its place
here_by : (o : Ordering) (q m x : Member) (own : List Member) → member_order m x ≡ o → member_order q m ≡ Equal → same_among (inserted own m) q ≡ Some m
    → same_among (match_ordering o (m ∷ x ∷ own) (m ∷ own) (x ∷ inserted own m)) q ≡ Some m
here_by Less q m x own is e more = ap (λ o. cond (is_eq o) (Some m) (same_among (x ∷ own) q)) e
here_by Equal q m x own is e more = ap (λ o. cond (is_eq o) (Some m) (same_among own q)) e
here_by Greater q m x own is e more = ap (λ o. cond (is_eq o) (Some x) (same_among (inserted own m) q)) (alike q m e x ∙ is) ∙ more

here : (own : List Member) (q m : Member) → member_order q m ≡ Equal → same_among (inserted own m) q ≡ Some m
here [] q m e = ap (λ o. cond (is_eq o) (Some m) None) e
here (x ∷ own) q m e = here_by (member_order m x) q m x own refl e (here own q m e)

other_by : (o : Ordering) (q m x : Member) (own : List Member) → member_order m x ≡ o → same q m ≡ false → same_among (inserted own m) q ≡ same_among own q
    → same_among (match_ordering o (m ∷ x ∷ own) (m ∷ own) (x ∷ inserted own m)) q ≡ same_among (x ∷ own) q
other_by Less q m x own is ne more = ap (λ b. cond b (Some m) (same_among (x ∷ own) q)) ne
other_by Equal q m x own is ne more =
    ap (λ b. cond b (Some m) (same_among own q)) ne ∙ sym (ap (λ b. cond b (Some x) (same_among own q)) (ap is_eq (alike_from q m x is) ∙ ne))
other_by Greater q m x own is ne more = ap (λ f. cond (same q x) (Some x) f) more

other : (own : List Member) (q m : Member) → same q m ≡ false → same_among (inserted own m) q ≡ same_among own q
other [] q m ne = ap (λ b. cond b (Some m) None) ne
other (x ∷ own) q m ne = other_by (member_order m x) q m x own refl ne (other own q m ne)

equal : (o : Ordering) → is_eq o ≡ true → o ≡ Equal
equal Equal e = refl
equal Less e = cc
equal Greater e = cc

-- what stands for a kind and name, where this stood for it and this member is given then
abbrev after : Bool → Option Member → Member → Option Member
after b found m = if b && not (counts_before found m) then Some m else found

put_by : (own : List Member) (q m : Member) (b counts : Bool) → same q m ≡ b → counts_before (same_among own m) m ≡ counts
    → same_among (if counts then own else inserted own m) q ≡ after b (same_among own q) m
put_by own q m true true is counted =
    let e = equal (member_order q m) is in
    sym (ap (λ found. if not (counts_before found m) then Some m else same_among own q) (among_alike own q m e) ∙ ap (λ c. if not c then Some m else same_among own q) counted)
put_by own q m true false is counted =
    let e = equal (member_order q m) is in
    here own q m e ∙ sym (ap (λ found. if not (counts_before found m) then Some m else same_among own q) (among_alike own q m e) ∙ ap (λ c. if not c then Some m else same_among own q) counted)
put_by own q m false true is counted = refl
put_by own q m false false is counted = other own q m is

put : (own : List Member) (q m : Member) → same_among (with_member own m) q ≡ after (same q m) (same_among own q) m
put own q m = put_by own q m (same q m) (counts_before (same_among own m) m) refl refl

-- the same of a list
abbrev chosen_after : Option Member → List Member → Member → Option Member
chosen_after None members q = chosen members q
chosen_after (Some e) members q = if e.is_abstract then else_by (first_concrete members q) (Some e) else Some e

none_by : (m : Member) (members : List Member) (q : Member) (b a : Bool) → m.is_abstract ≡ a
    → chosen_after (if b && not false then Some m else None) members q
    ≡ else_by (cond (b && not a) (Some m) (first_concrete members q)) (cond b (Some m) (same_among members q))
none_by m members q false a e = refl
none_by m members q true true e = ap (λ x. if x then else_by (first_concrete members q) (Some m) else Some m) e
none_by m members q true false e = ap (λ x. if x then else_by (first_concrete members q) (Some m) else Some m) e

some_by : (e m : Member) (members : List Member) (q : Member) (b a ea : Bool) → m.is_abstract ≡ a → e.is_abstract ≡ ea
    → chosen_after (if b && not (not ea || a) then Some m else Some e) members q
    ≡ (if ea then else_by (cond (b && not a) (Some m) (first_concrete members q)) (Some e) else Some e)
some_by e m members q false a ea ma is = ap (λ x. if x then else_by (first_concrete members q) (Some e) else Some e) is
some_by e m members q true true true ma is = ap (λ x. if x then else_by (first_concrete members q) (Some e) else Some e) is
some_by e m members q true true false ma is = ap (λ x. if x then else_by (first_concrete members q) (Some e) else Some e) is
some_by e m members q true false true ma is = ap (λ x. if x then else_by (first_concrete members q) (Some m) else Some m) ma
some_by e m members q true false false ma is = ap (λ x. if x then else_by (first_concrete members q) (Some e) else Some e) is

next : (found : Option Member) (m : Member) (members : List Member) (q : Member) → chosen_after (after (same q m) found m) members q ≡ chosen_after found (m ∷ members) q
next None m members q = none_by m members q (same q m) m.is_abstract refl
next (Some e) m members q = some_by e m members q (same q m) m.is_abstract e.is_abstract refl refl

all : (own members : List Member) (q : Member) → same_among (with_members own members) q ≡ chosen_after (same_among own q) members q
all own [] q = last (same_among own q)
  where
    last : (found : Option Member) → found ≡ chosen_after found [] q
    last None = refl
    last (Some e) = by e.is_abstract
      where
        by : (b : Bool) → Some e ≡ (if b then Some e else Some e)
        by true = refl
        by false = refl
all own (m ∷ members) q = all (with_member own m) members q ∙ ap (λ found. chosen_after found members q) (put own q m) ∙ next (same_among own q) m members q

pub chosen_is : (members : List Member) (q : Member) → same_among (with_members [] members) q ≡ chosen members q
chosen_is members q = all [] members q
