-- What comes next of two lists of members that rise, and what is left of them.
use Rattle.std.proofs.Common.{◌≡◌, ◌-◌, ◌<◌, ℕ, Option, Some, None, List, [], ◌∷◌, ◌++◌, length, reverse, get_or, fold, option_to_list, IsSome, is_some, true≢false, ◌↔◌, refl, sym, ap, subst, ◌∙◌, append-nil, arith, Less, Equal, Greater, Ordering}
use mathlib.Core.List.{reverse-cons, reverse-reverse}
use Rattle.std.proofs.Math.Seq.{get_or-append_seam}
use Rattle.std.proofs.lemmas.List.{length_push, reverse-append}
use Rattle.std.proofs.lemmas.Option.{slice_get-get_or}
use Rattle.std.specs.List.Sorted.{IsStrictlySortedBy}
use Rattle.hack_types.specs.MembersRise.{member_order, MembersRise}
use Rattle.hack_types.specs.declared.shallow.Member.{Member}
use Rattle.hack_fold.specs.inside.Merging.{Takes, both_of, last_of, next_order}
use Rattle.hack_fold.specs.Walked.{better, with_member}
use Rattle.hack_fold.proofs.Gather.{at, below_chosen, below_from, below_same, first_stays, turned, Below}
use Rattle.hack_fold.proofs.MemberLaws.{members_choose}

last_push : (xs : List Member) (x : Member) → last_of (xs ++ x ∷ []) ≡ Some x
last_push xs x =
    let all = xs ++ x ∷ [] in
    slice_get-get_or all (length all - 1) x (omega (arith, length_push xs x))
    ∙ ap Some (ap (λ i. get_or all i x) (omega (arith, length_push xs x)) ∙ get_or-append_seam xs x [] x)

-- the one that comes first
abbrev first_of : List Member → Option Member
first_of [] = None
first_of (x ∷ xs) = Some x

last_reverse : (xs : List Member) → last_of (reverse xs) ≡ first_of xs
last_reverse [] = refl
last_reverse (x ∷ xs) = ap last_of (reverse-cons x xs) ∙ last_push (reverse xs) x

-- which list has what comes next, by the lists from the front on
front_order : (first second : List Member) → next_order (last_of first) (last_of second) ≡ next_order (first_of (reverse first)) (first_of (reverse second))
front_order first second =
    ap (λ o. next_order o (last_of second)) (front first) ∙ ap (next_order (first_of (reverse first))) (front second)
  where
    front : (xs : List Member) → last_of xs ≡ first_of (reverse xs)
    front xs = ap last_of (sym (reverse-reverse xs)) ∙ last_reverse (reverse xs)

abbrev all : List Member → List Member → List Member
all acc xs = fold with_member acc xs

abbrev Rises : List Member → Type 0
Rises xs = MembersRise xs

tail_rises : (x : Member) (xs : List Member) → Rises (x ∷ xs) → Rises xs
unfolding IsStrictlySortedBy
tail_rises x xs rise = rise.1

head_below : (x : Member) (xs : List Member) → Rises (x ∷ xs) → Below member_order better members_choose x xs
unfolding IsStrictlySortedBy
head_below x xs rise = rise.0

-- the second list has it
second_first : (xs : List Member) (y : Member) (ys : List Member) → Rises (y ∷ ys) → next_order (first_of xs) (Some y) ≡ Less → all xs (y ∷ ys) ≡ y ∷ all xs ys
second_first [] y ys rise e = first_stays member_order better members_choose y ys [] (head_below y ys rise)
second_first (x ∷ xs) y ys rise e =
    ap (λ l. all l ys) (at member_order better members_choose Less y x xs e) ∙ first_stays member_order better members_choose y ys (x ∷ xs) (head_below y ys rise)

-- the first list has it
first_first : (x : Member) (xs ys : List Member) → Rises ys → next_order (Some x) (first_of ys) ≡ Greater → all (x ∷ xs) ys ≡ x ∷ all xs ys
first_first x xs [] rise e = refl
first_first x xs (y ∷ ys) rise e =
    first_stays member_order better members_choose x (y ∷ ys) xs (below_all (turned member_order better members_choose y x Greater e) (head_below y ys rise))
  where
    below_all : member_order x y ≡ Less → Below member_order better members_choose y ys → Below member_order better members_choose x (y ∷ ys)
    below_all lt below = (lt, below_from member_order better members_choose x y ys lt below)

-- both have it
both_first : (x : Member) (xs : List Member) (y : Member) (ys : List Member) → Rises (y ∷ ys) → member_order y x ≡ Equal → all (x ∷ xs) (y ∷ ys) ≡ better x y ∷ all xs ys
both_first x xs y ys rise e =
    let same : member_order x y ≡ Equal = turned member_order better members_choose y x Equal e in
    ap (λ l. all l ys) (at member_order better members_choose Equal y x xs e)
    ∙ first_stays member_order better members_choose (better x y) ys xs
    (below_chosen member_order better members_choose x y ys same (below_same member_order better members_choose x y ys same (head_below y ys rise)))

-- ---- the same, as the lists are kept

module _ (first second : List Member) where
  -- the next of the second list is taken
  pub takes_second : (left : List Member) (taken : Option Member) → second ≡ left ++ option_to_list taken → (taken ≡ None → second ≡ [])
      → next_order (last_of first) (last_of second) ≡ Less → Rises (reverse second) → Takes (both_of first second) taken (both_of first left)
  takes_second left None is none order rise = ap (both_of first) (none refl) ∙ by (reverse first) (sym (front_order first second ∙ ap (λ l. next_order (first_of (reverse first)) (first_of (reverse l))) (none refl)) ∙ order)
    where
      by : (xs : List Member) → next_order (first_of xs) None ≡ Less → xs ≡ []
      by [] e = refl
      by (x ∷ xs) e = cc
  takes_second left (Some y) is none order rise =
      let front : reverse second ≡ y ∷ reverse left = ap reverse is ∙ reverse-append left (y ∷ []) in
      ap (all (reverse first)) front
      ∙ second_first (reverse first) y (reverse left) (subst Rises front rise)
      (sym (front_order first second ∙ ap (λ l. next_order (first_of (reverse first)) (first_of l)) front) ∙ order)

  -- the next of the first list is taken
  pub takes_first : (left : List Member) (taken : Option Member) → first ≡ left ++ option_to_list taken → (taken ≡ None → first ≡ [])
      → next_order (last_of first) (last_of second) ≡ Greater → Rises (reverse second) → Takes (both_of first second) taken (both_of left second)
  takes_first left None is none order rise = absurd (less_greater (sym (ap (λ l. next_order (last_of l) (last_of second)) (none refl)) ∙ order))
    where
      less_greater : Less ≡ Greater → ⊥
      less_greater e = cc
  takes_first left (Some x) is none order rise =
      let front : reverse first ≡ x ∷ reverse left = ap reverse is ∙ reverse-append left (x ∷ []) in
      ap (λ l. all l (reverse second)) front
      ∙ first_first x (reverse left) (reverse second) rise
      (sym (front_order first second ∙ ap (λ l. next_order (first_of l) (first_of (reverse second))) front) ∙ order)

  -- both are taken
  pub takes_both : (left rest : List Member) (x y : Member) → first ≡ left ++ x ∷ [] → second ≡ rest ++ y ∷ []
      → next_order (last_of first) (last_of second) ≡ Equal → Rises (reverse second) → both_of first second ≡ better x y ∷ both_of left rest
  takes_both left rest x y is also order rise =
      let front : reverse first ≡ x ∷ reverse left = ap reverse is ∙ reverse-append left (x ∷ []) in
      let behind : reverse second ≡ y ∷ reverse rest = ap reverse also ∙ reverse-append rest (y ∷ []) in
      ap (λ l. all l (reverse second)) front ∙ ap (all (x ∷ reverse left)) behind
      ∙ both_first x (reverse left) y (reverse rest) (subst Rises behind rise)
      (sym (front_order first second ∙ ap (λ l. next_order (first_of l) (first_of (reverse second))) front ∙ ap (λ l. next_order (Some x) (first_of l)) behind) ∙ order)

-- which list has what comes next, as it was found
pub order_told : (first second slice other : List Member) (order : Ordering) → order ≡ next_order (last_of slice) (last_of other) → slice ≡ first → other ≡ second
    → next_order (last_of first) (last_of second) ≡ order
order_told first second slice other order told is also =
    sym (told ∙ ap (λ l. next_order (last_of l) (last_of other)) is ∙ ap (λ l. next_order (last_of first) (last_of l)) also)

-- nothing is taken of nothing alone
pub none_taken : (members : List Member) (count : ℕ) (taken : Option Member) → length members ≡ count → (IsSome taken ↔ (0 < count)) → taken ≡ None → members ≡ []
none_taken [] count taken long some none = refl
none_taken (m ∷ members) count taken long some none = absurd (true≢false (sym (some.1 (omega (arith, long))) ∙ ap is_some none))

-- what is left of a list that rises does too
pub left_rises : (all left : List Member) (taken : Option Member) → all ≡ left ++ option_to_list taken → Rises (reverse all) → Rises (reverse left)
left_rises all left None is rise = subst (λ l. Rises (reverse l)) (is ∙ append-nil left) rise
left_rises all left (Some x) is rise = tail_rises x (reverse left) (subst Rises (ap reverse is ∙ reverse-append left (x ∷ [])) rise)
