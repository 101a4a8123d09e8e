-- Lists that rise, to which one after the other is added: that it makes no difference whether a list is added as it is or was
-- gathered before.
use Rattle.std.proofs.Common.{◌≡◌, List, [], ◌∷◌, map, fold, refl, sym, ap, subst, ◌∙◌}
use Rattle.std.specs.Cmp.{IsTotalOrder}
use Rattle.std.specs.List.{AllByRecursion}
use Rattle.std.specs.List.Sorted.{IsStrictlySortedBy}
use Rattle.std.specs.Ordering.{match_ordering, ordering_reverse}
use Rattle.std.specs.declared.cmp.Ordering.{Ordering}
use Rattle.std.specs.declared.cmp.Ordering.TheVariants.{Less, Equal, Greater}
use Rattle.hack_fold.specs.Walked.{gather}

-- what a gathering rests on: the order is total, what is chosen has the place of the first, and choosing is associative
pub record Chooses {X : Type 0} (R : X → X → Ordering) (best : X → X → X) : Type 0 where
  pub total : IsTotalOrder R
  pub place : (x y z : X) → R x y ≡ Equal → R (best x y) z ≡ R x z
  pub assoc : (x y z : X) → best (best x y) z ≡ best x (best y z)

module _ {X : Type 0} (R : X → X → Ordering) (best : X → X → X) (laws : Chooses R best) where
  abbrev pub Rises : List X → Type 0
  Rises xs = IsStrictlySortedBy R xs

  abbrev pub Below : X → List X → Type 0
  Below x xs = AllByRecursion (λ y. R x y ≡ Less) xs

  pub turned : (x y : X) (o : Ordering) → R x y ≡ o → R y x ≡ ordering_reverse o
  turned x y o e = laws.total.antisymm y x ∙ ap ordering_reverse e

  -- what is chosen, seen from the other side
  placed : (x y z : X) → R x y ≡ Equal → R z (best x y) ≡ R z x
  placed x y z e = laws.total.antisymm z (best x y) ∙ ap ordering_reverse (laws.place x y z e) ∙ sym (laws.total.antisymm z x)

  pub at : (o : Ordering) (m x : X) (xs : List X) → R m x ≡ o → gather R best (x ∷ xs) m ≡ match_ordering o (m ∷ x ∷ xs) (best x m ∷ xs) (x ∷ gather R best xs m)
  at o m x xs e = ap (λ p. match_ordering p (m ∷ x ∷ xs) (best x m ∷ xs) (x ∷ gather R best xs m)) e

  -- ---- two that differ may be added in either order

  front_by : (o : Ordering) (a b x : X) (xs : List X) → R b x ≡ o → R a x ≡ Less → R a b ≡ Less → gather R best (gather R best (x ∷ xs) b) a ≡ a ∷ gather R best (x ∷ xs) b
  front_by Less a b x xs e before lt =
      ap (λ l. gather R best l a) (at Less b x xs e) ∙ at Less a b (x ∷ xs) lt ∙ ap (λ l. a ∷ l) (sym (at Less b x xs e))
  front_by Equal a b x xs e before lt =
      ap (λ l. gather R best l a) (at Equal b x xs e) ∙ at Less a (best x b) xs (placed x b a (turned b x Equal e) ∙ before) ∙ ap (λ l. a ∷ l) (sym (at Equal b x xs e))
  front_by Greater a b x xs e before lt =
      ap (λ l. gather R best l a) (at Greater b x xs e) ∙ at Less a x (gather R best xs b) before ∙ ap (λ l. a ∷ l) (sym (at Greater b x xs e))

  behind : (a b x : X) → R a x ≡ Greater → R a b ≡ Less → R b x ≡ Greater
  behind a b x e lt = turned x b Less (laws.total.trans x a b (turned a x Greater e) lt)

  beside : (a b x : X) → R a x ≡ Equal → R a b ≡ Less → R b x ≡ Greater
  beside a b x e lt = turned x b Less (sym (laws.total.congr a x b e) ∙ lt)

  commute_by : (o : Ordering) (a b x : X) (xs : List X) → R a x ≡ o → R a b ≡ Less → gather R best (gather R best xs a) b ≡ gather R best (gather R best xs b) a
      → gather R best (gather R best (x ∷ xs) a) b ≡ gather R best (gather R best (x ∷ xs) b) a
  commute_by Less a b x xs e lt more =
      ap (λ l. gather R best l b) (at Less a x xs e) ∙ at Greater b a (x ∷ xs) (turned a b Less lt) ∙ sym (front_by (R b x) a b x xs refl e lt)
  commute_by Equal a b x xs e lt more =
      let over : R b x ≡ Greater = beside a b x e lt in
      ap (λ l. gather R best l b) (at Equal a x xs e) ∙ at Greater b (best x a) xs (placed x a b (turned a x Equal e) ∙ over)
      ∙ sym (ap (λ l. gather R best l a) (at Greater b x xs over) ∙ at Equal a x (gather R best xs b) e)
  commute_by Greater a b x xs e lt more =
      let over : R b x ≡ Greater = behind a b x e lt in
      ap (λ l. gather R best l b) (at Greater a x xs e) ∙ at Greater b x (gather R best xs a) over ∙ ap (λ l. x ∷ l) more
      ∙ sym (ap (λ l. gather R best l a) (at Greater b x xs over) ∙ at Greater a x (gather R best xs b) e)

  commute : (xs : List X) (a b : X) → R a b ≡ Less → gather R best (gather R best xs a) b ≡ gather R best (gather R best xs b) a
  commute [] a b lt = at Greater b a [] (turned a b Less lt) ∙ sym (at Less a b [] lt)
  commute (x ∷ xs) a b lt = commute_by (R a x) a b x xs refl lt (commute xs a b lt)

  -- ---- two that tie are added as what is chosen of them

  tie_by : (o : Ordering) (x m h : X) (t : List X) → R x h ≡ o → R x m ≡ Equal → gather R best (gather R best t x) m ≡ gather R best t (best x m)
      → gather R best (gather R best (h ∷ t) x) m ≡ gather R best (h ∷ t) (best x m)
  tie_by Less x m h t e same more =
      ap (λ l. gather R best l m) (at Less x h t e) ∙ at Equal m x (h ∷ t) (turned x m Equal same) ∙ sym (at Less (best x m) h t (laws.place x m h same ∙ e))
  tie_by Equal x m h t e same more =
      let tied : R m h ≡ Equal = sym (laws.total.congr x m h same) ∙ e in
      ap (λ l. gather R best l m) (at Equal x h t e) ∙ at Equal m (best h x) t (placed h x m (turned x h Equal e) ∙ tied)
      ∙ ap (λ y. y ∷ t) (laws.assoc h x m) ∙ sym (at Equal (best x m) h t (laws.place x m h same ∙ e))
  tie_by Greater x m h t e same more =
      let over : R m h ≡ Greater = sym (laws.total.congr x m h same) ∙ e in
      ap (λ l. gather R best l m) (at Greater x h t e) ∙ at Greater m h (gather R best t x) over ∙ ap (λ l. h ∷ l) more ∙ sym (at Greater (best x m) h t (laws.place x m h same ∙ e))

  tie : (xs : List X) (x m : X) → R x m ≡ Equal → gather R best (gather R best xs x) m ≡ gather R best xs (best x m)
  tie [] x m same = at Equal m x [] (turned x m Equal same)
  tie (h ∷ t) x m same = tie_by (R x h) x m h t refl same (tie t x m same)

  -- ---- a gathered list is added as what it was gathered from

  abbrev all : List X → List X → List X
  all acc xs = fold (gather R best) acc xs

  last_first : (m : X) (xs acc : List X) → Below m xs → gather R best (all acc xs) m ≡ all (gather R best acc m) xs
  last_first m [] acc below = refl
  last_first m (x ∷ xs) acc below = last_first m xs (gather R best acc x) below.1 ∙ ap (λ a. all a xs) (sym (commute acc m x below.0))

  pub below_from : (m y : X) (ys : List X) → R m y ≡ Less → Below y ys → Below m ys
  below_from m y [] lt below = tt
  below_from m y (z ∷ zs) lt below = (laws.total.trans m y z lt below.0, below_from m y zs lt below.1)

  pub below_same : (m y : X) (ys : List X) → R m y ≡ Equal → Below y ys → Below m ys
  below_same m y [] same below = tt
  below_same m y (z ∷ zs) same below = (laws.total.congr m y z same ∙ below.0, below_same m y zs same below.1)

  one_more_by : (o : Ordering) (m y : X) (ys acc : List X) → R m y ≡ o → Below y ys → all (gather R best acc y) (gather R best ys m) ≡ gather R best (all (gather R best acc y) ys) m
      → all acc (gather R best (y ∷ ys) m) ≡ gather R best (all acc (y ∷ ys)) m
  one_more_by Less m y ys acc e below more = ap (all acc) (at Less m y ys e) ∙ sym (last_first m (y ∷ ys) acc (e, below_from m y ys e below))
  one_more_by Equal m y ys acc e below more =
      ap (all acc) (at Equal m y ys e) ∙ ap (λ a. all a ys) (sym (tie acc y m (turned m y Equal e))) ∙ sym (last_first m ys (gather R best acc y) (below_same m y ys e below))
  one_more_by Greater m y ys acc e below more = ap (all acc) (at Greater m y ys e) ∙ more

  one_more : (ys acc : List X) (m : X) → Rises ys → all acc (gather R best ys m) ≡ gather R best (all acc ys) m
  unfolding IsStrictlySortedBy
  one_more [] acc m rise = refl
  one_more (y ∷ ys) acc m rise = one_more_by (R m y) m y ys acc refl rise.0 (one_more ys (gather R best acc y) m rise.1)

  below_gathered_by : (o : Ordering) (y m x : X) (xs : List X) → R m x ≡ o → R y m ≡ Less → R y x ≡ Less → Below y xs → Below y (gather R best xs m) → Below y (gather R best (x ∷ xs) m)
  below_gathered_by Less y m x xs e lt before below more = subst (Below y) (sym (at Less m x xs e)) (lt, (before, below))
  below_gathered_by Equal y m x xs e lt before below more = subst (Below y) (sym (at Equal m x xs e)) (placed x m y (turned m x Equal e) ∙ before, below)
  below_gathered_by Greater y m x xs e lt before below more = subst (Below y) (sym (at Greater m x xs e)) (before, more)

  below_gathered : (y m : X) (xs : List X) → R y m ≡ Less → Below y xs → Below y (gather R best xs m)
  below_gathered y m [] lt below = (lt, tt)
  below_gathered y m (x ∷ xs) lt below = below_gathered_by (R m x) y m x xs refl lt below.0 below.1 (below_gathered y m xs lt below.1)

  pub below_chosen : (x m : X) (xs : List X) → R x m ≡ Equal → Below x xs → Below (best x m) xs
  below_chosen x m [] same below = tt
  below_chosen x m (z ∷ zs) same below = (laws.place x m z same ∙ below.0, below_chosen x m zs same below.1)

  rises_by : (o : Ordering) (m x : X) (xs : List X) → R m x ≡ o → Below x xs → Rises xs → Rises (gather R best xs m) → Rises (gather R best (x ∷ xs) m)
  unfolding IsStrictlySortedBy
  rises_by Less m x xs e below rise more = subst Rises (sym (at Less m x xs e)) ((e, below_from m x xs e below), (below, rise))
  rises_by Equal m x xs e below rise more = subst Rises (sym (at Equal m x xs e)) (below_chosen x m xs (turned m x Equal e) below, rise)
  rises_by Greater m x xs e below rise more = subst Rises (sym (at Greater m x xs e)) (below_gathered x m xs (turned m x Greater e) below, more)

  pub rises : (xs : List X) (m : X) → Rises xs → Rises (gather R best xs m)
  unfolding IsStrictlySortedBy
  rises [] m rise = (tt, tt)
  rises (x ∷ xs) m rise = rises_by (R m x) m x xs refl rise.0 rise.1 (rises xs m rise.1)

  again : (cs zs acc : List X) → Rises zs → all acc (all zs cs) ≡ all (all acc zs) cs
  again [] zs acc rise = refl
  again (c ∷ cs) zs acc rise = again cs (gather R best zs c) acc (rises zs c rise) ∙ ap (λ a. all a cs) (one_more zs acc c rise)

  pub all_rise : (cs acc : List X) → Rises acc → Rises (all acc cs)
  all_rise [] acc rise = rise
  all_rise (c ∷ cs) acc rise = all_rise cs (gather R best acc c) (rises acc c rise)

  nothing_rises : Rises []
  unfolding IsStrictlySortedBy
  nothing_rises = tt

  pub gathered : (cs acc : List X) → all acc (all [] cs) ≡ all acc cs
  gathered cs acc = again cs [] acc nothing_rises

  pub first_stays : (x : X) (xs acc : List X) → Below x xs → all (x ∷ acc) xs ≡ x ∷ all acc xs
  first_stays x [] acc below = refl
  first_stays x (z ∷ zs) acc below = ap (λ a. all a zs) (at Greater z x acc (turned x z Less below.0)) ∙ first_stays x zs (gather R best acc z) below.1

  -- a list that rises is gathered as it is
  pub whole : (xs : List X) → Rises xs → all [] xs ≡ xs
  unfolding IsStrictlySortedBy
  whole [] rise = refl
  whole (x ∷ xs) rise = first_stays x xs [] rise.0 ∙ ap (λ l. x ∷ l) (whole xs rise.1)

-- what changes neither places nor choices may be done before or behind
module _ {X : Type 0} (R : X → X → Ordering) (best : X → X → X) (f : X → X) (place : (a b : X) → R (f a) (f b) ≡ R a b) (choice : (a b : X) → best (f a) (f b) ≡ f (best a b)) where
  mapped_by : (o : Ordering) (m x : X) (xs : List X) → R m x ≡ o → map f (gather R best xs m) ≡ gather R best (map f xs) (f m)
      → map f (gather R best (x ∷ xs) m) ≡ gather R best (f x ∷ map f xs) (f m)
  mapped_by Less m x xs e more =
      ap (λ p. map f (match_ordering p (m ∷ x ∷ xs) (best x m ∷ xs) (x ∷ gather R best xs m))) e
      ∙ sym (ap (λ p. match_ordering p (f m ∷ f x ∷ map f xs) (best (f x) (f m) ∷ map f xs) (f x ∷ gather R best (map f xs) (f m))) (place m x ∙ e))
  mapped_by Equal m x xs e more =
      ap (λ p. map f (match_ordering p (m ∷ x ∷ xs) (best x m ∷ xs) (x ∷ gather R best xs m))) e ∙ ap (λ y. y ∷ map f xs) (sym (choice x m))
      ∙ sym (ap (λ p. match_ordering p (f m ∷ f x ∷ map f xs) (best (f x) (f m) ∷ map f xs) (f x ∷ gather R best (map f xs) (f m))) (place m x ∙ e))
  mapped_by Greater m x xs e more =
      ap (λ p. map f (match_ordering p (m ∷ x ∷ xs) (best x m ∷ xs) (x ∷ gather R best xs m))) e ∙ ap (λ l. f x ∷ l) more
      ∙ sym (ap (λ p. match_ordering p (f m ∷ f x ∷ map f xs) (best (f x) (f m) ∷ map f xs) (f x ∷ gather R best (map f xs) (f m))) (place m x ∙ e))

  mapped : (xs : List X) (m : X) → map f (gather R best xs m) ≡ gather R best (map f xs) (f m)
  mapped [] m = refl
  mapped (x ∷ xs) m = mapped_by (R m x) m x xs refl (mapped xs m)

  pub all_mapped : (cs acc : List X) → map f (fold (gather R best) acc cs) ≡ fold (gather R best) (map f acc) (map f cs)
  all_mapped [] acc = refl
  all_mapped (c ∷ cs) acc = all_mapped cs (gather R best acc c) ∙ ap (λ a. fold (gather R best) a (map f cs)) (mapped acc c)

-- what changes no places leaves a list rising
module _ {X : Type 0} (R : X → X → Ordering) (f : X → X) (place : (a b : X) → R (f a) (f b) ≡ R a b) where
  below_mapped : (x : X) (xs : List X) → AllByRecursion (λ y. R x y ≡ Less) xs → AllByRecursion (λ y. R (f x) y ≡ Less) (map f xs)
  below_mapped x [] below = tt
  below_mapped x (y ∷ ys) below = (place x y ∙ below.0, below_mapped x ys below.1)

  pub rises_mapped : (xs : List X) → IsStrictlySortedBy R xs → IsStrictlySortedBy R (map f xs)
  unfolding IsStrictlySortedBy
  rises_mapped [] rise = tt
  rises_mapped (x ∷ xs) rise = (below_mapped x xs rise.0, rises_mapped xs rise.1)
