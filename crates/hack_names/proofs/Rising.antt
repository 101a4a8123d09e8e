-- Lists of entries whose keys rise by an order, and what such a list finds.
use Rattle.std.proofs.Common.{◌≡◌, ◌⊎◌, List, [], ◌∷◌, Some, Bool, true, false, cond, refl, sym, ap, ◌∙◌, inl, inr}
use Rattle.std.specs.BTreeMap.{is_at}
use Rattle.std.specs.Cmp.{IsTotalOrder}
use Rattle.std.specs.FinMap.{IsAntisymmetric}
use Rattle.std.specs.List.{filter, AllByRecursion}
use Rattle.std.specs.List.Sorted.{IsStrictlySortedBy}
use Rattle.std.specs.Map.{lookup, keys_of}
use Rattle.std.specs.Ordering.{is_eq, ordering_reverse}
use Rattle.std.specs.declared.cmp.Ordering.{Ordering}
use Rattle.std.specs.declared.cmp.Ordering.TheVariants.{Less, Equal, Greater}
use Rattle.std.proofs.lemmas.Cmp.{tied_itself}

-- the element is in the list
abbrev pub In : {A : Type 0} → A → List A → Type 0
In x [] = ⊥
In x (y ∷ ys) = (x ≡ y) ⊎ In x ys

-- each key is below those after it
abbrev pub Rises : {K X : Type 0} → (K → K → Ordering) → List (K × X) → Type 0
Rises R [] = Unit {0}
Rises {K} {X} R (e ∷ es) = ((f : K × X) → In f es → R e.0 f.0 ≡ Less) × Rises R es

-- ---- orders

pub never_self : {K : Type 0} {R : K → K → Ordering} → IsTotalOrder R → (x : K) → R x x ≡ Less → ⊥
never_self o x h = let clash : Less ≡ Equal = sym h ∙ tied_itself o x in absurd cc

pub above : {K : Type 0} {R : K → K → Ordering} → IsTotalOrder R → (x y : K) → R x y ≡ Less → R y x ≡ Greater
above o x y h = o.antisymm y x ∙ ap ordering_reverse h

pub never_both : {K : Type 0} {R : K → K → Ordering} → IsTotalOrder R → (x y : K) → R x y ≡ Less → R y x ≡ Less → ⊥
never_both o x y h k = let clash : Less ≡ Greater = sym k ∙ above o x y h in absurd cc

-- ---- filters

pub in_filter : {A : Type 0} (p : A → Bool) (xs : List A) (x : A) → In x (filter p xs) → In x xs × (p x ≡ true)
in_filter p [] x here = absurd here
in_filter {A} p (y ∷ ys) x here = by (in_filter p ys x) (p y) refl here
  where
    by : (In x (filter p ys) → In x ys × (p x ≡ true)) → (b : Bool) → p y ≡ b → In x (cond b (y ∷ filter p ys) (filter p ys)) → In x (y ∷ ys) × (p x ≡ true)
    by rest true e (inl same) = (inl same, ap p same ∙ e)
    by rest true e (inr later) = (inr (rest later).0, (rest later).1)
    by rest false e here = (inr (rest here).0, (rest here).1)

pub in_filter-from : {A : Type 0} (p : A → Bool) (xs : List A) (x : A) → In x xs → p x ≡ true → In x (filter p xs)
in_filter-from p [] x here e = here
in_filter-from {A} p (y ∷ ys) x here e = by (λ later. in_filter-from p ys x later e) (p y) refl here
  where
    by : (In x ys → In x (filter p ys)) → (b : Bool) → p y ≡ b → In x (y ∷ ys) → In x (cond b (y ∷ filter p ys) (filter p ys))
    by rest true q (inl same) = inl same
    by rest true q (inr later) = inr (rest later)
    by rest false q (inl same) = let clash : true ≡ false = sym e ∙ ap p same ∙ q in absurd cc
    by rest false q (inr later) = rest later

pub rises_filter : {K X : Type 0} (R : K → K → Ordering) (p : K × X → Bool) (es : List (K × X)) → Rises R es → Rises R (filter p es)
rises_filter R p [] h = tt
rises_filter {K} {X} R p (e ∷ es) h = by (rises_filter R p es h.1) (p e)
  where
    by : Rises R (filter p es) → (b : Bool) → Rises R (cond b (e ∷ filter p es) (filter p es))
    by rest true = (λ f here. h.0 f (in_filter p es f here).0, rest)
    by rest false = rest

-- ---- look-ups

pub rises_from_sorted : {K X : Type 0} (R : K → K → Ordering) (es : List (K × X)) → IsStrictlySortedBy R (keys_of es) → Rises R es
unfolding IsStrictlySortedBy
rises_from_sorted R [] s = tt
rises_from_sorted {K} {X} R (e ∷ es) s = (below es s.0, rises_from_sorted R es s.1)
  where
    below : (fs : List (K × X)) → AllByRecursion (λ k. R e.0 k ≡ Less) (keys_of fs) → (f : K × X) → In f fs → R e.0 f.0 ≡ Less
    below [] h f here = absurd here
    below (g ∷ gs) h f (inl same) = ap (λ (x : K × X). R e.0 x.0) same ∙ h.0
    below (g ∷ gs) h f (inr later) = below gs h.1 f later

pub in_from_lookup : {K X : Type 0} (R : K → K → Ordering) → IsAntisymmetric R → (k : K) (v : X) (es : List (K × X)) → lookup (is_at (R k)) es ≡ Some v → In (k, v) es
in_from_lookup R same k v [] e = absurd cc
in_from_lookup {K} {X} R same k v (x ∷ xs) e = by (in_from_lookup R same k v xs) (R k x.0) refl e
  where
    by : (lookup (is_at (R k)) xs ≡ Some v → In (k, v) xs) → (r : Ordering) → R k x.0 ≡ r → cond (is_eq r) (Some x.1) (lookup (is_at (R k)) xs) ≡ Some v → In (k, v) (x ∷ xs)
    by rest Less p e = inr (rest e)
    by rest Equal p e = let key = same k x.0 p in let value : v ≡ x.1 = cc in inl (λ i. (key i, value i))
    by rest Greater p e = inr (rest e)

pub lookup_from_in : {K X : Type 0} (R : K → K → Ordering) → IsTotalOrder R → (k : K) (v : X) (es : List (K × X)) → Rises R es → In (k, v) es → lookup (is_at (R k)) es ≡ Some v
lookup_from_in R o k v [] rises here = absurd here
lookup_from_in {K} {X} R o k v (x ∷ xs) rises (inl same) =
    let tie : R k x.0 ≡ Equal = sym (ap (λ (e : K × X). R k e.0) same) ∙ tied_itself o k in
    ap (λ r. cond (is_eq r) (Some x.1) (lookup (is_at (R k)) xs)) tie ∙ sym (ap (λ (e : K × X). Some e.1) same)
lookup_from_in {K} {X} R o k v (x ∷ xs) rises (inr later) =
    ap (λ r. cond (is_eq r) (Some x.1) (lookup (is_at (R k)) xs)) (above o x.0 k (rises.0 (k, v) later)) ∙ lookup_from_in R o k v xs rises.1 later

-- ---- two lists with the same entries

pub same_lists : {K X : Type 0} (R : K → K → Ordering) → IsTotalOrder R → (xs ys : List (K × X)) → Rises R xs → Rises R ys → ((e : K × X) → In e xs → In e ys) → ((e : K × X) → In e ys → In e xs) → xs ≡ ys
same_lists R o [] [] h k to from = refl
same_lists R o [] (y ∷ ys) h k to from = absurd (from y (inl refl))
same_lists R o (x ∷ xs) [] h k to from = absurd (to x (inl refl))
same_lists {K} {X} R o (x ∷ xs) (y ∷ ys) h k to from =
    let first : x ≡ y = firsts (to x (inl refl)) (from y (inl refl)) in
    let rest : xs ≡ ys = same_lists R o xs ys h.1 k.1 (λ e here. later_in e here first (to e (inr here))) (λ e here. later_from e here first (from e (inr here))) in
    λ i. first i ∷ rest i
  where
    firsts : In x (y ∷ ys) → In y (x ∷ xs) → x ≡ y
    firsts (inl same) back = same
    firsts (inr later) (inl same) = sym same
    firsts (inr later) (inr back) = absurd (never_both o x.0 y.0 (h.0 y back) (k.0 x later))

    later_in : (e : K × X) → In e xs → x ≡ y → In e (y ∷ ys) → In e ys
    later_in e here first (inl same) = absurd (never_self o x.0 (ap (λ (z : K × X). R x.0 z.0) (first ∙ sym same) ∙ h.0 e here))
    later_in e here first (inr later) = later

    later_from : (e : K × X) → In e ys → x ≡ y → In e (x ∷ xs) → In e xs
    later_from e here first (inl same) = absurd (never_self o y.0 (ap (λ (z : K × X). R y.0 z.0) (sym first ∙ sym same) ∙ k.0 e here))
    later_from e here first (inr later) = later
