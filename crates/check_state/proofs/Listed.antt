-- The declarations of a table whose files have the heads of units that start one after another.
use Rattle.std.proofs.Common.{◌≡◌, ◌⊎◌, ⊎_elim, ℕ, zero, suc, ◌+◌, List, [], ◌∷◌, ◌++◌, map, Option, None, Some, false, cond, refl, sym, ap, subst, ◌∙◌, inl, inr, arith}
use Rattle.std.specs.Prelude.{slice_get}
use Rattle.std.specs.FinMap as finite
use Rattle.std.specs.FinMap.{entries}
use Rattle.std.specs.List.{flat_map}
use Rattle.std.specs.Option.{option_map}
use Rattle.std.specs.Ordering.{is_gt}
use Rattle.std.proofs.lemmas.Cmp.{nat_list_cmp_total}
use Rattle.hack_base.specs.Files.{byte_order}
use Rattle.hack_types.specs.Report.{place_order}
use Rattle.hack_tree.specs.declared.declaration.Unit.{Unit as UnitOf}
use Rattle.hack_names.specs.declared.unit.UnitHead.{UnitHead}
use Rattle.hack_names.specs.Declarations.{Table, Declaration, with_head, by_place, file_declarations, declarations}
use Rattle.hack_names.proofs.Rising.{In, Rises, in_from_lookup, lookup_from_in, rises_from_sorted}
use Rattle.check_state.specs.Stands.{head_of, heads_from}
use Rattle.check_state.proofs.Declared.{Earlier, Ascends}
use Rattle.check_state.proofs.Sums.{names_same, get_is, entries_ordered}

-- ---- the heads of one file

-- none starts before one that stands in front of it
abbrev pub InOrder : List UnitOf → Type 0
InOrder [] = Unit {0}
InOrder (u ∷ us) = ((v : UnitOf) → In v us → is_gt (place_order u.start v.start) ≡ false) × InOrder us

in_place : (n : ℕ) (us : List UnitOf) → InOrder us → by_place (heads_from n us) ≡ heads_from n us
in_place n [] order = refl
in_place n (u ∷ us) order = ap (with_head (head_of n u)) (in_place (n + 1) us order.1) ∙ ahead us order.0
  where
    ahead : (vs : List UnitOf) → ((v : UnitOf) → In v vs → is_gt (place_order u.start v.start) ≡ false) → with_head (head_of n u) (heads_from (n + 1) vs) ≡ head_of n u ∷ heads_from (n + 1) vs
    ahead [] none = refl
    ahead (v ∷ vs) none =
        ap (λ b. cond b (head_of (n + 1) v ∷ with_head (head_of n u) (heads_from (n + 1 + 1) vs)) (head_of n u ∷ head_of (n + 1) v ∷ heads_from (n + 1 + 1) vs)) (none v (inl refl))

in_heads : (n : ℕ) (us : List UnitOf) (head : UnitHead) → In head (heads_from n us) → (i : ℕ) × (u : UnitOf) × (slice_get us i ≡ Some u) × (head ≡ head_of (n + i) u)
in_heads n [] head here = absurd here
in_heads n (u ∷ us) head (inl same) = let number : n ≡ n + 0 = omega arith in (0, u, refl, same ∙ ap (λ k. head_of k u) number)
in_heads n (u ∷ us) head (inr later) =
    let rest = in_heads (n + 1) us head later in
    let number : n + 1 + rest.0 ≡ n + suc rest.0 = omega arith in
    (suc rest.0, rest.1, rest.2, rest.3 ∙ ap (λ k. head_of k rest.1) number)

heads_in : (n i : ℕ) (us : List UnitOf) (u : UnitOf) → slice_get us i ≡ Some u → In (head_of (n + i) u) (heads_from n us)
heads_in n i [] u at = absurd cc
heads_in n zero (v ∷ us) u at =
    let same : v ≡ u = cc in
    let number : n + 0 ≡ n = omega arith in
    inl (λ j. head_of (number j) (sym same j))
heads_in n (suc i) (v ∷ us) u at =
    let number : n + suc i ≡ n + 1 + i = omega arith in
    inr (subst (λ k. In (head_of k u) (heads_from (n + 1) us)) (sym number) (heads_in (n + 1) i us u at))

-- ---- lists of declarations

abbrev pub in_file : List ℕ → UnitHead → Declaration
in_file file head = record { file = file; head = head }

in_map : (file : List ℕ) (heads : List UnitHead) (d : Declaration) → In d (map (in_file file) heads) → (head : UnitHead) × In head heads × (d ≡ in_file file head)
in_map file [] d here = absurd here
in_map file (h ∷ hs) d (inl same) = (h, inl refl, same)
in_map file (h ∷ hs) d (inr later) = let rest = in_map file hs d later in (rest.0, inr rest.1, rest.2)

map_in : (file : List ℕ) (heads : List UnitHead) (head : UnitHead) → In head heads → In (in_file file head) (map (in_file file) heads)
map_in file [] head here = here
map_in file (h ∷ hs) head (inl same) = inl (ap (in_file file) same)
map_in file (h ∷ hs) head (inr later) = inr (map_in file hs head later)

pub in_append : {A : Type 0} (x : A) (xs ys : List A) → In x (xs ++ ys) → In x xs ⊎ In x ys
in_append x [] ys here = inr here
in_append x (z ∷ zs) ys (inl same) = inl (inl same)
in_append x (z ∷ zs) ys (inr later) = ⊎_elim (λ h. inl (inr h)) (λ h. inr h) (in_append x zs ys later)

pub append_left : {A : Type 0} (x : A) (xs ys : List A) → In x xs → In x (xs ++ ys)
append_left x [] ys here = absurd here
append_left x (z ∷ zs) ys (inl same) = inl same
append_left x (z ∷ zs) ys (inr later) = inr (append_left x zs ys later)

pub append_right : {A : Type 0} (x : A) (xs ys : List A) → In x ys → In x (xs ++ ys)
append_right x [] ys here = here
append_right x (z ∷ zs) ys here = inr (append_right x zs ys here)

ascends_append : (xs ys : List Declaration) → Ascends xs → Ascends ys → ((x y : Declaration) → In x xs → In y ys → Earlier x y) → Ascends (xs ++ ys)
ascends_append [] ys h k cross = k
ascends_append (x ∷ xs) ys h k cross =
    (λ y here. ⊎_elim (λ there. h.0 y there) (λ there. cross x y (inl refl) there) (in_append y xs ys here), ascends_append xs ys h.1 k (λ a b here there. cross a b (inr here) there))

-- ---- one file

file_ascends : (file : List ℕ) (n : ℕ) (us : List UnitOf) → Ascends (map (in_file file) (heads_from n us))
file_ascends file n [] = tt
file_ascends file n (u ∷ us) = (λ e here. later e (in_map file (heads_from (n + 1) us) e here), file_ascends file (n + 1) us)
  where
    later : (e : Declaration) → (head : UnitHead) × In head (heads_from (n + 1) us) × (e ≡ in_file file head) → Earlier (in_file file (head_of n u)) e
    later e h =
        let k = in_heads (n + 1) us h.0 h.1 in
        let is : e ≡ in_file file (head_of (n + 1 + k.0) k.1) = h.2 ∙ ap (in_file file) k.3 in
        subst (Earlier (in_file file (head_of n u))) (sym is) (inr (refl, omega arith))

-- ---- all files

-- the table has these units' heads, which are in order
module _ (table : Table) (units_of : List ℕ → Option (List UnitOf)) (has : (file : List ℕ) → finite.get table file ≡ option_map (heads_from 0) (units_of file))
    (order : (file : List ℕ) (us : List UnitOf) → units_of file ≡ Some us → InOrder us) where
  abbrev Entry : Type 0
  Entry = List ℕ × List UnitHead

  -- an entry has the heads of its file's units
  abbrev IsListed : Entry → Type 0
  IsListed e = (us : List UnitOf) × (units_of e.0 ≡ Some us) × (e.1 ≡ heads_from 0 us)

  heads_are : (o : Option (List UnitOf)) (heads : List UnitHead) → option_map (heads_from 0) o ≡ Some heads → (us : List UnitOf) × (o ≡ Some us) × (heads ≡ heads_from 0 us)
  heads_are None heads e = absurd cc
  heads_are (Some us) heads e = let same : heads_from 0 us ≡ heads = cc in (us, refl, sym same)

  rise : Rises byte_order (entries table)
  rise = rises_from_sorted byte_order (entries table) (entries_ordered table)

  is_listed : (e : Entry) → In e (entries table) → IsListed e
  is_listed e here =
      heads_are (units_of e.0) e.1 (sym (has e.0) ∙ get_is table e.0 ∙ lookup_from_in byte_order nat_list_cmp_total e.0 e.1 (entries table) rise here)

  abbrev declared : Entry → List Declaration
  declared e = file_declarations e.0 e.1

  declared_is : (e : Entry) (l : IsListed e) → declared e ≡ map (in_file e.0) (heads_from 0 l.0)
  declared_is e l = ap (λ heads. map (in_file e.0) (by_place heads)) l.2 ∙ ap (map (in_file e.0)) (in_place 0 l.0 (order e.0 l.0 l.1))

  -- what is declared in one of these entries
  in_entries : (es : List Entry) (d : Declaration) → In d (flat_map declared es) → (e : Entry) × In e es × In d (declared e)
  in_entries [] d here = absurd here
  in_entries (e ∷ es) d here =
      ⊎_elim (λ first. (e, inl refl, first)) (λ rest. let h = in_entries es d rest in (h.0, inr h.1, h.2)) (in_append d (declared e) (flat_map declared es) here)

  entries_in : (es : List Entry) (e : Entry) (d : Declaration) → In e es → In d (declared e) → In d (flat_map declared es)
  entries_in [] e d here there = absurd here
  entries_in (f ∷ fs) e d (inl same) there = append_left d (declared f) (flat_map declared fs) (subst (λ (g : Entry). In d (declared g)) same there)
  entries_in (f ∷ fs) e d (inr later) there = append_right d (declared f) (flat_map declared fs) (entries_in fs e d later there)

  -- a declaration is the unit at its index of its file
  pub is_unit : (d : Declaration) → In d (declarations table) → (us : List UnitOf) × (u : UnitOf) × (units_of d.file ≡ Some us) × (slice_get us d.head.index ≡ Some u) × (d.head ≡ head_of d.head.index u)
  is_unit d here =
      let entry = in_entries (entries table) d here in
      let e = entry.0 in
      let l = is_listed e entry.1 in
      let h = in_map e.0 (heads_from 0 l.0) d (subst (λ ds. In d ds) (declared_is e l) entry.2) in
      let k = in_heads 0 l.0 h.0 h.1 in
      let file : d.file ≡ e.0 = ap (λ (x : Declaration). x.file) h.2 in
      let head : d.head ≡ head_of (0 + k.0) k.1 = ap (λ (x : Declaration). x.head) h.2 ∙ k.3 in
      let number : d.head.index ≡ k.0 = ap (λ (x : UnitHead). x.index) head ∙ omega arith in
      (l.0, k.1, ap units_of file ∙ l.1, ap (slice_get l.0) number ∙ k.2, head ∙ ap (λ n. head_of n k.1) (omega (arith, number)))

  pub unit_is : (file : List ℕ) (us : List UnitOf) (i : ℕ) (u : UnitOf) → units_of file ≡ Some us → slice_get us i ≡ Some u → In (in_file file (head_of i u)) (declarations table)
  unit_is file us i u there at =
      let e : Entry = (file, heads_from 0 us) in
      let number : 0 + i ≡ i = omega arith in
      let here = in_from_lookup byte_order names_same file (heads_from 0 us) (entries table) (sym (get_is table file) ∙ has file ∙ ap (option_map (heads_from 0)) there) in
      entries_in (entries table) e (in_file file (head_of i u)) here
      (subst (λ ds. In (in_file file (head_of i u)) ds) (sym (declared_is e (us, there, refl))) (map_in file (heads_from 0 us) (head_of i u) (subst (λ n. In (head_of n u) (heads_from 0 us)) number (heads_in 0 i us u at))))

  entries_ascend : (es : List Entry) → Rises byte_order es → ((e : Entry) → In e es → IsListed e) → Ascends (flat_map declared es)
  entries_ascend [] rises listed = tt
  entries_ascend (e ∷ es) rises listed =
      let l = listed e (inl refl) in
      ascends_append (declared e) (flat_map declared es) (subst Ascends (sym (declared_is e l)) (file_ascends e.0 0 l.0)) (entries_ascend es rises.1 (λ f here. listed f (inr here)))
      (λ x y here there. cross x y here (in_entries es y there))
    where
      file_of : (f : Entry) → IsListed f → (x : Declaration) → In x (declared f) → x.file ≡ f.0
      file_of f l x here = ap (λ (d : Declaration). d.file) (in_map f.0 (heads_from 0 l.0) x (subst (λ ds. In x ds) (declared_is f l) here)).2

      cross : (x y : Declaration) → In x (declared e) → (f : Entry) × In f es × In y (declared f) → Earlier x y
      cross x y here there =
          let f = there.0 in
          let one = file_of e (listed e (inl refl)) x here in
          let two = file_of f (listed f (inr there.1)) y there.2 in
          inl (ap (λ name. byte_order name y.file) one ∙ ap (byte_order e.0) two ∙ rises.0 f there.1)

  pub ascends : Ascends (declarations table)
  ascends = entries_ascend (entries table) rise (λ e here. is_listed e here)
