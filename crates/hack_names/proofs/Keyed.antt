-- A table's declarations with their spots, in order, and what is declared at a spot.
use Rattle.std.proofs.Common.{◌≡◌, ◌⊎◌, ◌&&◌, ⊎_elim, ◌<◌, ◌+◌, ℕ, zero, suc, List, [], ◌∷◌, ◌++◌, map, slice_get, Option, None, Some, Bool, true, false, cond, refl, sym, ap, subst, ◌∙◌, inl, inr, arith}
use Rattle.std.specs.FinMap as finite
use Rattle.std.specs.FinMap.{entries, entries_sorted, get-entries, find, is_sorted}
use Rattle.std.specs.FinMap.Entries.{below_all}
use Rattle.std.specs.Prelude.{T}
use Rattle.std.specs.BTreeMap as tree
use Rattle.std.specs.List.{flat_map}
use Rattle.std.specs.Map.{lookup}
use Rattle.std.specs.Ordering.{nat_cmp, ordering_then, ordering_reverse, is_gt, is_lt, eq_by_cmp, MatchOrdering}
use Rattle.std.specs.declared.cmp.Ordering.{Ordering}
use Rattle.std.specs.declared.cmp.Ordering.TheVariants.{Less, Equal, Greater}
use Rattle.std.proofs.lemmas.Cmp.{ranked, tied_itself, nat_list_cmp_total, upto}
use Rattle.std.proofs.lemmas.Option.{slice_get_within}
use Rattle.hack_base.specs.Files.{byte_order}
use Rattle.hack_types.specs.Report.{place_order}
use Rattle.hack_types.specs.declared.ids.SymbolId.{SymbolId}
use Rattle.hack_names.specs.declared.unit.UnitHead.{UnitHead}
use Rattle.hack_names.specs.declared.keys.Spot.{Spot}
use Rattle.hack_names.specs.declared.keys.Declared.{Declared}
use Rattle.hack_names.specs.declared.index.Index.{Index}
use Rattle.hack_names.specs.Declarations.{Table, Declaration, with_head, by_place, file_declarations, declarations}
use Rattle.hack_names.specs.Inside.{spot_order, head_at, IsTable}
use Rattle.hack_names.proofs.Orders.{place_total}
use Rattle.hack_names.proofs.Rising.{In, Rises, in_from_lookup, lookup_from_in}
use Rattle.hack_names.proofs.FilesMap.{names_same}

-- a head with its position in its file's list
abbrev pub Numbered : Type 0
Numbered = ℕ × UnitHead

-- a head with its spot
abbrev pub Placed : Type 0
Placed = Spot × UnitHead

-- ---- the heads of a file by place, each with its position

abbrev pub numbered : ℕ → List UnitHead → List Numbered
numbered n [] = []
numbered n (head ∷ heads) = (n, head) ∷ numbered (suc n) heads

abbrev pub with_numbered : Numbered → List Numbered → List Numbered
with_numbered p [] = p ∷ []
with_numbered p (q ∷ qs) = cond (is_gt (place_order p.1.at q.1.at)) (q ∷ with_numbered p qs) (p ∷ q ∷ qs)

abbrev pub numbered_by_place : List Numbered → List Numbered
numbered_by_place [] = []
numbered_by_place (p ∷ ps) = with_numbered p (numbered_by_place ps)

heads_of : List Numbered → List UnitHead
heads_of ps = map (λ p. p.1) ps

heads-numbered : (n : ℕ) (heads : List UnitHead) → heads_of (numbered n heads) ≡ heads
unfolding heads_of
heads-numbered n [] = refl
heads-numbered n (head ∷ heads) = ap (λ hs. head ∷ hs) (heads-numbered (suc n) heads)

heads-with : (p : Numbered) (qs : List Numbered) → heads_of (with_numbered p qs) ≡ with_head p.1 (heads_of qs)
unfolding heads_of
heads-with p [] = refl
heads-with p (q ∷ qs) = by (is_gt (place_order p.1.at q.1.at)) (heads-with p qs)
  where
    by : (b : Bool) → map (λ (x : Numbered). x.1) (with_numbered p qs) ≡ with_head p.1 (map (λ (x : Numbered). x.1) qs)
        → map (λ (x : Numbered). x.1) (cond b (q ∷ with_numbered p qs) (p ∷ q ∷ qs)) ≡ cond b (q.1 ∷ with_head p.1 (map (λ (x : Numbered). x.1) qs)) (p.1 ∷ q.1 ∷ map (λ (x : Numbered). x.1) qs)
    by true rest = ap (λ hs. q.1 ∷ hs) rest
    by false rest = refl

heads-by_place : (ps : List Numbered) → heads_of (numbered_by_place ps) ≡ by_place (heads_of ps)
unfolding heads_of
heads-by_place [] = refl
heads-by_place (p ∷ ps) = heads-with p (numbered_by_place ps) ∙ ap (with_head p.1) (heads-by_place ps)

-- ---- their order

abbrev Before : Numbered → Numbered → Type 0
Before p q = ordering_then (place_order p.1.at q.1.at) (nat_cmp p.0 q.0) ≡ Less

abbrev Sorted : List Numbered → Type 0
Sorted [] = Unit {0}
Sorted (p ∷ ps) = ((q : Numbered) → In q ps → Before p q) × Sorted ps

less_number : (m n : ℕ) → m < n → nat_cmp m n ≡ Less
less_number m n h = by (nat_cmp m n) (ranked m n (nat_cmp m n) refl)
  where
    by : (r : Ordering) → MatchOrdering r (m < n) (m ≡ n) (n < m) → r ≡ Less
    by Less k = refl
    by Equal k = absurd (omega arith)
    by Greater k = absurd (omega arith)

before_from : (p q : Numbered) → is_gt (place_order p.1.at q.1.at) ≡ false → p.0 < q.0 → Before p q
before_from p q h less = by (place_order p.1.at q.1.at) h
  where
    by : (r : Ordering) → is_gt r ≡ false → ordering_then r (nat_cmp p.0 q.0) ≡ Less
    by Less k = refl
    by Equal k = less_number p.0 q.0 less
    by Greater k = absurd cc

place_from : (p q : Numbered) → Before p q → is_gt (place_order p.1.at q.1.at) ≡ false
place_from p q h = by (place_order p.1.at q.1.at) h
  where
    by : (r : Ordering) → ordering_then r (nat_cmp p.0 q.0) ≡ Less → is_gt r ≡ false
    by Less k = refl
    by Equal k = refl
    by Greater k = absurd cc

before_back : (p q : Numbered) → is_gt (place_order p.1.at q.1.at) ≡ true → Before q p
before_back p q h = ap (λ r. ordering_then r (nat_cmp q.0 p.0)) (place_total.antisymm q.1.at p.1.at ∙ by (place_order p.1.at q.1.at) h)
  where
    by : (r : Ordering) → is_gt r ≡ true → ordering_reverse r ≡ Less
    by Less k = absurd cc
    by Equal k = absurd cc
    by Greater k = refl

in_with : (p x : Numbered) (qs : List Numbered) → In x (with_numbered p qs) → (x ≡ p) ⊎ In x qs
in_with p x [] (inl same) = inl same
in_with p x [] (inr none) = absurd none
in_with p x (q ∷ qs) here = by (is_gt (place_order p.1.at q.1.at)) (in_with p x qs) here
  where
    by : (b : Bool) → (In x (with_numbered p qs) → (x ≡ p) ⊎ In x qs) → In x (cond b (q ∷ with_numbered p qs) (p ∷ q ∷ qs)) → (x ≡ p) ⊎ In x (q ∷ qs)
    by true rest (inl same) = inr (inl same)
    by true rest (inr later) = ⊎_elim (λ same. inl same) (λ there. inr (inr there)) (rest later)
    by false rest (inl same) = inl same
    by false rest (inr later) = inr later

with_in : (p x : Numbered) (qs : List Numbered) → (x ≡ p) ⊎ In x qs → In x (with_numbered p qs)
with_in p x [] (inl same) = inl same
with_in p x [] (inr none) = absurd none
with_in p x (q ∷ qs) here = by (is_gt (place_order p.1.at q.1.at)) (with_in p x qs) here
  where
    by : (b : Bool) → ((x ≡ p) ⊎ In x qs → In x (with_numbered p qs)) → (x ≡ p) ⊎ In x (q ∷ qs) → In x (cond b (q ∷ with_numbered p qs) (p ∷ q ∷ qs))
    by true rest (inl same) = inr (rest (inl same))
    by true rest (inr (inl same)) = inl same
    by true rest (inr (inr later)) = inr (rest (inr later))
    by false rest (inl same) = inl same
    by false rest (inr there) = inr there

sorted_with : (p : Numbered) (qs : List Numbered) → Sorted qs → ((q : Numbered) → In q qs → p.0 < q.0) → Sorted (with_numbered p qs)
sorted_with p [] sorted first = ((λ q none. absurd none), tt)
sorted_with p (q ∷ qs) sorted first = by (is_gt (place_order p.1.at q.1.at)) refl (sorted_with p qs sorted.1 (λ x here. first x (inr here)))
  where
    by : (b : Bool) → is_gt (place_order p.1.at q.1.at) ≡ b → Sorted (with_numbered p qs) → Sorted (cond b (q ∷ with_numbered p qs) (p ∷ q ∷ qs))
    by true h rest = (λ x here. ⊎_elim (λ same. subst (Before q) (sym same) (before_back p q h)) (λ there. sorted.0 x there) (in_with p x qs here), rest)
    by false h rest = (λ x here. before x here, sorted)
      where
        before : (x : Numbered) → In x (q ∷ qs) → Before p x
        before x (inl same) = subst (Before p) (sym same) (before_from p q h (first q (inl refl)))
        before x (inr later) = before_from p x (upto place_total p.1.at q.1.at x.1.at h (place_from q x (sorted.0 x later))) (first x (inr later))

-- ---- what is among them

in_by_place : (x : Numbered) (ps : List Numbered) → In x (numbered_by_place ps) → In x ps
in_by_place x [] here = here
in_by_place x (p ∷ ps) here = ⊎_elim (λ same. inl same) (λ there. inr (in_by_place x ps there)) (in_with p x (numbered_by_place ps) here)

by_place_in : (x : Numbered) (ps : List Numbered) → In x ps → In x (numbered_by_place ps)
by_place_in x [] here = here
by_place_in x (p ∷ ps) (inl same) = with_in p x (numbered_by_place ps) (inl same)
by_place_in x (p ∷ ps) (inr later) = with_in p x (numbered_by_place ps) (inr (by_place_in x ps later))

in_numbered : (n k : ℕ) (head : UnitHead) (heads : List UnitHead) → In (k, head) (numbered n heads) → (i : ℕ) × (k ≡ n + i) × (slice_get heads i ≡ Some head)
in_numbered n k head [] here = absurd here
in_numbered n k head (h ∷ hs) (inl same) =
    let number : k ≡ n = ap (λ (p : Numbered). p.0) same in
    (0, omega arith, ap (λ (p : Numbered). Some p.1) (sym same))
in_numbered n k head (h ∷ hs) (inr later) =
    let rest = in_numbered (suc n) k head hs later in
    (suc rest.0, omega (arith, rest.1), rest.2)

numbered_in : (n k i : ℕ) (head : UnitHead) (heads : List UnitHead) → k ≡ n + i → slice_get heads i ≡ Some head → In (k, head) (numbered n heads)
numbered_in n k i head [] e at = absurd cc
numbered_in n k zero head (h ∷ hs) e at =
    let number : k ≡ n = omega arith in
    let same : h ≡ head = cc in
    inl (λ j. (number j, sym same j))
numbered_in n k (suc i) head (h ∷ hs) e at = inr (numbered_in (suc n) k i head hs (omega arith) at)

sorted_by_place : (n : ℕ) (heads : List UnitHead) → Sorted (numbered_by_place (numbered n heads))
sorted_by_place n [] = tt
sorted_by_place n (head ∷ heads) =
    sorted_with (n, head) (numbered_by_place (numbered (suc n) heads)) (sorted_by_place (suc n) heads)
    (λ q here. later q (in_numbered (suc n) q.0 q.1 heads (in_by_place q (numbered (suc n) heads) here)))
  where
    later : (q : Numbered) → ((i : ℕ) × (q.0 ≡ suc n + i) × (slice_get heads i ≡ Some q.1)) → n < q.0
    later q h = omega (arith, h.1)

-- ---- lists that are joined and mapped

in_append : {A : Type 0} (x : A) (xs ys : List A) → In x (xs ++ ys) → In x xs ⊎ In x ys
in_append x [] ys here = inr here
in_append x (z ∷ zs) ys (inl same) = inl (inl same)
in_append x (z ∷ zs) ys (inr later) = ⊎_elim (λ h. inl (inr h)) (λ h. inr h) (in_append x zs ys later)

append_left : {A : Type 0} (x : A) (xs ys : List A) → In x xs → In x (xs ++ ys)
append_left x [] ys here = absurd here
append_left x (z ∷ zs) ys (inl same) = inl same
append_left x (z ∷ zs) ys (inr later) = inr (append_left x zs ys later)

append_right : {A : Type 0} (x : A) (xs ys : List A) → In x ys → In x (xs ++ ys)
append_right x [] ys here = here
append_right x (z ∷ zs) ys here = inr (append_right x zs ys here)

rises_append : {K X : Type 0} (R : K → K → Ordering) (xs ys : List (K × X)) → Rises R xs → Rises R ys → ((x y : K × X) → In x xs → In y ys → R x.0 y.0 ≡ Less) → Rises R (xs ++ ys)
rises_append R [] ys h k cross = k
rises_append R (x ∷ xs) ys h k cross =
    (λ y here. ⊎_elim (λ there. h.0 y there) (λ there. cross x y (inl refl) there) (in_append y xs ys here), rises_append R xs ys h.1 k (λ a b here there. cross a b (inr here) there))

map_append : {A B : Type 0} (f : A → B) (xs ys : List A) → map f (xs ++ ys) ≡ map f xs ++ map f ys
map_append f [] ys = refl
map_append f (x ∷ xs) ys = ap (λ zs. f x ∷ zs) (map_append f xs ys)

-- ---- the declarations with their spots

abbrev pub placed : List ℕ → Numbered → Placed
placed file p = (record { file = file; at = p.1.at; position = p.0 }, p.1)

abbrev pub file_placed : List ℕ → List UnitHead → List Placed
file_placed file heads = map (placed file) (numbered_by_place (numbered 0 heads))

abbrev pub all_placed : List (List ℕ × List UnitHead) → List Placed
all_placed es = flat_map (λ e. file_placed e.0 e.1) es

abbrev pub declaration : Placed → Declaration
declaration x = record { file = x.0.file; head = x.1 }

-- without the spots these are the declarations
file_same : (file : List ℕ) (ps : List Numbered) → map declaration (map (placed file) ps) ≡ map (λ (head : UnitHead). declaration (placed file (0, head))) (heads_of ps)
unfolding heads_of
file_same file [] = refl
file_same file (p ∷ ps) = ap (λ ds. declaration (placed file p) ∷ ds) (file_same file ps)

file_is : (file : List ℕ) (heads : List UnitHead) → map declaration (file_placed file heads) ≡ file_declarations file heads
file_is file heads =
    file_same file (numbered_by_place (numbered 0 heads))
    ∙ ap (map (λ (head : UnitHead). declaration (placed file (0, head)))) (heads-by_place (numbered 0 heads) ∙ ap by_place (heads-numbered 0 heads))

all_is : (es : List (List ℕ × List UnitHead)) → map declaration (all_placed es) ≡ flat_map (λ e. file_declarations e.0 e.1) es
all_is [] = refl
all_is (e ∷ es) =
    map_append declaration (file_placed e.0 e.1) (all_placed es) ∙ (λ i. file_is e.0 e.1 i ++ all_is es i)

-- a table's declarations with their spots
abbrev pub table_placed : Table → List Placed
table_placed table = all_placed (entries table)

pub table_is : (table : Table) → declarations table ≡ map declaration (table_placed table)
table_is table = sym (all_is (entries table))

-- ---- they rise

in_placed : (file : List ℕ) (x : Placed) (ps : List Numbered) → In x (map (placed file) ps) → (p : Numbered) × In p ps × (x ≡ placed file p)
in_placed file x [] here = absurd here
in_placed file x (p ∷ ps) (inl same) = (p, inl refl, same)
in_placed file x (p ∷ ps) (inr later) = let h = in_placed file x ps later in (h.0, inr h.1, h.2)

placed_in : (file : List ℕ) (p : Numbered) (ps : List Numbered) → In p ps → In (placed file p) (map (placed file) ps)
placed_in file p [] here = here
placed_in file p (q ∷ qs) (inl same) = inl (ap (placed file) same)
placed_in file p (q ∷ qs) (inr later) = inr (placed_in file p qs later)

file_rises : (file : List ℕ) (ps : List Numbered) → Sorted ps → Rises spot_order (map (placed file) ps)
file_rises file [] sorted = tt
file_rises file (p ∷ ps) sorted = (λ x here. before x (in_placed file x ps here), file_rises file ps sorted.1)
  where
    before : (x : Placed) → ((q : Numbered) × In q ps × (x ≡ placed file q)) → spot_order (placed file p).0 x.0 ≡ Less
    before x h =
        subst (λ (y : Placed). spot_order (placed file p).0 y.0 ≡ Less) (sym h.2)
        (ap (λ r. ordering_then r (ordering_then (place_order p.1.at h.0.1.at) (nat_cmp p.0 h.0.0))) (tied_itself nat_list_cmp_total file) ∙ sorted.0 h.0 h.1)

in_all : (x : Placed) (es : List (List ℕ × List UnitHead)) → In x (all_placed es) → (e : List ℕ × List UnitHead) × In e es × In x (file_placed e.0 e.1)
in_all x [] here = absurd here
in_all x (e ∷ es) here =
    ⊎_elim (λ first. (e, inl refl, first)) (λ rest. let h = in_all x es rest in (h.0, inr h.1, h.2)) (in_append x (file_placed e.0 e.1) (all_placed es) here)

all_in : (x : Placed) (es : List (List ℕ × List UnitHead)) (e : List ℕ × List UnitHead) → In e es → In x (file_placed e.0 e.1) → In x (all_placed es)
all_in x [] e here there = absurd here
all_in x (f ∷ fs) e (inl same) there =
    append_left x (file_placed f.0 f.1) (all_placed fs) (subst (λ (g : List ℕ × List UnitHead). In x (file_placed g.0 g.1)) same there)
all_in x (f ∷ fs) e (inr later) there = append_right x (file_placed f.0 f.1) (all_placed fs) (all_in x fs e later there)

all_rises : (es : List (List ℕ × List UnitHead)) → Rises byte_order es → Rises spot_order (all_placed es)
all_rises [] rises = tt
all_rises (e ∷ es) rises =
    rises_append spot_order (file_placed e.0 e.1) (all_placed es) (file_rises e.0 (numbered_by_place (numbered 0 e.1)) (sorted_by_place 0 e.1)) (all_rises es rises.1)
    (λ x y here there. cross x y (in_placed e.0 x (numbered_by_place (numbered 0 e.1)) here) (in_all y es there))
  where
    cross : (x y : Placed) → ((p : Numbered) × In p (numbered_by_place (numbered 0 e.1)) × (x ≡ placed e.0 p)) → ((f : List ℕ × List UnitHead) × In f es × In y (file_placed f.0 f.1)) → spot_order x.0 y.0 ≡ Less
    cross x y h k =
        let other = in_placed k.0.0 y (numbered_by_place (numbered 0 k.0.1)) k.2 in
        let files : byte_order x.0.file y.0.file ≡ Less =
        subst (λ (a : Placed). byte_order a.0.file y.0.file ≡ Less) (sym h.2)
        (subst (λ (b : Placed). byte_order e.0 b.0.file ≡ Less) (sym other.2) (rises.0 k.0 k.1)) in
        ap (λ r. ordering_then r (ordering_then (place_order x.0.at y.0.at) (nat_cmp x.0.position y.0.position))) files

from_T : (r : Ordering) → T (is_lt r) → r ≡ Less
from_T Less h = refl
from_T Equal h = absurd h
from_T Greater h = absurd h

both_hold : (a b : Bool) → T (a && b) → T a × T b
both_hold true b h = (tt, h)
both_hold false b h = absurd h

rises_below : {X : Type 0} (x : List ℕ) (es : List (List ℕ × X)) → T (below_all byte_order x es) → (f : List ℕ × X) → In f es → byte_order x f.0 ≡ Less
rises_below x [] h f here = absurd here
rises_below {X} x (e ∷ es) h f (inl same) = subst (λ (g : List ℕ × X). byte_order x g.0 ≡ Less) (sym same) (from_T (byte_order x e.0) (both_hold _ _ h).0)
rises_below x (e ∷ es) h f (inr later) = rises_below x es (both_hold _ _ h).1 f later

rises_from_is_sorted : {X : Type 0} (es : List (List ℕ × X)) → T (is_sorted byte_order es) → Rises byte_order es
rises_from_is_sorted [] h = tt
rises_from_is_sorted (e ∷ es) h = (rises_below e.0 es (both_hold _ _ h).0, rises_from_is_sorted es (both_hold _ _ h).1)

entries_rise : (table : Table) → Rises byte_order (entries table)
entries_rise table = rises_from_is_sorted (entries table) (entries_sorted table)

pub table_rises : (table : Table) → Rises spot_order (table_placed table)
table_rises table = all_rises (entries table) (entries_rise table)

find_lookup : (file : List ℕ) (es : List (List ℕ × List UnitHead)) → find byte_order file es ≡ lookup (tree.is_at (byte_order file)) es
find_lookup file [] = refl
find_lookup file (e ∷ es) = ap (cond (eq_by_cmp byte_order file e.0) (Some e.1)) (find_lookup file es)

in_from_get : (table : Table) (file : List ℕ) (heads : List UnitHead) → finite.get table file ≡ Some heads → In (file, heads) (entries table)
in_from_get table file heads e = in_from_lookup byte_order names_same file heads (entries table) (sym (find_lookup file (entries table)) ∙ sym (get-entries table file) ∙ e)

get_from_in : (table : Table) (file : List ℕ) (heads : List UnitHead) → In (file, heads) (entries table) → finite.get table file ≡ Some heads
get_from_in table file heads here = get-entries table file ∙ find_lookup file (entries table) ∙ lookup_from_in byte_order nat_list_cmp_total file heads (entries table) (entries_rise table) here

-- ---- what is declared at a spot

-- what is among the table's declarations is found in the index
pub declared_from : (table : Table) (index : Index) (spot : Spot) (head : UnitHead) → IsTable table index → In (spot, head) (table_placed table) → head_at index.declared head.symbol spot ≡ Some head
declared_from table index spot head is here = by (in_all (spot, head) (entries table) here)
  where
    by : ((e : List ℕ × List UnitHead) × In e (entries table) × In (spot, head) (file_placed e.0 e.1)) → head_at index.declared head.symbol spot ≡ Some head
    by h = at (in_placed h.0.0 (spot, head) (numbered_by_place (numbered 0 h.0.1)) h.2)
      where
        at : ((p : Numbered) × In p (numbered_by_place (numbered 0 h.0.1)) × ((spot, head) ≡ placed h.0.0 p)) → head_at index.declared head.symbol spot ≡ Some head
        at p =
            let unit = in_numbered 0 p.0.0 p.0.1 h.0.1 (in_by_place p.0 (numbered 0 h.0.1) p.1) in
            let number : unit.0 ≡ p.0.0 = omega (arith, unit.1) in
            let listed : slice_get h.0.1 p.0.0 ≡ Some p.0.1 = subst (λ n. slice_get h.0.1 n ≡ Some p.0.1) number unit.2 in
            let there = is.all h.0.0 h.0.1 (get_from_in table h.0.0 h.0.1 h.1) p.0.0 p.0.1 (slice_get_within h.0.1 p.0.0 p.0.1 listed) listed in
            subst (λ (x : Placed). head_at index.declared x.1.symbol x.0 ≡ Some x.1) (sym p.2) there

-- and the other way round, under the head's own symbol
pub declared_to : (table : Table) (index : Index) (symbol : SymbolId) (spot : Spot) (head : UnitHead) → IsTable table index → head_at index.declared symbol spot ≡ Some head → In (spot, head) (table_placed table) × (symbol ≡ head.symbol)
declared_to table index symbol spot head is there = by (finite.get table spot.file) refl
  where
    by : (o : Option (List UnitHead)) → finite.get table spot.file ≡ o → In (spot, head) (table_placed table) × (symbol ≡ head.symbol)
    by None e = let clash : ◌≡◌ {A = Option UnitHead} None (Some head) = sym (is.absent spot.file e (record { symbol = symbol; spot = spot }) refl) ∙ there in absurd cc
    by (Some heads) e =
        let unit = is.only spot.file heads e (record { symbol = symbol; spot = spot }) head refl there in
        let spots : spot ≡ (placed spot.file (unit.0, head)).0 = ap (λ (k : Declared). k.spot) unit.2 in
        let there_too : In (placed spot.file (unit.0, head)) (file_placed spot.file heads) =
        placed_in spot.file (unit.0, head) (numbered_by_place (numbered 0 heads)) (by_place_in (unit.0, head) (numbered 0 heads) (numbered_in 0 unit.0 unit.0 head heads (omega arith) unit.1)) in
        let own : (placed spot.file (unit.0, head)) ≡ (spot, head) = λ i. (sym spots i, head) in (
          all_in (spot, head) (entries table) (spot.file, heads) (in_from_get table spot.file heads e) (subst (λ (x : Placed). In x (file_placed spot.file heads)) own there_too),
          ap (λ (k : Declared). k.symbol) unit.2,
        )

-- a spot has the place where its head starts
pub starts_there : (table : Table) (x : Placed) → In x (table_placed table) → x.0.at ≡ x.1.at
starts_there table x here = by (in_all x (entries table) here)
  where
    by : ((e : List ℕ × List UnitHead) × In e (entries table) × In x (file_placed e.0 e.1)) → x.0.at ≡ x.1.at
    by h =
        let p = in_placed h.0.0 x (numbered_by_place (numbered 0 h.0.1)) h.2 in
        subst (λ (y : Placed). y.0.at ≡ y.1.at) (sym p.2) refl
