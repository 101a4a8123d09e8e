-- The laws of declarations.
use Rattle.std.proofs.Common.{◌≡◌, ◌||◌, List, [], ◌∷◌, ◌++◌, map, Some, Bool, true, false, cond, refl, sym, ap, subst, ◌∙◌, inl, inr}
use Rattle.std.specs.List.{filter, find, list_any, AllByRecursion}
use Rattle.std.specs.Ordering.{ordering_then, nat_cmp, is_gt, is_eq}
use Rattle.std.specs.declared.cmp.Ordering.{Ordering}
use Rattle.std.specs.declared.cmp.Ordering.TheVariants.{Less, Equal, Greater}
use Rattle.std.proofs.lemmas.Cmp.{tied_itself}
use Rattle.hack_base.specs.Files.{byte_order}
use Rattle.hack_types.specs.Report.{place_order}
use Rattle.hack_types.specs.declared.place.Place.{Place}
use Rattle.hack_types.specs.declared.ids.SymbolId.{SymbolId}
use Rattle.hack_names.specs.declared.unit.UnitHead.{UnitHead}
use Rattle.hack_names.specs.Declarations.{Table, Declaration, with_head, by_place, declarations, declares, winner, behind, losers}
use Rattle.hack_names.specs.Laws.{IsUpTo, AreInOrder, starts_at, listed}
use Rattle.hack_names.specs.Inside.{spot_order}
use Rattle.hack_names.proofs.Orders.{place_total, place_same}
use Rattle.hack_names.proofs.Rising.{In, Rises}
use Rattle.hack_names.proofs.Indexed.{same_symbol-true}
use Rattle.hack_names.proofs.Keyed.{Placed, declaration, table_placed, table_is, table_rises, starts_there}

-- ---- files and places

up_to : (p q r : Ordering) → ordering_then p (ordering_then q r) ≡ Less → is_gt (ordering_then p q) ≡ false
up_to Less q r h = refl
up_to Equal Less r h = refl
up_to Equal Equal r h = refl
up_to Equal Greater r h = absurd cc
up_to Greater q r h = absurd cc

order-map : (xs : List Placed) → Rises spot_order xs → ((x : Placed) → In x xs → x.0.at ≡ x.1.at) → AreInOrder (map declaration xs)
order-map [] rises at = tt
order-map (x ∷ xs) rises at = (all xs (λ y here. rises.0 y here) (λ y here. at y (inr here)), order-map xs rises.1 (λ y here. at y (inr here)))
  where
    all : (ys : List Placed) → ((y : Placed) → In y ys → spot_order x.0 y.0 ≡ Less) → ((y : Placed) → In y ys → y.0.at ≡ y.1.at) → AllByRecursion (IsUpTo (declaration x)) (map declaration ys)
    all [] h there = tt
    all (y ∷ ys) h there =
        let places : place_order x.0.at y.0.at ≡ place_order x.1.at y.1.at = λ i. place_order (at x (inl refl) i) (there y (inl refl) i) in
        let files = byte_order x.0.file y.0.file in
        (sym (ap (λ r. is_gt (ordering_then files r)) places) ∙ up_to files (place_order x.0.at y.0.at) (nat_cmp x.0.position y.0.position) (h y (inl refl)), all ys (λ z here. h z (inr here)) (λ z here. there z (inr here)))

pub files_and_places : (table : Table) → AreInOrder (declarations table)
files_and_places table = subst AreInOrder (sym (table_is table)) (order-map (table_placed table) (table_rises table) (starts_there table))

-- ---- ties

-- a head that goes behind another doesn't start where that one does
passes : (place : Place) (head : UnitHead) (others : List UnitHead) → filter (starts_at place) (with_head head others) ≡ filter (starts_at place) (head ∷ others)
passes place head [] = refl
passes place head (o ∷ os) = by (is_gt (place_order head.at o.at)) refl (passes place head os)
  where
    apart : is_gt (place_order head.at o.at) ≡ true → starts_at place head ≡ true → starts_at place o ≡ true → ⊥
    apart h a b = both (place_order place head.at) refl a (place_order place o.at) refl b
      where
        both : (p : Ordering) → place_order place head.at ≡ p → is_eq p ≡ true → (q : Ordering) → place_order place o.at ≡ q → is_eq q ≡ true → ⊥
        both Less u t q v w = absurd cc
        both Greater u t q v w = absurd cc
        both Equal u t Less v w = absurd cc
        both Equal u t Greater v w = absurd cc
        both Equal u t Equal v w =
            let same : head.at ≡ o.at = sym (place_same place head.at u) ∙ place_same place o.at v in
            let tie : place_order head.at o.at ≡ Equal = subst (λ a. place_order head.at a ≡ Equal) same (tied_itself place_total head.at) in
            let clash : true ≡ false = sym h ∙ ap is_gt tie in
            absurd cc

    swapped : (a b : Bool) → starts_at place head ≡ a → starts_at place o ≡ b → (a ≡ true → b ≡ true → ⊥) → (rest : List UnitHead)
        → cond b (o ∷ cond a (head ∷ rest) rest) (cond a (head ∷ rest) rest) ≡ cond a (head ∷ cond b (o ∷ rest) rest) (cond b (o ∷ rest) rest)
    swapped true true u v not rest = absurd (not refl refl)
    swapped true false u v not rest = refl
    swapped false b u v not rest = refl

    by : (b : Bool) → is_gt (place_order head.at o.at) ≡ b → filter (starts_at place) (with_head head os) ≡ filter (starts_at place) (head ∷ os)
        → filter (starts_at place) (cond b (o ∷ with_head head os) (head ∷ o ∷ os)) ≡ filter (starts_at place) (head ∷ o ∷ os)
    by true h rest =
        ap (λ hs. cond (starts_at place o) (o ∷ hs) hs) rest
        ∙ swapped (starts_at place head) (starts_at place o) refl refl (apart h) (filter (starts_at place) os)
    by false h rest = refl

pub ties : (place : Place) (heads : List UnitHead) → filter (starts_at place) (by_place heads) ≡ filter (starts_at place) heads
ties place [] = refl
ties place (head ∷ heads) = passes place head (by_place heads) ∙ ap (λ hs. cond (starts_at place head) (head ∷ hs) hs) (ties place heads)

-- ---- winner and losers

-- where the symbol is declared before, all its declarations lose
all_behind : (symbol : SymbolId) (before ds : List Declaration) → list_any (declares symbol) before ≡ true → filter (declares symbol) (behind before ds) ≡ filter (declares symbol) ds
all_behind symbol before [] any = refl
all_behind symbol before (d ∷ ds) any = by (declares symbol d) refl (list_any (declares d.head.symbol) before) refl (all_behind symbol (d ∷ before) ds (later (declares symbol d)))
  where
    later : (b : Bool) → (b || list_any (declares symbol) before) ≡ true
    later true = refl
    later false = any

    by : (own : Bool) → declares symbol d ≡ own → (b : Bool) → list_any (declares d.head.symbol) before ≡ b → filter (declares symbol) (behind (d ∷ before) ds) ≡ filter (declares symbol) ds
        → filter (declares symbol) (cond b (d ∷ behind (d ∷ before) ds) (behind (d ∷ before) ds)) ≡ cond own (d ∷ filter (declares symbol) ds) (filter (declares symbol) ds)
    by true p true q rest = ap (λ o. cond o (d ∷ filter (declares symbol) (behind (d ∷ before) ds)) (filter (declares symbol) (behind (d ∷ before) ds))) p ∙ ap (λ es. d ∷ es) rest
    by true p false q rest =
        let clash : true ≡ false = sym any ∙ ap (λ s. list_any (declares s) before) (same_symbol-true symbol d.head.symbol p) ∙ q in
        absurd cc
    by false p true q rest = ap (λ o. cond o (d ∷ filter (declares symbol) (behind (d ∷ before) ds)) (filter (declares symbol) (behind (d ∷ before) ds))) p ∙ rest
    by false p false q rest = rest

-- where it isn't, all but the first lose
all_but_first : (symbol : SymbolId) (before ds : List Declaration) → list_any (declares symbol) before ≡ false
    → filter (declares symbol) ds ≡ listed (find (declares symbol) ds) ++ filter (declares symbol) (behind before ds)
all_but_first symbol before [] none = refl
all_but_first symbol before (d ∷ ds) none =
    by (declares symbol d) refl (list_any (declares d.head.symbol) before) refl (λ p. all_behind symbol (d ∷ before) ds (ap (λ o. o || list_any (declares symbol) before) p))
    (λ p. all_but_first symbol (d ∷ before) ds (ap (λ o. o || list_any (declares symbol) before) p ∙ none))
  where
    by : (own : Bool) → declares symbol d ≡ own → (b : Bool) → list_any (declares d.head.symbol) before ≡ b
        → (declares symbol d ≡ true → filter (declares symbol) (behind (d ∷ before) ds) ≡ filter (declares symbol) ds)
        → (declares symbol d ≡ false → filter (declares symbol) ds ≡ listed (find (declares symbol) ds) ++ filter (declares symbol) (behind (d ∷ before) ds))
        → cond own (d ∷ filter (declares symbol) ds) (filter (declares symbol) ds)
        ≡ listed (cond own (Some d) (find (declares symbol) ds)) ++ filter (declares symbol) (cond b (d ∷ behind (d ∷ before) ds) (behind (d ∷ before) ds))
    by true p true q all but =
        let clash : false ≡ true = sym none ∙ ap (λ s. list_any (declares s) before) (same_symbol-true symbol d.head.symbol p) ∙ q in
        absurd cc
    by true p false q all but = ap (λ es. d ∷ es) (sym (all p))
    by false p true q all but =
        but p ∙ ap (λ es. listed (find (declares symbol) ds) ++ es) (sym (ap (λ o. cond o (d ∷ filter (declares symbol) (behind (d ∷ before) ds)) (filter (declares symbol) (behind (d ∷ before) ds))) p))
    by false p false q all but = but p

pub winner_then_losers : (table : Table) (symbol : SymbolId) → filter (declares symbol) (declarations table) ≡ listed (winner table symbol) ++ filter (declares symbol) (losers table)
winner_then_losers table symbol = all_but_first symbol [] (declarations table) refl
