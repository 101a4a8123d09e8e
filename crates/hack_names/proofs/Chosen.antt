-- The winner and the losers, as the index finds them.
use Rattle.std.proofs.Common.{◌≡◌, ◌⊎◌, ◌||◌, ⊎_elim, List, [], ◌∷◌, map, Option, None, Some, Bool, true, false, cond, refl, sym, ap, subst, ◌∙◌, inl, inr}
use Rattle.std.specs.Prelude.{IsSome}
use Rattle.std.specs.BTreeMap as tree
use Rattle.std.specs.List.{find, list_any}
use Rattle.std.specs.Option.{option_map}
use Rattle.std.specs.Ordering.{is_gt}
use Rattle.std.specs.declared.cmp.Ordering.TheVariants.{Less}
use Rattle.hack_types.specs.declared.ids.SymbolId.{SymbolId}
use Rattle.hack_names.specs.declared.unit.UnitHead.{UnitHead}
use Rattle.hack_names.specs.declared.keys.Spot.{Spot}
use Rattle.hack_names.specs.declared.keys.Declared.{Declared}
use Rattle.hack_names.specs.declared.index.Index.{Index}
use Rattle.hack_names.specs.Declarations.{Table, Declaration, same_symbol, declares, winner, behind, losers}
use Rattle.hack_names.specs.Inside.{spot_order, head_at, IsTable, IsFirst, HasNone, HasOnlyLosers, HasAllLosers}
use Rattle.hack_names.proofs.Orders.{spot_total, spot_same}
use Rattle.hack_names.proofs.Rising.{In, Rises, never_self, never_both, above, in_from_lookup, lookup_from_in, rises_from_sorted, same_lists}
use Rattle.hack_names.proofs.Indexed.{same_symbol-true, same_symbol-refl}
use Rattle.hack_names.proofs.Keyed.{Placed, declaration, table_placed, table_is, table_rises, declared_from, declared_to}

abbrev Of : SymbolId → Placed → Bool
Of symbol x = same_symbol symbol x.1.symbol

-- ---- the winner

find-map : (symbol : SymbolId) (xs : List Placed) → find (declares symbol) (map declaration xs) ≡ option_map declaration (find (Of symbol) xs)
find-map symbol [] = refl
find-map symbol (x ∷ xs) = by (Of symbol x) (find-map symbol xs)
  where
    by : (b : Bool) → find (declares symbol) (map declaration xs) ≡ option_map declaration (find (Of symbol) xs)
        → cond b (Some (declaration x)) (find (declares symbol) (map declaration xs)) ≡ option_map declaration (cond b (Some x) (find (Of symbol) xs))
    by true rest = refl
    by false rest = rest

find_least : (p : Placed → Bool) (xs : List Placed) (x : Placed) → Rises spot_order xs → In x xs → p x ≡ true → ((y : Placed) → In y xs → p y ≡ true → is_gt (spot_order x.0 y.0) ≡ false) → find p xs ≡ Some x
find_least p [] x rises here is least = absurd here
find_least p (z ∷ zs) x rises here is least = by (p z) refl here (λ later. find_least p zs x rises.1 later is (λ y there q. least y (inr there) q))
  where
    by : (b : Bool) → p z ≡ b → In x (z ∷ zs) → (In x zs → find p zs ≡ Some x) → cond b (Some z) (find p zs) ≡ Some x
    by true q (inl same) rest = ap Some (sym same)
    by true q (inr later) rest =
        let clash : true ≡ false = ap is_gt (sym (above spot_total z.0 x.0 (rises.0 x later))) ∙ least z (inl refl) q in
        absurd cc
    by false q (inl same) rest = let clash : true ≡ false = sym is ∙ ap p same ∙ q in absurd cc
    by false q (inr later) rest = rest later

find_nothing : (p : Placed → Bool) (xs : List Placed) → ((y : Placed) → In y xs → p y ≡ true → ⊥) → find p xs ≡ None
find_nothing p [] none = refl
find_nothing p (z ∷ zs) none = by (p z) refl (find_nothing p zs (λ y there. none y (inr there)))
  where
    by : (b : Bool) → p z ≡ b → find p zs ≡ None → cond b (Some z) (find p zs) ≡ None
    by true q rest = absurd (none z (inl refl) q)
    by false q rest = rest

winner_is : (table : Table) (symbol : SymbolId) → winner table symbol ≡ option_map declaration (find (Of symbol) (table_placed table))
winner_is table symbol = ap (find (declares symbol)) (table_is table) ∙ find-map symbol (table_placed table)

pub winner_first : (table : Table) (index : Index) (symbol : SymbolId) (key : Declared) (head : UnitHead) → IsTable table index → IsFirst index.declared symbol key head
    → ◌≡◌ {A = Option Declaration} (Some (record { file = key.spot.file; head = head })) (winner table symbol)
winner_first table index symbol key head is first =
    sym (winner_is table symbol ∙ ap (option_map declaration) (find_least (Of symbol) (table_placed table) (key.spot, head) (table_rises table) there.0 matches least))
  where
    there : In (key.spot, head) (table_placed table) × (symbol ≡ head.symbol)
    there = declared_to table index symbol key.spot head is (subst (λ s. head_at index.declared s key.spot ≡ Some head) first.symbol_is first.there)

    matches : same_symbol symbol head.symbol ≡ true
    matches = subst (λ s. same_symbol symbol s ≡ true) there.1 (same_symbol-refl symbol)

    least : (y : Placed) → In y (table_placed table) → same_symbol symbol y.1.symbol ≡ true → is_gt (spot_order key.spot y.0) ≡ false
    least y here q =
        first.least y.0 y.1 (subst (λ s. head_at index.declared s y.0 ≡ Some y.1) (sym (same_symbol-true symbol y.1.symbol q)) (declared_from table index y.0 y.1 is here))

pub winner_none : (table : Table) (index : Index) (symbol : SymbolId) → IsTable table index → HasNone index.declared symbol → ◌≡◌ {A = Option Declaration} None (winner table symbol)
winner_none table index symbol is none =
    sym (winner_is table symbol ∙ ap (option_map declaration) (find_nothing (Of symbol) (table_placed table) never))
  where
    never : (y : Placed) → In y (table_placed table) → same_symbol symbol y.1.symbol ≡ true → ⊥
    never y here q =
        let found : head_at index.declared symbol y.0 ≡ Some y.1 = subst (λ s. head_at index.declared s y.0 ≡ Some y.1) (sym (same_symbol-true symbol y.1.symbol q)) (declared_from table index y.0 y.1 is here) in
        let clash : ◌≡◌ {A = Option UnitHead} None (Some y.1) = sym (none y.0) ∙ found in
        absurd cc

-- ---- the losers

abbrev placed_behind : List Placed → List Placed → List Placed
placed_behind before [] = []
placed_behind before (x ∷ xs) = cond (list_any (Of x.1.symbol) before) (x ∷ placed_behind (x ∷ before) xs) (placed_behind (x ∷ before) xs)

any-map : (symbol : SymbolId) (xs : List Placed) → list_any (declares symbol) (map declaration xs) ≡ list_any (Of symbol) xs
any-map symbol [] = refl
any-map symbol (x ∷ xs) = ap (λ b. Of symbol x || b) (any-map symbol xs)

behind-map : (before xs : List Placed) → behind (map declaration before) (map declaration xs) ≡ map declaration (placed_behind before xs)
behind-map before [] = refl
behind-map before (x ∷ xs) =
    ap (λ b. cond b (declaration x ∷ behind (map declaration (x ∷ before)) (map declaration xs)) (behind (map declaration (x ∷ before)) (map declaration xs))) (any-map x.1.symbol before)
    ∙ by (list_any (Of x.1.symbol) before) (behind-map (x ∷ before) xs)
  where
    by : (b : Bool) → behind (map declaration (x ∷ before)) (map declaration xs) ≡ map declaration (placed_behind (x ∷ before) xs)
        → cond b (declaration x ∷ behind (map declaration (x ∷ before)) (map declaration xs)) (behind (map declaration (x ∷ before)) (map declaration xs))
        ≡ map declaration (cond b (x ∷ placed_behind (x ∷ before) xs) (placed_behind (x ∷ before) xs))
    by true rest = ap (λ ds. declaration x ∷ ds) rest
    by false rest = rest

in_any : (symbol : SymbolId) (xs : List Placed) → list_any (Of symbol) xs ≡ true → (x : Placed) × In x xs × (symbol ≡ x.1.symbol)
in_any symbol [] e = absurd cc
in_any symbol (x ∷ xs) e = by (Of symbol x) refl (in_any symbol xs) e
  where
    by : (b : Bool) → Of symbol x ≡ b → (list_any (Of symbol) xs ≡ true → (y : Placed) × In y xs × (symbol ≡ y.1.symbol)) → (b || list_any (Of symbol) xs) ≡ true → (y : Placed) × In y (x ∷ xs) × (symbol ≡ y.1.symbol)
    by true q rest e = (x, inl refl, same_symbol-true symbol x.1.symbol q)
    by false q rest e = let h = rest e in (h.0, inr h.1, h.2)

any_in : (symbol : SymbolId) (xs : List Placed) (x : Placed) → In x xs → symbol ≡ x.1.symbol → list_any (Of symbol) xs ≡ true
any_in symbol [] x here same = absurd here
any_in symbol (z ∷ zs) x here same = by (Of symbol z) refl here (λ later. any_in symbol zs x later same)
  where
    by : (b : Bool) → Of symbol z ≡ b → In x (z ∷ zs) → (In x zs → list_any (Of symbol) zs ≡ true) → (b || list_any (Of symbol) zs) ≡ true
    by true q here rest = refl
    by false q (inr later) rest = rest later
    by false q (inl is) rest =
        let clash : true ≡ false = sym (subst (λ s. same_symbol symbol s ≡ true) (same ∙ ap (λ (y : Placed). y.1.symbol) is) (same_symbol-refl symbol)) ∙ q in
        absurd cc

-- another one of the symbol stands before it: among these, or before it in the list
abbrev HasBefore : List Placed → List Placed → Placed → Type 0
HasBefore before xs x = (b : Placed) × (In b before ⊎ (In b xs × (spot_order b.0 x.0 ≡ Less))) × (x.1.symbol ≡ b.1.symbol)

behind_in : (before xs : List Placed) (x : Placed) → Rises spot_order xs → In x (placed_behind before xs) → In x xs × HasBefore before xs x
behind_in before [] x rises here = absurd here
behind_in before (y ∷ ys) x rises here = by (list_any (Of y.1.symbol) before) refl (behind_in (y ∷ before) ys x rises.1) here
  where
    shift : In x ys × HasBefore (y ∷ before) ys x → In x (y ∷ ys) × HasBefore before (y ∷ ys) x
    shift h = (inr h.0, (h.1.0, from h.1.1, h.1.2))
      where
        from : In h.1.0 (y ∷ before) ⊎ (In h.1.0 ys × (spot_order h.1.0.0 x.0 ≡ Less)) → In h.1.0 before ⊎ (In h.1.0 (y ∷ ys) × (spot_order h.1.0.0 x.0 ≡ Less))
        from (inl (inl same)) = inr (inl same, subst (λ (b : Placed). spot_order b.0 x.0 ≡ Less) (sym same) (rises.0 x h.0))
        from (inl (inr there)) = inl there
        from (inr k) = inr (inr k.0, k.1)

    by : (b : Bool) → list_any (Of y.1.symbol) before ≡ b → (In x (placed_behind (y ∷ before) ys) → In x ys × HasBefore (y ∷ before) ys x)
        → In x (cond b (y ∷ placed_behind (y ∷ before) ys) (placed_behind (y ∷ before) ys)) → In x (y ∷ ys) × HasBefore before (y ∷ ys) x
    by true q rest (inl same) =
        let h = in_any y.1.symbol before q in
        (inl same, (h.0, inl h.1, ap (λ (z : Placed). z.1.symbol) same ∙ h.2))
    by true q rest (inr later) = shift (rest later)
    by false q rest here = shift (rest here)

in_behind : (before xs : List Placed) (x : Placed) → Rises spot_order xs → In x xs → HasBefore before xs x → In x (placed_behind before xs)
in_behind before [] x rises here has = absurd here
in_behind before (y ∷ ys) x rises here has = by (list_any (Of y.1.symbol) before) refl here (λ later. in_behind (y ∷ before) ys x rises.1 later (shift later))
  where
    shift : In x ys → HasBefore (y ∷ before) ys x
    shift later = (has.0, from has.1, has.2)
      where
        from : In has.0 before ⊎ (In has.0 (y ∷ ys) × (spot_order has.0.0 x.0 ≡ Less)) → In has.0 (y ∷ before) ⊎ (In has.0 ys × (spot_order has.0.0 x.0 ≡ Less))
        from (inl there) = inl (inr there)
        from (inr k) = ⊎_elim (λ same. inl (inl same)) (λ there. inr (there, k.1)) k.0

    noted : x ≡ y → list_any (Of y.1.symbol) before ≡ true
    noted same = from has.1
      where
        from : In has.0 before ⊎ (In has.0 (y ∷ ys) × (spot_order has.0.0 x.0 ≡ Less)) → list_any (Of y.1.symbol) before ≡ true
        from (inl there) = any_in y.1.symbol before has.0 there (ap (λ (z : Placed). z.1.symbol) (sym same) ∙ has.2)
        from (inr k) =
            let less : spot_order has.0.0 y.0 ≡ Less = subst (λ (z : Placed). spot_order has.0.0 z.0 ≡ Less) same k.1 in
            absurd (⊎_elim (λ is. never_self spot_total y.0 (subst (λ (z : Placed). spot_order z.0 y.0 ≡ Less) is less)) (λ there. never_both spot_total y.0 has.0.0 (rises.0 has.0 there) less) k.0)

    by : (b : Bool) → list_any (Of y.1.symbol) before ≡ b → In x (y ∷ ys) → (In x ys → In x (placed_behind (y ∷ before) ys)) → In x (cond b (y ∷ placed_behind (y ∷ before) ys) (placed_behind (y ∷ before) ys))
    by true q (inl same) rest = inl same
    by true q (inr later) rest = inr (rest later)
    by false q (inl same) rest = let clash : true ≡ false = sym (noted same) ∙ q in absurd cc
    by false q (inr later) rest = rest later

behind_rises : (before xs : List Placed) → Rises spot_order xs → Rises spot_order (placed_behind before xs)
behind_rises before [] rises = tt
behind_rises before (y ∷ ys) rises = by (list_any (Of y.1.symbol) before) (behind_rises (y ∷ before) ys rises.1)
  where
    by : (b : Bool) → Rises spot_order (placed_behind (y ∷ before) ys) → Rises spot_order (cond b (y ∷ placed_behind (y ∷ before) ys) (placed_behind (y ∷ before) ys))
    by true rest = (λ x here. rises.0 x (behind_in (y ∷ before) ys x rises.1 here).0, rest)
    by false rest = rest

table_losers : Table → List Placed
table_losers table = placed_behind [] (table_placed table)

losers_is : (table : Table) → losers table ≡ map declaration (table_losers table)
unfolding table_losers
losers_is table = ap (behind []) (table_is table) ∙ behind-map [] (table_placed table)

some_of : {A : Type 0} (o : Option A) → IsSome o → (x : A) × (o ≡ Some x)
some_of None h = absurd cc
some_of (Some x) h = (x, refl)

-- the map of losers lists them
pub losers_found : (table : Table) (index : Index) (found : tree.BTreeMap Spot UnitHead) → IsTable table index → HasOnlyLosers index.declared found → HasAllLosers index.declared found → tree.IsOrdered spot_order found
    → map declaration found.entries ≡ losers table
unfolding table_losers
losers_found table index found is only all ordered =
    ap (map declaration) (same_lists spot_order spot_total found.entries (table_losers table) rises (behind_rises [] (table_placed table) (table_rises table)) to from) ∙ sym (losers_is table)
  where
    rises : Rises spot_order found.entries
    rises = rises_from_sorted spot_order found.entries ordered

    to : (x : Placed) → In x found.entries → In x (placed_behind [] (table_placed table))
    to x here =
        let loser = only x.0 x.1 (lookup_from_in spot_order spot_total x.0 x.1 found.entries rises here) in
        let own = declared_to table index loser.0 x.0 x.1 is loser.1 in
        let other = declared_to table index loser.0 loser.2.0 loser.2.1 is loser.2.2 in
        in_behind [] (table_placed table) x (table_rises table) own.0 ((loser.2.0, loser.2.1), inr (other.0, loser.2.3), sym own.1 ∙ other.1)

    from : (x : Placed) → In x (placed_behind [] (table_placed table)) → In x found.entries
    from x here =
        let h = behind_in [] (table_placed table) x (table_rises table) here in
        by h.0 h.1.0 h.1.2 (⊎_elim (λ none. absurd none) (λ k. k) h.1.1)
      where
        by : In x (table_placed table) → (b : Placed) → x.1.symbol ≡ b.1.symbol → In b (table_placed table) × (spot_order b.0 x.0 ≡ Less) → In x found.entries
        by here b same there =
            let own = declared_from table index x.0 x.1 is here in
            let other : head_at index.declared x.1.symbol b.0 ≡ Some b.1 = subst (λ s. head_at index.declared s b.0 ≡ Some b.1) (sym same) (declared_from table index b.0 b.1 is there.0) in
            let has = some_of (tree.get spot_order found x.0) (all x.1.symbol x.0 x.1 own (b.0, b.1, other, there.1)) in
            let loser = only x.0 has.0 has.1 in
            let again = (declared_to table index loser.0 x.0 has.0 is loser.1).0 in
            let one = lookup_from_in spot_order spot_total x.0 x.1 (table_placed table) (table_rises table) here in
            let two = lookup_from_in spot_order spot_total x.0 has.0 (table_placed table) (table_rises table) again in
            let heads : ◌≡◌ {A = Option UnitHead} (Some has.0) (Some x.1) = sym two ∙ one in
            in_from_lookup spot_order spot_same x.0 x.1 found.entries (has.1 ∙ heads)
