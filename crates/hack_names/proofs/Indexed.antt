-- The declarations in the order of their symbols and spots: those from a symbol on, its first, and those behind.
use Rattle.std.proofs.Common.{◌≡◌, ◌≢◌, ◌⊎◌, ⊎_elim, ◌&&◌, ◌||◌, ◌==◌, ◌<◌, ℕ, List, [], ◌∷◌, Option, None, Some, Bool, true, false, not, cond, refl, sym, ap, subst, ◌∙◌, inl, inr, arith}
use Rattle.std.specs.Prelude.{Result, Ok, Err, OnErr, MatchOption, IsSome, is_some, IfNone}
use Rattle.std.specs.BTreeMap as tree
use Rattle.std.specs.BTreeSet as sorted
use Rattle.std.specs.Borrow.{Bor}
use Rattle.std.specs.List.{filter, list_any}
use Rattle.std.specs.Map.{lookup}
use Rattle.std.specs.Map.Iter.{TakesFirst, deref_pair}
use Rattle.std.specs.Ordering.{nat_cmp, ordering_then, eq_by_cmp, is_eq, is_gt, is_le, MatchOrdering}
use Rattle.std.specs.declared.cmp.Ordering.{Ordering}
use Rattle.std.specs.declared.cmp.Ordering.TheVariants.{Less, Equal, Greater}
use Rattle.std.proofs.lemmas.Cmp.{ranked, tied_itself}
use Rattle.std.proofs.lemmas.Bool.{eqb-true, eq-eqb, and_parts, and_from}
use Rattle.hack_types.specs.contracts.ids.SymbolIdPartialEq.TheImpl as symbol_eq
use Rattle.hack_base.specs.Files.{byte_order}
use Rattle.hack_types.specs.declared.ids.Kind.{Kind}
use Rattle.hack_types.specs.declared.ids.Kind.TheVariants.{Class, Func, Const}
use Rattle.hack_types.specs.declared.ids.SymbolId.{SymbolId}
use Rattle.hack_names.specs.declared.unit.UnitHead.{UnitHead}
use Rattle.hack_names.specs.declared.keys.Spot.{Spot}
use Rattle.hack_names.specs.declared.keys.Declared.{Declared}
use Rattle.hack_names.specs.Declarations.{same_kind, same_symbol}
use Rattle.hack_names.specs.Inside.{symbol_order, spot_order, declared_order, head_at, IsBehind, HasNoTwo, AreNoted, HasNone, IsFirst, IsSet, from_symbol, HasOnlyLosers, HasLosersOf, HasAllLosers, KeepsSpots, KeepsNoted, IsNoted, IsSame}
use Rattle.hack_names.proofs.Orders.{symbol_total, spot_total, declared_total, symbol_same, spot_same, declared_same}
use Rattle.hack_names.proofs.Rising.{In, Rises, never_self, never_both, above, in_filter, in_filter-from, rises_filter, rises_from_sorted, in_from_lookup, lookup_from_in}

abbrev pub Entry : Type 0
Entry = Declared × UnitHead

abbrev pub Declarations : Type 0
Declarations = tree.BTreeMap Declared UnitHead

-- ---- orders of keys

-- keys of one symbol are in the order of their spots
pub by_spot : (a b : Declared) → a.symbol ≡ b.symbol → declared_order a b ≡ spot_order a.spot b.spot
by_spot a b same =
    let tie : symbol_order a.symbol b.symbol ≡ Equal = subst (λ s. symbol_order a.symbol s ≡ Equal) same (tied_itself symbol_total a.symbol) in
    ap (λ r. ordering_then r (spot_order a.spot b.spot)) tie

-- a key of a later symbol is later
pub by_symbol : (a b : Declared) → symbol_order a.symbol b.symbol ≡ Greater → declared_order a b ≡ Less → ⊥
by_symbol a b h less =
    let clash : Greater ≡ Less = sym (ap (λ r. ordering_then r (spot_order a.spot b.spot)) h) ∙ less in
    absurd cc

not_above_zero : (n : ℕ) → is_gt (nat_cmp 0 n) ≡ false
not_above_zero n = by (nat_cmp 0 n) (ranked 0 n (nat_cmp 0 n) refl)
  where
    by : (r : Ordering) → MatchOrdering r (0 < n) (0 ≡ n) (n < 0) → is_gt r ≡ false
    by Less h = refl
    by Equal h = refl
    by Greater h = absurd (omega arith)

not_above_then : (p q : Ordering) → is_gt p ≡ false → is_gt q ≡ false → is_gt (ordering_then p q) ≡ false
not_above_then Less q h k = refl
not_above_then Equal q h k = k
not_above_then Greater q h k = absurd cc

not_above_nothing : (file : List ℕ) → is_gt (byte_order [] file) ≡ false
not_above_nothing [] = refl
not_above_nothing (b ∷ bs) = refl

-- the spot before all others
abbrev pub least_spot : List ℕ → Spot
least_spot file = record { file = file; at = record { line = 0; column = 0 }; position = 0 }

least_is_least : (spot : Spot) → is_gt (spot_order (least_spot []) spot) ≡ false
least_is_least spot =
    not_above_then _ _ (not_above_nothing spot.file)
    (not_above_then _ _ (not_above_then _ _ (not_above_zero spot.at.line) (not_above_zero spot.at.column)) (not_above_zero spot.position))

le_from_then : (p q : Ordering) → is_gt q ≡ false → (is_le (ordering_then p q) && not false) ≡ is_le p
le_from_then Less q h = refl
le_from_then Equal Less h = refl
le_from_then Equal Equal h = refl
le_from_then Equal Greater h = absurd cc
le_from_then Greater q h = refl

-- what comes from the least key of a symbol on is of this symbol or of a later one
pub from_least : (symbol : SymbolId) (file : List ℕ) (entries : List Entry) → file ≡ []
    → filter (λ e. is_le (declared_order (record { symbol = symbol; spot = least_spot file }) e.0) && not false) entries ≡ from_symbol symbol entries
from_least symbol file entries none =
    let passes : ◌≡◌ {A = Entry → Bool} (λ e. is_le (declared_order (record { symbol = symbol; spot = least_spot [] }) e.0) && not false) (λ e. is_le (symbol_order symbol e.0.symbol)) =
    λ i e. le_from_then (symbol_order symbol e.0.symbol) (spot_order (least_spot []) e.0.spot) (least_is_least e.0.spot) i in
    subst (λ f. filter (λ e. is_le (declared_order (record { symbol = symbol; spot = least_spot f }) e.0) && not false) entries ≡ from_symbol symbol entries) (sym none)
    (ap (λ (p : Entry → Bool). filter p entries) passes)

-- ---- the same symbol

same_kind-true : (k l : Kind) → same_kind k l ≡ true → k ≡ l
same_kind-true Class Class e = refl
same_kind-true Func Func e = refl
same_kind-true Const Const e = refl
same_kind-true Class Func e = absurd cc
same_kind-true Class Const e = absurd cc
same_kind-true Func Class e = absurd cc
same_kind-true Func Const e = absurd cc
same_kind-true Const Class e = absurd cc
same_kind-true Const Func e = absurd cc

same_kind-refl : (k : Kind) → same_kind k k ≡ true
same_kind-refl Class = refl
same_kind-refl Func = refl
same_kind-refl Const = refl

pub same_symbol-true : (a b : SymbolId) → same_symbol a b ≡ true → a ≡ b
same_symbol-true a b e =
    let parts = and_parts (same_kind a.kind b.kind) (a.name == b.name) e in
    let kind = same_kind-true a.kind b.kind parts.0 in
    let name = eqb-true a.name b.name parts.1 in
    λ i. record { kind = kind i; name = name i }

pub same_symbol-refl : (a : SymbolId) → same_symbol a a ≡ true
same_symbol-refl a = and_from _ _ (same_kind-refl a.kind) (eq-eqb a.name a.name refl)

pub same_symbol-false : (a b : SymbolId) → same_symbol a b ≡ false → a ≢ b
same_symbol-false a b e same =
    let clash : true ≡ false = sym (same_symbol-refl a) ∙ ap (same_symbol a) same ∙ e in
    absurd cc

derived_kind : (k l : Kind) (m n : ℕ) → symbol_eq.ghosts.eq (record { kind = k; name = m }) (record { kind = l; name = n }) ≡ same_symbol (record { kind = k; name = m }) (record { kind = l; name = n })
derived_kind Class Class m n = refl
derived_kind Func Func m n = refl
derived_kind Const Const m n = refl
derived_kind Class Func m n = refl
derived_kind Class Const m n = refl
derived_kind Func Class m n = refl
derived_kind Func Const m n = refl
derived_kind Const Class m n = refl
derived_kind Const Func m n = refl

-- `==` of two symbols
pub derived : (a b : SymbolId) → symbol_eq.ghosts.eq a b ≡ same_symbol a b
derived a b = derived_kind a.kind b.kind a.name b.name

pub eq_true : (a b : SymbolId) (r : Bool) → r ≡ symbol_eq.ghosts.eq a b → r ≡ true → a ≡ b
eq_true a b r e h = same_symbol-true a b (sym (derived a b) ∙ sym e ∙ h)

pub eq_false : (a b : SymbolId) (r : Bool) → r ≡ symbol_eq.ghosts.eq a b → r ≡ false → a ≢ b
eq_false a b r e h = same_symbol-false a b (sym (derived a b) ∙ sym e ∙ h)

-- ---- look-ups

pub in_from_head : (declared : Declarations) (symbol : SymbolId) (spot : Spot) (head : UnitHead) → head_at declared symbol spot ≡ Some head → In (record { symbol = symbol; spot = spot }, head) declared.entries
in_from_head declared symbol spot head e = in_from_lookup declared_order declared_same (record { symbol = symbol; spot = spot }) head declared.entries e

pub head_from_in : (declared : Declarations) (key : Declared) (head : UnitHead) → tree.IsOrdered declared_order declared → In (key, head) declared.entries → tree.get declared_order declared key ≡ Some head
head_from_in declared key head ordered here = lookup_from_in declared_order declared_total key head declared.entries (rises_from_sorted declared_order declared.entries ordered) here

-- ---- the entries from a symbol on

-- a part of these, to the end: in order, and behind it nothing of the symbol is left out
pub record From (declared : Declarations) (symbol : SymbolId) (rest : List Entry) : Type 0 where
  pub rises : Rises declared_order rest
  pub inside : (e : Entry) → In e rest → In e declared.entries
  pub at_or_after : (e : Entry) → In e rest → is_le (symbol_order symbol e.0.symbol) ≡ true

pub from_all : (declared : Declarations) (symbol : SymbolId) (rest : List Entry) → tree.IsOrdered declared_order declared → rest ≡ from_symbol symbol declared.entries → From declared symbol rest
from_all declared symbol rest ordered e =
    subst (From declared symbol) (sym e)
    (record {
      rises = rises_filter declared_order _ declared.entries (rises_from_sorted declared_order declared.entries ordered);
      inside = λ x here. (in_filter _ declared.entries x here).0;
      at_or_after = λ x here. (in_filter _ declared.entries x here).1;
    })

pub from_rest : (declared : Declarations) (symbol : SymbolId) (x : Entry) (rest : List Entry) → From declared symbol (x ∷ rest) → From declared symbol rest
from_rest declared symbol x rest from = record {
  rises = from.rises.1;
  inside = λ e here. from.inside e (inr here);
  at_or_after = λ e here. from.at_or_after e (inr here);
}

-- all declarations of the symbol are in the whole
pub in_all : (declared : Declarations) (symbol : SymbolId) (rest : List Entry) → rest ≡ from_symbol symbol declared.entries → (spot : Spot) (head : UnitHead) → head_at declared symbol spot ≡ Some head
    → In (record { symbol = symbol; spot = spot }, head) rest
in_all declared symbol rest e spot head h =
    subst (λ r. In (record { symbol = symbol; spot = spot }, head) r) (sym e)
    (in_filter-from _ declared.entries _ (in_from_head declared symbol spot head h) (ap is_le (tied_itself symbol_total symbol)))

-- where the first is of another symbol, all are
pub none_after : (declared : Declarations) (symbol : SymbolId) (x : Entry) (rest : List Entry) → From declared symbol (x ∷ rest) → x.0.symbol ≢ symbol → (e : Entry) → In e (x ∷ rest) → e.0.symbol ≡ symbol → ⊥
none_after declared symbol x rest from other e here is = by (symbol_order symbol x.0.symbol) refl (from.at_or_after x (inl refl)) here
  where
    by : (r : Ordering) → symbol_order symbol x.0.symbol ≡ r → is_le r ≡ true → In e (x ∷ rest) → ⊥
    by Less p le (inl same) = other (sym (ap (λ (y : Entry). y.0.symbol) same) ∙ is)
    by Less p le (inr later) =
        let greater : symbol_order x.0.symbol e.0.symbol ≡ Greater = subst (λ s. symbol_order x.0.symbol s ≡ Greater) (sym is) (above symbol_total symbol x.0.symbol p) in
        by_symbol x.0 e.0 greater (from.rises.0 e later)
    by Equal p le here = other (sym (symbol_same symbol x.0.symbol p))
    by Greater p le here = absurd cc

-- where a later one is of the symbol, the first is too
pub first_too : (declared : Declarations) (symbol : SymbolId) (x : Entry) (rest : List Entry) → From declared symbol (x ∷ rest) → (e : Entry) → In e rest → e.0.symbol ≡ symbol → x.0.symbol ≡ symbol
first_too declared symbol x rest from e later is = by (same_symbol x.0.symbol symbol) refl
  where
    by : (b : Bool) → same_symbol x.0.symbol symbol ≡ b → x.0.symbol ≡ symbol
    by true h = same_symbol-true x.0.symbol symbol h
    by false h = absurd (none_after declared symbol x rest from (same_symbol-false x.0.symbol symbol h) e (inr later) is)

-- ---- the first

pub is_first : (declared : Declarations) (symbol : SymbolId) (all rest : List Entry) (key : Declared) (head : UnitHead) → tree.IsOrdered declared_order declared → all ≡ from_symbol symbol declared.entries
    → all ≡ (key, head) ∷ rest → key.symbol ≡ symbol → IsFirst declared symbol key head
is_first declared symbol all rest key head ordered is starts same = record {
  symbol_is = same;
  there = head_from_in declared key head ordered (from.inside (key, head) (inl refl));
  least = λ spot other h. by spot other (subst (λ r. In (record { symbol = symbol; spot = spot }, other) r) starts (in_all declared symbol all is spot other h));
}
  where
    from : From declared symbol ((key, head) ∷ rest)
    from = subst (From declared symbol) starts (from_all declared symbol all ordered is)

    by : (spot : Spot) (other : UnitHead) → In (record { symbol = symbol; spot = spot }, other) ((key, head) ∷ rest) → is_gt (spot_order key.spot spot) ≡ false
    by spot other (inl e) =
        let spots : spot ≡ key.spot = ap (λ (x : Entry). x.0.spot) e in
        ap is_gt (subst (λ s. spot_order key.spot s ≡ Equal) (sym spots) (tied_itself spot_total key.spot))
    by spot other (inr later) = ap is_gt (sym (by_spot key (record { symbol = symbol; spot = spot }) same) ∙ from.rises.0 _ later)

pub none_of_none : (declared : Declarations) (symbol : SymbolId) (all : List Entry) → all ≡ from_symbol symbol declared.entries → ((e : Entry) → In e all → e.0.symbol ≡ symbol → ⊥) → HasNone declared symbol
none_of_none declared symbol all is none spot = by (head_at declared symbol spot) refl
  where
    by : (o : Option UnitHead) → head_at declared symbol spot ≡ o → head_at declared symbol spot ≡ None
    by None e = e
    by (Some head) e = absurd (none _ (in_all declared symbol all is spot head e) refl)

-- ---- two declarations

-- some items came first from the whole, and the rest is left
pub stepped : (all rest : List Entry) (o : Option (Bor Declared × Bor UnitHead)) → TakesFirst deref_pair all o rest → ((all ≡ []) × (rest ≡ [])) ⊎ ((e : Entry) × (all ≡ e ∷ rest))
stepped all rest None h = inl h
stepped all rest (Some x) h = inr (deref_pair x, h)

pub no_two : (declared : Declarations) (symbol : SymbolId) (all : List Entry) (x : Entry) (rest : List Entry) → all ≡ from_symbol symbol declared.entries → all ≡ x ∷ rest
    → ((e : Entry) → In e rest → e.0.symbol ≡ symbol → ⊥) → HasNoTwo declared symbol
no_two declared symbol all x rest is starts none spot head h behind =
    never_self spot_total spot
    (subst (λ s. spot_order s spot ≡ Less) (at (behind.0) (behind.1) (there behind.0 behind.1 behind.2) ∙ sym (at spot head (there spot head h))) behind.3)
  where
    there : (s : Spot) (g : UnitHead) → head_at declared symbol s ≡ Some g → In (record { symbol = symbol; spot = s }, g) (x ∷ rest)
    there s g e = subst (λ r. In (record { symbol = symbol; spot = s }, g) r) starts (in_all declared symbol all is s g e)

    at : (s : Spot) (g : UnitHead) → In (record { symbol = symbol; spot = s }, g) (x ∷ rest) → s ≡ x.0.spot
    at s g (inl e) = ap (λ (y : Entry). y.0.spot) e
    at s g (inr later) = absurd (none _ later refl)

pub no_two_of_none : (declared : Declarations) (symbol : SymbolId) (all : List Entry) → all ≡ from_symbol symbol declared.entries → all ≡ [] → HasNoTwo declared symbol
no_two_of_none declared symbol all is none spot head h behind =
    subst (λ r. In (record { symbol = symbol; spot = spot }, head) r) none (in_all declared symbol all is spot head h)

-- after two items were taken, of which the second is of another symbol or isn't there
pub no_two_after : (declared : Declarations) (symbol : SymbolId) (all one two : List Entry) (o p : Option (Bor Declared × Bor UnitHead)) → tree.IsOrdered declared_order declared → all ≡ from_symbol symbol declared.entries
    → TakesFirst deref_pair all o one → TakesFirst deref_pair one p two → MatchOption p (Unit {0}) (λ x. x.0.now.symbol ≢ symbol) → HasNoTwo declared symbol
no_two_after declared symbol all one two o p ordered is first second other =
    ⊎_elim (λ none. no_two_of_none declared symbol all is none.0)
    (λ some. no_two declared symbol all some.0 one is some.1 (by p second other (from_rest declared symbol some.0 one (subst (From declared symbol) some.1 (from_all declared symbol all ordered is)))))
    (stepped all one o first)
  where
    by : (p : Option (Bor Declared × Bor UnitHead)) → TakesFirst deref_pair one p two → MatchOption p (Unit {0}) (λ x. x.0.now.symbol ≢ symbol) → From declared symbol one → (e : Entry) → In e one → e.0.symbol ≡ symbol → ⊥
    by None h other from e here is = subst (λ r. In e r) h.0 here
    by (Some x) h other from e here is = none_after declared symbol (deref_pair x) two (subst (From declared symbol) h from) other e (subst (λ r. In e r) h here) is

-- ---- changes

-- a look-up after a change at a key: the key's own value, or what it was
abbrev pub Cases : Declarations → Declarations → Declared → Option UnitHead → Declared → Type 0
Cases old new key value other =
    ((key ≡ other) × (tree.get declared_order new other ≡ value)) ⊎ ((key ≢ other) × (tree.get declared_order new other ≡ tree.get declared_order old other))

pub set_cases : (old new : Declarations) (key : Declared) (value : Option UnitHead) → IsSet old key value new → (other : Declared) → Cases old new key value other
set_cases old new key value set other = by (declared_order key other) refl (set other)
  where
    apart : (r : Ordering) → declared_order key other ≡ r → is_eq r ≡ false → key ≢ other
    apart r e not same =
        let clash : true ≡ false = sym (ap is_eq (subst (λ k. declared_order key k ≡ Equal) same (tied_itself declared_total key))) ∙ ap is_eq e ∙ not in
        absurd cc

    by : (r : Ordering) → declared_order key other ≡ r → tree.get declared_order new other ≡ cond (is_eq r) value (tree.get declared_order old other) → Cases old new key value other
    by Less e h = inr (apart Less e refl, h)
    by Equal e h = inl (declared_same key other e, h)
    by Greater e h = inr (apart Greater e refl, h)

not_there : (old : Declarations) (one symbol : SymbolId) → HasNone old one → one ≡ symbol → (spot : Spot) (head : UnitHead) → head_at old symbol spot ≡ Some head → ⊥
not_there old one symbol none same spot head e =
    let clash : ◌≡◌ {A = Option UnitHead} None (Some head) = sym (subst (HasNone old) same none spot) ∙ e in
    absurd cc

-- ---- noted symbols

-- the symbols that are noted stay so, and the key's own is among them where it had a declaration
pub noted_with : (old new : Declarations) (symbols more : sorted.BTreeSet SymbolId) (key : Declared) (head : UnitHead) → AreNoted old symbols → IsSet old key (Some head) new
    → KeepsNoted symbols more
    → IsNoted old more key.symbol → AreNoted new more
noted_with old new symbols more key head noted set kept own symbol spot other there behind =
    by own (set_cases old new key (Some head) set (record { symbol = symbol; spot = spot })) (set_cases old new key (Some head) set (record { symbol = symbol; spot = behind.0 }))
  where
    by : IsNoted old more key.symbol → Cases old new key (Some head) (record { symbol = symbol; spot = spot }) → Cases old new key (Some head) (record { symbol = symbol; spot = behind.0 })
        → sorted.contains symbol_order more symbol ≡ true
    by own (inr apart) (inr too) = kept symbol (noted symbol spot other (sym apart.1 ∙ there) (behind.0, behind.1, sym too.1 ∙ behind.2, behind.3))
    by (inr has) (inl same) too = subst (λ (k : Declared). sorted.contains symbol_order more k.symbol ≡ true) same.0 has
    by (inr has) (inr apart) (inl same) = subst (λ (k : Declared). sorted.contains symbol_order more k.symbol ≡ true) same.0 has
    by (inl none) (inl same) (inl too) =
        let spots : spot ≡ behind.0 = ap (λ (k : Declared). k.spot) (sym same.0 ∙ too.0) in
        absurd (never_self spot_total spot (subst (λ s. spot_order s spot ≡ Less) (sym spots) behind.3))
    by (inl none) (inl same) (inr apart) = absurd (not_there old key.symbol symbol none (ap (λ (k : Declared). k.symbol) same.0) behind.0 behind.1 (sym apart.1 ∙ behind.2))
    by (inl none) (inr apart) (inl same) = absurd (not_there old key.symbol symbol none (ap (λ (k : Declared). k.symbol) same.0) spot other (sym apart.1 ∙ there))

-- the symbols that are noted stay so, but for those of which no declaration is left behind another
pub noted_without : (old new : Declarations) (symbols fewer : sorted.BTreeSet SymbolId) (key : Declared) → AreNoted old symbols → IsSet old key None new
    → ((s : SymbolId) → sorted.contains symbol_order symbols s ≡ true → (sorted.contains symbol_order fewer s ≡ true) ⊎ HasNoTwo new s) → AreNoted new fewer
noted_without old new symbols fewer key noted set kept symbol spot other there behind =
    ⊎_elim (λ has. has) (λ none. absurd (none spot other there behind))
    (kept symbol (noted symbol spot other (was spot other there) (behind.0, behind.1, was behind.0 behind.1 behind.2, behind.3)))
  where
    was : (s : Spot) (h : UnitHead) → head_at new symbol s ≡ Some h → head_at old symbol s ≡ Some h
    was s h e = by (set_cases old new key None set (record { symbol = symbol; spot = s }))
      where
        by : Cases old new key None (record { symbol = symbol; spot = s }) → head_at old symbol s ≡ Some h
        by (inl same) = let clash : ◌≡◌ {A = Option UnitHead} None (Some h) = sym same.1 ∙ e in absurd cc
        by (inr apart) = sym apart.1 ∙ e

-- a set after a symbol was put or taken out
pub kept_with : (old new : sorted.BTreeSet SymbolId) (symbol : SymbolId) → ((s : SymbolId) → sorted.contains symbol_order new s ≡ cond (eq_by_cmp symbol_order symbol s) true (sorted.contains symbol_order old s))
    → (s : SymbolId) → sorted.contains symbol_order old s ≡ true → sorted.contains symbol_order new s ≡ true
kept_with old new symbol set s has = set s ∙ ap (cond (eq_by_cmp symbol_order symbol s) true) has ∙ by (eq_by_cmp symbol_order symbol s)
  where
    by : (b : Bool) → cond b true true ≡ true
    by true = refl
    by false = refl

pub kept_without : (old new : sorted.BTreeSet SymbolId) (symbol : SymbolId) (declared : Declarations) → HasNoTwo declared symbol
    → ((s : SymbolId) → sorted.contains symbol_order new s ≡ cond (eq_by_cmp symbol_order symbol s) false (sorted.contains symbol_order old s))
    → (s : SymbolId) → sorted.contains symbol_order old s ≡ true → (sorted.contains symbol_order new s ≡ true) ⊎ HasNoTwo declared s
kept_without old new symbol declared none set s has = by (symbol_order symbol s) refl (set s)
  where
    by : (r : Ordering) → symbol_order symbol s ≡ r → sorted.contains symbol_order new s ≡ cond (is_eq r) false (sorted.contains symbol_order old s) → (sorted.contains symbol_order new s ≡ true) ⊎ HasNoTwo declared s
    by Less e h = inl (h ∙ has)
    by Equal e h = inr (subst (HasNoTwo declared) (symbol_same symbol s e) none)
    by Greater e h = inl (h ∙ has)

-- ---- losers of one symbol

-- of what comes behind a symbol's first declaration, this is left: what was passed is among the losers
pub record Going (declared : Declarations) (symbol : SymbolId) (losers : tree.BTreeMap Spot UnitHead) (rest : List Entry) : Type 0 where
  pub from : From declared symbol rest
  pub behind : (e : Entry) → In e rest → e.0.symbol ≡ symbol → IsBehind declared symbol e.0.spot
  pub covered : (spot : Spot) (head : UnitHead) → head_at declared symbol spot ≡ Some head → IsBehind declared symbol spot → IsSome (tree.get spot_order losers spot) ⊎ In (record { symbol = symbol; spot = spot }, head) rest

-- after the first was passed
pub going : (declared : Declarations) (symbol : SymbolId) (losers : tree.BTreeMap Spot UnitHead) (all rest : List Entry) (o : Option (Bor Declared × Bor UnitHead)) → tree.IsOrdered declared_order declared
    → all ≡ from_symbol symbol declared.entries → TakesFirst deref_pair all o rest → Going declared symbol losers rest
going declared symbol losers all rest o ordered is first = ⊎_elim none some (stepped all rest o first)
  where
    whole : From declared symbol all
    whole = from_all declared symbol all ordered is

    none : (all ≡ []) × (rest ≡ []) → Going declared symbol losers rest
    none h = record {
      from = subst (From declared symbol) (h.0 ∙ sym h.1) whole;
      behind = λ e here same. absurd (subst (λ r. In e r) h.1 here);
      covered = λ spot head there behind. absurd (no_two_of_none declared symbol all is h.0 spot head there behind);
    }

    at_first : (x : Entry) → x.0.symbol ≡ symbol → tree.get declared_order declared x.0 ≡ Some x.1 → head_at declared symbol x.0.spot ≡ Some x.1
    at_first x same e = subst (λ s. tree.get declared_order declared (record { symbol = s; spot = x.0.spot }) ≡ Some x.1) same e

    later : (x : Entry) → From declared symbol (x ∷ rest) → (spot : Spot) (head : UnitHead) (behind : IsBehind declared symbol spot) → In (record { symbol = symbol; spot = spot }, head) (x ∷ rest)
        → In (record { symbol = symbol; spot = behind.0 }, behind.1) (x ∷ rest) → In (record { symbol = symbol; spot = spot }, head) rest
    later x begun spot head behind (inr here) before = here
    later x begun spot head behind (inl same) (inl too) =
        let spots : behind.0 ≡ spot = ap (λ (y : Entry). y.0.spot) (too ∙ sym same) in
        absurd (never_self spot_total spot (subst (λ s. spot_order s spot ≡ Less) spots behind.3))
    later x begun spot head behind (inl same) (inr before) =
        let one : Declared = record { symbol = symbol; spot = spot } in
        let two : Declared = record { symbol = symbol; spot = behind.0 } in
        let up : declared_order one two ≡ Less = subst (λ (y : Entry). declared_order y.0 two ≡ Less) (sym same) (begun.rises.0 (two, behind.1) before) in
        absurd (never_both spot_total spot behind.0 (sym (by_spot one two refl) ∙ up) behind.3)

    some : ((e : Entry) × (all ≡ e ∷ rest)) → Going declared symbol losers rest
    some h =
        let x = h.0 in
        let begun : From declared symbol (x ∷ rest) = subst (From declared symbol) h.1 whole in
        record {
          from = from_rest declared symbol x rest begun;
          behind = λ e here same.
              let first = first_too declared symbol x rest begun e here same in
              (x.0.spot, x.1, at_first x first (head_from_in declared x.0 x.1 ordered (begun.inside x (inl refl))), sym (by_spot x.0 e.0 (first ∙ sym same)) ∙ begun.rises.0 e here);
          covered = λ spot head there behind. inr (later x begun spot head behind (within spot head there) (within behind.0 behind.1 behind.2));
        }
      where
        within : (s : Spot) (g : UnitHead) → head_at declared symbol s ≡ Some g → In (record { symbol = symbol; spot = s }, g) (h.0 ∷ rest)
        within s g e = subst (λ r. In (record { symbol = symbol; spot = s }, g) r) h.1 (in_all declared symbol all is s g e)

-- the losers after one more was put
abbrev pub IsPut : tree.BTreeMap Spot UnitHead → Spot → UnitHead → tree.BTreeMap Spot UnitHead → Type 0
IsPut old spot head new = (other : Spot) → tree.get spot_order new other ≡ cond (eq_by_cmp spot_order spot other) (Some head) (tree.get spot_order old other)

put_cases : (old new : tree.BTreeMap Spot UnitHead) (spot : Spot) (head : UnitHead) → IsPut old spot head new → (other : Spot)
    → ((spot ≡ other) × (tree.get spot_order new other ≡ Some head)) ⊎ (tree.get spot_order new other ≡ tree.get spot_order old other)
put_cases old new spot head put other = by (spot_order spot other) refl (put other)
  where
    by : (r : Ordering) → spot_order spot other ≡ r → tree.get spot_order new other ≡ cond (is_eq r) (Some head) (tree.get spot_order old other)
        → ((spot ≡ other) × (tree.get spot_order new other ≡ Some head)) ⊎ (tree.get spot_order new other ≡ tree.get spot_order old other)
    by Less e h = inr h
    by Equal e h = inl (spot_same spot other e, h)
    by Greater e h = inr h

pub spots_put : (old new : tree.BTreeMap Spot UnitHead) (spot : Spot) (head : UnitHead) → IsPut old spot head new → KeepsSpots old new
spots_put old new spot head put other has =
    ⊎_elim (λ same. ap is_some same.1) (λ apart. ap is_some apart ∙ has) (put_cases old new spot head put other)

pub going_on : (declared : Declarations) (symbol : SymbolId) (losers new : tree.BTreeMap Spot UnitHead) (e : Entry) (rest : List Entry) → IsPut losers e.0.spot e.1 new → Going declared symbol losers (e ∷ rest)
    → Going declared symbol new rest
going_on declared symbol losers new e rest put going = record {
  from = from_rest declared symbol e rest going.from;
  behind = λ x here. going.behind x (inr here);
  covered = λ spot head there behind. by spot head (going.covered spot head there behind);
}
  where
    by : (spot : Spot) (head : UnitHead) → IsSome (tree.get spot_order losers spot) ⊎ In (record { symbol = symbol; spot = spot }, head) (e ∷ rest) → IsSome (tree.get spot_order new spot) ⊎ In (record { symbol = symbol; spot = spot }, head) rest
    by spot head (inl has) = inl (spots_put losers new e.0.spot e.1 put spot has)
    by spot head (inr (inl same)) =
        let spots : spot ≡ e.0.spot = ap (λ (y : Entry). y.0.spot) same in
        inl (ap is_some (put spot ∙ ap (λ r. cond (is_eq r) (Some e.1) (tree.get spot_order losers spot)) (subst (λ s. spot_order s spot ≡ Equal) spots (tied_itself spot_total spot))))
    by spot head (inr (inr later)) = inr later

pub only_on : (declared : Declarations) (symbol : SymbolId) (losers new : tree.BTreeMap Spot UnitHead) (e : Entry) (rest : List Entry) → tree.IsOrdered declared_order declared → e.0.symbol ≡ symbol
    → IsPut losers e.0.spot e.1 new → Going declared symbol losers (e ∷ rest) → HasOnlyLosers declared losers → HasOnlyLosers declared new
only_on declared symbol losers new e rest ordered is put going only spot head h = by (put_cases losers new e.0.spot e.1 put spot)
  where
    own : head_at declared symbol e.0.spot ≡ Some e.1
    own = subst (λ s. tree.get declared_order declared (record { symbol = s; spot = e.0.spot }) ≡ Some e.1) is (head_from_in declared e.0 e.1 ordered (going.from.inside e (inl refl)))

    by : ((e.0.spot ≡ spot) × (tree.get spot_order new spot ≡ Some e.1)) ⊎ (tree.get spot_order new spot ≡ tree.get spot_order losers spot) → (s : SymbolId) × (head_at declared s spot ≡ Some head) × IsBehind declared s spot
    by (inl same) =
        let heads : e.1 ≡ head = cc in
        (symbol, subst (λ s. head_at declared symbol s ≡ Some head) same.0 (own ∙ ap Some heads), subst (IsBehind declared symbol) same.0 (going.behind e (inl refl) is))
    by (inr apart) = only spot head (sym apart ∙ h)

pub losers_at_end : (declared : Declarations) (symbol : SymbolId) (losers : tree.BTreeMap Spot UnitHead) (rest : List Entry) → rest ≡ [] → Going declared symbol losers rest → HasLosersOf declared symbol losers
losers_at_end declared symbol losers rest none going spot head there behind =
    ⊎_elim (λ has. has) (λ here. absurd (subst (λ r. In (record { symbol = symbol; spot = spot }, head) r) none here)) (going.covered spot head there behind)

pub losers_at_other : (declared : Declarations) (symbol : SymbolId) (losers : tree.BTreeMap Spot UnitHead) (e : Entry) (rest : List Entry) → e.0.symbol ≢ symbol → Going declared symbol losers (e ∷ rest) → HasLosersOf declared symbol losers
losers_at_other declared symbol losers e rest other going spot head there behind =
    ⊎_elim (λ has. has) (λ here. absurd (none_after declared symbol e rest going.from other _ here refl)) (going.covered spot head there behind)

-- ---- losers of all symbols

-- a symbol whose losers are not all there yet is still to come
abbrev pub ToCome : Declarations → sorted.BTreeSet SymbolId → tree.BTreeMap Spot UnitHead → List SymbolId → Type 0
ToCome declared symbols losers rest = (symbol : SymbolId) → sorted.contains symbol_order symbols symbol ≡ true → HasLosersOf declared symbol losers ⊎ In symbol rest

in_from_any : (symbol : SymbolId) (keys : List SymbolId) → list_any (tree.is_at (symbol_order symbol)) keys ≡ true → In symbol keys
in_from_any symbol [] e = absurd cc
in_from_any symbol (k ∷ ks) e = by (in_from_any symbol ks) (symbol_order symbol k) refl e
  where
    by : (list_any (tree.is_at (symbol_order symbol)) ks ≡ true → In symbol ks) → (r : Ordering) → symbol_order symbol k ≡ r → (is_eq r || list_any (tree.is_at (symbol_order symbol)) ks) ≡ true → In symbol (k ∷ ks)
    by rest Less p e = inr (rest e)
    by rest Equal p e = inl (symbol_same symbol k p)
    by rest Greater p e = inr (rest e)

pub all_to_come : (declared : Declarations) (symbols : sorted.BTreeSet SymbolId) (losers : tree.BTreeMap Spot UnitHead) (rest : List SymbolId) → rest ≡ symbols.keys → ToCome declared symbols losers rest
all_to_come declared symbols losers rest is symbol has = inr (subst (λ r. In symbol r) (sym is) (in_from_any symbol symbols.keys has))

pub come_on : (declared : Declarations) (symbols : sorted.BTreeSet SymbolId) (losers new : tree.BTreeMap Spot UnitHead) (x : SymbolId) (rest : List SymbolId) → KeepsSpots losers new → HasLosersOf declared x new
    → ToCome declared symbols losers (x ∷ rest) → ToCome declared symbols new rest
come_on declared symbols losers new x rest kept own come symbol has = by (come symbol has)
  where
    by : HasLosersOf declared symbol losers ⊎ In symbol (x ∷ rest) → HasLosersOf declared symbol new ⊎ In symbol rest
    by (inl all) = inl (λ spot head there behind. kept spot (all spot head there behind))
    by (inr (inl same)) = inl (subst (λ s. HasLosersOf declared s new) (sym same) own)
    by (inr (inr later)) = inr later

pub all_came : (declared : Declarations) (symbols : sorted.BTreeSet SymbolId) (losers : tree.BTreeMap Spot UnitHead) (rest : List SymbolId) → rest ≡ [] → AreNoted declared symbols → ToCome declared symbols losers rest → HasAllLosers declared losers
all_came declared symbols losers rest none noted come symbol spot head there behind =
    ⊎_elim (λ all. all spot head there behind) (λ here. absurd (subst (λ r. In symbol r) none here)) (come symbol (noted symbol spot head there behind))

-- ---- nothing of a symbol

pub none_of_other : (declared : Declarations) (symbol : SymbolId) (all rest : List Entry) (x : Entry) → tree.IsOrdered declared_order declared → all ≡ from_symbol symbol declared.entries → all ≡ x ∷ rest
    → x.0.symbol ≢ symbol → HasNone declared symbol
none_of_other declared symbol all rest x ordered is starts other =
    none_of_none declared symbol all is (λ e here same. none_after declared symbol x rest (subst (From declared symbol) starts (from_all declared symbol all ordered is)) other e (subst (λ r. In e r) starts here) same)

pub none_of_end : (declared : Declarations) (symbol : SymbolId) (all : List Entry) → all ≡ from_symbol symbol declared.entries → all ≡ [] → HasNone declared symbol
none_of_end declared symbol all is none = none_of_none declared symbol all is (λ e here same. subst (λ r. In e r) none here)

-- ---- changes, as the calls tell them

pub noted_same : (old new : Declarations) (symbols more : sorted.BTreeSet SymbolId) → AreNoted old symbols → new.entries ≡ old.entries → KeepsNoted symbols more → AreNoted new more
noted_same old new symbols more noted same kept symbol spot head there behind =
    kept symbol (noted symbol spot head (sym (heads spot) ∙ there) (behind.0, behind.1, sym (heads behind.0) ∙ behind.2, behind.3))
  where
    heads : (s : Spot) → head_at new symbol s ≡ head_at old symbol s
    heads s = ap (lookup (tree.is_at (declared_order (record { symbol = symbol; spot = s })))) same

pub set_from : (old mid new : Declarations) (key : Declared) (value : Option UnitHead) → mid.entries ≡ old.entries → IsSet mid key value new → IsSet old key value new
set_from old mid new key value same set other =
    set other ∙ ap (λ es. cond (eq_by_cmp declared_order key other) value (lookup (tree.is_at (declared_order other)) es)) same

pub none_from : {A : Type 0} (o : Option A) (P : Type 0) → IfNone o P → is_some o ≡ false → P
none_from None P h e = h
none_from (Some x) P h e = absurd cc

pub same_from : (old mid new : Declarations) → mid.entries ≡ old.entries → new.entries ≡ mid.entries → IsSame old new
same_from old mid new same after key = ap (lookup (tree.is_at (declared_order key))) (after ∙ same)

pub on_err : {A E : Type 0} (r : Result A E) (P : Type 0) → P → OnErr r P
on_err (Ok x) P h = tt
on_err (Err e) P h = h

pub ne_true : (a b : SymbolId) (r : Bool) → r ≡ not (symbol_eq.ghosts.eq a b) → r ≡ true → a ≢ b
ne_true a b r e h = by (symbol_eq.ghosts.eq a b) refl (sym e ∙ h)
  where
    by : (s : Bool) → s ≡ symbol_eq.ghosts.eq a b → not s ≡ true → a ≢ b
    by true p q = absurd cc
    by false p q = eq_false a b false p refl

pub ne_false : (a b : SymbolId) (r : Bool) → r ≡ not (symbol_eq.ghosts.eq a b) → r ≡ false → a ≡ b
ne_false a b r e h = by (symbol_eq.ghosts.eq a b) refl (sym e ∙ h)
  where
    by : (s : Bool) → s ≡ symbol_eq.ghosts.eq a b → not s ≡ false → a ≡ b
    by true p q = eq_true a b true p refl
    by false p q = absurd cc

pub only_of_none : (declared : Declarations) (losers : tree.BTreeMap Spot UnitHead) → losers.entries ≡ [] → HasOnlyLosers declared losers
only_of_none declared losers none spot head h =
    let clash : ◌≡◌ {A = Option UnitHead} None (Some head) = sym (ap (lookup (tree.is_at (spot_order spot))) none) ∙ h in
    absurd cc
