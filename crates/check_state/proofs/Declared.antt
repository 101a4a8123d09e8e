-- The declarations of a table whose files have their heads in order: which of them counts, and which lose.
use Rattle.std.proofs.Common.{◌≡◌, ◌⊎◌, ◌||◌, ⊎_elim, ℕ, List, [], ◌∷◌, Option, None, Some, Bool, true, false, cond, refl, sym, ap, subst, ◌∙◌, inl, inr, arith}
use Rattle.std.specs.List.{find, list_any}
use Rattle.std.specs.declared.cmp.Ordering.TheVariants.{Less}
use Rattle.std.proofs.lemmas.Cmp.{nat_list_cmp_total}
use Rattle.hack_base.specs.Files.{byte_order}
use Rattle.hack_types.specs.declared.ids.SymbolId.{SymbolId}
use Rattle.hack_names.specs.Declarations.{Declaration, same_symbol, declares, behind}
use Rattle.hack_names.proofs.Indexed.{same_symbol-true, same_symbol-refl}
use Rattle.hack_names.proofs.Rising.{In, never_self, never_both}
use Rattle.check_state.specs.Findings.{IsBefore}

-- ---- what comes before what

-- a declaration comes before another one: by file, then by index
abbrev pub Earlier : Declaration → Declaration → Type 0
Earlier d e = IsBefore d.file d.head.index e.file e.head.index

pub never_before : (file other : List ℕ) (i j : ℕ) → IsBefore file i other j → IsBefore other j file i → ⊥
never_before file other i j (inl less) (inl more) = never_both nat_list_cmp_total file other less more
never_before file other i j (inl less) (inr same) = never_self nat_list_cmp_total file (subst (λ f. byte_order file f ≡ Less) same.0 less)
never_before file other i j (inr same) (inl more) = never_self nat_list_cmp_total other (subst (λ f. byte_order other f ≡ Less) same.0 more)
never_before file other i j (inr same) (inr back) = absurd (omega (arith, same.1, back.1))

-- each of these comes before all that stand behind it
abbrev pub Ascends : List Declaration → Type 0
Ascends [] = Unit {0}
Ascends (d ∷ ds) = ((e : Declaration) → In e ds → Earlier d e) × Ascends ds

-- ---- the one that counts

-- of these the one that counts for the symbol: none of the symbol comes before it
pub record Counts (ds : List Declaration) (symbol : SymbolId) (d : Declaration) : Type 0 where
  pub there : In d ds
  pub of : symbol ≡ d.head.symbol
  pub first : (e : Declaration) → In e ds → symbol ≡ e.head.symbol → Earlier e d → ⊥

pub found_counts : (symbol : SymbolId) (ds : List Declaration) (d : Declaration) → Ascends ds → find (declares symbol) ds ≡ Some d → Counts ds symbol d
found_counts symbol [] d ascends e = absurd cc
found_counts symbol (x ∷ xs) d ascends e = by (declares symbol x) refl e (λ later. found_counts symbol xs d ascends.1 later)
  where
    by : (b : Bool) → declares symbol x ≡ b → cond b (Some x) (find (declares symbol) xs) ≡ Some d → (find (declares symbol) xs ≡ Some d → Counts xs symbol d) → Counts (x ∷ xs) symbol d
    by true own e later =
        let same : x ≡ d = cc in
        subst (Counts (x ∷ xs) symbol) same (record {
          there = inl refl;
          of = same_symbol-true symbol x.head.symbol own;
          first = λ y here is before. first y here before;
        })
      where
        first : (y : Declaration) → In y (x ∷ xs) → Earlier y x → ⊥
        first y (inl same) before = never_before y.file x.file y.head.index x.head.index before (subst (λ z. Earlier x z) (sym same) (subst (λ z. Earlier z x) same before))
        first y (inr here) before = never_before y.file x.file y.head.index x.head.index before (ascends.0 y here)
    by false own e later =
        let rest = later e in
        record {
          there = inr rest.there;
          of = rest.of;
          first = λ y here is before. first y here is before rest;
        }
      where
        first : (y : Declaration) → In y (x ∷ xs) → symbol ≡ y.head.symbol → Earlier y d → Counts xs symbol d → ⊥
        first y (inl same) is before rest =
            let clash : true ≡ false = sym (same_symbol-refl symbol) ∙ ap (same_symbol symbol) (is ∙ ap (λ (z : Declaration). z.head.symbol) same) ∙ own in
            absurd cc
        first y (inr here) is before rest = rest.first y here is before

pub nothing_found : (symbol : SymbolId) (ds : List Declaration) → find (declares symbol) ds ≡ None → (d : Declaration) → In d ds → symbol ≡ d.head.symbol → ⊥
nothing_found symbol [] e d here is = absurd here
nothing_found symbol (x ∷ xs) e d here is = by (declares symbol x) refl e here (λ none later. nothing_found symbol xs none d later is)
  where
    by : (b : Bool) → declares symbol x ≡ b → cond b (Some x) (find (declares symbol) xs) ≡ None → In d (x ∷ xs) → (find (declares symbol) xs ≡ None → In d xs → ⊥) → ⊥
    by true own e here rest = absurd cc
    by false own e (inl same) rest =
        let clash : true ≡ false = sym (same_symbol-refl symbol) ∙ ap (same_symbol symbol) (is ∙ ap (λ (z : Declaration). z.head.symbol) same) ∙ own in
        absurd cc
    by false own e (inr later) rest = rest e later

-- two of an ascending list are one, or one of them comes before the other
either_first : (ds : List Declaration) → Ascends ds → (d e : Declaration) → In d ds → In e ds → (d ≡ e) ⊎ Earlier d e ⊎ Earlier e d
either_first [] ascends d e here there = absurd here
either_first (x ∷ xs) ascends d e (inl one) (inl two) = inl (one ∙ sym two)
either_first (x ∷ xs) ascends d e (inl one) (inr there) = inr (inl (subst (λ z. Earlier z e) (sym one) (ascends.0 e there)))
either_first (x ∷ xs) ascends d e (inr here) (inl two) = inr (inr (subst (λ z. Earlier z d) (sym two) (ascends.0 d here)))
either_first (x ∷ xs) ascends d e (inr here) (inr there) = either_first xs ascends.1 d e here there

-- what counts is found
pub counts_found : (symbol : SymbolId) (ds : List Declaration) (d : Declaration) → Ascends ds → Counts ds symbol d → find (declares symbol) ds ≡ Some d
counts_found symbol ds d ascends counts = by (find (declares symbol) ds) refl
  where
    by : (o : Option Declaration) → find (declares symbol) ds ≡ o → o ≡ Some d
    by None e = absurd (nothing_found symbol ds e d counts.there counts.of)
    by (Some x) e =
        let own = found_counts symbol ds x ascends e in
        ⊎_elim (λ same. ap Some same) (λ apart. absurd (⊎_elim (λ before. counts.first x own.there own.of before) (λ after. own.first d counts.there counts.of after) apart))
        (either_first ds ascends x d own.there counts.there)

-- ---- those that lose

-- another one of its symbol stands among these, or in the list and comes before it
abbrev HasBefore : List Declaration → List Declaration → Declaration → Type 0
HasBefore before ds d = (b : Declaration) × (In b before ⊎ (In b ds × Earlier b d)) × (d.head.symbol ≡ b.head.symbol)

in_any : (symbol : SymbolId) (ds : List Declaration) → list_any (declares symbol) ds ≡ true → (d : Declaration) × In d ds × (symbol ≡ d.head.symbol)
in_any symbol [] e = absurd cc
in_any symbol (x ∷ xs) e = by (declares symbol x) refl e (in_any symbol xs)
  where
    by : (b : Bool) → declares symbol x ≡ b → (b || list_any (declares symbol) xs) ≡ true → (list_any (declares symbol) xs ≡ true → (d : Declaration) × In d xs × (symbol ≡ d.head.symbol))
        → (d : Declaration) × In d (x ∷ xs) × (symbol ≡ d.head.symbol)
    by true own e rest = (x, inl refl, same_symbol-true symbol x.head.symbol own)
    by false own e rest = let h = rest e in (h.0, inr h.1, h.2)

any_in : (symbol : SymbolId) (ds : List Declaration) (d : Declaration) → In d ds → symbol ≡ d.head.symbol → list_any (declares symbol) ds ≡ true
any_in symbol [] d here is = absurd here
any_in symbol (x ∷ xs) d here is = by (declares symbol x) refl here (λ later. any_in symbol xs d later is)
  where
    by : (b : Bool) → declares symbol x ≡ b → In d (x ∷ xs) → (In d xs → list_any (declares symbol) xs ≡ true) → (b || list_any (declares symbol) xs) ≡ true
    by true own here rest = refl
    by false own (inr later) rest = rest later
    by false own (inl same) rest =
        let clash : true ≡ false = sym (same_symbol-refl symbol) ∙ ap (same_symbol symbol) (is ∙ ap (λ (z : Declaration). z.head.symbol) same) ∙ own in
        absurd cc

behind_in : (before ds : List Declaration) (d : Declaration) → Ascends ds → In d (behind before ds) → In d ds × HasBefore before ds d
behind_in before [] d ascends here = absurd here
behind_in before (x ∷ xs) d ascends here = by (list_any (declares x.head.symbol) before) refl here (behind_in (x ∷ before) xs d ascends.1)
  where
    shift : In d xs × HasBefore (x ∷ before) xs d → In d (x ∷ xs) × HasBefore before (x ∷ xs) d
    shift h = (inr h.0, (h.1.0, from h.1.1, h.1.2))
      where
        from : In h.1.0 (x ∷ before) ⊎ (In h.1.0 xs × Earlier h.1.0 d) → In h.1.0 before ⊎ (In h.1.0 (x ∷ xs) × Earlier h.1.0 d)
        from (inl (inl same)) = inr (inl same, subst (λ (b : Declaration). Earlier b d) (sym same) (ascends.0 d h.0))
        from (inl (inr there)) = inl there
        from (inr k) = inr (inr k.0, k.1)

    by : (b : Bool) → list_any (declares x.head.symbol) before ≡ b → In d (cond b (x ∷ behind (x ∷ before) xs) (behind (x ∷ before) xs)) → (In d (behind (x ∷ before) xs) → In d xs × HasBefore (x ∷ before) xs d)
        → In d (x ∷ xs) × HasBefore before (x ∷ xs) d
    by true q (inl same) rest =
        let h = in_any x.head.symbol before q in
        (inl same, (h.0, inl h.1, ap (λ (z : Declaration). z.head.symbol) same ∙ h.2))
    by true q (inr later) rest = shift (rest later)
    by false q here rest = shift (rest here)

in_behind : (before ds : List Declaration) (d : Declaration) → Ascends ds → In d ds → HasBefore before ds d → In d (behind before ds)
in_behind before [] d ascends here has = absurd here
in_behind before (x ∷ xs) d ascends here has = by (list_any (declares x.head.symbol) before) refl here (λ later. in_behind (x ∷ before) xs d ascends.1 later (shift later))
  where
    shift : In d xs → HasBefore (x ∷ before) xs d
    shift later = (has.0, from has.1, has.2)
      where
        from : In has.0 before ⊎ (In has.0 (x ∷ xs) × Earlier has.0 d) → In has.0 (x ∷ before) ⊎ (In has.0 xs × Earlier has.0 d)
        from (inl there) = inl (inr there)
        from (inr k) = ⊎_elim (λ same. inl (inl same)) (λ there. inr (there, k.1)) k.0

    noted : d ≡ x → list_any (declares x.head.symbol) before ≡ true
    noted same = from has.1
      where
        from : In has.0 before ⊎ (In has.0 (x ∷ xs) × Earlier has.0 d) → list_any (declares x.head.symbol) before ≡ true
        from (inl there) = any_in x.head.symbol before has.0 there (ap (λ (z : Declaration). z.head.symbol) (sym same) ∙ has.2)
        from (inr k) =
            let less : Earlier has.0 x = subst (λ (z : Declaration). Earlier has.0 z) same k.1 in
            absurd (⊎_elim
            (λ is. let own : Earlier x x = subst (λ (z : Declaration). Earlier z x) is less in never_before x.file x.file x.head.index x.head.index own own)
            (λ there. never_before has.0.file x.file has.0.head.index x.head.index less (ascends.0 has.0 there)) k.0)

    by : (b : Bool) → list_any (declares x.head.symbol) before ≡ b → In d (x ∷ xs) → (In d xs → In d (behind (x ∷ before) xs)) → In d (cond b (x ∷ behind (x ∷ before) xs) (behind (x ∷ before) xs))
    by true q (inl same) rest = inl same
    by true q (inr later) rest = inr (rest later)
    by false q (inl same) rest = let clash : true ≡ false = sym (noted same) ∙ q in absurd cc
    by false q (inr later) rest = rest later

-- those that lose are those that another one of their symbol comes before
pub record Loses (ds : List Declaration) (d : Declaration) : Type 0 where
  pub there : In d ds
  pub other : Declaration
  pub declared : In other ds
  pub of : d.head.symbol ≡ other.head.symbol
  pub before : Earlier other d

pub behind_loses : (ds : List Declaration) (d : Declaration) → Ascends ds → In d (behind [] ds) → Loses ds d
behind_loses ds d ascends here =
    let h = behind_in [] ds d ascends here in
    let k : In h.1.0 ds × Earlier h.1.0 d = ⊎_elim (λ none. absurd none) (λ k. k) h.1.1 in
    record { there = h.0; other = h.1.0; declared = k.0; of = h.1.2; before = k.1 }

pub loses_behind : (ds : List Declaration) (d : Declaration) → Ascends ds → Loses ds d → In d (behind [] ds)
loses_behind ds d ascends loses = in_behind [] ds d ascends loses.there (loses.other, inr (loses.declared, loses.before), loses.of)
