-- The files' lists as a finite map, and what the declarations have to do with it.
use Rattle.std.proofs.Common.{◌≡◌, ◌≢◌, ◌⊎◌, ℕ, List, [], ◌∷◌, length, map, Option, None, Some, Bool, true, false, cond, refl, sym, ap, subst, ◌∙◌, inl, inr}
use Rattle.std.specs.Prelude.{Result, Ok, Err, OnOk, is_err}
use Rattle.std.specs.BTreeMap as tree
use Rattle.std.specs.FinMap as finite
use Rattle.std.specs.FinMap.{insert, remove, empty, find, get-empty, get-insert, get-remove, get-from_entries, same_map, slice_cmp-IsAntisymmetric, nat_cmp-IsAntisymmetric}
use Rattle.std.specs.Global.{Vec}
use Rattle.std.specs.Map.{lookup, KeepsOthers}
use Rattle.std.specs.Option.{option_map}
use Rattle.std.specs.Ordering.{eq_by_cmp, is_eq}
use Rattle.std.specs.declared.cmp.Ordering.{Ordering}
use Rattle.std.specs.declared.cmp.Ordering.TheVariants.{Less, Equal, Greater}
use Rattle.std.proofs.lemmas.Cmp.{nat_list_cmp_total, eq_by_cmp_equiv, tied_itself}
use Rattle.hack_base.specs.Files.{byte_order}
use Rattle.hack_names.specs.declared.unit.UnitHead.{UnitHead}
use Rattle.hack_names.specs.declared.keys.Declared.{Declared}
use Rattle.hack_names.specs.declared.index.Index.{Index}
use Rattle.hack_names.specs.Declarations.{Table}
use Rattle.hack_names.specs.Inside.{declared_order, AreNoted, HasFirst, HasOnly, HasNothing, IsTable, KeepsOtherFiles, table_of}

abbrev pub Files : Type 0
Files = tree.BTreeMap (Vec ℕ) (Vec UnitHead)

-- by the bytes
abbrev pub name_order : Vec ℕ → Vec ℕ → Ordering
name_order a b = byte_order a.items b.items

-- whether this is the file's name
abbrev pub is_name : List ℕ → Vec ℕ → Bool
is_name file name = is_eq (byte_order file name.items)

pub names_same : (a b : List ℕ) → byte_order a b ≡ Equal → a ≡ b
names_same a b e = slice_cmp-IsAntisymmetric nat_cmp-IsAntisymmetric a b e

-- ---- the lists

found : (file : List ℕ) (es : List (Vec ℕ × Vec UnitHead)) → find byte_order file (map (λ e. (e.0.items, e.1.items)) es) ≡ option_map (λ v. v.items) (lookup (is_name file) es)
found file [] = refl
found file (e ∷ es) = by (is_name file e.0) (found file es)
  where
    by : (b : Bool) → find byte_order file (map (λ x. (x.0.items, x.1.items)) es) ≡ option_map (λ v. v.items) (lookup (is_name file) es)
        → cond b (Some e.1.items) (find byte_order file (map (λ x. (x.0.items, x.1.items)) es)) ≡ option_map (λ v. v.items) (cond b (Some e.1) (lookup (is_name file) es))
    by true rest = refl
    by false rest = rest

pub get_table : (es : List (Vec ℕ × Vec UnitHead)) (file : List ℕ) → finite.get (table_of es) file ≡ option_map (λ v. v.items) (lookup (is_name file) es)
get_table es file = get-from_entries nat_list_cmp_total (map (λ e. (e.0.items, e.1.items)) es) file ∙ found file es

-- a look-up by bytes after a change at a file's name
changed : (old new : Files) (file : List ℕ) (value : Option (Vec UnitHead)) → tree.UpdatesBy name_order (λ k. byte_order file k.items) old new value → (other : List ℕ)
    → lookup (is_name other) new.entries ≡ cond (is_eq (byte_order file other)) value (lookup (is_name other) old.entries)
unfolding KeepsOthers
changed old new file value h other = by (byte_order file other) refl
  where
    apart : (r : Ordering) → byte_order file other ≡ r → is_eq r ≡ false → (k : Vec ℕ) → is_name file k ≡ true → is_name other k ≡ false
    apart r e not k is = off (byte_order file k.items) refl is (byte_order other k.items) refl
      where
        off : (p : Ordering) → byte_order file k.items ≡ p → is_eq p ≡ true → (q : Ordering) → byte_order other k.items ≡ q → is_eq q ≡ false
        off Less u t q v = absurd cc
        off Greater u t q v = absurd cc
        off Equal u t Less v = refl
        off Equal u t Greater v = refl
        off Equal u t Equal v =
            let same : file ≡ other = names_same file k.items u ∙ sym (names_same other k.items v) in
            let tie : byte_order file other ≡ Equal = subst (λ o. byte_order file o ≡ Equal) same (tied_itself nat_list_cmp_total file) in
            let clash : true ≡ false = ap is_eq (sym tie ∙ e) ∙ not in
            absurd cc

    kept : (r : Ordering) → byte_order file other ≡ r → is_eq r ≡ false → lookup (is_name other) new.entries ≡ lookup (is_name other) old.entries
    kept r e not = h.3 (is_name other) (λ x y is. (eq_by_cmp_equiv nat_list_cmp_total).congr other x.items y.items is) (apart r e not)

    by : (r : Ordering) → byte_order file other ≡ r → lookup (is_name other) new.entries ≡ cond (is_eq (byte_order file other)) value (lookup (is_name other) old.entries)
    by Less e = kept Less e refl ∙ sym (ap (λ r. cond (is_eq r) value (lookup (is_name other) old.entries)) e)
    by Equal e =
        subst (λ o. lookup (is_name o) new.entries ≡ value) (names_same file other e) h.1 ∙ sym (ap (λ r. cond (is_eq r) value (lookup (is_name other) old.entries)) e)
    by Greater e = kept Greater e refl ∙ sym (ap (λ r. cond (is_eq r) value (lookup (is_name other) old.entries)) e)

taken : (b : Bool) (value was : Option (Vec UnitHead)) → option_map (λ v. v.items) (cond b value was) ≡ cond b (option_map (λ v. v.items) value) (option_map (λ v. v.items) was)
taken true value was = refl
taken false value was = refl

get_changed : (old new : Files) (file : List ℕ) (value : Option (Vec UnitHead)) → tree.UpdatesBy name_order (λ k. byte_order file k.items) old new value → (other : List ℕ)
    → finite.get (table_of new.entries) other ≡ cond (eq_by_cmp byte_order other file) (option_map (λ v. v.items) value) (finite.get (table_of old.entries) other)
get_changed old new file value h other =
    get_table new.entries other ∙ ap (option_map (λ v. v.items)) (changed old new file value h other) ∙ taken (is_eq (byte_order file other)) value (lookup (is_name other) old.entries)
    ∙ ap (λ b. cond b (option_map (λ v. v.items) value) (option_map (λ v. v.items) (lookup (is_name other) old.entries))) ((eq_by_cmp_equiv nat_list_cmp_total).symm file other)
    ∙ ap (cond (eq_by_cmp byte_order other file) (option_map (λ v. v.items) value)) (sym (get_table old.entries other))

pub table_insert : (old new : Files) (file : List ℕ) (heads : Vec UnitHead) → tree.UpdatesBy name_order (λ k. byte_order file k.items) old new (Some heads) → table_of new.entries ≡ insert (table_of old.entries) file heads.items
table_insert old new file heads h =
    same_map nat_list_cmp_total names_same (table_of new.entries) (insert (table_of old.entries) file heads.items)
    (λ other. get_changed old new file (Some heads) h other ∙ sym (get-insert nat_list_cmp_total (table_of old.entries) file heads.items other))

pub table_remove : (old new : Files) (file : List ℕ) → tree.UpdatesBy name_order (λ k. byte_order file k.items) old new None → table_of new.entries ≡ remove (table_of old.entries) file
table_remove old new file h =
    same_map nat_list_cmp_total names_same (table_of new.entries) (remove (table_of old.entries) file)
    (λ other. get_changed old new file None h other ∙ sym (get-remove nat_list_cmp_total (table_of old.entries) file other))

-- ---- the declarations

-- a table that has something at one file, and at each other what it had
abbrev GetCases : Table → Table → List ℕ → Option (List UnitHead) → List ℕ → Type 0
GetCases old new file value other =
    ((other ≡ file) × (finite.get new other ≡ value)) ⊎ ((other ≢ file) × (finite.get new other ≡ finite.get old other))

get_cases : (old new : Table) (file : List ℕ) (value : Option (List UnitHead)) → ((other : List ℕ) → finite.get new other ≡ cond (eq_by_cmp byte_order other file) value (finite.get old other)) → (other : List ℕ) → GetCases old new file value other
get_cases old new file value set other = by (byte_order other file) refl (set other)
  where
    apart : (r : Ordering) → byte_order other file ≡ r → is_eq r ≡ false → other ≢ file
    apart r e not same =
        let tie : byte_order other file ≡ Equal = subst (λ o. byte_order other o ≡ Equal) same (tied_itself nat_list_cmp_total other) in
        let clash : true ≡ false = ap is_eq (sym tie ∙ e) ∙ not in
        absurd cc

    by : (r : Ordering) → byte_order other file ≡ r → finite.get new other ≡ cond (is_eq r) value (finite.get old other) → GetCases old new file value other
    by Less e h = inr (apart Less e refl, h)
    by Equal e h = inl (names_same other file e, h)
    by Greater e h = inr (apart Greater e refl, h)

module _ (old new : Index) (file : List ℕ) (others : KeepsOtherFiles file old.declared new.declared) where
  away : (other : List ℕ) → other ≢ file → (key : Declared) → key.spot.file ≡ other → tree.get declared_order new.declared key ≡ tree.get declared_order old.declared key
  away other apart key is = others key (λ e. apart (sym is ∙ e))

  nothing_away : (other : List ℕ) → other ≢ file → HasNothing old.declared other → HasNothing new.declared other
  nothing_away other apart nothing key is = away other apart key is ∙ nothing key is

  only_away : (other : List ℕ) (heads : List UnitHead) → other ≢ file → HasOnly old.declared other heads → HasOnly new.declared other heads
  only_away other heads apart only key head is there = only key head is (sym (away other apart key is) ∙ there)

  first_away : (other : List ℕ) (heads : List UnitHead) → other ≢ file → HasFirst old.declared other heads (length heads) → HasFirst new.declared other heads (length heads)
  first_away other heads apart first position head before there = away other apart _ refl ∙ first position head before there

  -- the file was put
  pub is_table_put : (table : Table) (heads : List UnitHead) → IsTable table old → HasOnly new.declared file heads → HasFirst new.declared file heads (length heads) → AreNoted new.declared new.contested
      → IsTable (insert table file heads) new
  is_table_put table heads was only first noted = record {
    noted = noted;
    absent = λ other none. absent other none (cases other);
    only = λ other list is. only_of other list is (cases other);
    all = λ other list is. all_of other list is (cases other);
  }
    where
      cases : (other : List ℕ) → GetCases table (insert table file heads) file (Some heads) other
      cases other = get_cases table (insert table file heads) file (Some heads) (get-insert nat_list_cmp_total table file heads) other

      absent : (other : List ℕ) → finite.get (insert table file heads) other ≡ None → GetCases table (insert table file heads) file (Some heads) other → HasNothing new.declared other
      absent other none (inl at) = let clash : ◌≡◌ {A = Option (List UnitHead)} (Some heads) None = sym at.1 ∙ none in absurd cc
      absent other none (inr kept) = nothing_away other kept.0 (was.absent other (sym kept.1 ∙ none))

      only_of : (other : List ℕ) (list : List UnitHead) → finite.get (insert table file heads) other ≡ Some list → GetCases table (insert table file heads) file (Some heads) other → HasOnly new.declared other list
      only_of other list is (inl at) =
          let both : ◌≡◌ {A = Option (List UnitHead)} (Some heads) (Some list) = sym at.1 ∙ is in
          let lists : heads ≡ list = cc in
          subst (λ f. HasOnly new.declared f list) (sym at.0) (subst (HasOnly new.declared file) lists only)
      only_of other list is (inr kept) = only_away other list kept.0 (was.only other list (sym kept.1 ∙ is))

      all_of : (other : List ℕ) (list : List UnitHead) → finite.get (insert table file heads) other ≡ Some list → GetCases table (insert table file heads) file (Some heads) other → HasFirst new.declared other list (length list)
      all_of other list is (inl at) =
          let both : ◌≡◌ {A = Option (List UnitHead)} (Some heads) (Some list) = sym at.1 ∙ is in
          let lists : heads ≡ list = cc in
          subst (λ f. HasFirst new.declared f list (length list)) (sym at.0) (subst (λ l. HasFirst new.declared file l (length l)) lists first)
      all_of other list is (inr kept) = first_away other list kept.0 (was.all other list (sym kept.1 ∙ is))

  -- the file was taken out
  pub is_table_gone : (table : Table) → IsTable table old → HasNothing new.declared file → AreNoted new.declared new.contested → IsTable (remove table file) new
  is_table_gone table was nothing noted = record {
    noted = noted;
    absent = λ other none. absent other none (cases other);
    only = λ other list is. only_of other list is (cases other);
    all = λ other list is. all_of other list is (cases other);
  }
    where
      cases : (other : List ℕ) → GetCases table (remove table file) file None other
      cases other = get_cases table (remove table file) file None (get-remove nat_list_cmp_total table file) other

      absent : (other : List ℕ) → finite.get (remove table file) other ≡ None → GetCases table (remove table file) file None other → HasNothing new.declared other
      absent other none (inl at) = subst (HasNothing new.declared) (sym at.0) nothing
      absent other none (inr kept) = nothing_away other kept.0 (was.absent other (sym kept.1 ∙ none))

      only_of : (other : List ℕ) (list : List UnitHead) → finite.get (remove table file) other ≡ Some list → GetCases table (remove table file) file None other → HasOnly new.declared other list
      only_of other list is (inl at) = let clash : ◌≡◌ {A = Option (List UnitHead)} None (Some list) = sym at.1 ∙ is in absurd cc
      only_of other list is (inr kept) = only_away other list kept.0 (was.only other list (sym kept.1 ∙ is))

      all_of : (other : List ℕ) (list : List UnitHead) → finite.get (remove table file) other ≡ Some list → GetCases table (remove table file) file None other → HasFirst new.declared other list (length list)
      all_of other list is (inl at) = let clash : ◌≡◌ {A = Option (List UnitHead)} None (Some list) = sym at.1 ∙ is in absurd cc
      all_of other list is (inr kept) = first_away other list kept.0 (was.all other list (sym kept.1 ∙ is))

-- the file isn't in the table, and what was put of it was taken out again
pub is_table_still : (old new : Index) (file : List ℕ) (table : Table) → KeepsOtherFiles file old.declared new.declared → finite.get table file ≡ None → IsTable table old → HasNothing new.declared file
    → AreNoted new.declared new.contested → IsTable table new
is_table_still old new file table others none was nothing noted =
    subst (λ t. IsTable t new) (same_map nat_list_cmp_total names_same (remove table file) table gone) (is_table_gone old new file others table was nothing noted)
  where
    gone : (other : List ℕ) → finite.get (remove table file) other ≡ finite.get table other
    gone other = by (get_cases table (remove table file) file None (get-remove nat_list_cmp_total table file) other)
      where
        by : GetCases table (remove table file) file None other → finite.get (remove table file) other ≡ finite.get table other
        by (inl at) = at.1 ∙ sym (ap (finite.get table) at.0 ∙ none)
        by (inr kept) = kept.1

-- ---- at the start

pub table_none : (files : Files) → files.entries ≡ [] → table_of files.entries ≡ empty
table_none files none = ap table_of none

pub is_table_none : (files : Files) (index : Index) → files.entries ≡ [] → tree.IsEmpty index.declared → AreNoted index.declared index.contested → IsTable (table_of files.entries) index
is_table_none files index none empty noted =
    subst (λ es. IsTable (table_of es) index) (sym none)
    (record {
      noted = noted;
      absent = λ file gone key is. ap (lookup (tree.is_at (declared_order key))) empty;
      only = λ file heads is. absurd (nothing file heads is);
      all = λ file heads is. absurd (nothing file heads is);
    })
  where
    nothing : (file : List ℕ) (heads : List UnitHead) → finite.get (table_of []) file ≡ Some heads → ⊥
    nothing file heads is = let clash : ◌≡◌ {A = Option (List UnitHead)} None (Some heads) = sym (get-empty byte_order file) ∙ is in absurd cc

-- ---- as the calls tell it

pub on_ok_from : {A E : Type 0} (r : Result A E) (P : Type 0) → OnOk r P → is_err r ≡ false → P
on_ok_from (Ok x) P h e = h
on_ok_from (Err x) P h e = absurd cc

-- a file that was taken out isn't there
pub get_gone : (table : Table) (file : List ℕ) → finite.get (remove table file) file ≡ None
get_gone table file =
    get-remove nat_list_cmp_total table file file ∙ ap (λ r. cond (is_eq r) None (finite.get table file)) (tied_itself nat_list_cmp_total file)
