-- What a check finds is exactly what is to be found.
use Rattle.std.proofs.Common.{◌≡◌, ◌≢◌, ⊎_elim, ℕ, zero, suc, ◌+◌, ◌<◌, List, [], ◌∷◌, length, get_or, Option, None, Some, Bool, true, false, cond, refl, sym, ap, subst, ◌∙◌, inl, inr, arith}
use Rattle.std.specs.Prelude.{slice_get, Contains}
use Rattle.std.specs.BTreeMap as tree
use Rattle.std.specs.FinMap as finite
use Rattle.std.proofs.lemmas.Cmp.{nat_list_cmp_total}
use Rattle.hack_base.specs.Files.{Files, byte_order}
use Rattle.hack_types.specs.declared.diag.Diag.{Diag}
use Rattle.hack_types.specs.declared.diag.FileDiag.{FileDiag}
use Rattle.hack_types.specs.declared.ids.SymbolId.{SymbolId}
use Rattle.hack_types.specs.Report.{IsReport}
use Rattle.hack_tree.specs.declared.declaration.Unit.{Unit as UnitOf}
use Rattle.hack_names.specs.declared.unit.UnitHead.{UnitHead}
use Rattle.hack_names.specs.Declarations.{Declaration, declarations, losers, winner}
use Rattle.hack_names.proofs.Rising.{In, in_from_lookup, lookup_from_in, rises_from_sorted}
use Rattle.hack_parse_file.specs.Files.{IsFileFault}
use Rattle.hack_first.specs.declared.unit.FirstUnit.{FirstUnit}
use Rattle.hack_first.specs.declared.unit.Primitive.{Primitive}
use Rattle.hack_first.specs.declared.unit.Primitive.TheVariants.{Int, Str}
use Rattle.hack_first.specs.declared.unit.Returned.{Returned}
use Rattle.hack_first.specs.declared.unit.Returned.TheVariants.{Literal, Call}
use Rattle.hack_first.specs.FirstTrees.{first_in}
use Rattle.hack_first.specs.Functions.{Function, value_of, function_of, named}
use Rattle.check_state.specs.declared.file.File.{File}
use Rattle.check_state.specs.declared.file.Parsed.{Parsed}
use Rattle.check_state.specs.declared.file.Parsed.TheVariants.{Tree, Fault}
use Rattle.check_state.specs.declared.state.State.{State}
use Rattle.check_state.specs.Faults.{fault_diag}
use Rattle.check_state.specs.Findings.{Declares, IsTaken, HasResult, HasType, IsUnbound, IsUnitFinding, IsFaultFinding, IsTakenFinding, IsCountedFinding, IsFinding, IsFirstReport, AreFirst, unbound, taken}
use Rattle.check_state.specs.Inside.{function_symbol, type_found, called, same_type, mismatch_diag, finding_for, is_there, first_finding, with_file, unit_findings, parsed_findings, taken_diag, taken_finding, taken_findings, kept_findings, all_findings}
use Rattle.check_state.specs.Stands.{Stands, IsParsed, head_of}
use Rattle.hack_parse_file.proofs.OneTree.{no_fault_of_tree, one_file_fault}
use Rattle.check_state.proofs.Declared.{Loses, behind_loses, loses_behind}
use Rattle.check_state.proofs.Declarers.{IsUnitAt, IsFirstAt, in_table, declared_unit, unit_declared, in_a_file, symbol_of, name_place, id_of, call_id_of, all_first, first_declares, declares_first, taken_earlier, earlier_taken, there_free, free_there, result_has, has_result, units_kept, units_in}
use Rattle.check_state.proofs.Listed.{in_file, in_append, append_left, append_right}
use Rattle.check_state.proofs.Standing.{some_kept, kept_some}
use Rattle.check_state.proofs.Sums.{names_same}

-- ---- lists

contains_in : {A : Type 0} (xs : List A) (x : A) → Contains xs x → In x xs
contains_in [] x h = absurd (omega (arith, h.1))
contains_in {A} (y ∷ ys) x h = by h.0 h.1 h.2 (λ k inside e. contains_in ys x (k, inside, e))
  where
    by : (k : ℕ) → k < length (y ∷ ys) → get_or (y ∷ ys) k x ≡ x → ((j : ℕ) → j < length ys → get_or ys j x ≡ x → In x ys) → In x (y ∷ ys)
    by zero inside e rest = inl (sym e)
    by (suc k) inside e rest = inr (rest k (omega (arith, inside)) e)

in_contains : {A : Type 0} (xs : List A) (x : A) → In x xs → Contains xs x
in_contains [] x here = absurd here
in_contains (y ∷ ys) x (inl same) = (0, omega arith, sym same)
in_contains (y ∷ ys) x (inr later) = let rest = in_contains ys x later in (suc rest.0, omega (arith, rest.1), rest.2)

-- ---- types

same_type-is : (a b : Primitive) → same_type a b ≡ true → a ≡ b
same_type-is Int Int e = refl
same_type-is Int Str e = absurd cc
same_type-is Str Int e = absurd cc
same_type-is Str Str e = refl

same_type-not : (a b : Primitive) → same_type a b ≡ false → a ≢ b
same_type-not Int Int e is = cc
same_type-not Int Str e is = cc
same_type-not Str Int e is = cc
same_type-not Str Str e is = cc

-- ---- one finding in a file

in_one : (file : List ℕ) (o : Option Diag) (d : FileDiag) → In d (with_file file o) → (d.file ≡ file) × (o ≡ Some d.diag)
in_one file None d here = absurd here
in_one file (Some x) d (inl same) = (ap (λ (y : FileDiag). y.file) same, ap (λ (y : FileDiag). Some y.diag) (sym same))
in_one file (Some x) d (inr none) = absurd none

one_in : (file : List ℕ) (o : Option Diag) (d : Diag) → o ≡ Some d → In (record { file = file; diag = d }) (with_file file o)
one_in file None d e = absurd cc
one_in file (Some x) d e = let is : x ≡ d = cc in inl (ap (λ (y : Diag). record { file = file; diag = y }) (sym is))

in_units : (state : State) (file : List ℕ) (n : ℕ) (us : List UnitOf) (d : FileDiag) → In d (unit_findings state file n us)
    → (i : ℕ) × (u : UnitOf) × (slice_get us i ≡ Some u) × (d.file ≡ file) × (first_finding state file (n + i) (first_in u.start u.tree) ≡ Some d.diag)
in_units state file n [] d here = absurd here
in_units state file n (u ∷ us) d here =
    ⊎_elim
    (λ first.
    let one = in_one file (first_finding state file n (first_in u.start u.tree)) d first in
    let number : n + 0 ≡ n = omega arith in
    (0, u, refl, one.0, ap (λ k. first_finding state file k (first_in u.start u.tree)) number ∙ one.1))
    (λ rest.
    let later = in_units state file (n + 1) us d rest in
    let number : n + suc later.0 ≡ n + 1 + later.0 = omega arith in
    (suc later.0, later.1, later.2, later.3, ap (λ k. first_finding state file k (first_in later.1.start later.1.tree)) number ∙ later.4))
    (in_append d (with_file file (first_finding state file n (first_in u.start u.tree))) (unit_findings state file (n + 1) us) here)

units_in_findings : (state : State) (file : List ℕ) (n i : ℕ) (us : List UnitOf) (u : UnitOf) (d : Diag) → slice_get us i ≡ Some u → first_finding state file (n + i) (first_in u.start u.tree) ≡ Some d
    → In (record { file = file; diag = d }) (unit_findings state file n us)
units_in_findings state file n i [] u d at e = absurd cc
units_in_findings state file n zero (v ∷ us) u d at e =
    let same : v ≡ u = cc in
    let number : n ≡ n + 0 = omega arith in
    append_left _ (with_file file (first_finding state file n (first_in v.start v.tree))) (unit_findings state file (n + 1) us)
    (one_in file (first_finding state file n (first_in v.start v.tree)) d ((λ j. first_finding state file (number j) (first_in (same j).start (same j).tree)) ∙ e))
units_in_findings state file n (suc i) (v ∷ us) u d at e =
    let number : n + 1 + i ≡ n + suc i = omega arith in
    append_right _ (with_file file (first_finding state file n (first_in v.start v.tree))) (unit_findings state file (n + 1) us)
    (units_in_findings state file (n + 1) i us u d at (ap (λ k. first_finding state file k (first_in u.start u.tree)) number ∙ e))

in_kept : (state : State) (es : List (List ℕ × File)) (d : FileDiag) → In d (kept_findings state es) → (e : List ℕ × File) × In e es × In d (parsed_findings state e.0 e.1.parsed)
in_kept state [] d here = absurd here
in_kept state (e ∷ es) d here =
    ⊎_elim (λ first. (e, inl refl, first)) (λ rest. let later = in_kept state es d rest in (later.0, inr later.1, later.2)) (in_append d (parsed_findings state e.0 e.1.parsed) (kept_findings state es) here)

kept_in : (state : State) (es : List (List ℕ × File)) (e : List ℕ × File) (d : FileDiag) → In e es → In d (parsed_findings state e.0 e.1.parsed) → In d (kept_findings state es)
kept_in state [] e d here there = absurd here
kept_in state (f ∷ fs) e d (inl same) there =
    append_left d (parsed_findings state f.0 f.1.parsed) (kept_findings state fs) (subst (λ (g : List ℕ × File). In d (parsed_findings state g.0 g.1.parsed)) same there)
kept_in state (f ∷ fs) e d (inr later) there = append_right d (parsed_findings state f.0 f.1.parsed) (kept_findings state fs) (kept_in state fs e d later there)

in_taken : (names : List (List ℕ)) (ds : List Declaration) (d : FileDiag) → In d (taken_findings names ds) → (l : Declaration) × In l ds × (l.file ≢ []) × (d ≡ record { file = l.file; diag = taken_diag names l })
in_taken names [] d here = absurd here
in_taken names (l ∷ ls) d here =
    ⊎_elim (λ first. by l.file refl first) (λ rest. let later = in_taken names ls d rest in (later.0, inr later.1, later.2, later.3)) (in_append d (taken_finding names l.file l) (taken_findings names ls) here)
  where
    by : (file : List ℕ) → l.file ≡ file → In d (taken_finding names file l) → (k : Declaration) × In k (l ∷ ls) × (k.file ≢ []) × (d ≡ record { file = k.file; diag = taken_diag names k })
    by [] is none = absurd none
    by (b ∷ name) is (inl same) = (l, inl refl, (λ none. absurd (let clash : b ∷ name ≡ [] = sym is ∙ none in cc)), same ∙ ap (λ f. record { file = f; diag = taken_diag names l }) (sym is))
    by (b ∷ name) is (inr none) = absurd none

taken_in : (names : List (List ℕ)) (ds : List Declaration) (l : Declaration) → In l ds → l.file ≢ [] → In (record { file = l.file; diag = taken_diag names l }) (taken_findings names ds)
taken_in names [] l here named_file = absurd here
taken_in names (k ∷ ks) l (inl same) named_file =
    append_left _ (taken_finding names k.file k) (taken_findings names ks) (subst (λ (m : Declaration). In (record { file = l.file; diag = taken_diag names l }) (taken_finding names m.file m)) same (own l.file refl named_file))
  where
    own : (file : List ℕ) → l.file ≡ file → file ≢ [] → In (record { file = l.file; diag = taken_diag names l }) (taken_finding names file l)
    own [] is named_file = absurd (named_file refl)
    own (b ∷ name) is named_file = inl (ap (λ f. record { file = f; diag = taken_diag names l }) is)
taken_in names (k ∷ ks) l (inr later) named_file = append_right _ (taken_finding names k.file k) (taken_findings names ks) (taken_in names ks l later named_file)

-- ---- one state

module _ (state : State) (files : Files) (stands : Stands state files) (firsts : AreFirst files) where
  -- the results of what a first unit calls
  module _ (file : List ℕ) (i : ℕ) (x : FirstUnit) (is : IsFirstAt state file i x) where
    f : Function
    f = function_of state.names x

    found_type : (returned : Returned) → x.returned ≡ returned → (r : Primitive) → type_found state returned ≡ Some r → HasType files (value_of state.names returned) r
    found_type (Literal p) e r found = let same : p ≡ r = cc in sym same
    found_type (Call n) e r found = result_has state files stands firsts n r (call_id_of state files stands file i x is n e) found

    type_is_found : (returned : Returned) → x.returned ≡ returned → (r : Primitive) → HasType files (value_of state.names returned) r → type_found state returned ≡ Some r
    type_is_found (Literal p) e r has = ap Some (sym has)
    type_is_found (Call n) e r has = has_result state files stands firsts n r (call_id_of state files stands file i x is n e) has

    -- a finding that is given holds
    finding_holds : (d : Diag) → finding_for state.names x (type_found state x.returned) ≡ Some d → IsUnitFinding files (function_of state.names x) d
    finding_holds d e = by x.returned refl (type_found state x.returned) refl e
      where
        by : (returned : Returned) → x.returned ≡ returned → (o : Option Primitive) → type_found state x.returned ≡ o → finding_for state.names x o ≡ Some d → IsUnitFinding files (function_of state.names x) d
        by (Literal p) r None o e = absurd (let clash : ◌≡◌ {A = Option Primitive} (Some p) None = ap (type_found state) (sym r) ∙ o in cc)
        by (Call n) r None o e =
            let given : Some (unbound (function_of state.names x) (called state.names x.returned)) ≡ Some d = e in
            let is_d : unbound (function_of state.names x) (called state.names x.returned) ≡ d = cc in
            let none : type_found state (Call n) ≡ None = ap (type_found state) (sym r) ∙ o in
            inr (
              named state.names n,
              subst (λ v. IsUnbound files (value_of state.names v) (named state.names n)) (sym r)
                  (refl, λ result has. let clash : ◌≡◌ {A = Option Primitive} None (Some result) = sym none ∙ type_is_found (Call n) r result has in cc),
              sym is_d ∙ ap (λ v. unbound (function_of state.names x) (called state.names v)) r,
            )
        by returned r (Some found) o e = wrong (same_type found x.result) refl e
          where
            wrong : (t : Bool) → same_type found x.result ≡ t → cond t None (Some (mismatch_diag x found)) ≡ Some d → IsUnitFinding files (function_of state.names x) d
            wrong true test e = absurd cc
            wrong false test e =
                let is_d : mismatch_diag x found ≡ d = cc in
                inl (found, found_type x.returned refl found o, same_type-not found x.result test, sym is_d)

    -- a finding that holds is given
    finding_given : (d : Diag) → IsUnitFinding files (function_of state.names x) d → finding_for state.names x (type_found state x.returned) ≡ Some d
    finding_given d (inl wrong) = ap (finding_for state.names x) (type_is_found x.returned refl wrong.0 wrong.1) ∙ by (same_type wrong.0 x.result) refl ∙ ap Some (sym wrong.3)
      where
        by : (t : Bool) → same_type wrong.0 x.result ≡ t → cond (same_type wrong.0 x.result) None (Some (mismatch_diag x wrong.0)) ≡ Some (mismatch_diag x wrong.0)
        by true test = absurd (wrong.2 (same_type-is wrong.0 x.result test))
        by false test = ap (λ t. cond t None (Some (mismatch_diag x wrong.0))) test
    finding_given d (inr missing) = by x.returned refl
      where
        nothing : (n : ℕ) → x.returned ≡ Call n → ((result : Primitive) → HasResult files (named state.names n) result → ⊥) → (o : Option Primitive) → type_found state (Call n) ≡ o → o ≡ None
        nothing n r none None e = refl
        nothing n r none (Some result) e = absurd (none result (found_type (Call n) r result e))

        by : (returned : Returned) → x.returned ≡ returned → finding_for state.names x (type_found state x.returned) ≡ Some d
        by (Literal p) r = absurd (subst (λ v. IsUnbound files (value_of state.names v) missing.0) r missing.1)
        by (Call n) r =
            let not_there = subst (λ v. IsUnbound files (value_of state.names v) missing.0) r missing.1 in
            let none : type_found state (Call n) ≡ None = nothing n r (λ result has. not_there.1 result (subst (λ name. HasResult files name result) not_there.0 has)) (type_found state (Call n)) refl in
            ap (λ v. finding_for state.names x (type_found state v)) r ∙ ap (finding_for state.names x) none ∙ ap (λ v. Some (unbound (function_of state.names x) (called state.names v))) r
            ∙ ap (λ name. Some (unbound (function_of state.names x) name)) not_there.0 ∙ ap Some (sym missing.2)

  -- ---- what is found holds

  unit_holds : (file : List ℕ) (i : ℕ) (u : UnitOf) (d : FileDiag) → IsUnitAt state file i u → d.file ≡ file → first_finding state file i (first_in u.start u.tree) ≡ Some d.diag → IsFinding files d
  unit_holds file i u d at same e = by (first_in u.start u.tree) refl e
    where
      by : (o : Option FirstUnit) → first_in u.start u.tree ≡ o → first_finding state file i o ≡ Some d.diag → IsFinding files d
      by None first e = absurd cc
      by (Some x) first e = counted (is_there file i (winner state.table (function_symbol x.name))) refl e
        where
          is : IsFirstAt state file i x
          is = record { unit = u; is_at = at; first = first }

          counted : (b : Bool) → is_there file i (winner state.table (function_symbol x.name)) ≡ b → cond b (finding_for state.names x (type_found state x.returned)) None ≡ Some d.diag → IsFinding files d
          counted false t e = absurd cc
          counted true t e =
              inr (inr (subst (λ name. (index : ℕ) × (g : Function) × Declares files name index g × (IsTaken files name index g.name → ⊥) × IsUnitFinding files g d.diag) (sym same)
              (i, function_of state.names x, first_declares state files stands firsts file i x is, there_free state files stands firsts file i x is t, finding_holds file i x is d.diag e)))

  file_holds : (e : List ℕ × File) (d : FileDiag) → In e state.files.entries → In d (parsed_findings state e.0 e.1.parsed) → IsFinding files d
  file_holds e d here found = by e.1.parsed refl found
    where
      there : tree.get byte_order state.files e.0 ≡ Some e.1
      there = lookup_from_in byte_order nat_list_cmp_total e.0 e.1 state.files.entries (rises_from_sorted byte_order state.files.entries stands.ordered) here

      by : (parsed : Parsed) → e.1.parsed ≡ parsed → In d (parsed_findings state e.0 parsed) → IsFinding files d
      by (Fault place code) is (inr none) = absurd none
      by (Fault place code) is (inl same) =
          let body = some_kept state.names (finite.get files e.0) (tree.get byte_order state.files e.0) e.1 (stands.kept e.0) there in
          let fault : IsFileFault body.0 place code = subst (IsParsed state.names body.0) is body.2.parsed in
          inl (subst (IsFaultFinding files) (sym same) (body.0, place, code, body.1, fault, refl))
      by (Tree read) is found =
          let h = in_units state e.0 0 read.units d found in
          let number : 0 + h.0 ≡ h.0 = omega arith in
          unit_holds e.0 h.0 h.1 d (record { units = read.units; there = ap units_kept there ∙ ap units_in is; at = h.2 }) h.3
          (ap (λ n. first_finding state e.0 n (first_in h.1.start h.1.tree)) (sym number) ∙ h.4)

  taken_holds : (l : Declaration) (d : FileDiag) → In l (losers state.table) → l.file ≢ [] → d ≡ record { file = l.file; diag = taken_diag state.names l } → IsFinding files d
  taken_holds l d here named_file is =
      let loses = behind_loses (declarations state.table) l (in_table state files stands) here in
      let u = declared_unit state files stands l loses.there in
      let h = all_first state files stands firsts l.file l.head.index u.0 u.1 named_file in
      let first : IsFirstAt state l.file l.head.index h.x = record { unit = u.0; is_at = u.1; first = h.first } in
      let symbol : l.head.symbol ≡ function_symbol h.x.name = ap (λ (k : UnitHead). k.symbol) u.2 ∙ symbol_of state files stands l.file l.head.index h.x first in
      let place : h.x.name_at ≡ l.head.name_at = name_place state files stands l.file l.head.index h.x first ∙ ap (λ (k : UnitHead). k.name_at) (sym u.2) in
      inr (inl (subst (IsTakenFinding files) (sym is) (
        l.head.index,
        function_of state.names h.x,
        h.declares,
        earlier_taken state files stands firsts l.file l.head.index h.x.name (record { other = loses.other; there = loses.declared; of = sym symbol ∙ loses.of; before = loses.before }),
        (λ j. record { at = sym place j; code = 2001; text = (taken_diag state.names (record { file = l.file; head = record { symbol = symbol j; at = l.head.at; name_at = l.head.name_at; index = l.head.index } })).text }),
      )))

  holds : (d : FileDiag) → In d (all_findings state) → IsFinding files d
  holds d here =
      ⊎_elim
      (λ kept. let h = in_kept state state.files.entries d kept in file_holds h.0 d h.1 h.2)
      (λ lost. let h = in_taken state.names (losers state.table) d lost in taken_holds h.0 d h.1 h.2 h.3)
      (in_append d (kept_findings state state.files.entries) (taken_findings state.names (losers state.table)) here)

  -- ---- what holds is found

  found_in_file : (file : List ℕ) (f : File) (d : FileDiag) → tree.get byte_order state.files file ≡ Some f → In d (parsed_findings state file f.parsed) → In d (all_findings state)
  found_in_file file f d there here =
      append_left d (kept_findings state state.files.entries) (taken_findings state.names (losers state.table))
      (kept_in state state.files.entries (file, f) d (in_from_lookup byte_order names_same file f state.files.entries there) here)

  fault_found : (d : FileDiag) → IsFaultFinding files d → In d (all_findings state)
  fault_found d h =
      let kept = kept_some state.names (finite.get files d.file) (tree.get byte_order state.files d.file) h.0 (stands.kept d.file) h.3 in
      found_in_file d.file kept.0 d kept.1 (by kept.0.parsed kept.2.parsed)
    where
      by : (parsed : Parsed) → IsParsed state.names h.0 parsed → In d (parsed_findings state d.file parsed)
      by (Tree read) is = absurd (no_fault_of_tree state.names h.0 read h.1 h.2 is h.4)
      by (Fault place code) fault =
          let one = one_file_fault h.0 h.1 place h.2 code h.4 fault in
          inl (λ j. record { file = d.file; diag = (h.5 ∙ (λ k. fault_diag (one.0 k) (one.1 k))) j })

  taken_found : (d : FileDiag) → IsTakenFinding files d → In d (all_findings state)
  taken_found d h =
      let by_unit = declares_first state files stands d.file h.0 h.1 h.2 in
      let x = by_unit.x in
      let is = by_unit.is in
      let l : Declaration = in_file d.file (head_of h.0 is.unit) in
      let symbol = symbol_of state files stands d.file h.0 x is in
      let earlier = taken_earlier state files stands firsts d.file h.0 x.name (id_of state files stands d.file h.0 x is) (subst (λ (g : Function). IsTaken files d.file h.0 g.name) by_unit.function h.3) in
      let loses : Loses (declarations state.table) l = record { there = unit_declared state files stands d.file h.0 is.unit is.is_at; other = earlier.other; declared = earlier.there; of = symbol ∙ earlier.of; before = earlier.before } in
      let named_file = in_a_file state files stands d.file h.0 is.unit is.is_at (ap (λ (s : SymbolId). s.kind) symbol) in
      let here = taken_in state.names (losers state.table) l (loses_behind (declarations state.table) l (in_table state files stands) loses) named_file in
      let place = name_place state files stands d.file h.0 x is in
      let same : taken_diag state.names l ≡ d.diag =
      (λ j. record { at = sym place j; code = 2001; text = (taken_diag state.names (record { file = d.file; head = record { symbol = symbol j; at = is.unit.start; name_at = is.unit.name_at; index = h.0 } })).text })
      ∙ ap taken (sym by_unit.function) ∙ sym h.4 in
      append_right d (kept_findings state state.files.entries) (taken_findings state.names (losers state.table))
      (subst (λ y. In (record { file = d.file; diag = y }) (taken_findings state.names (losers state.table))) same here)

  counted_found : (d : FileDiag) → IsCountedFinding files d → In d (all_findings state)
  counted_found d h =
      let by_unit = declares_first state files stands d.file h.0 h.1 h.2 in
      at_unit by_unit.x by_unit.is (subst (λ (g : Function). IsTaken files d.file h.0 g.name → ⊥) by_unit.function h.3) (subst (λ g. IsUnitFinding files g d.diag) by_unit.function h.4)
    where
      at_unit : (x : FirstUnit) (is : IsFirstAt state d.file h.0 x) → (IsTaken files d.file h.0 (named state.names x.name) → ⊥) → IsUnitFinding files (function_of state.names x) d.diag → In d (all_findings state)
      at_unit x is free finding = by (tree.get byte_order state.files d.file) refl
        where
          given : first_finding state d.file h.0 (first_in is.unit.start is.unit.tree) ≡ Some d.diag
          given =
              ap (first_finding state d.file h.0) is.first
              ∙ ap (λ b. cond b (finding_for state.names x (type_found state x.returned)) None) (free_there state files stands firsts d.file h.0 x is free)
              ∙ finding_given d.file h.0 x is d.diag finding

          by : (o : Option File) → tree.get byte_order state.files d.file ≡ o → In d (all_findings state)
          by None e = absurd (let clash : ◌≡◌ {A = Option (List UnitOf)} None (Some is.is_at.units) = ap units_kept (sym e) ∙ is.is_at.there in cc)
          by (Some file) e = found_in_file d.file file d e (parsed file.parsed (ap units_kept (sym e) ∙ is.is_at.there))
            where
              parsed : (p : Parsed) → units_in p ≡ Some is.is_at.units → In d (parsed_findings state d.file p)
              parsed (Fault place code) q = absurd cc
              parsed (Tree read) q =
                  let same : read.units ≡ is.is_at.units = cc in
                  let number : 0 + h.0 ≡ h.0 = omega arith in
                  units_in_findings state d.file 0 h.0 read.units is.unit d.diag (ap (λ us. slice_get us h.0) same ∙ is.is_at.at)
                  (ap (λ n. first_finding state d.file n (first_in is.unit.start is.unit.tree)) number ∙ given)

  found : (d : FileDiag) → IsFinding files d → In d (all_findings state)
  found d (inl fault) = fault_found d fault
  found d (inr (inl lost)) = taken_found d lost
  found d (inr (inr counted)) = counted_found d counted

  -- all findings in order are the report
  pub is_report : (list report : List FileDiag) → list ≡ all_findings state → IsReport (λ d. Contains list d) report → IsFirstReport files report
  is_report list report is ordered = record {
    rising = ordered.rising;
    exactly = λ d. (
      λ here. holds d (contains_in (all_findings state) d (subst (λ l. Contains l d) is ((ordered.exactly d).0 here))),
      λ finding. (ordered.exactly d).1 (subst (λ l. Contains l d) (sym is) (in_contains (all_findings state) d (found d finding))),
    );
  }
