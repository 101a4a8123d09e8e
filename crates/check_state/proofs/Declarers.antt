-- What the files declare, as a state knows it: which first units count, and what those that are called result in.
use Rattle.std.proofs.Common.{◌≡◌, ◌≢◌, ◌≤◌, ◌<◌, ◌^◌, ℕ, zero, suc, List, [], ◌∷◌, length, Option, None, Some, Bool, true, false, refl, sym, ap, subst, ◌∙◌, inl, inr, arith}
use Rattle.std.specs.Prelude.{slice_get, ◌&&◌, nat_eq}
use Rattle.std.specs.BTreeMap as tree
use Rattle.std.specs.FinMap as finite
use Rattle.std.specs.List.{AllByRecursion}
use Rattle.std.specs.Option.{option_map}
use Rattle.std.specs.Ordering.{is_gt}
use Rattle.std.specs.Str.{bytes_eq}
use Rattle.std.specs.Cmp.Lexicographic.{nat_list_eq_equiv}
use Rattle.std.specs.declared.cmp.Ordering.{Ordering}
use Rattle.std.specs.declared.cmp.Ordering.TheVariants.{Less, Equal, Greater}
use Rattle.std.proofs.lemmas.Bool.{eqb-true, eq-eqb}
use Rattle.std.proofs.lemmas.Option.{slice_get-map}
use Rattle.std.proofs.lemmas.Slice.Eq.{bytes_eq-Decides}
use Rattle.hack_base.specs.Files.{Files, byte_order}
use Rattle.hack_builtin.specs.Builtin.{builtin_text}
use Rattle.hack_types.specs.Report.{place_order}
use Rattle.hack_types.specs.declared.ids.Kind.{Kind}
use Rattle.hack_types.specs.declared.ids.Kind.TheVariants.{Class, Func}
use Rattle.hack_types.specs.declared.ids.SymbolId.{SymbolId}
use Rattle.hack_tree.specs.declared.declaration.FileTree.{FileTree}
use Rattle.hack_tree.specs.declared.declaration.Unit.{Unit as UnitOf}
use Rattle.hack_names.specs.declared.unit.UnitHead.{UnitHead}
use Rattle.hack_names.specs.Declarations.{Declaration, declarations, winner}
use Rattle.hack_names.proofs.Rising.{In}
use Rattle.hack_parse_file.specs.Files.{IsTree}
use Rattle.hack_parse_file.specs.Lexemes.{IsIdOf}
use Rattle.hack_first.specs.declared.unit.FirstUnit.{FirstUnit}
use Rattle.hack_first.specs.declared.unit.Primitive.{Primitive}
use Rattle.hack_first.specs.declared.unit.Returned.TheVariants.{Call}
use Rattle.hack_first.specs.FirstTrees.{first_in, first_units, and_more}
use Rattle.hack_first.specs.Functions.{Function, function_of, named}
use Rattle.check_state.specs.declared.file.File.{File}
use Rattle.check_state.specs.declared.file.Parsed.{Parsed}
use Rattle.check_state.specs.declared.file.Parsed.TheVariants.{Tree, Fault}
use Rattle.check_state.specs.declared.state.State.{State}
use Rattle.check_state.specs.Findings.{Declares, IsBefore, IsTaken, HasResult, AreFirst, IsFirst}
use Rattle.check_state.specs.Inside.{function_symbol, first_in_units, first_in_parsed, first_kept, result_in, declared_result, result_at, is_there}
use Rattle.check_state.specs.Stands.{Stands, IsKept, IsRead, IsParsed, head_of, heads_from, heads_in, heads_kept}
use Rattle.hack_parse_file.proofs.OneTree.{no_fault_of_tree}
use Rattle.hack_first.proofs.UnitLaws.{body_is_tree, fault_is_no_body, unit_is_function, name_id, call_id, units_in_order}
use Rattle.check_state.proofs.BuiltinTree.{builtin_units}
use Rattle.check_state.proofs.Declared.{Ascends, Counts, found_counts, counts_found}
use Rattle.check_state.proofs.Listed.{InOrder, in_file, is_unit, unit_is, ascends}
use Rattle.check_state.proofs.Standing.{kept_some}

-- ---- the units that are kept of a file

abbrev pub units_in : Parsed → Option (List UnitOf)
units_in (Tree read) = Some read.units
units_in (Fault place code) = None

abbrev pub units_kept : Option File → Option (List UnitOf)
units_kept None = None
units_kept (Some file) = units_in file.parsed

heads_are : (o : Option File) → heads_kept o ≡ option_map (heads_from 0) (units_kept o)
heads_are None = refl
heads_are (Some file) = by file.parsed
  where
    by : (parsed : Parsed) → heads_in parsed ≡ option_map (heads_from 0) (units_in parsed)
    by (Tree read) = refl
    by (Fault place code) = refl

-- the tree whose units they are
record HasTree (names : List (List ℕ)) (body : Option (List ℕ)) (us : List UnitOf) : Type 0 where
  read : FileTree
  units : read.units ≡ us
  text : List ℕ
  there : body ≡ Some text
  short : length text ≤ 2 ^ 20
  is : IsTree names text read

has_tree : (names : List (List ℕ)) (body : Option (List ℕ)) (o : Option File) (us : List UnitOf) → IsKept names body o → units_kept o ≡ Some us → HasTree names body us
has_tree names body None us is e = absurd cc
has_tree names None (Some file) us is e = absurd is
has_tree names (Some text) (Some file) us is e = by file.parsed is.parsed e
  where
    by : (parsed : Parsed) → IsParsed names text parsed → units_in parsed ≡ Some us → HasTree names (Some text) us
    by (Tree read) there e = let same : read.units ≡ us = cc in record { read = read; units = same; text = text; there = refl; short = is.short; is = there }
    by (Fault place code) there e = absurd cc

first_of_kept : (o : Option File) (us : List UnitOf) (i : ℕ) → units_kept o ≡ Some us → first_kept o i ≡ first_in_units (slice_get us i)
first_of_kept None us i e = absurd cc
first_of_kept (Some file) us i e = by file.parsed e
  where
    by : (parsed : Parsed) → units_in parsed ≡ Some us → first_in_parsed parsed i ≡ first_in_units (slice_get us i)
    by (Tree read) e = let same : read.units ≡ us = cc in ap (λ vs. first_in_units (slice_get vs i)) same
    by (Fault place code) e = absurd cc

-- ---- units in order

in_slice : {A : Type 0} (xs : List A) (x : A) → In x xs → (i : ℕ) × (slice_get xs i ≡ Some x)
in_slice [] x here = absurd here
in_slice (y ∷ ys) x (inl same) = (0, ap Some (sym same))
in_slice (y ∷ ys) x (inr later) = let rest = in_slice ys x later in (suc rest.0, rest.1)

not_greater : (o : Ordering) → o ≢ Greater → is_gt o ≡ false
not_greater Less h = refl
not_greater Equal h = refl
not_greater Greater h = absurd (h refl)

in_order : (us : List UnitOf) → ((i j : ℕ) (u v : UnitOf) → i < j → slice_get us i ≡ Some u → slice_get us j ≡ Some v → place_order u.start v.start ≢ Greater) → InOrder us
in_order [] law = tt
in_order (u ∷ us) law = (
  λ v here. let there = in_slice us v here in not_greater (place_order u.start v.start) (law 0 (suc there.0) u v (omega arith) refl there.1),
  in_order us (λ i j v w before one two. law (suc i) (suc j) v w (omega (arith, before)) one two),
)

-- ---- all of them first units

firsts_at : (us : List UnitOf) (firsts : List FirstUnit) (i : ℕ) (x : FirstUnit) → first_units us ≡ Some firsts → slice_get firsts i ≡ Some x → (u : UnitOf) × (slice_get us i ≡ Some u) × (first_in u.start u.tree ≡ Some x)
firsts_at [] firsts i x e at = let same : [] ≡ firsts = cc in absurd (let none : slice_get [] i ≡ Some x = subst (λ xs. slice_get xs i ≡ Some x) (sym same) at in cc)
firsts_at (u ∷ us) firsts i x e at = by (first_in u.start u.tree) refl (first_units us) refl e (λ rest k same there. firsts_at us rest k x same there)
  where
    by : (o : Option FirstUnit) → first_in u.start u.tree ≡ o → (rest : Option (List FirstUnit)) → first_units us ≡ rest → and_more o rest ≡ Some firsts
        → ((xs : List FirstUnit) (k : ℕ) → first_units us ≡ Some xs → slice_get xs k ≡ Some x → (v : UnitOf) × (slice_get us k ≡ Some v) × (first_in v.start v.tree ≡ Some x))
        → (v : UnitOf) × (slice_get (u ∷ us) i ≡ Some v) × (first_in v.start v.tree ≡ Some x)
    by None p rest q e later = absurd cc
    by (Some y) p None q e later = absurd cc
    by (Some y) p (Some xs) q e later = at_index i (subst (λ zs. slice_get zs i ≡ Some x) (sym same) at)
      where
        same : y ∷ xs ≡ firsts
        same = cc

        at_index : (k : ℕ) → slice_get (y ∷ xs) k ≡ Some x → (v : UnitOf) × (slice_get (u ∷ us) k ≡ Some v) × (first_in v.start v.tree ≡ Some x)
        at_index zero there = let is : y ≡ x = cc in (u, refl, p ∙ ap Some is)
        at_index (suc k) there = let h = later xs k q there in (h.0, h.1, h.2)

firsts_all : (us : List UnitOf) (firsts : List FirstUnit) (i : ℕ) (u : UnitOf) → first_units us ≡ Some firsts → slice_get us i ≡ Some u → (x : FirstUnit) × (slice_get firsts i ≡ Some x) × (first_in u.start u.tree ≡ Some x)
firsts_all [] firsts i u e at = absurd cc
firsts_all (v ∷ us) firsts i u e at = by (first_in v.start v.tree) refl (first_units us) refl e (λ rest k same there. firsts_all us rest k u same there)
  where
    by : (o : Option FirstUnit) → first_in v.start v.tree ≡ o → (rest : Option (List FirstUnit)) → first_units us ≡ rest → and_more o rest ≡ Some firsts
        → ((xs : List FirstUnit) (k : ℕ) → first_units us ≡ Some xs → slice_get us k ≡ Some u → (x : FirstUnit) × (slice_get xs k ≡ Some x) × (first_in u.start u.tree ≡ Some x))
        → (x : FirstUnit) × (slice_get firsts i ≡ Some x) × (first_in u.start u.tree ≡ Some x)
    by None p rest q e later = absurd cc
    by (Some y) p None q e later = absurd cc
    by (Some y) p (Some xs) q e later = let same : y ∷ xs ≡ firsts = cc in subst (λ zs. (x : FirstUnit) × (slice_get zs i ≡ Some x) × (first_in u.start u.tree ≡ Some x)) same (at_index i at)
      where
        at_index : (k : ℕ) → slice_get (v ∷ us) k ≡ Some u → (x : FirstUnit) × (slice_get (y ∷ xs) k ≡ Some x) × (first_in u.start u.tree ≡ Some x)
        at_index zero there = let is : v ≡ u = cc in (y, refl, ap (λ (w : UnitOf). first_in w.start w.tree) (sym is) ∙ p)
        at_index (suc k) there = let h = later xs k q there in (h.0, h.1, h.2)

-- an id is that of one text
same_id : (names : List (List ℕ)) (text : List ℕ) (a b : ℕ) → IsIdOf names text a → IsIdOf names text b → a ≡ b
same_id names text a b one two =
    let not_less : a < b → ⊥ = λ less. two.first a less one.there in
    let not_more : b < a → ⊥ = λ more. one.first b more two.there in
    omega (arith, not_less, not_more)

of_class : (us : List UnitOf) (i : ℕ) (u : UnitOf) → AllByRecursion (λ (v : UnitOf). v.symbol.kind ≡ Class) us → slice_get us i ≡ Some u → u.symbol.kind ≡ Class
of_class [] i u all at = absurd cc
of_class (v ∷ us) zero u all at = let same : v ≡ u = cc in subst (λ (w : UnitOf). w.symbol.kind ≡ Class) same all.0
of_class (v ∷ us) (suc i) u all at = of_class us i u all.1 at

-- ---- one state

-- a unit of a file
pub record IsUnitAt (state : State) (file : List ℕ) (i : ℕ) (u : UnitOf) : Type 0 where
  pub units : List UnitOf
  pub there : units_kept (tree.get byte_order state.files file) ≡ Some units
  pub at : slice_get units i ≡ Some u

-- one that is a first unit
pub record IsFirstAt (state : State) (file : List ℕ) (i : ℕ) (x : FirstUnit) : Type 0 where
  pub unit : UnitOf
  pub is_at : IsUnitAt state file i unit
  pub first : first_in unit.start unit.tree ≡ Some x

pub first_found : (state : State) (file : List ℕ) (i : ℕ) (x : FirstUnit) → IsFirstAt state file i x → first_kept (tree.get byte_order state.files file) i ≡ Some x
first_found state file i x is =
    first_of_kept (tree.get byte_order state.files file) is.is_at.units i is.is_at.there ∙ ap first_in_units is.is_at.at ∙ is.first

module _ (state : State) (files : Files) (stands : Stands state files) where
  root : (file : List ℕ) (i : ℕ) (u : UnitOf) (is : IsUnitAt state file i u) → HasTree state.names (finite.get files file) is.units
  root file i u is = has_tree state.names (finite.get files file) (tree.get byte_order state.files file) is.units (stands.kept file) is.there

  at_root : (file : List ℕ) (i : ℕ) (u : UnitOf) (is : IsUnitAt state file i u) → slice_get (root file i u is).read.units i ≡ Some u
  at_root file i u is = ap (λ us. slice_get us i) (root file i u is).units ∙ is.at

  units_at : List ℕ → Option (List UnitOf)
  units_at file = units_kept (tree.get byte_order state.files file)

  table_has : (file : List ℕ) → finite.get state.table file ≡ option_map (heads_from 0) (units_kept (tree.get byte_order state.files file))
  table_has file = stands.table file ∙ heads_are (tree.get byte_order state.files file)

  table_order : (file : List ℕ) (us : List UnitOf) → units_kept (tree.get byte_order state.files file) ≡ Some us → InOrder us
  table_order file us there =
      let h = has_tree state.names (finite.get files file) (tree.get byte_order state.files file) us (stands.kept file) there in
      subst InOrder h.units (in_order h.read.units (λ i j u v before one two. units_in_order state.names h.text h.read i j u v h.is before one two))

  pub in_table : Ascends (declarations state.table)
  in_table = ascends state.table (λ file. units_kept (tree.get byte_order state.files file)) table_has table_order

  -- ---- units and declarations

  pub declared_unit : (d : Declaration) → In d (declarations state.table) → (u : UnitOf) × IsUnitAt state d.file d.head.index u × (d.head ≡ head_of d.head.index u)
  declared_unit d here =
      let h = is_unit state.table (λ file. units_kept (tree.get byte_order state.files file)) table_has table_order d here in
      (h.1, record { units = h.0; there = h.2; at = h.3 }, h.4)

  pub unit_declared : (file : List ℕ) (i : ℕ) (u : UnitOf) → IsUnitAt state file i u → In (in_file file (head_of i u)) (declarations state.table)
  unit_declared file i u is = unit_is state.table (λ file. units_kept (tree.get byte_order state.files file)) table_has table_order file is.units i u is.there is.at

  -- what is declared as a function isn't in the builtin text
  pub in_a_file : (file : List ℕ) (i : ℕ) (u : UnitOf) → IsUnitAt state file i u → u.symbol.kind ≡ Func → file ≢ []
  in_a_file file i u is func builtin =
      let h = root file i u is in
      let both : ◌≡◌ {A = Option (List ℕ)} (Some h.text) (Some builtin_text) = sym h.there ∙ ap (finite.get files) builtin ∙ stands.builtin in
      let text : h.text ≡ builtin_text = cc in
      let class = of_class h.read.units i u (builtin_units state.names h.read (subst (λ t. IsTree state.names t h.read) text h.is)) (at_root file i u is) in
      let clash : ◌≡◌ {A = Kind} Func Class = sym func ∙ class in
      cc

  pub symbol_of : (file : List ℕ) (i : ℕ) (x : FirstUnit) (is : IsFirstAt state file i x) → is.unit.symbol ≡ function_symbol x.name
  symbol_of file i x is = (unit_is_function state.names (root file i is.unit is.is_at).text (root file i is.unit is.is_at).read i is.unit x (root file i is.unit is.is_at).is (at_root file i is.unit is.is_at) is.first).0

  pub name_place : (file : List ℕ) (i : ℕ) (x : FirstUnit) (is : IsFirstAt state file i x) → x.name_at ≡ is.unit.name_at
  name_place file i x is = (unit_is_function state.names (root file i is.unit is.is_at).text (root file i is.unit is.is_at).read i is.unit x (root file i is.unit is.is_at).is (at_root file i is.unit is.is_at) is.first).1

  pub id_of : (file : List ℕ) (i : ℕ) (x : FirstUnit) (is : IsFirstAt state file i x) → IsIdOf state.names (named state.names x.name) x.name
  id_of file i x is = name_id state.names (root file i is.unit is.is_at).text (root file i is.unit is.is_at).read i is.unit x (root file i is.unit is.is_at).is (at_root file i is.unit is.is_at) is.first

  pub call_id_of : (file : List ℕ) (i : ℕ) (x : FirstUnit) (is : IsFirstAt state file i x) (n : ℕ) → x.returned ≡ Call n → IsIdOf state.names (named state.names n) n
  call_id_of file i x is n calls = call_id state.names (root file i is.unit is.is_at).text (root file i is.unit is.is_at).read i is.unit x n (root file i is.unit is.is_at).is (at_root file i is.unit is.is_at) is.first calls

  module _ (firsts : AreFirst files) where
    -- ---- first units and functions

    -- a unit of a file of the script is a first unit, of a function that is declared there
    pub record IsFunctionAt (file : List ℕ) (i : ℕ) (u : UnitOf) : Type 0 where
      pub x : FirstUnit
      pub first : first_in u.start u.tree ≡ Some x
      pub declares : Declares files file i (function_of state.names x)

    pub all_first : (file : List ℕ) (i : ℕ) (u : UnitOf) → IsUnitAt state file i u → file ≢ [] → IsFunctionAt file i u
    all_first file i u is named_file = by (firsts file (root file i u is).text (root file i u is).there named_file)
      where
        by : IsFirst (root file i u is).text → IsFunctionAt file i u
        by (inl body) =
            let h = root file i u is in
            let list = (body_is_tree state.names h.text h.read body.0 h.short h.is).0 body.1 in
            let x = firsts_all h.read.units list.0 i u list.1 (at_root file i u is) in
            record {
              x = x.0;
              first = x.2;
              declares = record {
                body = h.text;
                functions = body.0;
                there = h.there;
                read = body.1;
                at_index = ap (λ fs. slice_get fs i) list.2 ∙ slice_get-map (function_of state.names) list.0 i ∙ ap (option_map (function_of state.names)) x.1;
              };
            }
        by (inr fault) = absurd (no_fault_of_tree state.names (root file i u is).text (root file i u is).read fault.0 fault.1 (root file i u is).is fault.2)

    pub first_declares : (file : List ℕ) (i : ℕ) (x : FirstUnit) → IsFirstAt state file i x → Declares files file i (function_of state.names x)
    first_declares file i x is =
        let func : is.unit.symbol.kind ≡ Func = ap (λ (s : SymbolId). s.kind) (symbol_of file i x is) in
        let h = all_first file i is.unit is.is_at (in_a_file file i is.unit is.is_at func) in
        let both : Some h.x ≡ Some x = sym h.first ∙ is.first in
        let same : h.x ≡ x = cc in
        subst (λ y. Declares files file i (function_of state.names y)) same h.declares

  -- what is declared is a first unit
  pub record IsDeclaredBy (file : List ℕ) (i : ℕ) (f : Function) : Type 0 where
    pub x : FirstUnit
    pub is : IsFirstAt state file i x
    pub function : f ≡ function_of state.names x

  pub declares_first : (file : List ℕ) (i : ℕ) (f : Function) → Declares files file i f → IsDeclaredBy file i f
  declares_first file i f d =
      let kept = kept_some state.names (finite.get files file) (tree.get byte_order state.files file) d.body (stands.kept file) d.there in
      by kept.0 kept.1 kept.2 kept.0.parsed refl kept.2.parsed
    where
      by : (file' : File) → tree.get byte_order state.files file ≡ Some file' → IsRead state.names d.body file' → (parsed : Parsed) → file'.parsed ≡ parsed → IsParsed state.names d.body parsed → IsDeclaredBy file i f
      by file' there read (Fault place code) e fault = absurd (fault_is_no_body d.body place code d.functions read.short fault d.read)
      by file' there read (Tree t) e is =
          let list = (body_is_tree state.names d.body t d.functions read.short is).0 d.read in
          mapped list.0 list.1 (sym (slice_get-map (function_of state.names) list.0 i) ∙ ap (λ fs. slice_get fs i) (sym list.2) ∙ d.at_index) (slice_get list.0 i) refl
        where
          mapped : (xs : List FirstUnit) → first_units t.units ≡ Some xs → option_map (function_of state.names) (slice_get xs i) ≡ Some f → (o : Option FirstUnit) → slice_get xs i ≡ o → IsDeclaredBy file i f
          mapped xs all at None q = absurd (let none : ◌≡◌ {A = Option Function} None (Some f) = ap (option_map (function_of state.names)) (sym q) ∙ at in cc)
          mapped xs all at (Some x) q =
              let both : Some (function_of state.names x) ≡ Some f = ap (option_map (function_of state.names)) (sym q) ∙ at in
              let same : function_of state.names x ≡ f = cc in
              let u = firsts_at t.units xs i x all q in
              record {
                x = x;
                is = record {
                  unit = u.0;
                  is_at = record { units = t.units; there = ap units_kept there ∙ ap units_in e; at = u.1 };
                  first = u.2;
                };
                function = sym same;
              }

  -- ---- names

  -- a declared function of this name is a first unit of its id
  pub record IsNamedBy (file : List ℕ) (i n : ℕ) (f : Function) : Type 0 where
    pub x : FirstUnit
    pub is : IsFirstAt state file i x
    pub function : f ≡ function_of state.names x
    pub name : x.name ≡ n

  pub named_by : (file : List ℕ) (i n : ℕ) (f : Function) → IsIdOf state.names (named state.names n) n → Declares files file i f → f.name ≡ named state.names n → IsNamedBy file i n f
  named_by file i n f id declares name =
      let h = declares_first file i f declares in
      let text : named state.names h.x.name ≡ named state.names n = ap (λ (g : Function). g.name) (sym h.function) ∙ name in
      record {
        x = h.x;
        is = h.is;
        function = h.function;
        name = same_id state.names (named state.names n) h.x.name n (subst (λ t. IsIdOf state.names t h.x.name) text (id_of file i h.x h.is)) id;
      }

  module _ (firsts : AreFirst files) where
    -- what is declared with the symbol of a function
    pub record IsOfName (d : Declaration) (n : ℕ) : Type 0 where
      pub x : FirstUnit
      pub is : IsFirstAt state d.file d.head.index x
      pub name : x.name ≡ n

    pub of_name : (d : Declaration) (n : ℕ) → In d (declarations state.table) → function_symbol n ≡ d.head.symbol → IsOfName d n
    of_name d n here symbol =
        let u = declared_unit d here in
        let is : u.0.symbol ≡ function_symbol n = ap (λ (h : UnitHead). h.symbol) (sym u.2) ∙ sym symbol in
        let h = all_first firsts d.file d.head.index u.0 u.1 (in_a_file d.file d.head.index u.0 u.1 (ap (λ (s : SymbolId). s.kind) is)) in
        let first : IsFirstAt state d.file d.head.index h.x = record { unit = u.0; is_at = u.1; first = h.first } in
        record { x = h.x; is = first; name = ap (λ (s : SymbolId). s.name) (sym (symbol_of d.file d.head.index h.x first) ∙ is) }

    -- ---- functions that are taken

    -- of this name one is declared before this place
    pub record HasEarlier (file : List ℕ) (i n : ℕ) : Type 0 where
      pub other : Declaration
      pub there : In other (declarations state.table)
      pub of : function_symbol n ≡ other.head.symbol
      pub before : IsBefore other.file other.head.index file i

    pub taken_earlier : (file : List ℕ) (i n : ℕ) → IsIdOf state.names (named state.names n) n → IsTaken files file i (named state.names n) → HasEarlier file i n
    taken_earlier file i n id taken =
        let h = named_by taken.other taken.at n taken.function id taken.declares taken.named in
        record {
          other = in_file taken.other (head_of taken.at h.is.unit);
          there = unit_declared taken.other taken.at h.is.unit h.is.is_at;
          of = sym (symbol_of taken.other taken.at h.x h.is ∙ ap function_symbol h.name);
          before = taken.before;
        }

    pub earlier_taken : (file : List ℕ) (i n : ℕ) → HasEarlier file i n → IsTaken files file i (named state.names n)
    earlier_taken file i n earlier =
        let h = of_name earlier.other n earlier.there earlier.of in
        record {
          other = earlier.other.file;
          at = earlier.other.head.index;
          function = function_of state.names h.x;
          declares = first_declares firsts earlier.other.file earlier.other.head.index h.x h.is;
          named = ap (named state.names) h.name;
          before = earlier.before;
        }

    -- ---- functions that count

    -- one that is declared and not taken counts
    pub counts_at : (file : List ℕ) (i : ℕ) (x : FirstUnit) (is : IsFirstAt state file i x) → (IsTaken files file i (named state.names x.name) → ⊥)
        → Counts (declarations state.table) (function_symbol x.name) (in_file file (head_of i is.unit))
    counts_at file i x is free = record {
      there = unit_declared file i is.unit is.is_at;
      of = sym (symbol_of file i x is);
      first = λ e there of before. free (earlier_taken file i x.name (record { other = e; there = there; of = of; before = before }));
    }

    pub free_of_counts : (d : Declaration) (n : ℕ) → IsIdOf state.names (named state.names n) n → Counts (declarations state.table) (function_symbol n) d → IsTaken files d.file d.head.index (named state.names n) → ⊥
    free_of_counts d n id counts taken =
        let h = taken_earlier d.file d.head.index n id taken in
        counts.first h.other h.there h.of h.before

    -- a unit is the one that counts exactly where it isn't taken
    same_bytes : (a b : List ℕ) → bytes_eq a b ≡ true → a ≡ b
    same_bytes a b e = (bytes_eq-Decides a b).0 e

    equal_bytes : (a : List ℕ) → bytes_eq a a ≡ true
    equal_bytes a = nat_list_eq_equiv.refl a

    pub there_free : (file : List ℕ) (i : ℕ) (x : FirstUnit) → IsFirstAt state file i x → is_there file i (winner state.table (function_symbol x.name)) ≡ true → IsTaken files file i (named state.names x.name) → ⊥
    there_free file i x is e = by (winner state.table (function_symbol x.name)) refl e
      where
        both : (a b : Bool) → (a && b) ≡ true → (a ≡ true) × (b ≡ true)
        both true b e = (refl, e)
        both false b e = absurd cc

        by : (o : Option Declaration) → winner state.table (function_symbol x.name) ≡ o → is_there file i o ≡ true → IsTaken files file i (named state.names x.name) → ⊥
        by None w e taken = absurd cc
        by (Some d) w e taken =
            let parts = both (bytes_eq d.file file) (nat_eq d.head.index i) e in
            let same_file = same_bytes d.file file parts.0 in
            let same_index = eqb-true d.head.index i parts.1 in
            free_of_counts d x.name (id_of file i x is) (found_counts (function_symbol x.name) (declarations state.table) d in_table w)
            (subst (λ name. IsTaken files name d.head.index (named state.names x.name)) (sym same_file) (subst (λ n. IsTaken files file n (named state.names x.name)) (sym same_index) taken))

    pub free_there : (file : List ℕ) (i : ℕ) (x : FirstUnit) → IsFirstAt state file i x → (IsTaken files file i (named state.names x.name) → ⊥) → is_there file i (winner state.table (function_symbol x.name)) ≡ true
    free_there file i x is free =
        let won = counts_found (function_symbol x.name) (declarations state.table) (in_file file (head_of i is.unit)) in_table (counts_at file i x is free) in
        ap (is_there file i) won ∙ (λ j. equal_bytes file j && eq-eqb i i refl j)

    -- ---- results

    pub result_has : (n : ℕ) (r : Primitive) → IsIdOf state.names (named state.names n) n → result_at state n ≡ Some r → HasResult files (named state.names n) r
    result_has n r id e = by (winner state.table (function_symbol n)) refl e
      where
        by : (o : Option Declaration) → winner state.table (function_symbol n) ≡ o → declared_result state o ≡ Some r → HasResult files (named state.names n) r
        by None w e = absurd cc
        by (Some d) w e =
            let counts = found_counts (function_symbol n) (declarations state.table) d in_table w in
            let h = of_name d n counts.there counts.of in
            let both : Some h.x.result ≡ Some r = ap result_in (sym (first_found state d.file d.head.index h.x h.is)) ∙ e in
            let same : h.x.result ≡ r = cc in
            record {
              file = d.file;
              index = d.head.index;
              function = function_of state.names h.x;
              declares = first_declares firsts d.file d.head.index h.x h.is;
              named = ap (named state.names) h.name;
              counts = free_of_counts d n id counts;
              results = same;
            }

    pub has_result : (n : ℕ) (r : Primitive) → IsIdOf state.names (named state.names n) n → HasResult files (named state.names n) r → result_at state n ≡ Some r
    has_result n r id has =
        let h = named_by has.file has.index n has.function id has.declares has.named in
        let free : IsTaken files has.file has.index (named state.names h.x.name) → ⊥ = λ taken. has.counts (subst (λ m. IsTaken files has.file has.index (named state.names m)) h.name taken) in
        let won = counts_found (function_symbol h.x.name) (declarations state.table) (in_file has.file (head_of has.index h.is.unit)) in_table (counts_at has.file has.index h.x h.is free) in
        let result : h.x.result ≡ r = ap (λ (f : Function). f.result) (sym h.function) ∙ has.results in
        ap (λ m. declared_result state (winner state.table (function_symbol m))) (sym h.name) ∙ ap (declared_result state) won ∙ ap result_in (first_found state has.file has.index h.x h.is) ∙ ap Some result
