-- Which files a state counts as others, and whether all are first units or have no tree.
use Rattle.std.proofs.Common.{◌≡◌, ◌≢◌, ℕ, List, [], ◌∷◌, Option, None, Some, refl, sym, ap, subst, ◌∙◌, inl, inr, map, arith}
use Rattle.std.specs.Prelude.{is_some}
use Rattle.std.specs.BTreeMap as tree
use Rattle.std.specs.FinMap as finite
use Rattle.std.proofs.lemmas.Cmp.{nat_list_cmp_total}
use Rattle.hack_base.specs.Files.{Files, byte_order}
use Rattle.hack_names.proofs.Rising.{In, in_from_lookup, lookup_from_in, rises_from_sorted}
use Rattle.hack_first.specs.declared.unit.FirstUnit.{FirstUnit}
use Rattle.hack_first.specs.FirstTrees.{first_units}
use Rattle.hack_first.specs.Functions.{function_of}
use Rattle.check_state.specs.declared.file.File.{File}
use Rattle.check_state.specs.declared.file.Parsed.{Parsed}
use Rattle.check_state.specs.declared.file.Parsed.TheVariants.{Tree, Fault}
use Rattle.check_state.specs.declared.state.State.{State}
use Rattle.check_state.specs.Findings.{AreFirst, IsFirst}
use Rattle.check_state.specs.Stands.{Stands, IsRead, IsParsed, named_sum, others_in}
use Rattle.hack_parse_file.proofs.OneTree.{no_fault_of_tree}
use Rattle.hack_first.proofs.UnitLaws.{body_is_tree}
use Rattle.check_state.proofs.Standing.{others_of, some_kept, kept_some, one_unless}
use Rattle.check_state.proofs.Sums.{names_same, own, sum-cons, own-named}

-- ---- sums that are 0

each_zero : {X : Type 0} (weight : X → ℕ) (es : List (List ℕ × X)) → named_sum weight es ≡ 0 → (e : List ℕ × X) → In e es → e.0 ≢ [] → weight e.1 ≡ 0
each_zero weight [] zero e here named = absurd here
each_zero {X} weight (f ∷ es) zero e (inl same) named =
    subst (λ (g : List ℕ × X). g.0 ≢ [] → weight g.1 ≡ 0) (sym same) (λ there. omega (arith, zero, sum-cons weight f.0 f.1 es, own-named weight f.0 f.1 there)) named
each_zero weight (f ∷ es) zero e (inr later) named = each_zero weight es (omega (arith, zero, sum-cons weight f.0 f.1 es)) e later named

all_zero : {X : Type 0} (weight : X → ℕ) (es : List (List ℕ × X)) → ((e : List ℕ × X) → In e es → e.0 ≢ [] → weight e.1 ≡ 0) → named_sum weight es ≡ 0
all_zero weight [] each = refl
all_zero weight (f ∷ es) each =
    omega (arith, sum-cons weight f.0 f.1 es, all_zero weight es (λ e here. each e (inr here)), by f.0 (each f (inl refl)))
  where
    by : (name : List ℕ) → (name ≢ [] → weight f.1 ≡ 0) → own weight name f.1 ≡ 0
    by [] h = refl
    by (b ∷ name) h = h (λ e. cc)

-- ---- one file

is_first : (names : List (List ℕ)) (body : List ℕ) (file : File) → IsRead names body file → others_of file ≡ 0 → IsFirst body
is_first names body file is zero = by file.parsed is.parsed zero
  where
    by : (parsed : Parsed) → IsParsed names body parsed → others_in parsed ≡ 0 → IsFirst body
    by (Fault place code) fault zero = inr (place, code, fault)
    by (Tree read) there zero = found (first_units read.units) refl zero
      where
        found : (firsts : Option (List FirstUnit)) → first_units read.units ≡ firsts → one_unless (is_some firsts) ≡ 0 → IsFirst body
        found None e zero = absurd (omega (arith, zero))
        found (Some firsts) e zero = inl (map (function_of names) firsts, (body_is_tree names body read (map (function_of names) firsts) is.short there).1 (firsts, e, refl))

not_other : (names : List (List ℕ)) (body : List ℕ) (file : File) → IsRead names body file → IsFirst body → others_of file ≡ 0
not_other names body file is first = by file.parsed is.parsed first
  where
    by : (parsed : Parsed) → IsParsed names body parsed → IsFirst body → others_in parsed ≡ 0
    by (Fault place code) fault first = refl
    by (Tree read) there (inl body_is) =
        let firsts = (body_is_tree names body read body_is.0 is.short there).0 body_is.1 in
        ap (λ o. one_unless (is_some o)) firsts.1
    by (Tree read) there (inr fault) = absurd (no_fault_of_tree names body read fault.0 fault.1 there fault.2)

-- ---- all files

pub are_first_from : (state : State) (files : Files) → Stands state files → state.others ≡ 0 → AreFirst files
are_first_from state files stands zero name body there named =
    let file = kept_some state.names (finite.get files name) (tree.get byte_order state.files name) body (stands.kept name) there in
    let here = in_from_lookup byte_order names_same name file.0 state.files.entries file.1 in
    is_first state.names body file.0 file.2 (each_zero others_of state.files.entries (sym stands.others ∙ zero) (name, file.0) here named)

pub none_other : (state : State) (files : Files) → Stands state files → AreFirst files → state.others ≡ 0
none_other state files stands first = stands.others ∙ all_zero others_of state.files.entries (λ e here named. each e here named)
  where
    each : (e : List ℕ × File) → In e state.files.entries → e.0 ≢ [] → others_of e.1 ≡ 0
    each e here named =
        let found = lookup_from_in byte_order nat_list_cmp_total e.0 e.1 state.files.entries (rises_from_sorted byte_order state.files.entries stands.ordered) here in
        let body = some_kept state.names (finite.get files e.0) (tree.get byte_order state.files e.0) e.1 (stands.kept e.0) found in
        not_other state.names body.0 e.1 body.2 (first e.0 body.0 body.1 named)
