-- A list that was sorted, and of which each diagnostic was then left once, is the report of the list.
use Rattle.std.proofs.Common.{◌≡◌, Bool, true, List, [], refl, sym, ◌∙◌, subst}
use Rattle.std.specs.Prelude.{Contains}
use Rattle.std.specs.List.{dedup}
use Rattle.std.specs.List.Retain.{IsFiltered, DiffersFromLast}
use Rattle.std.specs.List.Sorted.{IsPermutation, IsSorted}
use Rattle.std.specs.Cmp.{IsEquivalence, Equal-is, eq_by_cmp_equiv}
use Rattle.std.specs.FinMap.{slice_cmp-IsAntisymmetric, nat_cmp-IsAntisymmetric}
use Rattle.std.specs.Ordering.{nat_cmp, ordering_then}
use Rattle.std.specs.declared.cmp.Ordering.{Ordering}
use Rattle.std.specs.declared.cmp.Ordering.TheVariants.{Less, Equal, Greater}
use Rattle.std.proofs.lemmas.List.Filters.{dedup_is}
use Rattle.std.proofs.lemmas.List.Kept.{Contains-dedup, Contains-from_dedup, IsStrictlySortedBy-dedup}
use Rattle.std.proofs.lemmas.List.Sorted.{Contains-permutation, IsPermutation-sym}
use Rattle.std.proofs.lemmas.Map.Keys.{Less-from_sorted}
use Rattle.hack_base.specs.Files.{byte_order}
use Rattle.hack_types.specs.declared.diag.FileDiag.{FileDiag}
use Rattle.hack_types.specs.contracts.diag.FileDiagPartialEq.TheImpl as derived
use Rattle.hack_types.specs.contracts.diag.FileDiagOrd.TheImpl.Laws.{total-law, matches_eq-law}
use Rattle.hack_types.specs.Report.{place_order, report_order, IsReport}

-- two orders that tell nothing apart between them tell nothing apart each
both_equal : (s t : Ordering) → ordering_then s t ≡ Equal → (s ≡ Equal) × (t ≡ Equal)
both_equal Less t e = absurd cc
both_equal Equal t e = (refl, e)
both_equal Greater t e = absurd cc

-- the order of a report tells any two diagnostics apart
equal_is : (a b : FileDiag) → report_order a b ≡ Equal → a ≡ b
equal_is a b e =
    let file = both_equal (byte_order a.file b.file) _ e in
    let place = both_equal (place_order a.diag.at b.diag.at) _ file.1 in
    let line = both_equal (nat_cmp a.diag.at.line b.diag.at.line) _ place.0 in
    let code = both_equal (nat_cmp a.diag.code b.diag.code) _ place.1 in
    let same_file : a.file ≡ b.file = slice_cmp-IsAntisymmetric nat_cmp-IsAntisymmetric _ _ file.0 in
    let same_line : a.diag.at.line ≡ b.diag.at.line = nat_cmp-IsAntisymmetric _ _ line.0 in
    let same_column : a.diag.at.column ≡ b.diag.at.column = nat_cmp-IsAntisymmetric _ _ line.1 in
    let same_code : a.diag.code ≡ b.diag.code = nat_cmp-IsAntisymmetric _ _ code.0 in
    let same_text : a.diag.text ≡ b.diag.text = slice_cmp-IsAntisymmetric nat_cmp-IsAntisymmetric _ _ code.1 in
    λ i. record { file = same_file i; diag = record { at = record { line = same_line i; column = same_column i }; code = same_code i; text = same_text i } }

-- `==` of diagnostics
abbrev same : FileDiag → FileDiag → Bool
same = (derived.ghosts).eq

same_is : (a b : FileDiag) → same a b ≡ true → a ≡ b
same_is a b e = equal_is a b ((Equal-is (report_order a b)).0 (sym (matches_eq-law a b) ∙ e))

same_equivalence : IsEquivalence same
same_equivalence = subst IsEquivalence (λ i a b. sym (matches_eq-law a b) i) (eq_by_cmp_equiv total-law)

pub is_report : (list sorted report : List FileDiag) → IsPermutation list sorted → IsSorted report_order sorted → IsFiltered (DiffersFromLast same) [] sorted report → IsReport (λ d. Contains list d) report
is_report list sorted report moved is_sorted once =
    subst (IsReport (λ d. Contains list d)) (sym (dedup_is same sorted report once)) (record {
      rising = λ i j d before inside. Less-from_sorted report_order (dedup same sorted) i j d (IsStrictlySortedBy-dedup total-law matches_eq-law sorted is_sorted) before inside;
      exactly = λ d. (
        λ h. Contains-permutation sorted list d (IsPermutation-sym list sorted moved) (Contains-from_dedup same sorted d h),
        λ h. Contains-dedup same_equivalence same_is sorted d (Contains-permutation list sorted d moved h),
      );
    })
