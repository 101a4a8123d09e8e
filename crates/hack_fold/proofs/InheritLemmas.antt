-- What a class has of its parents one after the other is what it has of all of them.
use Rattle.std.proofs.Common.{◌≡◌, ◌&&◌, ◌||◌, not, ℕ, Bool, true, false, Option, Some, None, Result, Ok, Err, OnOk, List, [], ◌∷◌, ◌++◌, fold, flat_map, filter_map, is_some, refl, sym, ap, ◌∙◌}
use Rattle.std.proofs.lemmas.List.Sums.{fold-append}
use Rattle.std.specs.List.{list_all, list_any}
use Rattle.hack_types.specs.declared.shallow.ClassSig.{ClassSig}
use Rattle.hack_types.specs.declared.shallow.Member.{Member}
use Rattle.hack_types.specs.declared.shallow.Sort.{Sort}
use Rattle.hack_types.specs.declared.shallow.Sort.TheVariants as sort
use Rattle.hack_types.specs.declared.signature.TypeParam.{TypeParam}
use Rattle.hack_decls.specs.DeclState.{Map}
use Rattle.hack_decls.specs.declared.folded.Ancestor.{Ancestor}
use Rattle.hack_decls.specs.declared.folded.ClassFolded.{ClassFolded}
use Rattle.hack_fold.specs.inside.FromParents.{Known, ancestors_in, from_parents, known, members_in}
use Rattle.hack_fold.specs.inside.OneByOne.{SoFar, inherited, own_alone, with_parent, with_parents}
use Rattle.hack_fold.specs.Parents.{Parent, extends_sort, parents, placed}
use Rattle.hack_fold.specs.Walked.{with_ancestor, with_member}
use Rattle.hack_fold.proofs.Tests.{or_true}

abbrev pub parts : List Ancestor → List Member → Bool → SoFar
parts ancestors members partial = record { ancestors = ancestors; members = members; partial = partial }

abbrev pub class_with : ClassSig → Bool → List TypeParam → SoFar → ClassFolded
class_with sig cyclic type_params all = record {
  sort = sig.sort;
  is_abstract = sig.is_abstract;
  is_final = sig.is_final;
  cyclic = cyclic;
  partial = all.partial;
  type_params = type_params;
  ancestors = all.ancestors;
  members = all.members;
}

joined : (a b : List Ancestor) (m n : List Member) (p q : Bool) → a ≡ b → m ≡ n → p ≡ q → parts a m p ≡ parts b n q
joined a b m n p q ea em ep = ap (λ x. parts x m p) ea ∙ ap (λ x. parts b x p) em ∙ ap (λ x. parts b n x) ep

or_lacks : (p k b c : Bool) → ((p || k) || (not b || c)) ≡ (p || (not b || (k || c)))
or_lacks true k b c = refl
or_lacks false true true c = refl
or_lacks false true false c = refl
or_lacks false false b c = refl

module _ (declared : Map) (name : ℕ) where
  abbrev knowns : List Parent → List Known
  knowns ps = filter_map (known declared) ps

  abbrev lacking : List Parent → Bool
  lacking ps = not (list_all (λ p. is_some (known declared p)) ps) || list_any (λ (k : Known). k.class.partial) (knowns ps)

  abbrev onto : Option Known → List Known → List Known
  onto None ks = ks
  onto (Some k) ks = k ∷ ks

  abbrev all_given : SoFar → List Known → Bool → SoFar
  all_given before ks lack = parts (fold with_ancestor before.ancestors (flat_map ancestors_in ks)) (fold with_member before.members (flat_map (members_in name) ks)) (before.partial || lack)

  with_all : (ps : List Parent) (before : SoFar) → with_parents declared name before ps ≡ all_given before (knowns ps) (lacking ps)
  with_all [] before = ap (λ b. parts before.ancestors before.members b) (or_false before.partial)
    where
      or_false : (b : Bool) → b ≡ (b || false)
      or_false true = refl
      or_false false = refl
  with_all (p ∷ ps) before = by (known declared p) refl (with_all ps)
    where
      by : (o : Option Known) → known declared p ≡ o → ((b : SoFar) → with_parents declared name b ps ≡ all_given b (knowns ps) (lacking ps))
          → with_parents declared name before (p ∷ ps) ≡ all_given before (knowns (p ∷ ps)) (lacking (p ∷ ps))
      by None e more =
          ap (λ o. with_parents declared name (with_parent name before o) ps) e
          ∙ more (with_parent name before None)
          ∙ ap (λ b. parts (fold with_ancestor before.ancestors (flat_map ancestors_in (knowns ps))) (fold with_member before.members (flat_map (members_in name) (knowns ps))) b) (sym (or_true before.partial))
          ∙ sym (ap (λ o. all_given before (onto o (knowns ps)) (not (is_some o && list_all (λ q. is_some (known declared q)) ps) || list_any (λ (k : Known). k.class.partial) (onto o (knowns ps)))) e)
      by (Some k) e more =
          ap (λ o. with_parents declared name (with_parent name before o) ps) e
          ∙ more (with_parent name before (Some k))
          ∙ joined
          (fold with_ancestor (fold with_ancestor before.ancestors (ancestors_in k)) (flat_map ancestors_in (knowns ps)))
          (fold with_ancestor before.ancestors (flat_map ancestors_in (k ∷ knowns ps)))
          (fold with_member (fold with_member before.members (members_in name k)) (flat_map (members_in name) (knowns ps)))
          (fold with_member before.members (flat_map (members_in name) (k ∷ knowns ps)))
          ((before.partial || k.class.partial) || lacking ps)
          (before.partial || (not (list_all (λ q. is_some (known declared q)) ps) || (k.class.partial || list_any (λ (j : Known). j.class.partial) (knowns ps))))
          (sym (fold-append with_ancestor before.ancestors (ancestors_in k) (flat_map ancestors_in (knowns ps))))
          (sym (fold-append with_member before.members (members_in name k) (flat_map (members_in name) (knowns ps))))
          (or_lacks before.partial k.class.partial (list_all (λ q. is_some (known declared q)) ps) (list_any (λ (j : Known). j.class.partial) (knowns ps)))
          ∙ sym (ap (λ o. all_given before (onto o (knowns ps)) (not (is_some o && list_all (λ q. is_some (known declared q)) ps) || list_any (λ (j : Known). j.class.partial) (onto o (knowns ps)))) e)

  -- what a class has of all of them
  given_by : (cyclic : Bool) (sig : ClassSig) → inherited declared name cyclic sig
      ≡ parts (from_parents declared name cyclic sig).ancestors (from_parents declared name cyclic sig).members (from_parents declared name cyclic sig).partial
  given_by true sig = refl
  given_by false sig = with_all (parents sig) (own_alone sig.members)

  pub class_made : (cyclic : Bool) (sig : ClassSig) (partial : Bool) (type_params : List TypeParam) (ancestors list : List Ancestor) (members own : List Member)
      → type_params ≡ sig.type_params → ancestors ≡ list → members ≡ own → parts list own partial ≡ inherited declared name cyclic sig
      → class_with sig cyclic type_params (parts ancestors members partial) ≡ from_parents declared name cyclic sig
  class_made cyclic sig partial type_params ancestors list members own params above inside is =
      ap (λ t. class_with sig cyclic t (parts ancestors members partial)) params
      ∙ ap (class_with sig cyclic sig.type_params) (joined ancestors list members own partial partial above inside refl ∙ is ∙ given_by cyclic sig)

-- the three lists of parents one after the other
module _ (declared second_map third_map : Map) (name : ℕ) (sig : ClassSig) (none one two three : SoFar) where
  abbrev pub uses : List Parent
  uses = placed sort.Trait sig.uses

  abbrev pub extends : List Parent
  extends = placed (extends_sort sig.sort) sig.extends

  abbrev pub implements : List Parent
  implements = placed sort.Interface sig.implements

  abbrev pub add : SoFar → Parent → SoFar
  add now parent = with_parent name now (known declared parent)

  pub in_three : {E : Type 0} (result : Result (Unit {0}) E) (wanted : Sort) → wanted ≡ extends_sort sig.sort → second_map ≡ declared → third_map ≡ second_map
      → one ≡ with_parents declared name none uses → two ≡ with_parents second_map name one (placed wanted sig.extends)
      → OnOk result (three ≡ with_parents third_map name two implements) → OnOk result (three ≡ with_parents declared name none (parents sig))
  in_three (Err e) wanted is same again first second third = tt
  in_three (Ok done) wanted is same again first second third =
      third
      ∙ ap (λ m. with_parents m name two implements) (again ∙ same)
      ∙ ap (λ b. with_parents declared name b implements) (second ∙ ap (λ w. with_parents second_map name one (placed w sig.extends)) is ∙ ap (λ m. with_parents m name one extends) same ∙ ap (λ b. with_parents declared name b extends) first)
      ∙ sym (fold-append add none (uses ++ extends) implements ∙ ap (λ b. with_parents declared name b implements) (fold-append add none uses extends))
