-- What a class has of its parents, one after the other, as the code goes through them.
use Rattle.std.specs.Prelude.{◌||◌, ℕ, Bool, true, false, Option, Some, None, List, [], option_and_then, if◌then◌else◌}
use Rattle.std.specs.List.{fold}
use Rattle.hack_types.specs.declared.shallow.ClassSig.{ClassSig}
use Rattle.hack_types.specs.declared.shallow.Member.{Member}
use Rattle.hack_types.specs.declared.shallow.Sort.{Sort}
use Rattle.hack_decls.specs.DeclState.{Map}
use Rattle.hack_decls.specs.declared.folded.Ancestor.{Ancestor}
use Rattle.hack_decls.specs.declared.folded.ClassFolded.{ClassFolded}
use Rattle.hack_fold.specs.inside.FromParents.{Known, ancestors_in, class_fits, known, members_in}
use Rattle.hack_fold.specs.Parents.{Parent, parents}
use Rattle.hack_fold.specs.Walked.{with_ancestor, with_member}

-- the class, if it is of this sort and has so many type parameters
abbrev pub fitting : Sort → ℕ → Option ClassFolded → Option ClassFolded
fitting wanted count found = option_and_then (λ class. if class_fits wanted count class then Some class else None) found

-- what a class has so far, and whether something isn't known
pub record SoFar : Type 0 where
  pub ancestors : List Ancestor
  pub members : List Member
  pub partial : Bool

-- its own members alone
abbrev pub own_alone : List Member → SoFar
own_alone members = record { ancestors = []; members = members; partial = false }

-- with one parent more, if that is good
abbrev pub with_parent : ℕ → SoFar → Option Known → SoFar
with_parent name before None = record { ancestors = before.ancestors; members = before.members; partial = true }
with_parent name before (Some parent) = record {
  ancestors = fold with_ancestor before.ancestors (ancestors_in parent);
  members = fold with_member before.members (members_in name parent);
  partial = before.partial || parent.class.partial;
}

abbrev pub with_parents : Map → ℕ → SoFar → List Parent → SoFar
with_parents map name before more = fold (λ now parent. with_parent name now (known map parent)) before more

-- a cyclic class has nothing of its parents
abbrev pub inherited : Map → ℕ → Bool → ClassSig → SoFar
inherited map name cyclic sig =
    if cyclic then record { ancestors = []; members = sig.members; partial = true } else with_parents map name (own_alone sig.members) (parents sig)
