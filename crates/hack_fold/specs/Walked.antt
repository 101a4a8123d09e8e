-- Folded declarations, read off all paths (docs/language.md, Folding).
use Rattle.std.specs.Prelude.{◌≡◌, ◌≤◌, ◌&&◌, ◌==◌, not, ℕ, Bool, false, Option, Some, List, [], ◌∷◌, ◌++◌, if◌then◌else◌, option_map, All, IfSome}
use Rattle.std.specs.List.{flat_map, fold, list_any}
use Rattle.std.specs.Ordering.{match_ordering}
use Rattle.std.specs.declared.cmp.Ordering.{Ordering}
use Rattle.hack_types.specs.MembersRise.{member_order}
use Rattle.hack_types.specs.declared.ids.SymbolId.{SymbolId}
use Rattle.hack_types.specs.declared.shallow.ClassSig.{ClassSig}
use Rattle.hack_types.specs.declared.shallow.Member.{Member}
use Rattle.hack_types.specs.declared.shallow.Shallow.{Shallow}
use Rattle.hack_types.specs.declared.shallow.Shallow.TheVariants as shallow
use Rattle.hack_decls.specs.DeclState.{Map}
use Rattle.hack_decls.specs.declared.folded.Ancestor.{Ancestor}
use Rattle.hack_decls.specs.declared.folded.ClassFolded.{ClassFolded}
use Rattle.hack_decls.specs.declared.folded.Folded.{Folded}
use Rattle.hack_decls.specs.declared.folded.Folded.TheVariants as folded
use Rattle.hack_decls.specs.Names.{class_symbol}
use Rattle.hack_fold.specs.Parents.{Shallows, named, parents}
use Rattle.hack_fold.specs.Line.{is_cyclic}
use Rattle.hack_fold.specs.Paths.{ancestors_along, end_of, is_incomplete, members_along, paths}

-- of two members of one kind and name the first, but a concrete one before an abstract one
abbrev pub better : Member → Member → Member
better first second = if first.is_abstract && not second.is_abstract then second else first

-- one more in a list that rises in this order; of two that tie, what is chosen of them, the first that was there first
abbrev pub gather : {X : Type 0} → (X → X → Ordering) → (X → X → X) → List X → X → List X
gather order choose [] one = one ∷ []
gather order choose (first ∷ more) one = match_ordering (order one first) (one ∷ first ∷ more) (choose first one ∷ more) (first ∷ gather order choose more one)

abbrev pub with_member : List Member → Member → List Member
with_member = gather member_order better

-- per kind and name the first concrete member, else the first abstract one; they rise by kind and name
unfoldable pub chosen : List Member → List Member
chosen members = fold with_member [] members

-- one more ancestor, where none has its name
abbrev pub with_ancestor : List Ancestor → Ancestor → List Ancestor
with_ancestor before ancestor = if list_any (λ a. a.name == ancestor.name) before then before else before ++ ancestor ∷ []

-- the first per name
unfoldable pub firsts : List Ancestor → List Ancestor
firsts ancestors = fold with_ancestor [] ancestors

-- what a class is by its paths of at most so many parents
abbrev pub class_within : Shallows → ℕ → SymbolId → ClassSig → ClassFolded
class_within shallows steps s sig = record {
  sort = sig.sort;
  is_abstract = sig.is_abstract;
  is_final = sig.is_final;
  cyclic = is_cyclic shallows s;
  partial = list_any (λ path. is_incomplete shallows (end_of s.name path)) (paths shallows steps s.name);
  type_params = sig.type_params;
  ancestors = firsts (flat_map ancestors_along (paths shallows steps s.name));
  members = chosen (flat_map (members_along shallows s.name) (paths shallows steps s.name));
}

-- all but class-like declarations fold to themselves
abbrev pub within : Shallows → ℕ → SymbolId → Shallow → Folded
within shallows steps s (shallow.ClassLike sig) = folded.ClassLike (class_within shallows steps s sig)
within shallows steps s (shallow.Enum sig) = folded.Enum sig
within shallows steps s (shallow.Alias sig) = folded.Alias sig
within shallows steps s (shallow.Function sig) = folded.Function sig
within shallows steps s (shallow.Constant type) = folded.Constant type

-- the symbol's declaration with all that it inherits: what all its paths say. They end, since no path goes on from a cyclic class,
-- so from some number of parents on there are no further ones
abbrev pub IsFolded : Shallows → SymbolId → Option Folded → Type 0
IsFolded shallows s answer = (enough : ℕ) × ((steps : ℕ) → enough ≤ steps → option_map (within shallows steps s) (shallows s) ≡ answer)

-- what is declared under each parent of a declaration is folded
abbrev pub ParentsFolded : Shallows → Map → Shallow → Type 0
ParentsFolded shallows map (shallow.ClassLike sig) =
    All (λ parent. IfSome (named parent) (λ written. IsFolded shallows (class_symbol written.name) (map (class_symbol written.name)))) (parents sig)
ParentsFolded shallows map other = Unit {0}

-- a class-like declaration stands under a symbol of that kind
abbrev pub IsOfKind : SymbolId → Shallow → Type 0
IsOfKind s (shallow.ClassLike sig) = s ≡ class_symbol s.name
IsOfKind s other = Unit {0}

-- over the folded declarations of its parents a declaration folds to this; of a cyclic class they aren't asked for
abbrev pub FoldsTo : Map → SymbolId → Shallow → Bool → Folded → Type 0
FoldsTo map s declared cyclic folded =
    (shallows : Shallows) → shallows s ≡ Some declared → IsOfKind s declared → cyclic ≡ is_cyclic shallows s → (cyclic ≡ false → ParentsFolded shallows map declared)
    → IsFolded shallows s (Some folded)
