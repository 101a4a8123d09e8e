-- What a class is by the folded declarations of its parents, as the code makes it. That this is what the walk over paths says is
-- proved; no public clause names these.
use Rattle.std.specs.Prelude.{ℕ, ◌==◌, ◌&&◌, ◌||◌, not, Bool, Option, Some, None, List, [], ◌∷◌, map, length, is_some, option_and_then, if◌then◌else◌}
use Rattle.std.specs.List.{filter_map, flat_map, fold, list_all, list_any}
use Rattle.hack_types.specs.declared.hack_type.HackType.{HackType}
use Rattle.hack_types.specs.declared.shallow.ClassSig.{ClassSig}
use Rattle.hack_types.specs.declared.shallow.Member.{Member}
use Rattle.hack_types.specs.declared.shallow.Sort.{Sort}
use Rattle.hack_types.specs.declared.shallow.Sort.TheVariants as sort
use Rattle.hack_decls.specs.DeclState.{Map}
use Rattle.hack_decls.specs.declared.folded.Ancestor.{Ancestor}
use Rattle.hack_decls.specs.declared.folded.ClassFolded.{ClassFolded}
use Rattle.hack_decls.specs.declared.folded.Folded.{Folded}
use Rattle.hack_decls.specs.declared.folded.Folded.TheVariants as folded
use Rattle.hack_decls.specs.Names.{class_symbol}
use Rattle.hack_fold.specs.Parents.{Parent, named, parents, same_sort}
use Rattle.hack_fold.specs.Paths.{ancestor_in, member_with, put_in}
use Rattle.hack_fold.specs.Walked.{with_ancestor, with_member}

-- a good parent as it is written, with what it folds to
pub record Known : Type 0 where
  pub written : Ancestor
  pub class : ClassFolded

abbrev pub known_class : Option Folded → Option ClassFolded
known_class (Some (folded.ClassLike class)) = Some class
known_class _ = None

-- a class is of this sort and has so many type parameters
abbrev pub class_fits : Sort → ℕ → ClassFolded → Bool
class_fits wanted count class = same_sort class.sort wanted && (count == length class.type_params)

abbrev pub known_fits : Sort → Ancestor → ClassFolded → Option Known
known_fits wanted written class = if class_fits wanted (length written.arguments) class then Some (record { written = written; class = class }) else None

-- a parent is good where its folded declaration is of the sort that must stand there, with as many parameters as there are arguments
abbrev pub known : Map → Parent → Option Known
known map parent = option_and_then (λ written. option_and_then (known_fits parent.wanted written) (known_class (map (class_symbol written.name)))) (named parent)

abbrev pub all_known : Map → ClassSig → List Known
all_known map sig = filter_map (known map) (parents sig)

-- the members of a parent as the child has them: those of a trait come from the child
abbrev pub origin_in : ℕ → Sort → ℕ → ℕ
origin_in name which declared = if same_sort which sort.Trait then name else declared

abbrev pub member_in : ℕ → List HackType → Sort → Member → Member
member_in name arguments which member = member_with (put_in arguments) (origin_in name which member.origin) member

abbrev pub members_in : ℕ → Known → List Member
members_in name parent = map (member_in name parent.written.arguments parent.class.sort) parent.class.members

abbrev pub ancestors_in : Known → List Ancestor
ancestors_in parent = parent.written ∷ map (ancestor_in parent.written.arguments) parent.class.ancestors

abbrev pub lacks : Map → ClassSig → Bool
lacks map sig = not (list_all (λ parent. is_some (known map parent)) (parents sig)) || list_any (λ parent. parent.class.partial) (all_known map sig)

abbrev pub from_parents : Map → ℕ → Bool → ClassSig → ClassFolded
from_parents map name cyclic sig = record {
  sort = sig.sort;
  is_abstract = sig.is_abstract;
  is_final = sig.is_final;
  cyclic = cyclic;
  partial = cyclic || lacks map sig;
  type_params = sig.type_params;
  ancestors = if cyclic then [] else fold with_ancestor [] (flat_map ancestors_in (all_known map sig));
  members = if cyclic then sig.members else fold with_member sig.members (flat_map (members_in name) (all_known map sig));
}
