-- The paths of a class over good parents, and what is read off one of them (docs/language.md, Folding). A path is the list of the
-- parents on it, as they are written; the class that it begins with isn't on it.
use Rattle.std.specs.Prelude.{ℕ, zero, suc, ◌||◌, not, Bool, true, false, Option, Some, None, List, [], ◌∷◌, map, if◌then◌else◌}
use Rattle.std.specs.List.{flat_map}
use Rattle.hack_types.specs.Substituted.{limited, substitute}
use Rattle.hack_types.specs.declared.hack_type.HackType.{HackType}
use Rattle.hack_types.specs.declared.shallow.ClassSig.{ClassSig}
use Rattle.hack_types.specs.declared.shallow.Member.{Member}
use Rattle.hack_types.specs.declared.shallow.MemberKind.{MemberKind}
use Rattle.hack_types.specs.declared.shallow.MemberKind.TheVariants as kind
use Rattle.hack_types.specs.declared.shallow.Sort.TheVariants as sort
use Rattle.hack_types.specs.declared.signature.Param.{Param}
use Rattle.hack_types.specs.declared.signature.Signature.{Signature}
use Rattle.hack_types.specs.declared.signature.TypeParam.{TypeParam}
use Rattle.hack_decls.specs.declared.folded.Ancestor.{Ancestor}
use Rattle.hack_decls.specs.Names.{class_symbol}
use Rattle.hack_fold.specs.Parents.{Shallows, all_good, class_of, good_parents, same_sort}
use Rattle.hack_fold.specs.Line.{is_cyclic}

-- ---- paths

abbrev pub onward_by : Shallows → Bool → Option ClassSig → List Ancestor
onward_by shallows true sig = []
onward_by shallows false None = []
onward_by shallows false (Some sig) = good_parents shallows sig

-- the parents to which the paths of a class go on; from a cyclic class they don't
abbrev pub onward : Shallows → ℕ → List Ancestor
onward shallows name = onward_by shallows (is_cyclic shallows (class_symbol name)) (class_of shallows name)

-- the paths of at most so many parents, a path before its extensions, in the order of parents
unfoldable pub paths : Shallows → ℕ → ℕ → List (List Ancestor)
paths shallows zero name = [] ∷ []
paths shallows (suc steps) name = [] ∷ flat_map (λ parent. map (λ path. parent ∷ path) (paths shallows steps parent.name)) (onward shallows name)

-- the class at the end of a path
abbrev pub end_of : ℕ → List Ancestor → ℕ
end_of name [] = name
end_of name (parent ∷ path) = end_of parent.name path

-- ---- types

-- the type with the arguments put in, and `_` where it would have more than 256 nodes
unfoldable pub put_in : List HackType → HackType → HackType
put_in arguments type = limited (substitute arguments type)

-- a type of the class at the path's end as the class at its beginning has it: the arguments are put in from the end on
abbrev pub along : List Ancestor → HackType → HackType
along [] type = type
along (parent ∷ path) type = put_in parent.arguments (along path type)

-- a declaration with other types
abbrev pub type_param_with : (HackType → HackType) → TypeParam → TypeParam
type_param_with f param = record { name = param.name; variance = param.variance; upper = map f param.upper; lower = map f param.lower }

abbrev pub param_with : (HackType → HackType) → Param → Param
param_with f param = record { ty = f param.ty; optional = param.optional }

abbrev pub signature_with : (HackType → HackType) → Signature → Signature
signature_with f sig = record { type_params = map (type_param_with f) sig.type_params; params = map (param_with f) sig.params; result = f sig.result }

abbrev pub kind_with : (HackType → HackType) → MemberKind → MemberKind
kind_with f (kind.Constant type) = kind.Constant (f type)
kind_with f (kind.Property type) = kind.Property (f type)
kind_with f (kind.Method sig) = kind.Method (signature_with f sig)

abbrev pub member_with : (HackType → HackType) → ℕ → Member → Member
member_with f origin member = record {
  kind = kind_with f member.kind;
  name = member.name;
  origin = origin;
  visibility = member.visibility;
  is_static = member.is_static;
  is_abstract = member.is_abstract;
  is_final = member.is_final;
}

-- ---- members

abbrev pub is_trait_by : Option ClassSig → Bool
is_trait_by None = false
is_trait_by (Some sig) = same_sort sig.sort sort.Trait

abbrev pub is_trait : Shallows → ℕ → Bool
is_trait shallows name = is_trait_by (class_of shallows name)

-- where a member of the class at the path's end comes from: the child at the first parent that is a trait, else the class that
-- declares it
abbrev pub origin_along : Shallows → ℕ → List Ancestor → ℕ → ℕ
origin_along shallows name [] declared = declared
origin_along shallows name (parent ∷ path) declared = if is_trait shallows parent.name then name else origin_along shallows parent.name path declared

abbrev pub member_along : Shallows → ℕ → List Ancestor → Member → Member
member_along shallows name path member = member_with (along path) (origin_along shallows name path member.origin) member

abbrev pub members_by : Option ClassSig → List Member
members_by None = []
members_by (Some sig) = sig.members

abbrev pub own_members : Shallows → ℕ → List Member
own_members shallows name = members_by (class_of shallows name)

-- the members at the end of a path
abbrev pub members_along : Shallows → ℕ → List Ancestor → List Member
members_along shallows name path = map (member_along shallows name path) (own_members shallows (end_of name path))

-- ---- ancestors

-- an ancestor of a parent as the child has it
abbrev pub ancestor_in : List HackType → Ancestor → Ancestor
ancestor_in arguments ancestor = record { name = ancestor.name; arguments = map (put_in arguments) ancestor.arguments }

-- the end of a path that begins with this parent
abbrev pub ancestor_from : Ancestor → List Ancestor → Ancestor
ancestor_from parent [] = parent
ancestor_from parent (next ∷ path) = ancestor_in parent.arguments (ancestor_from next path)

-- the end of a path, but for the path that goes nowhere
abbrev pub ancestors_along : List Ancestor → List Ancestor
ancestors_along [] = []
ancestors_along (parent ∷ path) = ancestor_from parent path ∷ []

-- ---- what isn't known

abbrev pub lacks_by : Shallows → Option ClassSig → Bool
lacks_by shallows None = false
lacks_by shallows (Some sig) = not (all_good shallows sig)

-- it is cyclic or has a parent that isn't good
abbrev pub is_incomplete : Shallows → ℕ → Bool
is_incomplete shallows name = is_cyclic shallows (class_symbol name) || lacks_by shallows (class_of shallows name)
