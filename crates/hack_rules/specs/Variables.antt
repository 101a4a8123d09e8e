-- Environments: the variables at a point of a body, with their types (docs/language.md, Typing expressions).
use Rattle.std.specs.Prelude.{ℕ, ◌==◌, Bool, if◌then◌else◌, Option, Some, None, List, [], ◌∷◌, map, find, fold, filter_map, option_map}
use Rattle.std.specs.List.{list_any}
use Rattle.std.specs.Ordering.{nat_cmp}
use Rattle.std.specs.BTreeMap.{insert_entry}
use Rattle.hack_types.specs.SameType.{same_type}
use Rattle.hack_types.specs.UnionOf.{union_of}
use Rattle.hack_types.specs.declared.hack_type.HackType.{HackType}
use Rattle.hack_types.specs.declared.hack_type.HackType.TheVariants.{Mixed}
use Rattle.hack_types.specs.Substituted.{limited}

-- each variable once, in the order of their ids
abbrev pub Variables : Type 0
Variables = List (ℕ × HackType)

-- the type of a variable, where it is there
unfoldable pub type_in : Variables → ℕ → Option HackType
type_in variables name = option_map (λ entry. entry.1) (find (λ entry. entry.0 == name) variables)

-- the variable has this type from here on, and `_` where the type has too many nodes
unfoldable pub with_variable : Variables → ℕ → HackType → Variables
with_variable variables name ty = insert_entry nat_cmp variables name (limited ty)

-- the union of two types, and `_` where it has too many nodes
unfoldable pub union_of_two : HackType → HackType → HackType
union_of_two left right = limited (union_of (left ∷ right ∷ []))

-- a variable that the other side has too
abbrev pub joined_entry : ℕ × HackType → Option HackType → Option (ℕ × HackType)
joined_entry entry None = None
joined_entry entry (Some ty) = Some (entry.0, union_of_two entry.1 ty)

-- joining keeps the variables of both sides
unfoldable pub joined : Variables → Variables → Variables
joined left right = filter_map (λ entry. joined_entry entry (type_in right entry.0)) left

-- the join of two ends, of which each may be reached or not
unfoldable pub either : Option Variables → Option Variables → Option Variables
either None right = right
either (Some left) None = Some left
either (Some left) (Some right) = Some (joined left right)

-- one environment joined with these ends in turn
unfoldable pub joined_with : Variables → List Variables → Variables
joined_with variables ends = fold joined variables ends

-- a variable that is there
abbrev pub refined_by : Variables → ℕ → (HackType → HackType) → Option HackType → Variables
refined_by variables name f None = variables
refined_by variables name f (Some ty) = with_variable variables name (f ty)

-- a variable that is there gets another type; where no variable is meant, or it isn't there, nothing changes
unfoldable pub refined : Variables → Option ℕ → (HackType → HackType) → Variables
refined variables None f = variables
refined variables (Some name) f = refined_by variables name f (type_in variables name)

-- a name is one of these
abbrev pub is_among : List ℕ → ℕ → Bool
is_among names name = list_any (λ n. n == name) names

-- these variables are `mixed`, where they are there
unfoldable pub mixed_in : List ℕ → Variables → Variables
mixed_in names variables = map (λ entry. if is_among names entry.0 then (entry.0, Mixed) else entry) variables

-- a variable that was there before
abbrev pub widened_entry : ℕ × HackType → Option HackType → ℕ × HackType
widened_entry entry None = entry
widened_entry entry (Some before) = if same_type before entry.1 then entry else (entry.0, Mixed)

-- a variable whose type isn't what it was before is `mixed`
unfoldable pub widened : Variables → Variables → Variables
widened before variables = map (λ entry. widened_entry entry (type_in before entry.0)) variables

-- a variable that is there
abbrev pub taken_by : Variables → ℕ → Option HackType → Variables
taken_by variables name None = variables
taken_by variables name (Some ty) = with_variable variables name ty

-- the variables with these names take the types that they have in the second environment, where they are there
unfoldable pub taking : List ℕ → Variables → Variables → Variables
taking names from variables = fold (λ before name. taken_by before name (type_in from name)) variables names
