-- Matching: what function parameters take from the types of arguments (docs/language.md, Typing expressions, Calls).
use Rattle.std.specs.Prelude.{ℕ, zero, suc, ◌==◌, ◌-◌, if◌then◌else◌, Option, Some, None, List, [], ◌∷◌, ◌++◌, fold, map}
use Rattle.std.specs.List.{flat_map, range_with_len}
use Rattle.hack_types.specs.Substituted.{limited}
use Rattle.hack_types.specs.declared.hack_type.HackType.{HackType, out-HackType}
use Rattle.hack_types.specs.declared.hack_type.HackType.TheOpen.{HackType-F}
use Rattle.hack_decls.specs.DeclState.{Map}
use Rattle.hack_sub.specs.Parts.{arguments_of, as_keyed, dict_parts, keyset_item, name_of, option_inside, union_members, vector_item}
use Rattle.hack_infer.specs.Seeing.{most_steps, seen_as, sight_of}
use Rattle.hack_infer.specs.WithoutNull.{without_null}
use Rattle.hack_infer.specs.declared.sight.Sight.{Sight}
use Rattle.hack_infer.specs.declared.sight.Sight.TheVariants as sight
use Rattle.hack_infer.specs.declared.taken.Taken.{Taken}
use Rattle.hack_infer.specs.declared.taken.Took.{Took}

-- what is taken from a wanted and a given type, behind what was taken before
abbrev pub Matches : Type 0
Matches = HackType → HackType → Taken → Taken

-- the parameter of a position takes a type, and `_` for one with too many nodes
abbrev pub taking : ℕ → HackType → Taken → Taken
taking position ty taken = record taken { found = taken.found ++ record { position = position; ty = limited ty } ∷ [] }

-- pairs in order, as far as both lists go
unfoldable pub pairs : Matches → List HackType → List HackType → Taken → Taken
pairs match (wanted ∷ others) (given ∷ more) taken = pairs match others more (match wanted given taken)
pairs match _ _ taken = taken

-- once an alias is expanded, where that may still be done; else it gives nothing
abbrev pub expanding : Matches → Matches
expanding match wanted given taken = if taken.steps == 0 then taken else match wanted given (record taken { steps = taken.steps - 1 })

-- with the arguments that are given, where there are any
abbrev pub given_by : Matches → List HackType → Option (List HackType) → Taken → Taken
given_by match wanted None taken = taken
given_by match wanted (Some given) taken = pairs match wanted given taken

-- a container goes as a `KeyedContainer`
abbrev pub keyed_or : HackType → Option HackType → HackType
keyed_or given None = given
keyed_or given (Some class) = class

-- a class type, with one that is of that class or stands below it
abbrev pub class_by : Matches → Map → HackType → HackType → Option ℕ → Taken → Taken
class_by match map wanted given None taken = taken
class_by match map wanted given (Some name) taken =
    given_by match (arguments_of wanted) (seen_as map name (keyed_or given (as_keyed given))) taken

abbrev pub class_types : Matches → Map → Matches
class_types match map wanted given = class_by match map wanted given (name_of wanted)

-- where both are containers of one kind these go on, and else the others
abbrev pub both_or : {A : Type 0} → (A → A → Taken → Taken) → (Taken → Taken) → Option A → Option A → Taken → Taken
both_or go_on otherwise (Some wanted) (Some given) taken = go_on wanted given taken
both_or go_on otherwise _ _ taken = otherwise taken

abbrev pub dict_types : Matches → HackType × HackType → HackType × HackType → Taken → Taken
dict_types match wanted given taken = match wanted.1 given.1 (match wanted.0 given.0 taken)

abbrev pub dicts : Matches → Map → Matches
dicts match map wanted given =
    both_or (dict_types match) (class_types match map wanted given) (dict_parts wanted) (dict_parts given)

abbrev pub keysets : Matches → Map → Matches
keysets match map wanted given = both_or match (dicts match map wanted given) (keyset_item wanted) (keyset_item given)

-- vecs, keysets, dicts and class types go on per argument; everything else gives nothing
abbrev pub vectors : Matches → Map → Matches
vectors match map wanted given = both_or match (keysets match map wanted given) (vector_item wanted) (vector_item given)

-- a given alias is expanded, and a bad type gives nothing
abbrev pub given_seen : Matches → Map → HackType → HackType → Sight → Taken → Taken
given_seen match map wanted given (sight.Alias next) taken = expanding match wanted next taken
given_seen match map wanted given sight.Bad taken = taken
given_seen match map wanted given sight.Other taken = vectors match map wanted given taken

-- a wanted alias before
abbrev pub wanted_seen : Matches → Map → HackType → HackType → Sight → Taken → Taken
wanted_seen match map wanted given (sight.Alias next) taken = expanding match next given taken
wanted_seen match map wanted given sight.Bad taken = taken
wanted_seen match map wanted given sight.Other taken = given_seen match map wanted given (sight_of map given) taken

-- a given union goes per member
abbrev pub members_by : Matches → Map → HackType → HackType → Option (List HackType) → Taken → Taken
members_by match map wanted given (Some members) taken = fold (λ so_far member. match wanted member so_far) taken members
members_by match map wanted given None taken = wanted_seen match map wanted given (sight_of map wanted) taken

-- `?T` goes on with T and what is given without null
abbrev pub option_by : Matches → Map → HackType → HackType → Option HackType → Taken → Taken
option_by match map wanted given (Some inside) taken = match inside (without_null map given) taken
option_by match map wanted given None taken = members_by match map wanted given (union_members given) taken

-- the position of a function parameter
abbrev pub fun_param_by : {T : Type 0} → HackType-F T → Option ℕ
fun_param_by (HackType-F.FunParam position name) = Some position
fun_param_by _ = None

abbrev pub fun_param : HackType → Option ℕ
fun_param ty = fun_param_by (out-HackType ty)

-- a function parameter takes what is given, whole
abbrev pub param_by : Matches → Map → HackType → HackType → Option ℕ → Taken → Taken
param_by match map wanted given (Some position) taken = taking position given taken
param_by match map wanted given None taken = option_by match map wanted given (option_inside wanted) taken

-- the first of these that fits
abbrev pub by_wanted : Matches → Map → Matches
by_wanted match map wanted given = param_by match map wanted given (fun_param wanted)

-- the same, so deep
unfoldable pub match_in : ℕ → Map → Matches
match_in zero map wanted given taken = taken
match_in (suc depth) map wanted given taken = by_wanted (match_in depth map) map wanted given taken

-- Between two expansions each step goes into the wanted type, or from a given union to a member, which is no union. So of types that
-- have as few nodes as a type may have none goes deeper: for each of the seventeen stretches, twice a type's nodes.
abbrev pub most_depth : ℕ
most_depth = 8704

-- one pair of a wanted and a given type, with its own sixteen expansions
abbrev pub match_pair : Map → Matches
match_pair map wanted given taken = match_in most_depth map wanted given (record taken { steps = most_steps })

-- the types that the parameter of a position took, in order
abbrev pub types_at : List Took → ℕ → List HackType
types_at found position = flat_map (λ (took : Took). if took.position == position then took.ty ∷ [] else []) found

-- what each of so many parameters took
abbrev pub lists : List Took → ℕ → List (List HackType)
lists found count = map (types_at found) (range_with_len 0 count)

-- nothing is taken yet
abbrev pub nothing_taken : Taken
nothing_taken = record { found = []; steps = most_steps }

-- what each of so many function parameters takes from the pairs of wanted and given types, as far as both lists go
abbrev pub match_params : Map → List HackType → List HackType → ℕ → List (List HackType)
match_params map wanted given count = lists (pairs (match_pair map) wanted given nothing_taken).found count
