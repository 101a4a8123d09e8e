-- What type parameters become once matching is done (docs/language.md, Typing expressions, Calls).
use Rattle.std.specs.Prelude.{List, [], ◌∷◌, map}
use Rattle.hack_types.specs.UnionOf.{union_of}
use Rattle.hack_types.specs.Substituted.{limited}
use Rattle.hack_types.specs.declared.hack_type.HackType.{HackType}
use Rattle.hack_types.specs.declared.hack_type.HackType.TheVariants.{Any}

-- the union of what a parameter took, and `_` where it took nothing or where that has too many nodes
abbrev pub solved_by : List HackType → HackType
solved_by [] = Any
solved_by (ty ∷ types) = limited (union_of (ty ∷ types))

-- what each parameter becomes
abbrev pub solve : List (List HackType) → List HackType
solve found = map solved_by found
