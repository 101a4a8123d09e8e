-- Types with what stands for type parameters and `this`, put in at once (docs/language.md, Typing expressions, Calls).
use Rattle.std.specs.Prelude.{ℕ, Option, Some, None, List, slice_index_or, option_copied}
use Rattle.hack_types.specs.OptionOf.{option_of}
use Rattle.hack_types.specs.UnionOf.{union_of}
use Rattle.hack_types.specs.Substituted.{limited}
use Rattle.hack_types.specs.declared.hack_type.HackType.{HackType, roll-HackType}
use Rattle.hack_types.specs.declared.hack_type.HackType.TheOpen.{HackType-F}
use Rattle.hack_types.specs.declared.hack_type.HackType.TheFolds.{fold-HackType}
use Rattle.hack_types.specs.declared.hack_type.HackType.TheVariants.{Any}
use Rattle.hack_infer.specs.declared.filling.Filling as declared

-- what stands for the parameters of the class, for those of the function, and for `this`; where there is nothing they stay
pub record Filling : Type 0 where
  pub class : Option (List HackType)
  pub function : Option (List HackType)
  pub this : Option HackType

-- what a call is given
abbrev pub filling_of : declared.Filling → Filling
filling_of given = record { class = option_copied given.class; function = option_copied given.function; this = option_copied given.this }

-- what stands for the parameter of a position, and `_` where the list has none for it; where there is no list, the parameter stays
abbrev pub at_position : HackType → Option (List HackType) → ℕ → HackType
at_position parameter None position = parameter
at_position parameter (Some types) position = slice_index_or types position Any

-- what stands for `this`
abbrev pub this_or : HackType → Option HackType → HackType
this_or own None = own
this_or own (Some ty) = ty

-- one constructor with what stands in the place of each type inside
abbrev pub filled_by : Filling → HackType-F HackType → HackType
filled_by filling (HackType-F.ClassParam position name) =
    at_position (roll-HackType (HackType-F.ClassParam position name)) filling.class position
filled_by filling (HackType-F.FunParam position name) =
    at_position (roll-HackType (HackType-F.FunParam position name)) filling.function position
filled_by filling HackType-F.This = this_or (roll-HackType HackType-F.This) filling.this
filled_by filling (HackType-F.Option inside) = option_of inside
filled_by filling (HackType-F.Union members) = union_of members
filled_by filling layer = roll-HackType layer

-- the type with these put in, however large
unfoldable pub filled : Filling → HackType → HackType
filled filling = fold-HackType HackType (filled_by filling)

-- the same, and `_` where that has too many nodes
abbrev pub filled_limited : Filling → HackType → HackType
filled_limited filling ty = limited (filled filling ty)

-- types for the parameters of the function alone
abbrev pub for_function : List HackType → Filling
for_function solved = record { class = None; function = Some solved; this = None }

-- the type with these in the place of the function's parameters
abbrev pub applied : List HackType → HackType → HackType
applied solved = filled (for_function solved)
