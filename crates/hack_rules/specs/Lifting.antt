-- Type parameters of a class as those of its constructor (docs/language.md, Typing expressions, Calls).
use Rattle.std.specs.Prelude.{ℕ, ◌+◌}
use Rattle.hack_types.specs.declared.hack_type.HackType.{HackType, roll-HackType}
use Rattle.hack_types.specs.declared.hack_type.HackType.TheOpen.{HackType-F}
use Rattle.hack_types.specs.declared.hack_type.HackType.TheFolds.{fold-HackType}
use Rattle.hack_types.specs.declared.hack_type.HackType.TheVariants.{FunParam}

-- the parameters of a class as the first of a function, before that function's own, of which there are so many
abbrev pub lifted_by : ℕ → HackType-F HackType → HackType
lifted_by count (HackType-F.ClassParam position name) = FunParam position name
lifted_by count (HackType-F.FunParam position name) = FunParam (count + position) name
lifted_by count layer = roll-HackType layer

-- the same of a whole type
unfoldable pub lifted : ℕ → HackType → HackType
lifted count ty = fold-HackType HackType (lifted_by count) ty
