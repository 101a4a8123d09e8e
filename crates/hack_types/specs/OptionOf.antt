-- The type of a value of this type or of null (docs/language.md, Types and their texts).
use Rattle.hack_types.specs.declared.hack_type.HackType.{HackType, out-HackType}
use Rattle.hack_types.specs.declared.hack_type.HackType.TheOpen.{HackType-F}
use Rattle.hack_types.specs.declared.hack_type.HackType.TheVariants.{Mixed, Null, Option}

-- a type that has null stays; `nothing` gives `null`, `nonnull` gives `mixed`, and every other T gives `?T`
abbrev pub option_by : HackType → HackType-F HackType → HackType
option_by type HackType-F.Any = type
option_by type HackType-F.Mixed = type
option_by type HackType-F.Null = type
option_by type (HackType-F.Option inside) = type
option_by type HackType-F.Nothing = Null
option_by type HackType-F.Nonnull = Mixed
option_by type _ = Option type

abbrev pub option_of : HackType → HackType
option_of type = option_by type (out-HackType type)
