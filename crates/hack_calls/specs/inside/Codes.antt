-- How arguments are told apart.
use Rattle.std.specs.Prelude.{refl}
use Rattle.std.specs.Coded.{Coded, code_by, coded×}
use Rattle.hack_types.specs.contracts.hack_type.HackType as hack_type
use Rattle.hack_types.specs.contracts.place.Place as place
use Rattle.hack_types.specs.declared.hack_type.HackType.{HackType}
use Rattle.hack_types.specs.declared.place.Place.{Place}
use Rattle.hack_rules.specs.WrittenTypes.{Argument}

-- as the pair of the place and the type
abbrev pub argument_code : Coded Argument
argument_code =
    code_by (Place × HackType) (coded× place.the_row.coded hack_type.the_row.coded) (λ a. (a.at, a.ty)) (λ p. record { at = p.0; ty = p.1 }) (λ a. refl)
