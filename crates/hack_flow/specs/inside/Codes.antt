-- How turns of loops are told apart.
use Rattle.std.specs.Prelude.{Option, List, refl}
use Rattle.std.specs.Coded.{Coded, code_by, coded_list, coded_option, coded×}
use Rattle.hack_rules.specs.Loops.{Turn}
use Rattle.hack_rules.specs.Variables.{Variables}
use Rattle.hack_walk.specs.contracts.variables.Variables as environment

-- as its three parts
abbrev pub turn_code : Coded Turn
turn_code =
    code_by (List Variables × (Option Variables × Option Variables))
    (coded× (coded_list environment.the_row.coded) (coded× (coded_option environment.the_row.coded) (coded_option environment.the_row.coded)))
    (λ t. (t.ends, (t.behind, t.breaks))) (λ p. record { ends = p.0; behind = p.1.0; breaks = p.1.1 }) (λ t. refl)
