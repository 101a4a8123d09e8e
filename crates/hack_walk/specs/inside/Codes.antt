-- How environments, states and branches are told apart.
use Rattle.std.specs.Prelude.{List, refl}
use Rattle.std.specs.Coded.{Coded, code_by, coded_list, coded×, coded_ℕ}
use Rattle.hack_types.specs.contracts.diag.Diag as diag
use Rattle.hack_types.specs.contracts.hack_type.HackType as hack_type
use Rattle.hack_types.specs.declared.diag.Diag.{Diag}
use Rattle.hack_rules.specs.Meanings.{Branches}
use Rattle.hack_rules.specs.Variables.{Variables}
use Rattle.hack_rules.specs.Walks.{State}

abbrev pub variables_code : Coded Variables
variables_code = coded_list (coded× coded_ℕ hack_type.the_row.coded)

-- as the pair of the variables and the diagnostics
abbrev pub state_code : Coded State
state_code =
    code_by (Variables × List Diag) (coded× variables_code (coded_list diag.the_row.coded)) (λ s. (s.variables, s.found))
    (λ p. record { variables = p.0; found = p.1 }) (λ s. refl)

-- as the pair of both
abbrev pub branches_code : Coded Branches
branches_code =
    code_by (Variables × Variables) (coded× variables_code variables_code) (λ b. (b.when_true, b.when_false))
    (λ p. record { when_true = p.0; when_false = p.1 }) (λ b. refl)
