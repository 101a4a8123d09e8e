use Rattle.std.proofs.Common.{◌≡◌, ◌++◌, drop}
use Rattle.std.specs.List.{flat_map}
use Rattle.hack_assigned.specs.inside.Parts.{in_case, in_catch, in_statement}
use Rattle.hack_assigned.proofs.statements.+assigned.Given as goal

abbrev pub invariant-in_statements-loop-statement : goal.invariant-in_statements-loop-statement
invariant-in_statements-loop-statement l = l.names.items ++ flat_map in_statement (drop l.statement-index l.statements) ≡ l.initial.names.items ++ flat_map in_statement l.statements

abbrev pub invariant-in_cases-loop-case : goal.invariant-in_cases-loop-case
invariant-in_cases-loop-case l = l.names.items ++ flat_map in_case (drop l.case-index l.cases) ≡ l.initial.names.items ++ flat_map in_case l.cases

abbrev pub invariant-in_catches-loop-catch : goal.invariant-in_catches-loop-catch
invariant-in_catches-loop-catch l = l.names.items ++ flat_map in_catch (drop l.catch-index l.catches) ≡ l.initial.names.items ++ flat_map in_catch l.catches
