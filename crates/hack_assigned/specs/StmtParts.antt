-- The parts of statements that are no statements themselves, as the judgement sees them.
use Rattle.hack_tree.specs.declared.statement.Case.{Case}
use Rattle.hack_tree.specs.declared.statement.Catch.{Catch}
use Rattle.hack_tree.specs.declared.statement.Stmt.TheFolds.{fold-Case, fold-Catch}
use Rattle.hack_rules.specs.Ends.{Doing}
use Rattle.hack_rules.specs.Statements.{CaseMeaning, CatchMeaning, case_by, catch_by, statement_by}

-- a case of a `switch`
abbrev pub case_of : Case → CaseMeaning
case_of = fold-Case Doing CaseMeaning CatchMeaning statement_by case_by catch_by

-- a catch of a `try`
abbrev pub catch_of : Catch → CatchMeaning
catch_of = fold-Catch Doing CaseMeaning CatchMeaning statement_by case_by catch_by
