use Rattle.std.proofs.Common.{◌∙◌, ◌++◌, ◌∷◌, [], rules, refl, sym, ap}
use Rattle.hack_tree.specs.declared.statement.Stmt.{the_lemmas}
use Rattle.std.specs.List.{flat_map}
use Rattle.std.proofs.lemmas.List.{append_assoc}
use Rattle.hack_assigned.specs.inside.Parts.{in_any, in_case, in_catch, in_each, in_expression, in_statement}
use Rattle.hack_assigned.proofs.Adding.{behind_none, both, nothing, one_more, told, told_both}
use Rattle.hack_assigned.proofs.Stated as stated
use Rattle.hack_assigned.proofs.statements.+assigned.Goals as goal

pub in_statement-returns-in-Block : goal.in_statement-returns-in-Block
in_statement-returns-in-Block t c = told _ _ _ (stated.of_block c.in-Block.is c.as_slice.ensures) c.in_statements.ensures

pub in_statement-returns-in-Empty : goal.in_statement-returns-in-Empty
in_statement-returns-in-Empty t c = nothing _ (stated.of_empty _ c.in-Empty.is)

pub in_statement-returns-in-Break : goal.in_statement-returns-in-Break
in_statement-returns-in-Break t c = nothing _ (stated.of_break _ c.in-Break.is)

pub in_statement-returns-in-Continue : goal.in_statement-returns-in-Continue
in_statement-returns-in-Continue t c = nothing _ (stated.of_continue _ c.in-Continue.is)

pub in_statement-returns-in_ok-in_statement-in-Some : goal.in_statement-returns-in_ok-in_statement-in-Some
in_statement-returns-in_ok-in_statement-in-Some t c =
    told_both _ _ _ (in_expression _ ++ in_statement _) (in_statement _) (stated.of_else c.in-If.is c.in-Some.is c.get.ensures c.get-in-Some.ensures)
    (both _ _ _ c.in_ok-assigned_in_expression-in-Some.ensures c.in_ok-in_statement-in-Some.ensures) c.in_statement-in-Some.ensures

pub in_statement-returns-in_ok-assigned_in_expression-in-None : goal.in_statement-returns-in_ok-assigned_in_expression-in-None
in_statement-returns-in_ok-assigned_in_expression-in-None t c =
    told_both _ _ _ (in_expression _) (in_statement _) (sym (behind_none _) ∙ stated.of_if c.in-If.is c.in-None.is c.get-in-None.ensures)
    c.in_ok-assigned_in_expression-in-None.ensures c.in_statement-in-None.ensures

pub in_statement-returns-in_ok-assigned_in_expression-in-While : goal.in_statement-returns-in_ok-assigned_in_expression-in-While
in_statement-returns-in_ok-assigned_in_expression-in-While t c =
    told_both _ _ _ (in_expression _) (in_statement _) (stated.of_while c.in-While.is c.get-in-While.ensures) c.in_ok-assigned_in_expression-in-While.ensures c.in_statement-in-While.ensures

pub in_statement-returns-in_ok-in_statement-in-DoWhile : goal.in_statement-returns-in_ok-in_statement-in-DoWhile
in_statement-returns-in_ok-in_statement-in-DoWhile t c =
    told_both _ _ _ (in_statement _) (in_expression _) (stated.of_do c.in-DoWhile.is c.get-in-DoWhile.ensures) c.in_ok-in_statement-in-DoWhile.ensures c.assigned_in_expression-in-DoWhile.ensures

pub in_statement-returns-in_ok-assigned_in_each-in-For-2 : goal.in_statement-returns-in_ok-assigned_in_each-in-For-2
in_statement-returns-in_ok-assigned_in_each-in-For-2 t c =
    told_both _ _ _ (in_each _ ++ in_any _ ++ in_each _) (in_statement _) (stated.of_for c.in-For.is c.as_slice-in-For.ensures c.as_slice-in-For-2.ensures c.get-in-For.ensures)
    (both _ _ _ (both _ _ _ c.in_ok-assigned_in_each-in-For.ensures c.in_ok-in_any-in-For.ensures) c.in_ok-assigned_in_each-in-For-2.ensures) c.in_statement-in-For.ensures

pub in_statement-returns-in_ok-add-in-Foreach : goal.in_statement-returns-in_ok-add-in-Foreach
in_statement-returns-in_ok-add-in-Foreach t c =
    told_both _ _ _ (in_expression _ ++ _ ++ (_ ∷ [])) (in_statement _) (append_assoc _ (_ ∷ []) (in_statement _) ∙ stated.of_foreach c.in-Foreach.is c.get-in-Foreach.ensures)
    (both _ _ _ (both _ _ _ c.in_ok-assigned_in_expression-in-Foreach.ensures c.in_ok-add_key-in-Foreach.ensures) c.in_ok-add-in-Foreach.ensures) c.in_statement-in-Foreach.ensures

pub in_statement-returns-in_ok-assigned_in_expression-in-Switch : goal.in_statement-returns-in_ok-assigned_in_expression-in-Switch
in_statement-returns-in_ok-assigned_in_expression-in-Switch t c =
    told_both _ _ _ (in_expression _) _ (stated.of_switch c.in-Switch.is c.as_slice-in-Switch.ensures) c.in_ok-assigned_in_expression-in-Switch.ensures c.in_cases.ensures

pub in_statement-returns-in-Return : goal.in_statement-returns-in-Return
in_statement-returns-in-Return t c = told _ _ _ (stated.of_return c.in-Return.is) c.in_any-in-Return.ensures

pub in_statement-returns-in-Throw : goal.in_statement-returns-in-Throw
in_statement-returns-in-Throw t c = told _ _ _ (stated.of_throw c.in-Throw.is) c.assigned_in_expression-in-Throw.ensures

pub in_statement-returns-in-Echo : goal.in_statement-returns-in-Echo
in_statement-returns-in-Echo t c = told _ _ _ (stated.of_echo c.in-Echo.is c.as_slice-in-Echo.ensures) c.assigned_in_each-in-Echo.ensures

pub in_statement-returns-in-Expression : goal.in_statement-returns-in-Expression
in_statement-returns-in-Expression t c = told _ _ _ (stated.of_expression c.in-Expression.is) c.assigned_in_expression-in-Expression.ensures

pub in_statement-returns-in_ok-in_catches-in-Some-last : goal.in_statement-returns-in_ok-in_catches-in-Some-last
in_statement-returns-in_ok-in_catches-in-Some-last t c =
    told_both _ _ _ (flat_map in_statement c.as_slice-in-Some-last.result.now ++ flat_map in_catch c.as_slice-in-Some-last-2.result.now) (flat_map in_statement c.as_slice-in-Some-last-3.result.now) (stated.of_try_last c.in-Try.is c.in-Some-last.is c.as_slice-in-Some-last.ensures c.as_slice-in-Some-last-2.ensures c.as_slice-in-Some-last-3.ensures)
    (both _ (flat_map in_statement c.as_slice-in-Some-last.result.now) (flat_map in_catch c.as_slice-in-Some-last-2.result.now) c.in_ok-in_statements-in-Some-last.ensures c.in_ok-in_catches-in-Some-last.ensures) c.in_statements-in-Some-last-2.ensures

pub in_statement-returns-in_ok-in_statements-in-None-last : goal.in_statement-returns-in_ok-in_statements-in-None-last
in_statement-returns-in_ok-in_statements-in-None-last t c =
    told_both _ _ _ _ _ (sym (behind_none _) ∙ stated.of_try c.in-Try.is c.in-None-last.is c.as_slice-in-None-last.ensures c.as_slice-in-None-last-2.ensures)
    c.in_ok-in_statements-in-None-last.ensures c.in_catches-in-None-last.ensures

pub in_statements-loop-statement-preserved : goal.in_statements-loop-statement-preserved
in_statements-loop-statement-preserved t c =
    one_more in_statement c.args.statements.now c.loop-statement.statement-index c.statement-item.result _ c.loop-statement-test.true c.statement-item.is c.in_ok-in_statement.ensures c.loop-statement.invariant

pub in_cases-loop-case-preserved : goal.in_cases-loop-case-preserved
in_cases-loop-case-preserved t c =
    one_more in_case c.args.cases.now c.loop-case.case-index c.case-item.result _ c.loop-case-test.true c.case-item.is
    (both _ _ _ c.in_ok-in_any.ensures c.in_ok-in_statements.ensures ∙ ap (λ l. c.loop-case.names.items ++ l) (stated.one_case c.case-item.result refl c.as_slice.ensures)) c.loop-case.invariant

pub in_catches-loop-catch-preserved : goal.in_catches-loop-catch-preserved
in_catches-loop-catch-preserved t c =
    one_more in_catch c.args.catches.now c.loop-catch.catch-index c.catch-item.result _ c.loop-catch-test.true c.catch-item.is
    (both _ _ _ c.in_ok-add.ensures c.in_ok-in_statements.ensures ∙ ap (λ l. c.loop-catch.names.items ++ l) (stated.one_catch c.catch-item.result c.as_slice.ensures)) c.loop-catch.invariant

pub in_statement-in_cases-requires : goal.in_statement-in_cases-requires
in_statement-in_cases-requires t c = search (rules, the_lemmas)
