use Rattle.std.proofs.Common.{◌∙◌, ◌++◌, rules, sym, ap, arith}
use Rattle.hack_tree.specs.declared.expression.Expr.{the_lemmas}
use Rattle.hack_assigned.specs.inside.Parts.{in_entry, in_expression, in_field, in_operand}
use Rattle.hack_assigned.proofs.Adding.{both, nothing, one_more, told, told_both}
use Rattle.hack_assigned.proofs.Deeper.{operands_below, suffixes_below}
use Rattle.hack_assigned.proofs.Formed as formed
use Rattle.hack_assigned.proofs.Suffixed.{last_added, next_added}
use Rattle.hack_assigned.proofs.expressions.+assigned.Goals as goal

pub assigned_in_expression-returns-in-Cast : goal.assigned_in_expression-returns-in-Cast
assigned_in_expression-returns-in-Cast t c = told _ _ _ (formed.of_cast c.in-Cast.is c.get-in-Cast.ensures) c.assigned_in_expression-in-Cast.ensures

pub assigned_in_expression-returns-in-Test : goal.assigned_in_expression-returns-in-Test
assigned_in_expression-returns-in-Test t c = told _ _ _ (formed.of_test c.in-Test.is c.get-in-Test.ensures) c.assigned_in_expression-in-Test.ensures

pub assigned_in_expression-returns-in-Bracketed : goal.assigned_in_expression-returns-in-Bracketed
assigned_in_expression-returns-in-Bracketed t c = told _ _ _ (formed.of_bracketed c.in-Bracketed.is c.get-in-Bracketed.ensures) c.assigned_in_expression-in-Bracketed.ensures

pub assigned_in_expression-returns-in-Power : goal.assigned_in_expression-returns-in-Power
assigned_in_expression-returns-in-Power t c = told _ _ _ (formed.of_power c.in-Power.is c.as_slice-in-Power.ensures) c.assigned_in_each.ensures

pub assigned_in_expression-returns-in-Call : goal.assigned_in_expression-returns-in-Call
assigned_in_expression-returns-in-Call t c = told _ _ _ (formed.of_call c.in-Call.is c.as_slice-in-Call.ensures) c.assigned_in_each-in-Call.ensures

pub assigned_in_expression-returns-in-New : goal.assigned_in_expression-returns-in-New
assigned_in_expression-returns-in-New t c = told _ _ _ (formed.of_new c.in-New.is c.as_slice-in-New.ensures) c.assigned_in_each-in-New.ensures

pub assigned_in_expression-returns-in-Container : goal.assigned_in_expression-returns-in-Container
assigned_in_expression-returns-in-Container t c = told _ _ _ (formed.of_container c.in-Container.is c.as_slice-in-Container.ensures) c.assigned_in_each-in-Container.ensures

pub assigned_in_expression-returns-in-Dict : goal.assigned_in_expression-returns-in-Dict
assigned_in_expression-returns-in-Dict t c = told _ _ _ (formed.of_dict c.in-Dict.is c.as_slice-in-Dict.ensures) c.in_entries.ensures

pub assigned_in_expression-returns-in-Shape : goal.assigned_in_expression-returns-in-Shape
assigned_in_expression-returns-in-Shape t c = told _ _ _ (formed.of_shape c.in-Shape.is c.as_slice-in-Shape.ensures) c.in_fields.ensures

pub assigned_in_expression-returns-in-Scoped : goal.assigned_in_expression-returns-in-Scoped
assigned_in_expression-returns-in-Scoped t c = told _ _ _ (formed.of_scoped c.in-Scoped.is) c.in_member.ensures

pub assigned_in_expression-returns-in-Literal : goal.assigned_in_expression-returns-in-Literal
assigned_in_expression-returns-in-Literal t c = nothing _ (formed.of_literal _ _ c.in-Literal.is)

pub assigned_in_expression-returns-in-Variable : goal.assigned_in_expression-returns-in-Variable
assigned_in_expression-returns-in-Variable t c = nothing _ (formed.of_variable _ _ c.in-Variable.is)

pub assigned_in_expression-returns-in-This : goal.assigned_in_expression-returns-in-This
assigned_in_expression-returns-in-This t c = nothing _ (formed.of_this _ c.in-This.is)

pub assigned_in_expression-returns-in-Constant : goal.assigned_in_expression-returns-in-Constant
assigned_in_expression-returns-in-Constant t c = nothing _ (formed.of_constant _ _ c.in-Constant.is)

pub assigned_in_expression-returns-in_ok-assigned_in_expression-in-Assign-2 : goal.assigned_in_expression-returns-in_ok-assigned_in_expression-in-Assign-2
assigned_in_expression-returns-in_ok-assigned_in_expression-in-Assign-2 t c =
    told_both _ _ _ (in_expression _ ++ in_expression _) _ (formed.of_assign c.in-Assign.is c.get.ensures c.get-in-Assign.ensures c.get-in-Assign-2.ensures c.root_of.ensures)
    (both _ _ _ c.in_ok-assigned_in_expression-in-Assign.ensures c.in_ok-assigned_in_expression-in-Assign-2.ensures) c.add_root.ensures

pub assigned_in_expression-returns-in_ok-assigned_in_expression-in-Some-2 : goal.assigned_in_expression-returns-in_ok-assigned_in_expression-in-Some-2
assigned_in_expression-returns-in_ok-assigned_in_expression-in-Some-2 t c =
    told_both _ _ _ (in_expression _ ++ in_expression _) (in_expression _) (formed.of_conditional c.in-Conditional.is c.in-Some.is c.get-in-Some.ensures c.get-in-Some-2.ensures c.get-in-Some-3.ensures)
    (both _ _ _ c.in_ok-assigned_in_expression-in-Some.ensures c.in_ok-assigned_in_expression-in-Some-2.ensures) c.assigned_in_expression-in-Some-3.ensures

pub assigned_in_expression-returns-in_ok-assigned_in_expression-in-None : goal.assigned_in_expression-returns-in_ok-assigned_in_expression-in-None
assigned_in_expression-returns-in_ok-assigned_in_expression-in-None t c =
    told_both _ _ _ (in_expression _) (in_expression _) (formed.of_short c.in-Conditional.is c.in-None.is c.get-in-None.ensures c.get-in-None-2.ensures)
    c.in_ok-assigned_in_expression-in-None.ensures c.assigned_in_expression-in-None-2.ensures

pub assigned_in_expression-returns-in_ok-assigned_in_expression-in-Chain : goal.assigned_in_expression-returns-in_ok-assigned_in_expression-in-Chain
assigned_in_expression-returns-in_ok-assigned_in_expression-in-Chain t c =
    told_both _ _ _ (in_expression _) _ (formed.of_chain c.in-Chain.is c.get-in-Chain.ensures c.as_slice.ensures) c.in_ok-assigned_in_expression-in-Chain.ensures c.in_operands.ensures

pub assigned_in_expression-returns-then-not-is_step : goal.assigned_in_expression-returns-then-not-is_step
assigned_in_expression-returns-then-not-is_step t c =
    c.in_ok-assigned_in_expression-in-Prefix.ensures ∙ ap (λ l. c.args.names.now.items ++ l) (formed.of_prefix c.in-Prefix.is c.get-in-Prefix.ensures (sym c.is_step.ensures ∙ c.if-not-is_step.true))

pub assigned_in_expression-returns-else-not-is_step : goal.assigned_in_expression-returns-else-not-is_step
assigned_in_expression-returns-else-not-is_step t c =
    told_both _ _ _ (in_expression _) _ (formed.of_step c.in-Prefix.is c.get-in-Prefix.ensures c.get-in-Prefix-2.ensures (sym c.is_step.ensures ∙ c.if-not-is_step.false) c.root_of-in-Prefix.ensures)
    c.in_ok-assigned_in_expression-in-Prefix.ensures c.add_root-in-Prefix.ensures

pub assigned_in_expression-returns-in_ok-assigned_in_expression-in-Postfix : goal.assigned_in_expression-returns-in_ok-assigned_in_expression-in-Postfix
assigned_in_expression-returns-in_ok-assigned_in_expression-in-Postfix t c =
    formed.of_postfix _ _ _ c.in-Postfix.is c.get-in-Postfix.ensures c.get-in-Postfix-2.ensures c.as_slice-in-Postfix.ensures c.root_of-in-Postfix.ensures
    c.in_ok-assigned_in_expression-in-Postfix.ensures c.in_suffixes.ensures

pub assigned_in_each-loop-part-preserved : goal.assigned_in_each-loop-part-preserved
assigned_in_each-loop-part-preserved t c =
    one_more in_expression c.args.parts.now c.loop-part.part-index c.part-item.result _ c.loop-part-test.true c.part-item.is c.in_ok-assigned_in_expression.ensures c.loop-part.invariant

pub in_operands-loop-operand-preserved : goal.in_operands-loop-operand-preserved
in_operands-loop-operand-preserved t c =
    one_more in_operand c.args.operands.now c.loop-operand.operand-index c.operand-item.result _ c.loop-operand-test.true c.operand-item.is c.in_ok-assigned_in_expression.ensures c.loop-operand.invariant

pub in_fields-loop-field-preserved : goal.in_fields-loop-field-preserved
in_fields-loop-field-preserved t c =
    one_more in_field c.args.fields.now c.loop-field.field-index c.field-item.result _ c.loop-field-test.true c.field-item.is c.in_ok-assigned_in_expression.ensures c.loop-field.invariant

pub in_entries-loop-entry-preserved : goal.in_entries-loop-entry-preserved
in_entries-loop-entry-preserved t c =
    one_more in_entry c.args.entries.now c.loop-entry.entry-index c.entry-item.result _ c.loop-entry-test.true c.entry-item.is
    (both _ (in_expression _) (in_expression _) c.in_ok-assigned_in_expression.ensures c.in_ok-assigned_in_expression-2.ensures) c.loop-entry.invariant

pub in_suffixes-loop-suffix-preserved : goal.in_suffixes-loop-suffix-preserved
in_suffixes-loop-suffix-preserved t c =
    next_added c.args.suffixes.now c.loop-suffix.suffix-index c.suffix-item.result _ _ c.loop-suffix-test.true c.suffix-item.is c.in_ok-in_suffix.ensures c.root_with-behind.ensures c.loop-suffix.invariant

pub in_suffixes-returns : goal.in_suffixes-returns
in_suffixes-returns t c = last_added c.args.suffixes.now c.loop-suffix.suffix-index _ _ (omega arith) c.loop-suffix.invariant

pub assigned_in_expression-in_operands-requires : goal.assigned_in_expression-in_operands-requires
assigned_in_expression-in_operands-requires t c = let below = operands_below _ _ _ _ _ c.in-Chain.is c.as_slice.ensures in search (rules, the_lemmas)

pub assigned_in_expression-in_suffixes-requires : goal.assigned_in_expression-in_suffixes-requires
assigned_in_expression-in_suffixes-requires t c = let below = suffixes_below _ _ _ _ _ c.in-Postfix.is c.as_slice-in-Postfix.ensures in search (rules, the_lemmas)
