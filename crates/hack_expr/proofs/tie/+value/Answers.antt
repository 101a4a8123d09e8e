use Rattle.std.proofs.Common.{◌+◌, ◌*◌, arith, Option, subst, sym, ◌<◌, ◌≤◌, refl, ap, ◌∙◌}
use Rattle.hack_parts.specs.ExprMeanings as one
use Rattle.hack_tree.specs.declared.expression.Expr.{Expr, size-Expr}
use Rattle.hack_tree.specs.declared.expression.PrefixOperator.{PrefixOperator}
use Rattle.hack_tree.specs.declared.expression.PrefixOperator.TheVariants as operator
use Rattle.hack_tree.specs.declared.expression.Expr.TheVariants as e
use Rattle.hack_expr.proofs.Behind as behind
use Rattle.hack_expr.proofs.Deeper as deeper
use Rattle.hack_expr.proofs.Handed.{aiming, branching, typing, typing_in_member}
use Rattle.hack_expr.proofs.Targeted as targeted
use Rattle.hack_expr.proofs.Tied as tied
use Rattle.hack_expr.proofs.tie.+value.Goals as goal

pub value-returns-in-Some : goal.value-returns-in-Some
value-returns-in-Some g t c = tied.of_conditional c.args.reading (c.in-Conditional.is ∙ ap (λ (m : Option Expr). e.Conditional c.in-Conditional.at c.in-Conditional.condition m c.in-Conditional.other) c.in-Some.is) c.get.ensures c.get-in-Some.ensures c.get-in-Some-2.ensures c.conditional.ensures

pub value-returns-in-None : goal.value-returns-in-None
value-returns-in-None g t c = tied.of_short c.args.reading (c.in-Conditional.is ∙ ap (λ (m : Option Expr). e.Conditional c.in-Conditional.at c.in-Conditional.condition m c.in-Conditional.other) c.in-None.is) c.get-in-None.ensures c.get-in-None-2.ensures c.short.ensures

pub value-returns-in-Chain : goal.value-returns-in-Chain
value-returns-in-Chain g t c = tied.of_chain c.args.reading c.in-Chain.is c.get-in-Chain.ensures c.as_slice.ensures c.chain.ensures

pub value-returns-in-Prefix : goal.value-returns-in-Prefix
value-returns-in-Prefix g t c = tied.of_prefix c.args.reading c.in-Prefix.is c.get-in-Prefix.ensures c.prefixed.ensures

pub value-returns-in-Cast : goal.value-returns-in-Cast
value-returns-in-Cast g t c = tied.of_cast c.args.reading c.in-Cast.is c.get-in-Cast.ensures c.cast.ensures

pub value-returns-in-Power : goal.value-returns-in-Power
value-returns-in-Power g t c = tied.of_power c.args.reading c.in-Power.is c.as_slice-in-Power.ensures c.power.ensures

pub value-returns-in-Test : goal.value-returns-in-Test
value-returns-in-Test g t c = tied.of_test c.args.reading c.in-Test.is c.get-in-Test.ensures c.as_slice-in-Test.ensures c.tested.ensures

pub value-returns-in-Bracketed : goal.value-returns-in-Bracketed
value-returns-in-Bracketed g t c = tied.of_bracketed c.args.reading c.in-Bracketed.is c.get-in-Bracketed.ensures c.value.ensures

pub value-returns-in-Literal : goal.value-returns-in-Literal
value-returns-in-Literal g t c = tied.of_literal c.args.reading c.in-Literal.is c.literal.ensures

pub value-returns-in-Variable : goal.value-returns-in-Variable
value-returns-in-Variable g t c = tied.of_variable c.args.reading c.in-Variable.is c.variable.ensures

pub value-returns-in-This : goal.value-returns-in-This
value-returns-in-This g t c = tied.of_this c.args.reading c.in-This.is c.this.ensures

pub value-returns-in-Constant : goal.value-returns-in-Constant
value-returns-in-Constant g t c = tied.of_constant c.args.reading c.in-Constant.is c.constant.ensures

pub value-returns-in-Container : goal.value-returns-in-Container
value-returns-in-Container g t c = tied.of_container c.args.reading c.in-Container.is c.as_slice-in-Container.ensures c.container.ensures

pub value-returns-in-Dict : goal.value-returns-in-Dict
value-returns-in-Dict g t c = tied.of_dict c.args.reading c.in-Dict.is c.as_slice-in-Dict.ensures c.dict.ensures

pub value-returns-in-Shape : goal.value-returns-in-Shape
value-returns-in-Shape g t c = tied.of_shape c.args.reading c.in-Shape.is c.as_slice-in-Shape.ensures c.shape.ensures

pub branches_of-returns-in-Chain : goal.branches_of-returns-in-Chain
branches_of-returns-in-Chain g t c = tied.of_chain_branches c.in-Chain.is c.get.ensures c.as_slice.ensures c.chain_branches.ensures

pub branches_of-returns-in-Not : goal.branches_of-returns-in-Not
branches_of-returns-in-Not g t c = tied.of_not_branches (c.in-Prefix.is ∙ ap (λ (o : PrefixOperator). e.Prefix c.in-Prefix.at o c.in-Prefix.operand) c.in-Not.is) c.get-in-Not.ensures c.not_branches.ensures

pub branches_of-returns-in-Test : goal.branches_of-returns-in-Test
branches_of-returns-in-Test g t c = tied.of_test_branches c.in-Test.is c.get-in-Test.ensures c.as_slice-in-Test.ensures c.test_branches.ensures

pub branches_of-returns-in-Bracketed : goal.branches_of-returns-in-Bracketed
branches_of-returns-in-Bracketed g t c = tied.of_bracketed_branches c.in-Bracketed.is c.get-in-Bracketed.ensures c.branches_of.ensures

pub branches_of-returns-in-Variable : goal.branches_of-returns-in-Variable
branches_of-returns-in-Variable g t c = tied.of_variable_branches c.in-Variable.is c.variable_branches.ensures

pub branches_of-returns-in-Minus : goal.branches_of-returns-in-Minus
branches_of-returns-in-Minus g t c = tied.of_plain _ (tied.sign_says_nothing _ operator.Minus (λ m. refl) c.in-Prefix.is c.in-Minus.is) c.plain.ensures

pub branches_of-returns-in-Plus : goal.branches_of-returns-in-Plus
branches_of-returns-in-Plus g t c = tied.of_plain _ (tied.sign_says_nothing _ operator.Plus (λ m. refl) c.in-Prefix.is c.in-Plus.is) c.plain-in-Plus.ensures

pub branches_of-returns-in-BitNot : goal.branches_of-returns-in-BitNot
branches_of-returns-in-BitNot g t c = tied.of_plain _ (tied.sign_says_nothing _ operator.BitNot (λ m. refl) c.in-Prefix.is c.in-BitNot.is) c.plain-in-BitNot.ensures

pub branches_of-returns-in-Conditional : goal.branches_of-returns-in-Conditional
branches_of-returns-in-Conditional g t c = tied.of_plain _ (tied.choice_says_nothing _ _ _ _ c.in-Conditional.is) c.plain-in-Conditional.ensures

pub branches_of-returns-in-Cast : goal.branches_of-returns-in-Cast
branches_of-returns-in-Cast g t c = tied.of_plain _ (tied.says_nothing c.in-Cast.is (one.cast _ _ _) refl) c.plain-in-Cast.ensures

pub branches_of-returns-in-Power : goal.branches_of-returns-in-Power
branches_of-returns-in-Power g t c = tied.of_plain _ (tied.says_nothing c.in-Power.is (one.power _ _) refl) c.plain-in-Power.ensures

pub branches_of-returns-in-Literal : goal.branches_of-returns-in-Literal
branches_of-returns-in-Literal g t c = tied.of_plain _ (tied.says_nothing c.in-Literal.is (one.literal _ _) refl) c.plain-in-Literal.ensures

pub branches_of-returns-in-This : goal.branches_of-returns-in-This
branches_of-returns-in-This g t c = tied.of_plain _ (tied.says_nothing c.in-This.is (one.this _) refl) c.plain-in-This.ensures

pub branches_of-returns-in-Constant : goal.branches_of-returns-in-Constant
branches_of-returns-in-Constant g t c = tied.of_plain _ (tied.says_nothing c.in-Constant.is (one.constant _ _) refl) c.plain-in-Constant.ensures

pub branches_of-returns-in-Container : goal.branches_of-returns-in-Container
branches_of-returns-in-Container g t c = tied.of_plain _ (tied.says_nothing c.in-Container.is (one.container _ _ _) refl) c.plain-in-Container.ensures

pub branches_of-returns-in-Dict : goal.branches_of-returns-in-Dict
branches_of-returns-in-Dict g t c = tied.of_plain _ (tied.says_nothing c.in-Dict.is (one.dict _ _) refl) c.plain-in-Dict.ensures

pub branches_of-returns-in-Shape : goal.branches_of-returns-in-Shape
branches_of-returns-in-Shape g t c = tied.of_plain _ (tied.says_nothing c.in-Shape.is (one.shape _ _) refl) c.plain-in-Shape.ensures

pub branches_of-chain_branches-requires-clause-values : goal.branches_of-chain_branches-requires-clause-values
branches_of-chain_branches-requires-clause-values g t c =
    λ k d lt. typing (λ alloc setting decls state x reading same. (
      let small : size-Expr x.now < size-Expr c.args.e.now = subst (λ (y : Expr). size-Expr y < size-Expr c.args.e.now) (sym same) (deeper.of_other _ c.in-Chain.is c.as_slice.ensures k d lt) in
          let falls : 3 * size-Expr x.now < t = omega (arith, small, c.decreases) in falls,
      (λ a here. here),
    ))
    (λ alloc setting decls state x reading result new behind called. called.2)

pub branches_of-chain_branches-requires-clause-conditions : goal.branches_of-chain_branches-requires-clause-conditions
branches_of-chain_branches-requires-clause-conditions g t c =
    λ k d lt. branching (λ alloc setting decls state x same. (
      let small : size-Expr x.now < size-Expr c.args.e.now = subst (λ (y : Expr). size-Expr y < size-Expr c.args.e.now) (sym same) (deeper.of_other _ c.in-Chain.is c.as_slice.ensures k d lt) in
          let falls : 3 * size-Expr x.now + 1 < t = omega (arith, small, c.decreases) in falls,
      (λ a here. here),
    ))
    (λ alloc setting decls state x result new behind called. called.1)

pub value-chain-requires-clause-values : goal.value-chain-requires-clause-values
value-chain-requires-clause-values g t c =
    λ k d lt. typing (λ alloc setting decls state x reading same. (
      let small : size-Expr x.now < size-Expr c.args.e.now = subst (λ (y : Expr). size-Expr y < size-Expr c.args.e.now) (sym same) (deeper.of_other _ c.in-Chain.is c.as_slice.ensures k d lt) in
          let falls : 3 * size-Expr x.now < t = omega (arith, small, c.decreases) in falls,
      (λ a here. here),
    ))
    (λ alloc setting decls state x reading result new behind called. called.2)

pub value-chain-requires-clause-conditions : goal.value-chain-requires-clause-conditions
value-chain-requires-clause-conditions g t c =
    λ k d lt. branching (λ alloc setting decls state x same. (
      let small : size-Expr x.now < size-Expr c.args.e.now = subst (λ (y : Expr). size-Expr y < size-Expr c.args.e.now) (sym same) (deeper.of_other _ c.in-Chain.is c.as_slice.ensures k d lt) in
          let falls : 3 * size-Expr x.now + 1 < t = omega (arith, small, c.decreases) in falls,
      (λ a here. here),
    ))
    (λ alloc setting decls state x result new behind called. called.1)

pub value-power-requires : goal.value-power-requires
value-power-requires g t c =
    record {
      operands = λ k d lt. typing (λ alloc setting decls state x reading same. (
        let small : size-Expr x.now < size-Expr c.args.e.now = subst (λ (y : Expr). size-Expr y < size-Expr c.args.e.now) (sym same) (deeper.of_operand c.in-Power.is c.as_slice-in-Power.ensures k d lt) in
            let falls : 3 * size-Expr x.now < t = omega (arith, small, c.decreases) in falls,
        (λ a here. here),
      ))
          (λ alloc setting decls state x reading result new behind called. called.2);
    }

pub value-container-requires : goal.value-container-requires
value-container-requires g t c =
    record {
      elements = λ k d lt. typing (λ alloc setting decls state x reading same. (
        let small : size-Expr x.now < size-Expr c.args.e.now = subst (λ (y : Expr). size-Expr y < size-Expr c.args.e.now) (sym same) (deeper.of_element c.in-Container.is c.as_slice-in-Container.ensures k d lt) in
            let falls : 3 * size-Expr x.now < t = omega (arith, small, c.decreases) in falls,
        (λ a here. here),
      ))
          (λ alloc setting decls state x reading result new behind called. called.2);
    }

pub value-dict-requires-clause-keys : goal.value-dict-requires-clause-keys
value-dict-requires-clause-keys g t c =
    λ k d lt. typing (λ alloc setting decls state x reading same. (
      let small : size-Expr x.now < size-Expr c.args.e.now = subst (λ (y : Expr). size-Expr y < size-Expr c.args.e.now) (sym same) (deeper.of_key c.in-Dict.is c.as_slice-in-Dict.ensures k d lt) in
          let falls : 3 * size-Expr x.now < t = omega (arith, small, c.decreases) in falls,
      (λ a here. here),
    ))
    (λ alloc setting decls state x reading result new behind called. called.2)

pub value-dict-requires-clause-values : goal.value-dict-requires-clause-values
value-dict-requires-clause-values g t c =
    λ k d lt. typing (λ alloc setting decls state x reading same. (
      let small : size-Expr x.now < size-Expr c.args.e.now = subst (λ (y : Expr). size-Expr y < size-Expr c.args.e.now) (sym same) (deeper.of_value c.in-Dict.is c.as_slice-in-Dict.ensures k d lt) in
          let falls : 3 * size-Expr x.now < t = omega (arith, small, c.decreases) in falls,
      (λ a here. here),
    ))
    (λ alloc setting decls state x reading result new behind called. called.2)

pub value-shape-requires : goal.value-shape-requires
value-shape-requires g t c =
    record {
      fields = λ k d lt. typing (λ alloc setting decls state x reading same. (
        let small : size-Expr x.now < size-Expr c.args.e.now = subst (λ (y : Expr). size-Expr y < size-Expr c.args.e.now) (sym same) (deeper.of_field c.in-Shape.is c.as_slice-in-Shape.ensures k d lt) in
            let falls : 3 * size-Expr x.now < t = omega (arith, small, c.decreases) in falls,
        (λ a here. here),
      ))
          (λ alloc setting decls state x reading result new behind called. called.2);
    }

pub value-conditional-requires-clause-other : goal.value-conditional-requires-clause-other
value-conditional-requires-clause-other g t c =
    typing (λ alloc setting decls state x reading same. (
      let small : size-Expr x.now < size-Expr c.args.e.now = subst (λ (y : Expr). size-Expr y < size-Expr c.args.e.now) (sym same) (deeper.of_last _ _ c.in-Conditional.is c.get-in-Some-2.ensures) in
          let falls : 3 * size-Expr x.now < t = omega (arith, small, c.decreases) in falls,
      (λ a here. here),
    ))
    (λ alloc setting decls state x reading result new behind called. called.2)

pub value-returns-in-Assign : goal.value-returns-in-Assign
value-returns-in-Assign g t c = tied.of_assign c.args.reading c.in-Assign.is c.get-in-Assign.ensures c.get-in-Assign-2.ensures c.assigned.ensures

pub value-returns-in-Postfix : goal.value-returns-in-Postfix
value-returns-in-Postfix g t c = tied.of_postfix c.args.reading c.in-Postfix.is c.get-in-Postfix.ensures c.as_slice-in-Postfix.ensures c.postfix_value.ensures

pub value-returns-in-Call : goal.value-returns-in-Call
value-returns-in-Call g t c = tied.of_call c.args.reading c.in-Call.is c.as_slice-in-Call.ensures c.call.ensures

pub value-returns-in-Scoped : goal.value-returns-in-Scoped
value-returns-in-Scoped g t c = tied.of_scoped c.args.reading c.in-Scoped.is refl refl c.scoped.ensures

pub value-returns-in-New : goal.value-returns-in-New
value-returns-in-New g t c = tied.of_new c.args.reading c.in-New.is refl c.as_slice-in-New.ensures c.as_slice-in-New-2.ensures c.new_instance.ensures

pub branches_of-returns-in-Assign : goal.branches_of-returns-in-Assign
branches_of-returns-in-Assign g t c = tied.of_plain _ (tied.says_nothing c.in-Assign.is (one.assign _ _ _ _) refl) c.plain-in-Assign.ensures

pub branches_of-returns-in-Call : goal.branches_of-returns-in-Call
branches_of-returns-in-Call g t c = tied.of_plain _ (tied.says_nothing c.in-Call.is (one.call _ _ _) refl) c.plain-in-Call.ensures

pub branches_of-returns-in-New : goal.branches_of-returns-in-New
branches_of-returns-in-New g t c = tied.of_plain _ (tied.says_nothing c.in-New.is (one.new _ _ _ _ _) refl) c.plain-in-New.ensures

pub branches_of-returns-in-Increment : goal.branches_of-returns-in-Increment
branches_of-returns-in-Increment g t c = tied.of_plain _ (tied.sign_says_nothing _ operator.Increment (λ m. refl) c.in-Prefix.is c.in-Increment.is) c.plain-in-Increment.ensures

pub branches_of-returns-in-Decrement : goal.branches_of-returns-in-Decrement
branches_of-returns-in-Decrement g t c = tied.of_plain _ (tied.sign_says_nothing _ operator.Decrement (λ m. refl) c.in-Prefix.is c.in-Decrement.is) c.plain-in-Decrement.ensures

pub branches_of-returns-in-Scoped : goal.branches_of-returns-in-Scoped
branches_of-returns-in-Scoped g t c = tied.of_plain _ (behind.scoped_says_nothing _ _ _ c.in-Scoped.is) c.plain-in-Scoped.ensures

pub branches_of-returns-then-len-gt0 : goal.branches_of-returns-then-len-gt0
branches_of-returns-then-len-gt0 g t c = tied.of_plain _ (behind.postfix_says_nothing _ _ _ c.in-Postfix.is (subst (λ n. 0 < n) c.len.ensures c.if-len-gt0.true)) c.plain-then-len-gt0.ensures

pub branches_of-returns-else-len-gt0 : goal.branches_of-returns-else-len-gt0
branches_of-returns-else-len-gt0 g t c = tied.of_no_postfix_branches _ c.in-Postfix.is c.get-in-Postfix.ensures (subst (λ n. n ≤ 0) c.len.ensures c.if-len-gt0.false) c.branches_of-in-Postfix.ensures

pub target_of-returns-in-Variable : goal.target_of-returns-in-Variable
target_of-returns-in-Variable g t c = targeted.of_variable c.args.reading c.in-Variable.is c.variable_target.ensures

pub target_of-returns-in-Postfix : goal.target_of-returns-in-Postfix
target_of-returns-in-Postfix g t c = targeted.of_postfix c.args.reading c.in-Postfix.is c.get.ensures c.as_slice.ensures c.postfix.ensures

pub target_of-returns-in-Property : goal.target_of-returns-in-Property
target_of-returns-in-Property g t c = targeted.of_property c.args.reading _ c.in-Scoped.is c.in-Property.is refl c.property_target.ensures

pub target_of-returns-in-Word : goal.target_of-returns-in-Word
target_of-returns-in-Word g t c = targeted.of_no_target c.args.reading _ (behind.word_is_no_target c.args.reading _ _ c.in-Scoped.is c.in-Word.is) c.no_target.ensures

pub target_of-returns-then-len-gt0 : goal.target_of-returns-then-len-gt0
target_of-returns-then-len-gt0 g t c = targeted.of_no_target c.args.reading _ (behind.chain_is_no_target c.args.reading _ _ _ c.in-Chain.is (subst (λ n. 0 < n) c.len.ensures c.if-len-gt0.true)) c.no_target-then-len-gt0.ensures

pub target_of-returns-else-len-gt0 : goal.target_of-returns-else-len-gt0
target_of-returns-else-len-gt0 g t c = targeted.of_no_chain c.args.reading _ c.in-Chain.is c.get-in-Chain.ensures (subst (λ n. n ≤ 0) c.len.ensures c.if-len-gt0.false) c.target_of.ensures

pub target_of-returns-in-Conditional : goal.target_of-returns-in-Conditional
target_of-returns-in-Conditional g t c = targeted.of_no_target c.args.reading _ (behind.choice_is_no_target c.args.reading _ _ _ _ c.in-Conditional.is) c.no_target-in-Conditional.ensures

pub target_of-returns-in-Prefix : goal.target_of-returns-in-Prefix
target_of-returns-in-Prefix g t c = targeted.of_no_target c.args.reading _ (behind.prefix_is_no_target c.args.reading _ _ _ c.in-Prefix.is) c.no_target-in-Prefix.ensures

pub target_of-returns-in-Bracketed : goal.target_of-returns-in-Bracketed
target_of-returns-in-Bracketed g t c = targeted.of_no_target c.args.reading _ (behind.is_no_target c.args.reading c.in-Bracketed.is (one.bracketed _ _) refl refl) c.no_target-in-Bracketed.ensures

pub target_of-returns-in-Assign : goal.target_of-returns-in-Assign
target_of-returns-in-Assign g t c = targeted.of_no_target c.args.reading _ (behind.is_no_target c.args.reading c.in-Assign.is (one.assign _ _ _ _) refl refl) c.no_target-in-Assign.ensures

pub target_of-returns-in-Cast : goal.target_of-returns-in-Cast
target_of-returns-in-Cast g t c = targeted.of_no_target c.args.reading _ (behind.is_no_target c.args.reading c.in-Cast.is (one.cast _ _ _) refl refl) c.no_target-in-Cast.ensures

pub target_of-returns-in-Power : goal.target_of-returns-in-Power
target_of-returns-in-Power g t c = targeted.of_no_target c.args.reading _ (behind.is_no_target c.args.reading c.in-Power.is (one.power _ _) refl refl) c.no_target-in-Power.ensures

pub target_of-returns-in-Test : goal.target_of-returns-in-Test
target_of-returns-in-Test g t c = targeted.of_no_target c.args.reading _ (behind.is_no_target c.args.reading c.in-Test.is (one.test _ _ _) refl refl) c.no_target-in-Test.ensures

pub target_of-returns-in-Literal : goal.target_of-returns-in-Literal
target_of-returns-in-Literal g t c = targeted.of_no_target c.args.reading _ (behind.is_no_target c.args.reading c.in-Literal.is (one.literal _ _) refl refl) c.no_target-in-Literal.ensures

pub target_of-returns-in-This : goal.target_of-returns-in-This
target_of-returns-in-This g t c = targeted.of_no_target c.args.reading _ (behind.is_no_target c.args.reading c.in-This.is (one.this _) refl refl) c.no_target-in-This.ensures

pub target_of-returns-in-Constant : goal.target_of-returns-in-Constant
target_of-returns-in-Constant g t c = targeted.of_no_target c.args.reading _ (behind.is_no_target c.args.reading c.in-Constant.is (one.constant _ _) refl refl) c.no_target-in-Constant.ensures

pub target_of-returns-in-Call : goal.target_of-returns-in-Call
target_of-returns-in-Call g t c = targeted.of_no_target c.args.reading _ (behind.is_no_target c.args.reading c.in-Call.is (one.call _ _ _) refl refl) c.no_target-in-Call.ensures

pub target_of-returns-in-New : goal.target_of-returns-in-New
target_of-returns-in-New g t c = targeted.of_no_target c.args.reading _ (behind.is_no_target c.args.reading c.in-New.is (one.new _ _ _ _ _) refl refl) c.no_target-in-New.ensures

pub target_of-returns-in-Container : goal.target_of-returns-in-Container
target_of-returns-in-Container g t c = targeted.of_no_target c.args.reading _ (behind.is_no_target c.args.reading c.in-Container.is (one.container _ _ _) refl refl) c.no_target-in-Container.ensures

pub target_of-returns-in-Dict : goal.target_of-returns-in-Dict
target_of-returns-in-Dict g t c = targeted.of_no_target c.args.reading _ (behind.is_no_target c.args.reading c.in-Dict.is (one.dict _ _) refl refl) c.no_target-in-Dict.ensures

pub target_of-returns-in-Shape : goal.target_of-returns-in-Shape
target_of-returns-in-Shape g t c = targeted.of_no_target c.args.reading _ (behind.is_no_target c.args.reading c.in-Shape.is (one.shape _ _) refl refl) c.no_target-in-Shape.ensures

pub value-assigned-requires-clause-value : goal.value-assigned-requires-clause-value
value-assigned-requires-clause-value g t c =
    typing (λ alloc setting decls state x reading same. (
      let small : size-Expr x.now < size-Expr c.args.e.now = subst (λ (y : Expr). size-Expr y < size-Expr c.args.e.now) (sym same) (deeper.of_assigned _ _ c.in-Assign.is c.get-in-Assign-2.ensures) in
          let falls : 3 * size-Expr x.now < t = omega (arith, small, c.decreases) in falls,
      (λ a here. here),
    ))
    (λ alloc setting decls state x reading result new behind called. called.2)

pub value-assigned-requires-clause-target : goal.value-assigned-requires-clause-target
value-assigned-requires-clause-target g t c =
    aiming (λ alloc setting decls state x reading same. (
      let small : size-Expr x.now < size-Expr c.args.e.now = subst (λ (y : Expr). size-Expr y < size-Expr c.args.e.now) (sym same) (deeper.of_target _ _ c.in-Assign.is c.get-in-Assign.ensures) in
          let falls : 3 * size-Expr x.now + 1 < t = omega (arith, small, c.decreases) in falls,
      (λ a here. here),
    ))
    (λ alloc setting decls state x reading result new behind called. called.2)

pub value-postfix_value-requires-clause-operand : goal.value-postfix_value-requires-clause-operand
value-postfix_value-requires-clause-operand g t c =
    aiming (λ alloc setting decls state x reading same. (
      let small : size-Expr x.now < size-Expr c.args.e.now = subst (λ (y : Expr). size-Expr y < size-Expr c.args.e.now) (sym same) (deeper.of_behind _ c.in-Postfix.is c.get-in-Postfix.ensures) in
          let falls : 3 * size-Expr x.now + 1 < t = omega (arith, small, c.decreases) in falls,
      (λ a here. here),
    ))
    (λ alloc setting decls state x reading result new behind called. called.2)

pub value-postfix_value-requires-clause-suffixes : goal.value-postfix_value-requires-clause-suffixes
value-postfix_value-requires-clause-suffixes g t c =
    deeper.of_suffixes (λ e less. typing (λ alloc setting decls state x reading same. (
      let small : size-Expr x.now < size-Expr c.args.e.now = subst (λ (y : Expr). size-Expr y < size-Expr c.args.e.now) (sym same) (less) in
          let falls : 3 * size-Expr x.now < t = omega (arith, small, c.decreases) in falls,
      (λ a here. here),
    ))
    (λ alloc setting decls state x reading result new behind called. called.2)) _ c.in-Postfix.is c.as_slice-in-Postfix.ensures

pub target_of-postfix-requires-clause-operand : goal.target_of-postfix-requires-clause-operand
target_of-postfix-requires-clause-operand g t c =
    aiming (λ alloc setting decls state x reading same. (
      let small : size-Expr x.now < size-Expr c.args.e.now = subst (λ (y : Expr). size-Expr y < size-Expr c.args.e.now) (sym same) (deeper.of_behind _ c.in-Postfix.is c.get.ensures) in
          let falls : 3 * size-Expr x.now + 1 < t = omega (arith, small, c.decreases) in falls,
      (λ a here. here),
    ))
    (λ alloc setting decls state x reading result new behind called. called.2)

pub target_of-postfix-requires-clause-suffixes : goal.target_of-postfix-requires-clause-suffixes
target_of-postfix-requires-clause-suffixes g t c =
    deeper.of_suffixes (λ e less. typing (λ alloc setting decls state x reading same. (
      let small : size-Expr x.now < size-Expr c.args.e.now = subst (λ (y : Expr). size-Expr y < size-Expr c.args.e.now) (sym same) (less) in
          let falls : 3 * size-Expr x.now < t = omega (arith, small, c.decreases) in falls,
      (λ a here. here),
    ))
    (λ alloc setting decls state x reading result new behind called. called.2)) _ c.in-Postfix.is c.as_slice.ensures

pub value-call-requires : goal.value-call-requires
value-call-requires g t c =
    λ k d lt. typing (λ alloc setting decls state x reading same. (
      let small : size-Expr x.now < size-Expr c.args.e.now = subst (λ (y : Expr). size-Expr y < size-Expr c.args.e.now) (sym same) (deeper.of_argument c.in-Call.is c.as_slice-in-Call.ensures k d lt) in
          let falls : 3 * size-Expr x.now < t = omega (arith, small, c.decreases) in falls,
      (λ a here. here),
    ))
    (λ alloc setting decls state x reading result new behind called. called.2)

pub value-new_instance-requires : goal.value-new_instance-requires
value-new_instance-requires g t c =
    λ k d lt. typing (λ alloc setting decls state x reading same. (
      let small : size-Expr x.now < size-Expr c.args.e.now = subst (λ (y : Expr). size-Expr y < size-Expr c.args.e.now) (sym same) (deeper.of_given c.in-New.is c.as_slice-in-New-2.ensures k d lt) in
          let falls : 3 * size-Expr x.now < t = omega (arith, small, c.decreases) in falls,
      (λ a here. here),
    ))
    (λ alloc setting decls state x reading result new behind called. called.2)

pub value-scoped-requires : goal.value-scoped-requires
value-scoped-requires g t c =
    typing_in_member (λ e less. typing (λ alloc setting decls state x reading same. (
      let small : size-Expr x.now < size-Expr c.args.e.now = subst (λ (y : Expr). size-Expr y < size-Expr c.args.e.now) (sym same) (less) in
          let falls : 3 * size-Expr x.now < t = omega (arith, small, c.decreases) in falls,
      (λ a here. here),
    ))
    (λ alloc setting decls state x reading result new behind called. called.2)) c.in-Scoped.is refl
