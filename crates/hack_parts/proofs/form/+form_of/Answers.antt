use Rattle.std.proofs.Common.{◌<◌, ◌≤◌, Some, None, false, refl, sym, subst}
use Rattle.hack_tree.specs.declared.expression.Expr.{Expr}
use Rattle.hack_rules.specs.Expressions.{meaning_of}
use Rattle.hack_parts.specs.ExprMeanings as one
use Rattle.hack_parts.specs.Forms.{IsForm}
use Rattle.hack_parts.proofs.FormsOf as forms
use Rattle.hack_parts.proofs.FormsOf.{from, told}
use Rattle.hack_parts.proofs.form.+form_of.Goals as goal

pub returns-in-Assign : goal.returns-in-Assign
returns-in-Assign t c = subst (λ (x : Expr). IsForm _ (meaning_of x)) (sym c.in-Assign.is) (forms.of_assign _ _ _ _)

pub returns-in-Conditional : goal.returns-in-Conditional
returns-in-Conditional t c = subst (λ (x : Expr). IsForm _ (meaning_of x)) (sym c.in-Conditional.is) (forms.of_conditional _ _ _ _)

pub returns-in-Prefix : goal.returns-in-Prefix
returns-in-Prefix t c = subst (λ (x : Expr). IsForm _ (meaning_of x)) (sym c.in-Prefix.is) (forms.of_prefix _ _ _)

pub returns-in-Cast : goal.returns-in-Cast
returns-in-Cast t c = subst (λ (x : Expr). IsForm _ (meaning_of x)) (sym c.in-Cast.is) (from (one.cast _ _ _) (told refl refl refl))

pub returns-in-Power : goal.returns-in-Power
returns-in-Power t c = subst (λ (x : Expr). IsForm _ (meaning_of x)) (sym c.in-Power.is) (from (one.power _ _) (told refl refl refl))

pub returns-in-Test : goal.returns-in-Test
returns-in-Test t c = subst (λ (x : Expr). IsForm _ (meaning_of x)) (sym c.in-Test.is) (from (one.test _ _ _) (told refl refl refl))

pub returns-in-This : goal.returns-in-This
returns-in-This t c = subst (λ (x : Expr). IsForm _ (meaning_of x)) (sym c.in-This.is) (from (one.this _) (told refl refl refl))

pub returns-in-Constant : goal.returns-in-Constant
returns-in-Constant t c = subst (λ (x : Expr). IsForm _ (meaning_of x)) (sym c.in-Constant.is) (from (one.constant _ _) (told refl refl refl))

pub returns-in-Call : goal.returns-in-Call
returns-in-Call t c = subst (λ (x : Expr). IsForm _ (meaning_of x)) (sym c.in-Call.is) (from (one.call _ _ _) (told refl refl refl))

pub returns-in-Scoped : goal.returns-in-Scoped
returns-in-Scoped t c = subst (λ (x : Expr). IsForm _ (meaning_of x)) (sym c.in-Scoped.is) (forms.of_scoped _ _ _)

pub returns-in-New : goal.returns-in-New
returns-in-New t c = subst (λ (x : Expr). IsForm _ (meaning_of x)) (sym c.in-New.is) (from (one.new _ _ _ _ _) (told refl refl refl))

pub returns-in-Container : goal.returns-in-Container
returns-in-Container t c = subst (λ (x : Expr). IsForm _ (meaning_of x)) (sym c.in-Container.is) (from (one.container _ _ _) (told refl refl refl))

pub returns-in-Dict : goal.returns-in-Dict
returns-in-Dict t c = subst (λ (x : Expr). IsForm _ (meaning_of x)) (sym c.in-Dict.is) (from (one.dict _ _) (told refl refl refl))

pub returns-in-Shape : goal.returns-in-Shape
returns-in-Shape t c = subst (λ (x : Expr). IsForm _ (meaning_of x)) (sym c.in-Shape.is) (from (one.shape _ _) (told refl refl refl))

pub returns-in-Variable : goal.returns-in-Variable
returns-in-Variable t c = subst (λ (x : Expr). IsForm (record { subject = Some c.in-Variable.name; is_null = false; key = None }) (meaning_of x)) (sym c.in-Variable.is) (from (one.variable _ _) (record { subject = refl; is_null = refl; key = refl }))

pub returns-in-Literal : goal.returns-in-Literal
returns-in-Literal t c = subst (λ (x : Expr). IsForm (c.of_literal.result) (meaning_of x)) (sym c.in-Literal.is) (from (one.literal _ _) (record { subject = c.of_literal.ensures.subject; is_null = c.of_literal.ensures.is_null; key = c.of_literal.ensures.key }))

pub returns-in-Bracketed : goal.returns-in-Bracketed
returns-in-Bracketed t c = subst (λ (x : Expr). IsForm (record { subject = c.form_of.result.subject; is_null = c.form_of.result.is_null; key = None }) (meaning_of x)) (sym c.in-Bracketed.is) (from (one.bracketed _ _) (let inner = subst (λ (x : Expr). IsForm c.form_of.result (meaning_of x)) c.get.ensures c.form_of.ensures in record { subject = inner.subject; is_null = inner.is_null; key = refl }))

pub returns-then-len-gt0 : goal.returns-then-len-gt0
returns-then-len-gt0 t c = subst (λ (x : Expr). IsForm _ (meaning_of x)) (sym c.in-Chain.is) (forms.of_chain _ _ _ (subst (λ n. 0 < n) c.len.ensures c.if-len-gt0.true))

pub returns-else-len-gt0 : goal.returns-else-len-gt0
returns-else-len-gt0 t c = subst (λ (x : Expr). IsForm (c.form_of-in-Chain.result) (meaning_of x)) (sym c.in-Chain.is) (forms.of_no_chain _ _ _ (subst (λ n. n ≤ 0) c.len.ensures c.if-len-gt0.false) (subst (λ (x : Expr). IsForm (c.form_of-in-Chain.result) (meaning_of x)) c.get-in-Chain.ensures c.form_of-in-Chain.ensures))

pub returns-then-len-gt0-2 : goal.returns-then-len-gt0-2
returns-then-len-gt0-2 t c = subst (λ (x : Expr). IsForm _ (meaning_of x)) (sym c.in-Postfix.is) (forms.of_postfix _ _ _ (subst (λ n. 0 < n) c.len-in-Postfix.ensures c.if-len-gt0-2.true))

pub returns-else-len-gt0-2 : goal.returns-else-len-gt0-2
returns-else-len-gt0-2 t c = subst (λ (x : Expr). IsForm (c.form_of-in-Postfix.result) (meaning_of x)) (sym c.in-Postfix.is) (forms.of_no_postfix _ _ _ (subst (λ n. n ≤ 0) c.len-in-Postfix.ensures c.if-len-gt0-2.false) (subst (λ (x : Expr). IsForm (c.form_of-in-Postfix.result) (meaning_of x)) c.get-in-Postfix.ensures c.form_of-in-Postfix.ensures))
