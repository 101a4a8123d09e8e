use Rattle.std.proofs.Common.{◌∙◌, sym, ap}
use Rattle.hack_tree.specs.declared.expression.Expr.{Expr}
use Rattle.hack_rules.specs.Expressions.{meaning_of}
use Rattle.hack_rules.specs.Meanings.{Meaning}
use Rattle.hack_parts.specs.ExprMeanings as one
use Rattle.hack_parts.proofs.Places as places
use Rattle.hack_parts.proofs.form.+place_of.Goals as goal

pub returns-in-Assign : goal.returns-in-Assign
returns-in-Assign t c = sym (ap (λ (x : Expr). (meaning_of x).at) c.in-Assign.is ∙ ap (λ (m : Meaning). m.at) (one.assign _ _ _ _))

pub returns-in-Prefix : goal.returns-in-Prefix
returns-in-Prefix t c = sym (ap (λ (x : Expr). (meaning_of x).at) c.in-Prefix.is ∙ places.of_prefix _ _ _)

pub returns-in-Cast : goal.returns-in-Cast
returns-in-Cast t c = sym (ap (λ (x : Expr). (meaning_of x).at) c.in-Cast.is ∙ ap (λ (m : Meaning). m.at) (one.cast _ _ _))

pub returns-in-Power : goal.returns-in-Power
returns-in-Power t c = sym (ap (λ (x : Expr). (meaning_of x).at) c.in-Power.is ∙ ap (λ (m : Meaning). m.at) (one.power _ _))

pub returns-in-Test : goal.returns-in-Test
returns-in-Test t c = sym (ap (λ (x : Expr). (meaning_of x).at) c.in-Test.is ∙ ap (λ (m : Meaning). m.at) (one.test _ _ _))

pub returns-in-Bracketed : goal.returns-in-Bracketed
returns-in-Bracketed t c = sym (ap (λ (x : Expr). (meaning_of x).at) c.in-Bracketed.is ∙ ap (λ (m : Meaning). m.at) (one.bracketed _ _))

pub returns-in-Literal : goal.returns-in-Literal
returns-in-Literal t c = sym (ap (λ (x : Expr). (meaning_of x).at) c.in-Literal.is ∙ ap (λ (m : Meaning). m.at) (one.literal _ _))

pub returns-in-Variable : goal.returns-in-Variable
returns-in-Variable t c = sym (ap (λ (x : Expr). (meaning_of x).at) c.in-Variable.is ∙ ap (λ (m : Meaning). m.at) (one.variable _ _))

pub returns-in-This : goal.returns-in-This
returns-in-This t c = sym (ap (λ (x : Expr). (meaning_of x).at) c.in-This.is ∙ ap (λ (m : Meaning). m.at) (one.this _))

pub returns-in-Constant : goal.returns-in-Constant
returns-in-Constant t c = sym (ap (λ (x : Expr). (meaning_of x).at) c.in-Constant.is ∙ ap (λ (m : Meaning). m.at) (one.constant _ _))

pub returns-in-Call : goal.returns-in-Call
returns-in-Call t c = sym (ap (λ (x : Expr). (meaning_of x).at) c.in-Call.is ∙ ap (λ (m : Meaning). m.at) (one.call _ _ _))

pub returns-in-Container : goal.returns-in-Container
returns-in-Container t c = sym (ap (λ (x : Expr). (meaning_of x).at) c.in-Container.is ∙ ap (λ (m : Meaning). m.at) (one.container _ _ _))

pub returns-in-Dict : goal.returns-in-Dict
returns-in-Dict t c = sym (ap (λ (x : Expr). (meaning_of x).at) c.in-Dict.is ∙ ap (λ (m : Meaning). m.at) (one.dict _ _))

pub returns-in-Shape : goal.returns-in-Shape
returns-in-Shape t c = sym (ap (λ (x : Expr). (meaning_of x).at) c.in-Shape.is ∙ ap (λ (m : Meaning). m.at) (one.shape _ _))

pub returns-in-New : goal.returns-in-New
returns-in-New t c = sym (ap (λ (x : Expr). (meaning_of x).at) c.in-New.is ∙ ap (λ (m : Meaning). m.at) (one.new _ _ _ _ _))

pub returns-in-Conditional : goal.returns-in-Conditional
returns-in-Conditional t c = sym (ap (λ (x : Expr). (meaning_of x).at) c.in-Conditional.is ∙ places.of_conditional _ _ _ _)

pub returns-in-Scoped : goal.returns-in-Scoped
returns-in-Scoped t c = sym (ap (λ (x : Expr). (meaning_of x).at) c.in-Scoped.is ∙ places.of_scoped _ _ _)

pub returns-in-Chain : goal.returns-in-Chain
returns-in-Chain t c =
    c.place_of.ensures ∙ ap (λ (x : Expr). (meaning_of x).at) c.get.ensures
    ∙ sym (ap (λ (x : Expr). (meaning_of x).at) c.in-Chain.is ∙ places.of_chain _ _ _)

pub returns-in-Postfix : goal.returns-in-Postfix
returns-in-Postfix t c =
    c.place_of-in-Postfix.ensures ∙ ap (λ (x : Expr). (meaning_of x).at) c.get-in-Postfix.ensures
    ∙ sym (ap (λ (x : Expr). (meaning_of x).at) c.in-Postfix.is ∙ places.of_postfix _ _ _)
