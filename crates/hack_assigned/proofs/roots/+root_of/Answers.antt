use Rattle.std.proofs.Common.{◌<◌, ◌≤◌, subst}
use Rattle.hack_parts.specs.ExprMeanings as one
use Rattle.hack_assigned.proofs.Rooted as rooted
use Rattle.hack_assigned.proofs.roots.+root_of.Goals as goal

pub returns-in-Variable : goal.returns-in-Variable
returns-in-Variable t c = rooted.of_meaning c.in-Variable.is (one.variable _ _)

pub returns-in-Postfix : goal.returns-in-Postfix
returns-in-Postfix t c = rooted.of_postfix _ _ _ c.in-Postfix.is c.get.ensures c.as_slice.ensures c.root_of.ensures c.root_behind.ensures

pub returns-then-len-gt0 : goal.returns-then-len-gt0
returns-then-len-gt0 t c = rooted.of_chain _ _ _ c.in-Chain.is (subst (λ n. 0 < n) c.len.ensures c.if-len-gt0.true)

pub returns-else-len-gt0 : goal.returns-else-len-gt0
returns-else-len-gt0 t c = rooted.of_no_chain _ _ _ c.in-Chain.is (subst (λ n. n ≤ 0) c.len.ensures c.if-len-gt0.false) c.get-in-Chain.ensures c.root_of-in-Chain.ensures

pub returns-in-Assign : goal.returns-in-Assign
returns-in-Assign t c = rooted.of_meaning c.in-Assign.is (one.assign _ _ _ _)

pub returns-in-Conditional : goal.returns-in-Conditional
returns-in-Conditional t c = rooted.of_conditional _ _ _ _ c.in-Conditional.is

pub returns-in-Prefix : goal.returns-in-Prefix
returns-in-Prefix t c = rooted.of_prefix _ _ _ c.in-Prefix.is

pub returns-in-Cast : goal.returns-in-Cast
returns-in-Cast t c = rooted.of_meaning c.in-Cast.is (one.cast _ _ _)

pub returns-in-Power : goal.returns-in-Power
returns-in-Power t c = rooted.of_meaning c.in-Power.is (one.power _ _)

pub returns-in-Test : goal.returns-in-Test
returns-in-Test t c = rooted.of_meaning c.in-Test.is (one.test _ _ _)

pub returns-in-Bracketed : goal.returns-in-Bracketed
returns-in-Bracketed t c = rooted.of_meaning c.in-Bracketed.is (one.bracketed _ _)

pub returns-in-Literal : goal.returns-in-Literal
returns-in-Literal t c = rooted.of_meaning c.in-Literal.is (one.literal _ _)

pub returns-in-This : goal.returns-in-This
returns-in-This t c = rooted.of_meaning c.in-This.is (one.this _)

pub returns-in-Constant : goal.returns-in-Constant
returns-in-Constant t c = rooted.of_meaning c.in-Constant.is (one.constant _ _)

pub returns-in-Call : goal.returns-in-Call
returns-in-Call t c = rooted.of_meaning c.in-Call.is (one.call _ _ _)

pub returns-in-Scoped : goal.returns-in-Scoped
returns-in-Scoped t c = rooted.of_scoped _ _ _ c.in-Scoped.is

pub returns-in-New : goal.returns-in-New
returns-in-New t c = rooted.of_meaning c.in-New.is (one.new _ _ _ _ _)

pub returns-in-Container : goal.returns-in-Container
returns-in-Container t c = rooted.of_meaning c.in-Container.is (one.container _ _ _)

pub returns-in-Dict : goal.returns-in-Dict
returns-in-Dict t c = rooted.of_meaning c.in-Dict.is (one.dict _ _)

pub returns-in-Shape : goal.returns-in-Shape
returns-in-Shape t c = rooted.of_meaning c.in-Shape.is (one.shape _ _)
