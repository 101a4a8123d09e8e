use Rattle.std.proofs.Common.{◌≡◌, ◌++◌, ◌∷◌, [], List, All, map, refl, ap, subst}
use Rattle.hack_tree.specs.declared.expression.Operand.{Operand}
use Rattle.hack_rules.specs.Chains.{chain_value}
use Rattle.hack_rules.specs.Expressions.{meaning_of}
use Rattle.hack_walk.specs.Checks.{setting_of}
use Rattle.hack_walk.specs.WalkLaws.{walks_as, weaker}
use Rattle.hack_parts.specs.ExprIn.{OperandIn}
use Rattle.hack_parts.specs.Forms.{joined_of}
use Rattle.hack_parts.specs.PartLaws.{condition_walks}
use Rattle.hack_chains.proofs.Splits.{in_front, in_last}
use Rattle.hack_chains.proofs.chains.chain_branches.Goals as goal

pub returns-in-Some : goal.returns-in-Some
returns-in-Some g c =
    let front = c.in-Some.front.now in let last = c.in-Some.last.now in let first = meaning_of c.args.first.now in
    let whole : c.args.others.now ≡ front ++ last ∷ [] = c.in-Some.ensures in
    walks_as (chain_value first (map joined_of c.args.others.now)).branches c.branches_of_chain.result
    (weaker c.branches_of_chain.result c.branches_of_chain.ensures
    (λ symbols n. record { first = n.0; front = in_front (OperandIn c.args.setting.now.scope.now symbols) front last (subst (All (OperandIn c.args.setting.now.scope.now symbols)) whole n.1); last = in_last (OperandIn c.args.setting.now.scope.now symbols) front last (subst (All (OperandIn c.args.setting.now.scope.now symbols)) whole n.1) })
    (λ symbols b n t. t))
    (λ m. ap (λ (os : List Operand). (chain_value first (map joined_of os)).branches (setting_of c.args.setting.now) m c.args.state.now) whole)

pub returns-in-None : goal.returns-in-None
unfolding chain_value
returns-in-None g c =
    let first = meaning_of c.args.first.now in
    walks_as (chain_value first (map joined_of c.args.others.now)).branches c.condition.result
    (weaker c.condition.result (condition_walks c.requires.condition refl c.condition.ensures) (λ symbols n. n.0) (λ symbols b n t. t))
    (λ m. ap (λ (os : List Operand). (chain_value first (map joined_of os)).branches (setting_of c.args.setting.now) m c.args.state.now) c.in-None.ensures)
