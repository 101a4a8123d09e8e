use Rattle.std.proofs.Common.{◌≡◌, ◌∙◌, ◌++◌, ◌∷◌, [], List, All, map, refl, ap, subst}
use Rattle.hack_tree.specs.declared.expression.Operand.{Operand}
use Rattle.hack_types.specs.declared.hack_type.HackType.{HackType}
use Rattle.hack_rules.specs.Chains.{chain_value}
use Rattle.hack_rules.specs.Expressions.{meaning_of}
use Rattle.hack_rules.specs.Walks.{Walk}
use Rattle.hack_walk.specs.Checks.{setting_of}
use Rattle.hack_walk.specs.WalkLaws.{walks_as, weaker}
use Rattle.hack_parts.specs.ExprIn.{OperandIn}
use Rattle.hack_parts.specs.Forms.{joined_of}
use Rattle.hack_parts.specs.PartLaws.{value_walks}
use Rattle.hack_parts.specs.Parts.{walk_by}
use Rattle.hack_chains.proofs.Splits.{in_front, in_last}
use Rattle.hack_chains.proofs.WholeChains.{chain_left}
use Rattle.hack_chains.proofs.chains.chain.Goals as goal

pub returns-in-Some : goal.returns-in-Some
returns-in-Some g c =
    let front = c.in-Some.front.now in let last = c.in-Some.last.now in let first = meaning_of c.args.first.now in
    let setting = setting_of c.args.setting.now in let s = c.args.state.now in let as_read = c.args.reading in
    let whole : c.args.others.now ≡ front ++ last ∷ [] = c.in-Some.ensures in
    walks_as (walk_by as_read (chain_value first (map joined_of c.args.others.now))) c.value_of_chain.result
    (weaker c.value_of_chain.result c.value_of_chain.ensures
    (λ symbols n. record { first = n.0; front = in_front (OperandIn c.args.setting.now.scope.now symbols) front last (subst (All (OperandIn c.args.setting.now.scope.now symbols)) whole n.1); last = in_last (OperandIn c.args.setting.now.scope.now symbols) front last (subst (All (OperandIn c.args.setting.now.scope.now symbols)) whole n.1) })
    (λ symbols b n t. t))
    (λ m. ap (λ (os : List Operand). walk_by as_read (chain_value first (map joined_of os)) setting m s) whole
    ∙ ap (λ (walk : Walk HackType). walk setting m s) (chain_left as_read first front last))

pub returns-in-None : goal.returns-in-None
unfolding chain_value
returns-in-None g c =
    let first = meaning_of c.args.first.now in
    walks_as (walk_by c.args.reading (chain_value first (map joined_of c.args.others.now))) c.value.result
    (weaker c.value.result (value_walks c.requires.value refl c.value.ensures) (λ symbols n. n.0) (λ symbols b n t. t))
    (λ m. ap (λ (os : List Operand). walk_by c.args.reading (chain_value first (map joined_of os)) (setting_of c.args.setting.now) m c.args.state.now) c.in-None.ensures)
