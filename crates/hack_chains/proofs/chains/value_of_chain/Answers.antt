use Rattle.std.proofs.Common.{◌∙◌, ◌++◌, ◌∷◌, [], true, false, map, sym, ap}
use Rattle.hack_rules.specs.Chains.{chain_value}
use Rattle.hack_rules.specs.Expressions.{meaning_of}
use Rattle.hack_rules.specs.Meanings.{Meaning}
use Rattle.hack_walk.specs.Checks.{setting_of}
use Rattle.hack_walk.specs.WalkLaws.{walks_as}
use Rattle.hack_parts.specs.Forms.{joined_of}
use Rattle.hack_chains.proofs.WholeChains.{grouped_from}
use Rattle.hack_chains.proofs.chains.value_of_chain.Goals as goal

pub returns-then-groups_right : goal.returns-then-groups_right
returns-then-groups_right g c =
    let front = c.args.front.now in let last = c.args.last.now in let first = meaning_of c.args.first.now in
    walks_as (chain_value first (map joined_of (front ++ last ∷ []))).walk c.from_right.result c.from_right.ensures
    (λ m. ap (λ (meaning : Meaning). meaning.walk (setting_of c.args.setting.now) m c.args.state.now)
    (grouped_from true first front last (sym c.groups_right.ensures ∙ c.if-groups_right.true)))

pub returns : goal.returns
returns g c =
    let front = c.args.front.now in let last = c.args.last.now in let first = meaning_of c.args.first.now in
    walks_as (chain_value first (map joined_of (front ++ last ∷ []))).walk c.value_from_left.result c.value_from_left.ensures
    (λ m. ap (λ (meaning : Meaning). meaning.walk (setting_of c.args.setting.now) m c.args.state.now)
    (grouped_from false first front last (sym c.groups_right.ensures ∙ c.if-groups_right.false)))
