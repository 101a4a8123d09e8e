use Rattle.std.proofs.Common.{Bool, Option, sym, ap}
use Rattle.hack_rules.specs.Operators.{operation_of}
use Rattle.hack_walk.specs.Checks.{setting_of}
use Rattle.hack_walk.specs.WalkLaws.{walks_as, weaker}
use Rattle.hack_chains.specs.inside.Chaining.{equality_of, outcome_branches}
use Rattle.hack_chains.proofs.values.outcome_branches.Goals as goal

pub returns-in-Some : goal.returns-in-Some
returns-in-Some g c =
    let operator = c.args.operator in let first = c.args.first.now in let second = c.args.second in
    walks_as (outcome_branches c.args.at c.args.subject (equality_of operator) (operation_of operator) first second) c.comparison.result
    (weaker c.comparison.result c.comparison.ensures (λ symbols n. tt) (λ symbols b n t. t))
    (λ m. ap (λ (e : Option Bool). outcome_branches c.args.at c.args.subject e (operation_of operator) first second (setting_of c.args.setting.now) m c.args.state.now) (sym c.in-Some.ensures))

pub returns-in-None : goal.returns-in-None
returns-in-None g c =
    let operator = c.args.operator in let first = c.args.first.now in let second = c.args.second in
    walks_as (outcome_branches c.args.at c.args.subject (equality_of operator) (operation_of operator) first second) c.plain_outcome.result c.plain_outcome.ensures
    (λ m. ap (λ (e : Option Bool). outcome_branches c.args.at c.args.subject e (operation_of operator) first second (setting_of c.args.setting.now) m c.args.state.now) (sym c.in-None.ensures))
