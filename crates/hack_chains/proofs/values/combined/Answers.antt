use Rattle.std.proofs.Common.{None, Option, sym, ap}
use Rattle.hack_infer.specs.WithoutNull.{without_null}
use Rattle.hack_rules.specs.Operators.{Operation, operation_of}
use Rattle.hack_rules.specs.Targets.{coalesced}
use Rattle.hack_rules.specs.Variables.{union_of_two}
use Rattle.hack_walk.specs.Checks.{setting_of}
use Rattle.hack_walk.specs.WalkLaws.{of_reads, walks_as, weaker}
use Rattle.hack_chains.specs.inside.Chaining.{outcome}
use Rattle.hack_chains.proofs.values.combined.Goals as goal

pub returns-in-Some : goal.returns-in-Some
returns-in-Some g c =
    let operator = c.args.operator in let first = c.args.first.now in let second = c.args.second in
    walks_as (outcome c.args.at None (operation_of operator) first second) c.operate.result
    (weaker c.operate.result c.operate.ensures (λ symbols n. record { left = n.0; right = n.1 }) (λ symbols b n t. t))
    (λ m. ap (λ (o : Option Operation). outcome c.args.at None o first second (setting_of c.args.setting.now) m c.args.state.now) (sym c.in-Some.ensures))

pub returns-in-None : goal.returns-in-None
unfolding coalesced
returns-in-None g c =
    let operator = c.args.operator in let first = c.args.first.now in let second = c.args.second in
    walks_as (outcome c.args.at None (operation_of operator) first second) c.coalesced.result
    (of_reads (λ map scope. union_of_two (without_null map first) second) c.args.state.now c.coalesced.result c.coalesced.ensures (λ symbols around n. n))
    (λ m. ap (λ (o : Option Operation). outcome c.args.at None o first second (setting_of c.args.setting.now) m c.args.state.now) (sym c.in-None.ensures))
