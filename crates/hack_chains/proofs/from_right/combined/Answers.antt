use Rattle.std.proofs.Common.{ap}
use Rattle.hack_infer.specs.WithoutNull.{without_null}
use Rattle.hack_rules.specs.Targets.{coalesced}
use Rattle.hack_rules.specs.Variables.{union_of_two}
use Rattle.hack_walk.specs.Checks.{setting_of}
use Rattle.hack_walk.specs.WalkLaws.{of_reads, walks_as, weaker}
use Rattle.hack_chains.specs.declared.typed.Grouping.{Grouping}
use Rattle.hack_chains.specs.inside.Rights.{combined}
use Rattle.hack_chains.proofs.from_right.combined.Goals as goal

pub returns-in-Coalesce : goal.returns-in-Coalesce
unfolding coalesced
returns-in-Coalesce g c =
    let at = c.args.at in let left = c.args.left.now in let right = c.args.right in
    walks_as (combined c.args.grouping at left right) c.coalesced.result
    (of_reads (λ map scope. union_of_two (without_null map left) right) c.args.state.now c.coalesced.result c.coalesced.ensures (λ symbols around n. n))
    (λ m. ap (λ (by : Grouping). combined by at left right (setting_of c.args.setting.now) m c.args.state.now) c.in-Coalesce.is)

pub returns-in-Power : goal.returns-in-Power
returns-in-Power g c =
    let at = c.args.at in let left = c.args.left.now in let right = c.args.right in
    walks_as (combined c.args.grouping at left right) c.operate.result
    (weaker c.operate.result c.operate.ensures (λ symbols n. record { left = n.0; right = n.1 }) (λ symbols b n t. t))
    (λ m. ap (λ (by : Grouping). combined by at left right (setting_of c.args.setting.now) m c.args.state.now) c.in-Power.is)
