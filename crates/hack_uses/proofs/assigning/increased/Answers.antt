use Rattle.std.proofs.Common.{Ok, refl}
use Rattle.hack_rules.specs.Expressions.{meaning_of}
use Rattle.hack_rules.specs.Targets.{increment_row}
use Rattle.hack_operators.specs.Seen.{operation_seen}
use Rattle.hack_walk.specs.Checks.{setting_of}
use Rattle.hack_walk.specs.WalkLaws.{walks_as, walks_then}
use Rattle.hack_uses.specs.inside.Steps.{increased}
use Rattle.hack_uses.proofs.AimLaws.{target_walks}
use Rattle.hack_uses.proofs.Stepping.{increment_as}
use Rattle.hack_uses.proofs.assigning.increased.Goals as goal

pub returns : goal.returns
returns g c =
    let by = operation_seen c.args.operation in let to = meaning_of c.args.to.now in
    walks_as (increment_row c.args.at by to) c.increased_target.result
    (walks_then (λ aim. increased c.args.at by aim) c.increased_target.result (target_walks c.requires {result = Ok c.in_ok-aim.aim} refl c.in_ok-aim.ensures) c.increased_target.ensures
    (λ symbols n. n) (λ symbols n aim. aim) (λ symbols b n aim h. h))
    (λ m. increment_as c.args.at by to (setting_of c.args.setting.now) m c.args.state.now)
