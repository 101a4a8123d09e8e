use Rattle.hack_operators.specs.Seen.{operation_seen}
use Rattle.hack_walk.specs.Checks.{setting_of}
use Rattle.hack_operators.proofs.Operating.{operate_answers}
use Rattle.hack_operators.proofs.checks.operate.Goals as goal

pub returns : goal.returns
returns g c =
    operate_answers (setting_of c.args.setting.now) c.args.at (operation_seen c.args.operation) c.args.left.now c.args.right.now
    c.in_ok-first.first c.in_ok-second.second _ c.in_ok-first.ensures c.in_ok-second.ensures c.in_ok-operated.ensures
