use Rattle.hack_operators.specs.Seen.{sign_seen}
use Rattle.hack_walk.specs.Checks.{setting_of}
use Rattle.hack_operators.proofs.Operating.{alone_answers}
use Rattle.hack_operators.proofs.checks.operate_alone.Goals as goal

pub returns : goal.returns
returns g c =
    alone_answers (setting_of c.args.setting.now) c.args.at (sign_seen c.args.sign) c.args.operand.now c.in_ok-class.class _ c.in_ok-class.ensures c.in_ok-signed.ensures
