use Rattle.std.proofs.Common.{Bool, Ok, ap}
use Rattle.hack_members.specs.Wanting.{wanted_of}
use Rattle.hack_members.specs.inside.Rows.{case_or}
use Rattle.hack_walk.specs.Checks.{setting_of}
use Rattle.hack_walk.specs.WalkLaws.{step_pure}
use Rattle.hack_members.proofs.Stepping.{steps_as}
use Rattle.hack_members.proofs.cases.case_or.Goals as goal

pub returns-then-is_case : goal.returns-then-is_case
returns-then-is_case c =
    let at = c.args.at in let wanted = wanted_of at c.args.wanted.now in let head = c.args.head.now in
    rw c.in_ok-copy.ensures (steps_as (case_or at wanted head c.args.is_case) (Ok head) (step_pure c.args.state.now head (λ symbols n. n))
    (λ m. ap (λ (b : Bool). case_or at wanted head b (setting_of c.args.setting.now) m c.args.state.now) c.if-is_case.true))
