use Rattle.hack_rules.specs.Loops.{Turn}
use Rattle.hack_rules.specs.Statements.{doing_of}
use Rattle.hack_rules.specs.Walks.{pure}
use Rattle.hack_walk.specs.Checks.{setting_of}
use Rattle.hack_walk.specs.WalkLaws.{of_step, walks_as}
use Rattle.hack_flow.specs.Settled.{inside_of, settled}
use Rattle.hack_flow.specs.SettledLaws.{emptied_then, pure_forgets, settled_row}
use Rattle.hack_flow.specs.inside.Rows.{behind_loop, last_pass, turn_of}
use Rattle.hack_flow.proofs.passes.last_pass.Goals as goal

pub returns : goal.returns
unfolding last_pass
returns g c =
    let walk = turn_of c.args.around.now (doing_of c.args.body.now) (inside_of c.args.inside) in
    walks_as _ _
    (emptied_then walk (λ (t : Turn). settled (pure (behind_loop t))) (λ t. pure_forgets (behind_loop t)) _ c.in_ok-last.ensures
    (of_step _ c.in_ok-behind_loop.ensures)
    (λ symbols n. n) (λ symbols n t. t) (λ symbols b n t h. h))
    (λ map. settled_row walk (λ (t : Turn). pure (behind_loop t)) (setting_of c.args.setting.now) map c.args.state.now)
