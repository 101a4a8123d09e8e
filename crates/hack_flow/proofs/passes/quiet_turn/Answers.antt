use Rattle.std.proofs.Common.{◌∙◌}
use Rattle.hack_walk.specs.WalkLaws.{walks_as, walks_quietly}
use Rattle.hack_rules.specs.Statements.{doing_of}
use Rattle.hack_rules.specs.Walks.{State}
use Rattle.hack_flow.specs.Settled.{inside_of}
use Rattle.hack_flow.specs.inside.Rows.{turn_of}
use Rattle.hack_walk.specs.Checks.{setting_of}
use Rattle.hack_flow.proofs.Passing.{quietly_emptied}
use Rattle.hack_flow.proofs.passes.quiet_turn.Goals as goal

pub returns : goal.returns
returns g c = λ (here : State).
    let from = c.args.entry.now in let walk = turn_of c.args.around.now (doing_of c.args.body.now) (inside_of c.args.inside) in
    walks_as _ c.one_turn.result
    (walks_quietly from here c.one_turn.result c.one_turn.ensures (c.new-state.ensures.variables ∙ c.in_ok-entry.ensures) c.new-state.ensures.found (λ symbols n. (n.0, (n.1, n.2))))
    (λ map. quietly_emptied from walk (setting_of c.args.setting.now) map here)
