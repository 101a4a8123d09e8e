use Rattle.std.proofs.Common.{◌∷◌, [], Some}
use Rattle.std.proofs.Common.{IfSome}
use Rattle.hack_rules.specs.Expressions.{meaning_of}
use Rattle.hack_rules.specs.Loops.{Turn}
use Rattle.hack_rules.specs.Meanings.{Branches}
use Rattle.hack_rules.specs.Walks.{pure}
use Rattle.hack_walk.specs.Checks.{BranchesIn, VariablesIn, setting_of}
use Rattle.hack_walk.specs.WalkLaws.{of_step, walks_as, walks_then}
use Rattle.hack_flow.specs.Settled.{emptied}
use Rattle.hack_flow.specs.SettledLaws.{emptied_row}
use Rattle.hack_flow.specs.inside.Rows.{TurnIn, test_here}
use Rattle.hack_flow.proofs.Ending.{in_tested, step_emptied}
use Rattle.hack_flow.proofs.turns.test_here.Goals as goal

pub returns : goal.returns
unfolding test_here
returns g c =
    let condition = meaning_of c.args.condition.now in let branches = c.in_ok-branches.branches in let breaks = c.args.breaks in
    let turn : Turn = record { ends = branches.when_true ∷ []; behind = Some branches.when_false; breaks = breaks } in
    walks_as _ _
    (walks_then {NamesB = λ symbols. IfSome breaks (VariablesIn symbols) × BranchesIn symbols branches}
    (λ (b : Branches). emptied (pure (record { ends = b.when_true ∷ []; behind = Some b.when_false; breaks = breaks }))) _ c.in_ok-branches.ensures
    (of_step _ (step_emptied {Gives = TurnIn} _ c.take_variables.new.self turn _ c.in_ok-tested_turn.ensures c.take_variables.ensures.variables c.take_variables.ensures.found (λ symbols types n. in_tested symbols branches breaks n.1 n.0)))
    (λ symbols n. n.0) (λ symbols n t. (n.1, t)) (λ symbols b n t h. h))
    (λ map. emptied_row condition.branches (λ (b : Branches). pure (record { ends = b.when_true ∷ []; behind = Some b.when_false; breaks = breaks })) (setting_of c.args.setting.now) map c.args.state.now)
