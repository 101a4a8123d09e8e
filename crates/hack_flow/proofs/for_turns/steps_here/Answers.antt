use Rattle.std.proofs.Common.{Ok}
use Rattle.hack_rules.specs.Statements.{meanings_of}
use Rattle.hack_walk.specs.Checks.{setting_of}
use Rattle.hack_walk.specs.WalkLaws.{of_step, walks_as, walks_next}
use Rattle.hack_flow.proofs.ForTurns.{end_here, step_end, steps_pieces}
use Rattle.hack_flow.proofs.for_turns.steps_here.Goals as goal

pub returns : goal.returns
returns g c =
    let steps = meanings_of c.args.steps.now in let behind = c.args.behind in let breaks = c.args.breaks in
    walks_as _ (Ok _)
    (walks_next (end_here behind breaks) (Ok _) c.in_ok-in_a_row.ensures
    (of_step _ (step_end c.in_a_row.new.state c.take_variables-end.new.self behind breaks c.take_variables-end.result _ c.in_ok-stepped.ensures c.take_variables-end.ensures.taken c.take_variables-end.ensures.variables c.take_variables-end.ensures.found))
    (λ symbols n. n.0.0) (λ symbols n t. (n.0.1, n.1)) (λ symbols b n t h. h))
    (λ map. steps_pieces steps behind breaks (setting_of c.args.setting.now) map c.args.state.now)
