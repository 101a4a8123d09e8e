use Rattle.std.proofs.Common.{◌∙◌, Ok, ap, arith, option_map}
use Rattle.std.proofs.lemmas.Bool.{le-leb, lt-leb}
use Rattle.hack_rules.specs.Ends.{Ends}
use Rattle.hack_rules.specs.Expressions.{meaning_of}
use Rattle.hack_rules.specs.Loops.{for_ends, for_loop, for_turn, three_passes}
use Rattle.hack_rules.specs.Statements.{doing_of, meanings_of}
use Rattle.hack_rules.specs.Walks.{Walk}
use Rattle.hack_walk.specs.Checks.{setting_of}
use Rattle.hack_walk.specs.WalkLaws.{of_step, walks_as, walks_next, weaker}
use Rattle.hack_flow.specs.Settled.{inside_of, settled}
use Rattle.hack_flow.proofs.ForTurns.{loop_pieces}
use Rattle.hack_flow.proofs.Passing.{is_deep, is_shallow}
use Rattle.hack_flow.proofs.loops.for_loop.Goals as goal

pub returns-then-inside-ge-MOST_LOOPS : goal.returns-then-inside-ge-MOST_LOOPS
unfolding for_ends
returns-then-inside-ge-MOST_LOOPS g c =
    let loop = for_loop (meanings_of c.args.start.now) (option_map meaning_of c.args.condition.now) (meanings_of c.args.steps.now) (doing_of c.args.body.now) (inside_of c.args.inside) in
    walks_as _ (Ok _)
    (weaker (Ok _) (of_step _ c.in_ok-too_deep.ensures) (λ symbols n. tt) (λ symbols a n h. h))
    (λ map. ap (λ (w : Walk Ends). settled w (setting_of c.args.setting.now) map c.args.state.now) (is_deep c.args.at c.args.inside.loops c.args.inside.breakable loop (le-leb 8 c.args.inside.loops (omega arith))))

pub returns : goal.returns
unfolding for_ends
returns g c =
    let start = meanings_of c.args.start.now in let condition = option_map meaning_of c.args.condition.now in let steps = meanings_of c.args.steps.now in
    let body = doing_of c.args.body.now in let inside = inside_of c.args.inside in let setting = setting_of c.args.setting.now in
    let turn = for_turn condition steps body inside in
    walks_as _ c.three_passes.result
    (walks_next (settled (three_passes turn)) c.three_passes.result c.in_ok-in_a_row.ensures c.three_passes.ensures
    (λ symbols n. n.0) (λ symbols n t. ((n.1, n.2), n.3)) (λ symbols b n t h. h))
    (λ map.
    ap (λ (w : Walk Ends). settled w setting map c.args.state.now) (is_shallow c.args.at c.args.inside.loops c.args.inside.breakable (for_loop start condition steps body inside) (lt-leb 8 c.args.inside.loops (omega arith)))
    ∙ loop_pieces start condition steps body inside setting map c.args.state.now)
