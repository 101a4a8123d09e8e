use Rattle.std.proofs.Common.{Ok, ap, arith}
use Rattle.std.proofs.lemmas.Bool.{le-leb, lt-leb}
use Rattle.hack_rules.specs.Ends.{Ends}
use Rattle.hack_rules.specs.Expressions.{meaning_of}
use Rattle.hack_rules.specs.Loops.{three_passes, while_ends, while_turn}
use Rattle.hack_rules.specs.Statements.{doing_of}
use Rattle.hack_rules.specs.Walks.{Walk}
use Rattle.hack_walk.specs.Checks.{setting_of}
use Rattle.hack_walk.specs.WalkLaws.{of_step, walks_as, weaker}
use Rattle.hack_flow.specs.Settled.{inside_of, settled}
use Rattle.hack_flow.proofs.Passing.{is_deep, is_shallow}
use Rattle.hack_flow.proofs.loops.while_loop.Goals as goal

pub returns-then-inside-ge-MOST_LOOPS : goal.returns-then-inside-ge-MOST_LOOPS
unfolding while_ends
returns-then-inside-ge-MOST_LOOPS g c =
    let loop = three_passes (while_turn (meaning_of c.args.condition.now) (doing_of c.args.body.now) (inside_of c.args.inside)) in
    walks_as _ (Ok _)
    (weaker (Ok _) (of_step _ c.in_ok-too_deep.ensures) (λ symbols n. tt) (λ symbols a n h. h))
    (λ map. ap (λ (w : Walk Ends). settled w (setting_of c.args.setting.now) map c.args.state.now) (is_deep c.args.at c.args.inside.loops c.args.inside.breakable loop (le-leb 8 c.args.inside.loops (omega arith))))

pub returns : goal.returns
unfolding while_ends
returns g c =
    let loop = three_passes (while_turn (meaning_of c.args.condition.now) (doing_of c.args.body.now) (inside_of c.args.inside)) in
    walks_as _ c.three_passes.result
    (weaker c.three_passes.result c.three_passes.ensures (λ symbols n. n) (λ symbols a n h. h))
    (λ map. ap (λ (w : Walk Ends). settled w (setting_of c.args.setting.now) map c.args.state.now) (is_shallow c.args.at c.args.inside.loops c.args.inside.breakable loop (lt-leb 8 c.args.inside.loops (omega arith))))
