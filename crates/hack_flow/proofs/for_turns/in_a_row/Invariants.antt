use Rattle.std.proofs.Common.{Ok, All, take}
use Rattle.hack_decls.specs.Asks.{Nothing}
use Rattle.hack_parts.specs.ExprIn.{ExprIn}
use Rattle.hack_rules.specs.Walks.{for_each}
use Rattle.hack_walk.specs.Checks.{Walks, setting_of}
use Rattle.hack_flow.proofs.ForTurns.{done_of}
use Rattle.hack_flow.proofs.for_turns.in_a_row.Given as goal

abbrev pub invariant-loop-next : goal.invariant-loop-next
invariant-loop-next g l =
    Walks (for_each done_of (take l.next-index l.fn.expressions)) (setting_of l.fn.setting) (g.D.Decls.state l.initial.decls) l.initial.state (Ok tt) (g.D.Decls.state l.decls) l.state
    (λ symbols. All (ExprIn l.fn.setting.scope.now symbols) l.fn.expressions) Nothing
