use Rattle.std.proofs.Common.{Ok, All, take}
use Rattle.hack_rules.specs.Walks.{each}
use Rattle.hack_walk.specs.Checks.{Walks, setting_of}
use Rattle.hack_parts.specs.ExprIn.{ExprIn}
use Rattle.hack_chains.specs.inside.Rights.{TypedIn, value_of}
use Rattle.hack_chains.proofs.from_right.typed_values.Given as goal

abbrev pub invariant-loop-operand : goal.invariant-loop-operand
invariant-loop-operand g l =
    Walks (each value_of (take l.operand-index l.operands)) (setting_of l.setting) (g.D.Decls.state l.initial.decls) l.initial.state (Ok l.items) (g.D.Decls.state l.decls) l.state
    (λ symbols. All (ExprIn l.setting.scope.now symbols) l.operands) (λ symbols items. All (TypedIn symbols) items)
