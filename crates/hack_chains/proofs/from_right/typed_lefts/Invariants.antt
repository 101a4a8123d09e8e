use Rattle.std.proofs.Common.{Ok, All, take}
use Rattle.hack_rules.specs.Walks.{each}
use Rattle.hack_walk.specs.Checks.{Walks, setting_of}
use Rattle.hack_parts.specs.ExprIn.{OperandIn}
use Rattle.hack_chains.specs.inside.Rights.{TypedIn, left_of}
use Rattle.hack_chains.proofs.from_right.typed_lefts.Given as goal

abbrev pub invariant-loop-other : goal.invariant-loop-other
invariant-loop-other g l =
    Walks (each left_of (take l.other-index l.others)) (setting_of l.setting) (g.D.Decls.state l.initial.decls) l.initial.state (Ok l.items) (g.D.Decls.state l.decls) l.state
    (λ symbols. All (OperandIn l.setting.scope.now symbols) l.others) (λ symbols items. All (TypedIn symbols) items)
