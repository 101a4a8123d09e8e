use Rattle.std.proofs.Common.{Ok, All, map, take}
use Rattle.hack_rules.specs.Chains.{from_left}
use Rattle.hack_rules.specs.Expressions.{meaning_of}
use Rattle.hack_walk.specs.Checks.{Walks, setting_of}
use Rattle.hack_parts.specs.ExprIn.{ExprIn, OperandIn}
use Rattle.hack_parts.specs.Forms.{joined_of}
use Rattle.hack_chains.specs.inside.Chaining.{SoFarIn, asked_at, reached}
use Rattle.hack_chains.proofs.from_left.from_left.Given as goal

abbrev pub invariant-loop-i : goal.invariant-loop-i
invariant-loop-i g l =
    Walks (reached (asked_at l.others l.i l.last) (from_left (meaning_of l.first) (map joined_of (take l.i l.others))))
    (setting_of l.setting) (g.D.Decls.state l.fn.decls) l.fn.state (Ok l.so_far) (g.D.Decls.state l.decls) l.state
    (λ symbols. ExprIn l.setting.scope.now symbols l.first × All (OperandIn l.setting.scope.now symbols) l.others) SoFarIn
