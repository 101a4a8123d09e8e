use Rattle.std.proofs.Common.{Ok, All, take}
use Rattle.hack_decls.specs.Names.{TypeIn}
use Rattle.hack_rules.specs.Walks.{each}
use Rattle.hack_walk.specs.Checks.{Walks, setting_of}
use Rattle.hack_parts.specs.ExprIn.{ExprIn}
use Rattle.hack_parts.specs.Parts.{value_of}
use Rattle.hack_parts.proofs.each.types_of_each.Given as goal

abbrev pub invariant-loop-part : goal.invariant-loop-part
invariant-loop-part g l =
    Walks (each value_of (take l.part-index l.parts)) (setting_of l.setting) (g.D.Decls.state l.initial.decls) l.initial.state (Ok l.types) (g.D.Decls.state l.decls) l.state
    (λ symbols. All (ExprIn l.setting.scope.now symbols) l.parts) (λ symbols types. All (TypeIn symbols) types)
