use Rattle.std.proofs.Common.{Ok, All, take}
use Rattle.hack_calls.specs.Named.{GivenIn}
use Rattle.hack_rules.specs.Walks.{each}
use Rattle.hack_walk.specs.Checks.{Walks, setting_of}
use Rattle.hack_parts.specs.ExprIn.{ExprIn}
use Rattle.hack_uses.proofs.TypedArguments.{typed}
use Rattle.hack_uses.proofs.arguments.arguments_of.Given as goal

abbrev pub invariant-loop-argument : goal.invariant-loop-argument
invariant-loop-argument g l =
    Walks (each typed (take l.argument-index l.arguments)) (setting_of l.setting) (g.D.Decls.state l.initial.decls) l.initial.state (Ok l.given) (g.D.Decls.state l.decls) l.state
    (λ symbols. All (ExprIn l.setting.scope.now symbols) l.arguments) GivenIn
