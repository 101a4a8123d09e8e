use Rattle.std.proofs.Common.{Ok, All, drop}
use Rattle.hack_decls.specs.Names.{TypeIn}
use Rattle.hack_walk.specs.Checks.{Walks, setting_of}
use Rattle.hack_chains.specs.inside.Rights.{TypedIn, grouped}
use Rattle.hack_chains.proofs.from_right.grouped.Given as goal

abbrev pub invariant-loop-i : goal.invariant-loop-i
invariant-loop-i g l =
    Walks (grouped l.grouping (drop l.i l.items) l.fn.last) (setting_of l.setting) (g.D.Decls.state l.fn.decls) l.fn.state (Ok l.ty) (g.D.Decls.state l.decls) l.state
    (λ symbols. All (TypedIn symbols) l.items × TypeIn symbols l.fn.last) TypeIn
