use Rattle.std.proofs.Common.{drop}
use Rattle.std.specs.List.{list_all}
use Rattle.hack_infer.specs.Filling.{filled_limited, filling_of}
use Rattle.hack_sub.specs.IsBelow.{is_below}
use Rattle.hack_sub.specs.Sub.{most_height}
use Rattle.hack_written.specs.Within.{ListIn}
use Rattle.hack_written.proofs.Loops.{SoFar}
use Rattle.hack_written.proofs.bounds.is_above_all.Given as goal

abbrev pub invariant-loop-bound : goal.invariant-loop-bound
invariant-loop-bound g l = SoFar (g.D.Decls.state l.initial.decls) (g.D.Decls.state l.decls)
    (λ map. list_all (λ bound. is_below map l.fn.scope most_height (filled_limited (filling_of l.fn.filling) bound) l.fn.ty) l.fn.bounds)
    (λ map. list_all (λ bound. is_below map l.fn.scope most_height (filled_limited (filling_of l.fn.filling) bound) l.fn.ty) (drop l.bound-index l.fn.bounds))
    (λ symbols. ListIn symbols l.fn.scope (filled_limited (filling_of l.fn.filling)) l.fn.bounds l.fn.ty)
