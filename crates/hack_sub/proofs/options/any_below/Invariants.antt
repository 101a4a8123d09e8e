use Rattle.std.proofs.Common.{drop}
use Rattle.std.specs.List.{list_any}
use Rattle.hack_sub.specs.inside.Calls.{ManyIn, SoFar}
use Rattle.hack_sub.specs.IsBelow.{is_below}
use Rattle.hack_sub.proofs.options.any_below.Given as goal

abbrev pub invariant-loop-lower : goal.invariant-loop-lower
invariant-loop-lower g l = SoFar (g.D.Decls.state l.initial.decls) (g.D.Decls.state l.decls)
    (λ map. list_any (λ U. is_below map l.fn.level.scope.now l.fn.level.height U l.fn.upper) l.fn.lowers)
    (λ map. list_any (λ U. is_below map l.fn.level.scope.now l.fn.level.height U l.fn.upper) (drop l.lower-index l.fn.lowers))
    (λ symbols. ManyIn symbols l.fn.level.scope.now l.fn.lowers l.fn.upper)
