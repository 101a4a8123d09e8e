use Rattle.std.proofs.Common.{drop}
use Rattle.std.specs.List.{list_any}
use Rattle.hack_sub.specs.inside.Calls.{ManyIn, SoFar}
use Rattle.hack_sub.specs.IsBelow.{is_below}
use Rattle.hack_sub.proofs.options.below_any.Given as goal

abbrev pub invariant-loop-upper : goal.invariant-loop-upper
invariant-loop-upper g l = SoFar (g.D.Decls.state l.initial.decls) (g.D.Decls.state l.decls)
    (λ map. list_any (λ U. is_below map l.fn.level.scope.now l.fn.level.height l.fn.lower U) l.fn.uppers)
    (λ map. list_any (λ U. is_below map l.fn.level.scope.now l.fn.level.height l.fn.lower U) (drop l.upper-index l.fn.uppers))
    (λ symbols. ManyIn symbols l.fn.level.scope.now l.fn.uppers l.fn.lower)
