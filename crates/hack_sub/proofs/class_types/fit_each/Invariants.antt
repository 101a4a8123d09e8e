use Rattle.std.proofs.Common.{drop}
use Rattle.hack_sub.specs.inside.Calls.{ArgumentsIn, SoFar}
use Rattle.hack_sub.specs.IsBelow.{fit, is_below}
use Rattle.hack_sub.proofs.class_types.fit_each.Given as goal

abbrev pub invariant-loop-index : goal.invariant-loop-index
invariant-loop-index g l = SoFar (g.D.Decls.state l.initial.decls) (g.D.Decls.state l.decls)
    (λ map. fit (is_below map l.fn.level.scope.now l.fn.level.height) l.fn.params l.fn.lowers l.fn.uppers)
    (λ map. fit (is_below map l.fn.level.scope.now l.fn.level.height) (drop l.index l.fn.params) (drop l.index l.fn.lowers) (drop l.index l.fn.uppers))
    (λ symbols. ArgumentsIn symbols l.fn.level.scope.now l.fn.lowers l.fn.uppers)
