use Rattle.std.proofs.Common.{drop}
use Rattle.std.specs.List.{list_any}
use Rattle.hack_sub.specs.Named.{PairIn}
use Rattle.hack_sub.specs.inside.Calls.{SoFar}
use Rattle.hack_sub.specs.IsBelow.{all_ways, goes, is_below, some_way}
use Rattle.hack_sub.proofs.sub.by_some_way.Given as goal

abbrev pub invariant-loop-way : goal.invariant-loop-way
invariant-loop-way g l = SoFar (g.D.Decls.state l.initial.decls) (g.D.Decls.state l.decls)
    (λ map. some_way map l.fn.level.scope.now l.fn.lower_is l.fn.upper_is (is_below map l.fn.level.scope.now l.fn.level.height) l.fn.lower l.fn.upper)
    (λ map. list_any (λ way. goes way map l.fn.level.scope.now l.fn.lower_is l.fn.upper_is (is_below map l.fn.level.scope.now l.fn.level.height) l.fn.lower l.fn.upper)
    (drop l.way-index all_ways))
    (λ symbols. PairIn symbols l.fn.level.scope.now l.fn.lower l.fn.upper)
