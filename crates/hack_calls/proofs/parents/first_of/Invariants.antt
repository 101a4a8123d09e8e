use Rattle.std.proofs.Common.{drop}
use Rattle.hack_calls.specs.inside.Rows.{AncestorsIn, first_of}
use Rattle.hack_calls.proofs.Loops.{SoFar}
use Rattle.hack_calls.proofs.parents.first_of.Given as goal

abbrev pub invariant-loop-ancestor : goal.invariant-loop-ancestor
invariant-loop-ancestor g l = SoFar (g.D.Decls.state l.initial.decls) (g.D.Decls.state l.decls)
    (λ map. first_of map l.fn.ancestors) (λ map. first_of map (drop l.ancestor-index l.fn.ancestors))
    (λ symbols. AncestorsIn symbols l.fn.ancestors)
