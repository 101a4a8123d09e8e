use Rattle.std.proofs.Common.{drop}
use Rattle.hack_infer.specs.Named.{PairsIn}
use Rattle.hack_infer.specs.inside.Calls.{Left}
use Rattle.hack_infer.specs.Matching.{match_in, pairs}
use Rattle.hack_infer.proofs.steps.pairs.Given as goal

abbrev pub invariant-loop-index : goal.invariant-loop-index
invariant-loop-index g l = Left (g.D.Decls.state l.initial.decls) (g.D.Decls.state l.decls) l.initial.taken l.taken
    (λ map. pairs (match_in l.fn.deeper.depth map) l.fn.wanted l.fn.given l.initial.taken)
    (λ map. pairs (match_in l.fn.deeper.depth map) (drop l.index l.fn.wanted) (drop l.index l.fn.given) l.taken)
    (λ symbols. PairsIn symbols l.fn.wanted l.fn.given)
