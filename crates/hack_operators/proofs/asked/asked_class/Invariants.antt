use Rattle.std.proofs.Common.{drop}
use Rattle.hack_operators.proofs.Asking.{SoFar}
use Rattle.hack_operators.specs.Operands.{OperandIn}
use Rattle.hack_operators.specs.inside.Asked.{asked, first_of, is_of}
use Rattle.hack_operators.proofs.asked.asked_class.Given as goal

abbrev pub invariant-loop-class : goal.invariant-loop-class
invariant-loop-class g l = SoFar (g.D.Decls.state l.initial.decls) (g.D.Decls.state l.decls)
    (λ map. first_of (is_of map l.fn.scope l.fn.ty) asked)
    (λ map. first_of (is_of map l.fn.scope l.fn.ty) (drop l.class-index asked))
    (λ symbols. OperandIn symbols l.fn.scope l.fn.ty)
