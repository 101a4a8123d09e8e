use Rattle.std.proofs.Common.{◌∙◌, ap}
use Rattle.hack_shallow.specs.Scope.{first_at}
use Rattle.hack_shallow.proofs.scope.Parameters.named.Goals as goal

pub invariant_of-result : goal.invariant_of-result
invariant_of-result c = λ name. c.in_ok-first.ensures name ∙ ap (first_at name) c.as_slice.ensures.value
