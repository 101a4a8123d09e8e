use Rattle.std.proofs.Common.{inl, inr, refl}
use Rattle.phase_core.proofs.Asking.{denied}
use Rattle.phase_core.specs.Workers.{IsMentioned}
use Rattle.phase_core.proofs.Deciding.{last_of_three}
use Rattle.phase_core.proofs.workers.is_within.Goals as goal

pub returns-then-same : goal.returns-then-same
returns-then-same c = (λ _. inl (c.same.ensures.0 c.if-same.true), λ _. refl)

pub returns-then-names : goal.returns-then-names
returns-then-names c = (λ _. inr (inl (c.names.ensures.0 c.if-names.true)), λ _. refl)

pub returns : goal.returns
returns c = last_of_three c.is_mentioned.result (IsMentioned c.args.known.now c.args.to.now) (denied c.same.ensures c.if-same.false) (denied c.names.ensures c.if-names.false) c.is_mentioned.ensures
