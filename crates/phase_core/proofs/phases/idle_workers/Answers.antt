use Rattle.std.proofs.Common.{◌≡◌, ◌∙◌, ap, suc, ◌+◌, ◌++◌, ◌∷◌, [], arith}
use Rattle.std.specs.Prelude.{replicate}
use Rattle.phase_core.specs.declared.state.CoreWorker.TheVariants.{Idle}
use Rattle.phase_core.proofs.Lists.{replicate_more}
use Rattle.phase_core.proofs.phases.idle_workers.Goals as goal

pub loop-number-preserved : goal.loop-number-preserved
loop-number-preserved c =
    let next : suc c.loop-number._number ≡ c.loop-number._number + 1 = omega arith in
    c.in_ok-push.ensures.items ∙ ap (λ ws. ws ++ Idle ∷ []) c.loop-number.invariant ∙ replicate_more c.loop-number._number Idle ∙ ap (λ n. replicate n Idle) next
