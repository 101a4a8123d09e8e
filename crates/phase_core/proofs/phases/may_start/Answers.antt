use Rattle.std.proofs.Common.{◌≡◌, sym, subst}
use Rattle.std.specs.Prelude.{All}
use Rattle.phase_core.specs.declared.state.CoreWorker.TheVariants.{Idle}
use Rattle.phase_core.specs.States.{NoneIsClaimed}
use Rattle.phase_core.proofs.Asking.{denied}
use Rattle.phase_core.proofs.Deciding.{behind_one, not_first}
use Rattle.phase_core.proofs.phases.may_start.Goals as goal

pub returns-then-all_are_idle : goal.returns-then-all_are_idle
returns-then-all_are_idle c =
    behind_one c.none_is_claimed.result (NoneIsClaimed c.args.state.now) (subst (λ ws. All (λ w. w ≡ Idle) ws) c.as_slice.ensures (c.all_are_idle.ensures.0 c.if-all_are_idle.true)) c.none_is_claimed.ensures

pub returns-else-all_are_idle : goal.returns-else-all_are_idle
returns-else-all_are_idle c =
    not_first (NoneIsClaimed c.args.state.now) (λ all. denied c.all_are_idle.ensures c.if-all_are_idle.false (subst (λ ws. All (λ w. w ≡ Idle) ws) (sym c.as_slice.ensures) all))
