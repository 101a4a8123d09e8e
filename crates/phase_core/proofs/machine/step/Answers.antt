use Rattle.std.proofs.Common.{sym, subst}
use Rattle.phase_core.specs.Steps.{Steps}
use Rattle.phase_core.proofs.Running.{acts_answers}
use Rattle.phase_core.proofs.machine.step.Goals as goal

pub returns : goal.returns
returns c =
    subst (Steps c.args.state.now c.args.event.now) (sym c.then_some.ensures)
    (acts_answers c.args.state.now c.in_ok-next.next c.act.new.state c.args.event.now c.in_ok-done.done c.in_ok-next.ensures c.in_ok-done.ensures)
