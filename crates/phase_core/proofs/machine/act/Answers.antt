use Rattle.std.proofs.Common.{sym, subst}
use Rattle.std.specs.Prelude.{IfOk}
use Rattle.phase_core.specs.Steps.{HasCase, HasEffect}
use Rattle.phase_core.specs.Acts.{Acts}
use Rattle.phase_core.proofs.machine.act.Goals as goal

pub returns-in-Take : goal.returns-in-Take
returns-in-Take c = subst (λ event. Acts (HasCase c.args.state.now event) (HasEffect c.args.state.now event) c.take.new.state c.take.result) (sym c.in-Take.is) c.take.ensures

pub returns-in-Fold : goal.returns-in-Fold
returns-in-Fold c = subst (λ event. IfOk c.fold.result (Acts (HasCase c.args.state.now event) (HasEffect c.args.state.now event) c.fold.new.state)) (sym c.in-Fold.is) c.fold.ensures

pub returns-in-Publish : goal.returns-in-Publish
returns-in-Publish c = subst (λ event. IfOk c.publish.result (Acts (HasCase c.args.state.now event) (HasEffect c.args.state.now event) c.publish.new.state)) (sym c.in-Publish.is) c.publish.ensures
