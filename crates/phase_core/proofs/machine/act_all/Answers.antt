use Rattle.std.proofs.Common.{◌≤◌, refl, length, arith}
use Rattle.phase_core.proofs.Running.{acted, refused, run_on, run_whole, run_stuck}
use Rattle.phase_core.proofs.machine.act_all.Goals as goal

pub loop-event-init : goal.loop-event-init
loop-event-init c = refl

pub loop-event-preserved : goal.loop-event-preserved
loop-event-preserved c =
    let done = acted c.loop-event.state c.act.new.state c.event-item.result _ c.if-not-branch.false c.in_ok-act.ensures in
    run_on c.args.events.now c.loop-event.event-index c.event-item.result c.args.state.now c.loop-event.state c.act.new.state c.loop-event-test.true c.event-item.is c.loop-event.invariant done.0 done.1

pub returns-then-not-branch : goal.returns-then-not-branch
returns-then-not-branch c =
    run_stuck c.args.events.now c.loop-event.event-index c.event-item.result c.args.state.now c.loop-event.state c.loop-event-test.true c.event-item.is c.loop-event.invariant
    (refused c.loop-event.state c.act.new.state c.event-item.result _ c.if-not-branch.true c.in_ok-act.ensures)

pub returns : goal.returns
returns c =
    let l : length c.args.events.now ≤ c.loop-event.event-index = omega arith in
    run_whole c.args.events.now c.loop-event.event-index c.args.state.now c.loop-event.state l c.loop-event.invariant
