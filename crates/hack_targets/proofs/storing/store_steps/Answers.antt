use Rattle.std.proofs.Common.{◌∙◌, sym}
use Rattle.std.proofs.lemmas.Result.{err_from_is_err_and}
use Rattle.hack_targets.proofs.Inwards.{goes_first, goes_last, goes_next, goes_refused}
use Rattle.hack_targets.proofs.Last.{none_left}
use Rattle.hack_targets.proofs.storing.store_steps.Goals as goal

pub loop-step-init : goal.loop-step-init
loop-step-init g c = goes_first

pub loop-step-preserved : goal.loop-step-preserved
loop-step-preserved g c =
    goes_next c.args.root.now c.pop.new.self.items c.in-Some.step c.loop-step.left.items c.in-Some.ensures.items c.loop-step.invariant c.in_ok-made.ensures

pub returns : goal.returns
returns g c =
    let left = c.loop-step.left in
    goes_last c.args.root.now left.items c.store_made.result (none_left left.items (sym left.ok.0 ∙ c.in_default.ensures.cases.0)) c.loop-step.invariant c.store_made.ensures

pub returns-in_err-made : goal.returns-in_err-made
returns-in_err-made g c =
    let p = err_from_is_err_and c.from_residual.result c.from_residual.ensures.1 in
    rw (p.1, p.2) (goes_refused c.args.root.now c.pop.new.self.items c.in-Some.step c.loop-step.left.items c.in-Some.ensures.items c.loop-step.invariant c.in_err-made.ensures)
