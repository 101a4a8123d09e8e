use Rattle.hack_diag.specs.Messages.{expected}
use Rattle.hack_walk.specs.WalkLaws.{step_unless_so}
use Rattle.hack_calls.proofs.Reporting.{reporting, unless_not}
use Rattle.hack_calls.proofs.reports.report_unless.Goals as goal

pub returns-then-fits : goal.returns-then-fits
returns-then-fits c = step_unless_so c.args.state.now c.args.fits c.args.at (expected c.args.wanted.now c.args.found.now) c.if-fits.true

pub returns : goal.returns
returns c =
    let message = expected c.args.wanted.now c.args.found.now in
    unless_not c.report.result c.args.state.now c.report.new.self c.args.fits c.args.at message c.if-fits.false
    (reporting c.report.result c.args.state.now c.report.new.self c.args.at message c.in_ok-diag.diag c.in_ok-diag.ensures c.report.ensures.variables c.report.ensures.found)
