use Rattle.hack_diag.specs.Messages.{too_big}
use Rattle.hack_new.proofs.Reporting.{reporting}
use Rattle.hack_new.proofs.new.report_large.Goals as goal

pub returns : goal.returns
returns c = reporting c.report.result c.args.state.now c.report.new.self c.args.at too_big c.in_ok-diag.diag c.in_ok-diag.ensures c.report.ensures.variables c.report.ensures.found
