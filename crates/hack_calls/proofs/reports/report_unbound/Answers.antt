use Rattle.hack_diag.specs.Messages.{unbound_type}
use Rattle.hack_calls.proofs.Reporting.{reporting}
use Rattle.hack_calls.proofs.reports.report_unbound.Goals as goal

pub returns : goal.returns
returns c =
    reporting c.report.result c.args.state.now c.report.new.self c.args.at (unbound_type c.args.name) c.in_ok-diag.diag c.in_ok-diag.ensures
    c.report.ensures.variables c.report.ensures.found
