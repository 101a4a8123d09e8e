use Rattle.std.proofs.Common.{◌∙◌}
use Rattle.hack_diag.specs.Messages.{other_count}
use Rattle.hack_walk.specs.Checks.{setting_of}
use Rattle.hack_calls.proofs.Reporting.{reporting, same_count}
use Rattle.hack_calls.proofs.reports.report_count.Goals as goal

pub returns : goal.returns
returns c =
    reporting c.report.result c.args.state.now c.report.new.self c.args.at (other_count c.args.least c.args.most c.args.found) c.in_ok-diag.diag
    (c.in_ok-diag.ensures ∙ same_count (setting_of c.args._setting.now).names c.args.at c.args.least c.in_ok-least.least c.args.most c.in_ok-most.most c.args.found c.in_ok-found.found
    c.in_ok-least.ensures c.in_ok-most.ensures c.in_ok-found.ensures)
    c.report.ensures.variables c.report.ensures.found
