use Rattle.std.proofs.Common.{◌∙◌}
use Rattle.hack_diag.specs.Messages.{diag_of, other_arguments}
use Rattle.hack_new.proofs.Reporting.{reporting}
use Rattle.hack_new.proofs.new.report_number.Goals as goal

pub returns : goal.returns
returns c =
    let at = c.args.at in let name = c.args.name in
    reporting c.report.result c.args.state.now c.report.new.self at (other_arguments name c.args.wanted c.args.found) c.in_ok-diag.diag
    (c.in_ok-diag.ensures ∙ (λ i. diag_of c.args.setting.now.names.now at (other_arguments name (c.in_ok-wanted.ensures i) (c.in_ok-found.ensures i))))
    c.report.ensures.variables c.report.ensures.found
