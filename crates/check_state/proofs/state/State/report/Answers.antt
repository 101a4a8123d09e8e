use Rattle.check_state.proofs.Reported.{is_report}
use Rattle.check_state.proofs.state.State.report.Goals as goal

pub returns : goal.returns
returns c = λ files stands firsts. is_report c.args.self.now files stands firsts c.in_ok-findings.field-0.items c.in_report_order.result.items c.in_ok-findings.ensures c.in_report_order.ensures
