use Rattle.hack_diag.proofs.Rising.{is_report}
use Rattle.hack_diag.proofs.order.in_report_order.Goals as goal

pub returns : goal.returns
returns c = is_report c.args.list.items c.sort_unstable.new.self.items c.dedup.new.self.items c.sort_unstable.ensures.permutation c.sort_unstable.ensures.sorted c.dedup.ensures.filtered
