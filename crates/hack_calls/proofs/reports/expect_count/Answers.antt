use Rattle.std.proofs.Common.{◌∙◌, ◌&&◌, length, nat_le, sym}
use Rattle.hack_diag.specs.Messages.{other_count}
use Rattle.hack_rules.specs.Calls.{expect_count}
use Rattle.hack_walk.specs.WalkLaws.{step_unless_so}
use Rattle.hack_calls.proofs.Reporting.{unless_not}
use Rattle.hack_calls.proofs.reports.expect_count.Goals as goal

pub returns-then-is_within : goal.returns-then-is_within
unfolding expect_count
returns-then-is_within c =
    let n = length c.args.given.now in
    step_unless_so c.args.state.now (nat_le c.args.least n && nat_le n c.args.most) c.args.at (other_count c.args.least c.args.most n) (sym c.is_within.ensures ∙ c.if-is_within.true)

pub returns : goal.returns
unfolding expect_count
returns c =
    let n = length c.args.given.now in
    unless_not c.report_count.result c.args.state.now c.report_count.new.state (nat_le c.args.least n && nat_le n c.args.most) c.args.at (other_count c.args.least c.args.most n)
    (sym c.is_within.ensures ∙ c.if-is_within.false) c.report_count.ensures
