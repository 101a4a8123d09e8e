use Rattle.std.proofs.Common.{◌∙◌, ◌==◌, ◌||◌, sym}
use Rattle.hack_diag.specs.Messages.{other_arguments}
use Rattle.hack_walk.specs.WalkLaws.{step_unless_so}
use Rattle.hack_new.specs.inside.Rows.{expect_wanted}
use Rattle.hack_new.proofs.Reporting.{unless_not}
use Rattle.hack_new.proofs.new.expect_wanted.Goals as goal

pub returns-then-is_number : goal.returns-then-is_number
unfolding expect_wanted
returns-then-is_number c =
    let wanted = c.args.wanted in let count = c.args.count in
    step_unless_so c.args.state.now ((count == 0) || (wanted == count)) c.args.name_at (other_arguments c.args.name wanted count) (sym c.is_number.ensures ∙ c.if-is_number.true)

pub returns : goal.returns
unfolding expect_wanted
returns c =
    let wanted = c.args.wanted in let count = c.args.count in
    unless_not c.report_number.result c.args.state.now c.report_number.new.state ((count == 0) || (wanted == count)) c.args.name_at (other_arguments c.args.name wanted count)
    (sym c.is_number.ensures ∙ c.if-is_number.false) c.report_number.ensures
