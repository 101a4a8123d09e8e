use Rattle.std.proofs.Common.{ap, not}
use Rattle.hack_diag.specs.Messages.{trait_as_type}
use Rattle.hack_walk.specs.WalkLaws.{step_unless_so}
use Rattle.hack_calls.proofs.Reporting.{unless_not}
use Rattle.hack_calls.proofs.mentions.expect_no_trait.Goals as goal

pub returns-then-fits : goal.returns-then-fits
returns-then-fits c = step_unless_so c.args.state.now (not c.args.declared.now.is_trait) c.args.at (trait_as_type c.args.name) (ap not c.if-fits.true)

pub returns : goal.returns
returns c =
    unless_not c.report_trait.result c.args.state.now c.report_trait.new.state (not c.args.declared.now.is_trait) c.args.at (trait_as_type c.args.name) (ap not c.if-fits.false)
    c.report_trait.ensures
