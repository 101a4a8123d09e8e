use Rattle.std.proofs.Common.{◌∙◌, ◌++◌, ◌∷◌, [], ap, sym}
use Rattle.hack_types.specs.declared.diag.Diag.{Diag}
use Rattle.hack_diag.specs.Messages.{against_static}
use Rattle.hack_rules.specs.Members.{fits_static}
use Rattle.hack_walk.specs.WalkLaws.{step_unless_not, step_unless_so}
use Rattle.hack_members.specs.Wanting.{static_of}
use Rattle.hack_members.proofs.usable.unless_fits.Goals as goal

pub returns-then-fits_static : goal.returns-then-fits_static
returns-then-fits_static c =
    step_unless_so c.args.state.now (fits_static (static_of c.args.use_) c.args.member.now.is_static) c.args.at (against_static c.args.member.now.name) (sym c.fits_static.ensures ∙ c.if-fits_static.true)

pub returns : goal.returns
returns c =
    step_unless_not c.args.state.now c.report.new.self (fits_static (static_of c.args.use_) c.args.member.now.is_static) c.args.at (against_static c.args.member.now.name)
    (sym c.fits_static.ensures ∙ c.if-fits_static.false) c.in_ok-report.ensures.variables
    (c.in_ok-report.ensures.found ∙ ap (λ (diag : Diag). c.args.state.now.found ++ diag ∷ []) c.in_ok-diag.ensures)
