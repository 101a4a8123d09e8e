use Rattle.std.proofs.Common.{◌∙◌, ◌++◌, ◌∷◌, [], ap}
use Rattle.hack_types.specs.declared.diag.Diag.{Diag}
use Rattle.hack_diag.specs.Messages.{not_visible}
use Rattle.hack_walk.specs.WalkLaws.{step_unless_not, step_unless_so}
use Rattle.hack_members.proofs.usable.unless_visible.Goals as goal

pub returns-then-visible : goal.returns-then-visible
returns-then-visible c = step_unless_so c.args.state.now c.args.visible c.args.at (not_visible c.args.member.now.name c.args.member.now.origin) c.if-visible.true

pub returns : goal.returns
returns c =
    step_unless_not c.args.state.now c.report.new.self c.args.visible c.args.at (not_visible c.args.member.now.name c.args.member.now.origin) c.if-visible.false c.in_ok-report.ensures.variables
    (c.in_ok-report.ensures.found ∙ ap (λ (diag : Diag). c.args.state.now.found ++ diag ∷ []) c.in_ok-diag.ensures)
