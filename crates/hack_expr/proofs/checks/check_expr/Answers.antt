use Rattle.std.proofs.Common.{◌∙◌, refl}
use Rattle.hack_expr.proofs.Answering.{answers}
use Rattle.hack_expr.proofs.checks.check_expr.Goals as goal

pub returns : goal.returns
returns g c =
    answers c.args.env.now c.args.e.now _ (c.new-state.ensures.variables ∙ c.in_ok-variables.ensures) c.new-state.ensures.found refl c.into_parts-env.ensures.variables c.into_parts-env.ensures.found c.in_ok-ty.ensures
