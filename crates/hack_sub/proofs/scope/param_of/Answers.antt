use Rattle.std.proofs.Common.{◌∙◌, ap}
use Rattle.std.specs.List.{slice_get}
use Rattle.hack_sub.proofs.Params.{at_class, at_fun}
use Rattle.hack_sub.proofs.scope.param_of.Goals as goal

pub returns-in-ClassParam : goal.returns-in-ClassParam
returns-in-ClassParam c =
    c.param_at.ensures ∙ ap (λ params. slice_get params c.in-ClassParam.position) c.class_params.ensures
    ∙ at_class c.args.scope.now c.args.ty.now c.in-ClassParam.position c.in-ClassParam.field-1 c.in-ClassParam.is

pub returns-in-FunParam : goal.returns-in-FunParam
returns-in-FunParam c =
    c.param_at-in-FunParam.ensures ∙ ap (λ params. slice_get params c.in-FunParam.position) c.as_slice.ensures
    ∙ at_fun c.args.scope.now c.args.ty.now c.in-FunParam.position c.in-FunParam.field-1 c.in-FunParam.is
