use Rattle.std.proofs.Common.{◌∙◌, ap}
use Rattle.hack_sub.proofs.Tells.{gone_on}
use Rattle.hack_sub.specs.IsBelow.{fit, is_below}
use Rattle.hack_sub.specs.Knowing.{parameters}
use Rattle.hack_sub.proofs.class_types.fit.Goals as goal

pub returns : goal.returns
returns g c =
    let us = c.args.lowers.now in let vs = c.args.uppers.now in let name = c.args.name in
    gone_on (λ map. fit (is_below map c.args.level.now.scope.now c.args.level.now.height) (parameters map name) us vs) c.fit_params.result c.in_ok-params.ensures c.fit_params.ensures
    (λ map e. ap (λ ps. fit (is_below map c.args.level.now.scope.now c.args.level.now.height) ps us vs) (c.as_slice.ensures ∙ e))
    (λ symbols n. n.name)
    (λ symbols n given. n.arguments)
