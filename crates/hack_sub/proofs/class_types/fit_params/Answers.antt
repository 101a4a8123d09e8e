use Rattle.std.proofs.Common.{◌∙◌, false, sym}
use Rattle.hack_sub.proofs.FitLaws.{never, too_few}
use Rattle.hack_sub.proofs.Tells.{answered}
use Rattle.hack_sub.specs.IsBelow.{fit, is_below}
use Rattle.hack_sub.proofs.class_types.fit_params.Goals as goal

pub returns-else-are_as_many : goal.returns-else-are_as_many
returns-else-are_as_many g c =
    let ps = c.args.params.now in let us = c.args.lowers.now in let vs = c.args.uppers.now in
    answered _ false (λ map. fit (is_below map c.args.level.now.scope.now c.args.level.now.height) ps us vs)
    (λ map. sym (too_few (is_below map c.args.level.now.scope.now c.args.level.now.height) ps us vs
    (λ l m. never (sym c.if-are_as_many.false ∙ c.are_as_many.ensures.1 (l, m)))))
