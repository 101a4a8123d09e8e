use Rattle.std.proofs.Common.{◌∙◌}
use Rattle.hack_decls.specs.AskLaws.{unasked}
use Rattle.hack_sub.specs.Sub.{most_height}
use Rattle.hack_walk.specs.WalkLaws.{restated}
use Rattle.hack_operators.proofs.Classes.{asked_right, told_right}
use Rattle.hack_operators.proofs.asked.class_of.Goals as goal

pub returns-in-Some : goal.returns-in-Some
returns-in-Some g c = let scope = c.args.setting.now.scope.now in
    unasked _ c.in-Some.class
    (λ map. told_right map scope (λ S T. c.one_relation.ensures.test map scope most_height S T) c.args.ty.now c.in-Some.class c.in-Some.ensures)
    (λ symbols n. tt)

pub returns-in-None : goal.returns-in-None
returns-in-None g c = let scope = c.args.setting.now.scope.now in
    restated c.asked_class.result c.asked_class.ensures
    (λ map class is. is ∙ asked_right map scope c.args.ty.now c.in-None.ensures) (λ symbols n. n) (λ symbols class n given. tt)
