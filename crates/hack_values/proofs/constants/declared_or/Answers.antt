use Rattle.std.proofs.Common.{Option, IfSome, ap, subst}
use Rattle.hack_types.specs.declared.hack_type.HackType.{HackType}
use Rattle.hack_decls.specs.Names.{TypeIn}
use Rattle.hack_walk.specs.Checks.{setting_of}
use Rattle.hack_walk.specs.WalkLaws.{step_pure}
use Rattle.hack_values.specs.inside.Rows.{declared_or}
use Rattle.hack_values.proofs.Stepping.{steps_as, steps_more}
use Rattle.hack_values.proofs.constants.declared_or.Goals as goal

pub returns-in-Some : goal.returns-in-Some
returns-in-Some c =
    let s = c.args.state.now in let at = c.args.at in let name = c.args.name in
    steps_as (declared_or at name c.args.found) _
    (step_pure s c.in-Some.ty (λ symbols n. subst (λ (o : Option HackType). IfSome o (TypeIn symbols)) c.in-Some.is n))
    (λ map. ap (λ (o : Option HackType). declared_or at name o (setting_of c.args.setting.now) map s) c.in-Some.is)

pub returns-in-None : goal.returns-in-None
returns-in-None c =
    let s = c.args.state.now in let at = c.args.at in let name = c.args.name in
    steps_as (declared_or at name c.args.found) c.refuse_constant.result (steps_more c.refuse_constant.result c.refuse_constant.ensures (λ symbols n. tt))
    (λ map. ap (λ (o : Option HackType). declared_or at name o (setting_of c.args.setting.now) map s) c.in-None.is)
