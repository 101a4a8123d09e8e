use Rattle.std.proofs.Common.{◌∙◌, Bool, ap, subst, sym}
use Rattle.hack_decls.specs.AskLaws.{said}
use Rattle.hack_infer.specs.Seeing.{sight_of}
use Rattle.hack_calls.specs.inside.Rows.{StageIn, sight_stage}
use Rattle.hack_calls.proofs.Naming.{in_sight}
use Rattle.hack_calls.proofs.heads.named_stage.Goals as goal

pub returns : goal.returns
returns g c =
    let own = c.is_class_of.result in let T = c.args.ty.now in
    said c.sight_stage.result c.in_ok-sight.ensures
    (λ map e. c.sight_stage.ensures ∙ ap (sight_stage own) e ∙ ap (λ (b : Bool). sight_stage b (sight_of map T)) c.is_class_of.ensures)
    (λ symbols n. n) (λ symbols n g. subst (StageIn symbols) (sym c.sight_stage.ensures) (in_sight symbols own c.in_ok-sight.sight g))
