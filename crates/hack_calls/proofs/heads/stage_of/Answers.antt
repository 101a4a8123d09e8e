use Rattle.std.proofs.Common.{◌∙◌, Option, ℕ, ap, subst, sym}
use Rattle.hack_decls.specs.AskLaws.{unasked}
use Rattle.hack_walk.specs.WalkLaws.{restated}
use Rattle.hack_calls.specs.inside.Rows.{StageIn, stage_by}
use Rattle.hack_calls.proofs.Naming.{in_plain}
use Rattle.hack_calls.proofs.heads.stage_of.Goals as goal

pub returns-in-Some : goal.returns-in-Some
returns-in-Some g c =
    let T = c.args.ty.now in let scope = c.args.scope.now in
    restated c.named_stage.result c.named_stage.ensures (λ map a e. e ∙ ap (λ (o : Option ℕ). stage_by map scope T o) c.in-Some.ensures)
    (λ symbols n. n.1) (λ symbols a n g. g)

pub returns-in_ok-plain_stage-in-None : goal.returns-in_ok-plain_stage-in-None
returns-in_ok-plain_stage-in-None g c =
    let T = c.args.ty.now in let scope = c.args.scope.now in
    unasked _ _ (λ map. c.in_ok-plain_stage-in-None.ensures ∙ ap (λ (o : Option ℕ). stage_by map scope T o) c.in-None.ensures)
    (λ symbols n. subst (StageIn symbols) (sym c.in_ok-plain_stage-in-None.ensures) (in_plain symbols scope n.0 T))
