use Rattle.std.proofs.Common.{◌≡◌, ◌∙◌, Ok, Some, None, subst, sym}
use Rattle.hack_decls.specs.AskLaws.{said, then}
use Rattle.hack_decls.specs.DeclState.{Map}
use Rattle.hack_decls.specs.Names.{TypeIn}
use Rattle.hack_infer.specs.Seeing.{most_steps}
use Rattle.hack_types.specs.declared.hack_type.HackType.{HackType}
use Rattle.hack_rules.specs.Heads.{head_of}
use Rattle.hack_sub.specs.Named.{Around}
use Rattle.hack_calls.specs.declared.heads.Stage.TheVariants as stage
use Rattle.hack_calls.specs.inside.Rows.{StageIn}
use Rattle.hack_calls.proofs.Stages.{head_is}
use Rattle.hack_calls.proofs.heads.head_of.Goals as goal

pub returns-in_ok-head-in-Next : goal.returns-in_ok-head-in-Next
returns-in_ok-head-in-Next g c =
    let scope = c.args.scope.now in let T = c.args.ty.now in let next = c.in-Next.next in let head = c.in_ok-head-in-Next.head in
    said (Some head)
    (then {MeansC = λ (map : Map) (b : HackType). b ≡ head_of map scope T} {NamesC = λ symbols. Around symbols scope × TypeIn symbols T} {GivesC = TypeIn}
    (Ok head) c.in_ok-stage.ensures c.in_ok-head-in-Next.ensures
    (λ map b e there. there ∙ head_is most_steps map scope T (stage.Next next) (sym c.in-Next.is ∙ e))
    (λ symbols n. n) (λ symbols n g. (n.0, subst (StageIn symbols) c.in-Next.is g)) (λ symbols b n g h. h))
    (λ map e. e) (λ symbols n. n) (λ symbols n g. g)

pub returns-in-Settled : goal.returns-in-Settled
returns-in-Settled g c =
    let head = c.in-Settled.head in
    said (Some head) c.in_ok-stage.ensures
    (λ map e. head_is most_steps map c.args.scope.now c.args.ty.now (stage.Settled head) (sym c.in-Settled.is ∙ e))
    (λ symbols n. n) (λ symbols n g. subst (StageIn symbols) c.in-Settled.is g)

pub returns-in-Own : goal.returns-in-Own
returns-in-Own g c =
    said None c.in_ok-stage.ensures
    (λ map e. head_is most_steps map c.args.scope.now c.args.ty.now stage.Own (sym c.in-Own.is ∙ e))
    (λ symbols n. n) (λ symbols n g. n.1)
