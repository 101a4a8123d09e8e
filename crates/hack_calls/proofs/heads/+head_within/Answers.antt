use Rattle.std.proofs.Common.{◌≡◌, ◌∙◌, ◌-◌, ap, subst, sym, arith}
use Rattle.hack_types.specs.declared.hack_type.HackType.TheVariants.{Any}
use Rattle.hack_decls.specs.AskLaws.{said, then}
use Rattle.hack_sub.specs.NamesPut.{of_any}
use Rattle.hack_calls.specs.declared.heads.Stage.TheVariants as stage
use Rattle.hack_calls.specs.inside.Rows.{StageIn}
use Rattle.hack_calls.proofs.Stages.{further, head_is, one_fewer}
use Rattle.hack_calls.proofs.heads.+head_within.Goals as goal

pub returns-then-steps-eq0 : goal.returns-then-steps-eq0
returns-then-steps-eq0 g t c =
    let scope = c.args.scope.now in let T = c.args.ty in let next = c.in-Next.next in
    said Any c.in_ok-stage.ensures
    (λ map e. ap (λ n. further n map scope next) (let none : 0 ≡ c.args.steps = omega arith in none) ∙ head_is c.args.steps map scope T (stage.Next next) (sym c.in-Next.is ∙ e))
    (λ symbols n. n) (λ symbols n g. of_any symbols)

pub returns-else-steps-eq0 : goal.returns-else-steps-eq0
returns-else-steps-eq0 g t c =
    let scope = c.args.scope.now in let T = c.args.ty in let next = c.in-Next.next in
    then c.head_within.result c.in_ok-stage.ensures c.head_within.ensures
    (λ map b e there. there ∙ sym (one_fewer c.args.steps (c.args.steps - 1) map scope next (omega arith)) ∙ head_is c.args.steps map scope T (stage.Next next) (sym c.in-Next.is ∙ e))
    (λ symbols n. n) (λ symbols n g. (n.0, subst (StageIn symbols) c.in-Next.is g)) (λ symbols b n g h. h)

pub returns-in-Settled : goal.returns-in-Settled
returns-in-Settled g t c =
    let head = c.in-Settled.head in
    said head c.in_ok-stage.ensures
    (λ map e. head_is c.args.steps map c.args.scope.now c.args.ty (stage.Settled head) (sym c.in-Settled.is ∙ e))
    (λ symbols n. n) (λ symbols n g. subst (StageIn symbols) c.in-Settled.is g)

pub returns-in-Own : goal.returns-in-Own
returns-in-Own g t c =
    said c.args.ty c.in_ok-stage.ensures
    (λ map e. head_is c.args.steps map c.args.scope.now c.args.ty stage.Own (sym c.in-Own.is ∙ e))
    (λ symbols n. n) (λ symbols n g. n.1)
