use Rattle.std.proofs.Common.{◌∙◌, sym}
use Rattle.hack_walk.specs.WalkLaws.{restated}
use Rattle.hack_walk.proofs.Refinements.{where_nonnull, where_other}
use Rattle.hack_walk.proofs.refining.where_is.Goals as goal

pub returns-then-is_nonnull : goal.returns-then-is_nonnull
returns-then-is_nonnull g c =
    restated c.without_null.result c.without_null.ensures
    (λ m a e. e ∙ sym (where_nonnull m c.args.scope.now c.args.tested.now c.args.own.now (sym c.is_nonnull.ensures ∙ c.if-is_nonnull.true)))
    (λ symbols n. n.upper) (λ symbols a n given. given)

pub returns : goal.returns
returns g c =
    restated c.narrowed.result c.narrowed.ensures
    (λ m a e. e ∙ sym (where_other m c.args.scope.now c.args.tested.now c.args.own.now (sym c.is_nonnull.ensures ∙ c.if-is_nonnull.false)))
    (λ symbols n. n) (λ symbols a n given. given)
