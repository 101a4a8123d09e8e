use Rattle.std.proofs.Common.{◌∙◌, sym}
use Rattle.hack_decls.specs.AskLaws.{unasked}
use Rattle.hack_sub.specs.NamesOf.{of_null}
use Rattle.hack_walk.specs.WalkLaws.{restated}
use Rattle.hack_walk.proofs.Refinements.{not_nonnull, not_null, not_other}
use Rattle.hack_walk.proofs.refining.where_is_not.Goals as goal

pub returns-then-is_nonnull : goal.returns-then-is_nonnull
returns-then-is_nonnull g c =
    unasked _ _ (λ m. sym (not_nonnull m c.args.scope.now c.args.tested.now c.args.own.now (sym c.is_nonnull.ensures ∙ c.if-is_nonnull.true)))
    (λ symbols n. of_null symbols)

pub returns-then-is_null : goal.returns-then-is_null
returns-then-is_null g c =
    restated c.without_null.result c.without_null.ensures
    (λ m a e. e ∙ sym (not_null m c.args.scope.now c.args.tested.now c.args.own.now
    (sym c.is_nonnull.ensures ∙ c.if-is_nonnull.false) (sym c.is_null.ensures ∙ c.if-is_null.true)))
    (λ symbols n. n.upper) (λ symbols a n given. given)

pub returns : goal.returns
returns g c =
    restated c.others.result c.others.ensures
    (λ m a e. e ∙ sym (not_other m c.args.scope.now c.args.tested.now c.args.own.now
    (sym c.is_nonnull.ensures ∙ c.if-is_nonnull.false) (sym c.is_null.ensures ∙ c.if-is_null.false)))
    (λ symbols n. n) (λ symbols a n given. given)
