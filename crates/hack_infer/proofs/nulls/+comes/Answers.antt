use Rattle.std.proofs.Common.{◌≡◌, ◌∙◌, ◌-◌, Bool, cond, Some, sym, ap, arith}
use Rattle.hack_decls.specs.AskLaws.{said, then, unasked}
use Rattle.hack_sub.specs.NamesOf.{given_in}
use Rattle.hack_infer.proofs.Restated.{restated}
use Rattle.hack_infer.proofs.Turns.{no_step, one_step}
use Rattle.hack_infer.specs.WithoutNull.{comes_to, coming_by}
use Rattle.hack_infer.proofs.nulls.+comes.Goals as goal

pub comes_to-returns-then-steps-eq0 : goal.comes_to-returns-then-steps-eq0
comes_to-returns-then-steps-eq0 g t c = unasked _ _ (λ m. no_step m c.args.ty.now c.args.steps (omega arith)) (λ symbols n. tt)

pub comes_to-returns-in-Some : goal.comes_to-returns-in-Some
comes_to-returns-in-Some g t c = let T = c.args.ty.now in
    let is : c.in_ok-next.next ≡ Some c.in-Some.next = c.in-Some.is in
    then c.coming_by.result c.in_ok-next.ensures c.coming_by.ensures
    (λ m a e there. there ∙ ap (coming_by (comes_to (c.args.steps - 1) m)) (sym is ∙ e) ∙ one_step m T c.args.steps (c.args.steps - 1) (omega arith))
    (λ symbols n. n) (λ symbols n given. given_in symbols is given) (λ symbols a n given there. there)

pub comes_to-returns-in-None : goal.comes_to-returns-in-None
comes_to-returns-in-None g t c = let T = c.args.ty.now in
    said _ c.in_ok-next.ensures
    (λ m e. ap (coming_by (comes_to (c.args.steps - 1) m)) (sym c.in-None.is ∙ e) ∙ one_step m T c.args.steps (c.args.steps - 1) (omega arith))
    (λ symbols n. n) (λ symbols n given. tt)

pub coming_by-returns-then-loses_null : goal.coming_by-returns-then-loses_null
coming_by-returns-then-loses_null g t c = let T = c.args.next in
    unasked _ _ (λ m. ap (λ (b : Bool). cond b (Some T) (comes_to c.args.steps m T)) (sym c.if-loses_null.true ∙ c.loses_null.ensures)) (λ symbols n. n)

pub coming_by-returns : goal.coming_by-returns
coming_by-returns g t c = let T = c.args.next in
    restated c.comes_to.result c.comes_to.ensures
    (λ m a e. e ∙ ap (λ (b : Bool). cond b (Some T) (comes_to c.args.steps m T)) (sym c.if-loses_null.false ∙ c.loses_null.ensures)) (λ symbols n. n) (λ symbols a n given. given)
