use Rattle.std.proofs.Common.{◌≡◌, ◌≤◌, refl, sym, subst, length, arith, true, false}
use Rattle.std.specs.Prelude.{Contains}
use Rattle.std.specs.FinMap as finite
use Rattle.phase_core.proofs.Asking.{denied, none_yet, none_more, none_whole, shown_is_there}
use Rattle.phase_core.specs.Workers.{ShowsMention}
use Rattle.phase_core.proofs.workers.is_mentioned.Goals as goal

pub loop-key-init : goal.loop-key-init
loop-key-init c = none_yet _ _

pub loop-key-preserved : goal.loop-key-preserved
loop-key-preserved c = none_more _ _ _ _ c.loop-key-test.true c.key-item.is (denied c.in_ok-shows_mention.ensures c.if-branch.false) c.loop-key.invariant

pub returns-then-branch : goal.returns-then-branch
returns-then-branch c = (λ _. (c.key-item.result, c.in_ok-shows_mention.ensures.0 c.if-branch.true), λ _. refl)

pub returns : goal.returns
returns c =
    let l : length c.deref-key-items.result.now ≤ c.loop-key.key-index = omega arith in
    (λ h. absurd (let e : false ≡ true = h in cc), λ h. absurd (none_whole (λ k. ShowsMention (finite.get c.args.known.now k) c.args.symbol.now) _ _ l c.loop-key.invariant h.0 (subst (λ xs. Contains xs h.0) (sym c.deref-key-items.ensures.value) ((c.in_ok-keys.ensures h.0).1 (shown_is_there _ c.args.symbol.now h.1))) h.1))
