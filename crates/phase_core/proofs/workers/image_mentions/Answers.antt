use Rattle.std.proofs.Common.{◌≡◌, ◌≤◌, refl, sym, subst, length, arith, true, false}
use Rattle.std.specs.Prelude.{Contains}
use Rattle.std.specs.FinMap as finite
use Rattle.phase_core.proofs.Asking.{denied, none_yet, none_more, none_whole, mention_is_there}
use Rattle.phase_core.specs.Workers.{Mentions}
use Rattle.phase_core.proofs.workers.image_mentions.Goals as goal

pub loop-member-init : goal.loop-member-init
loop-member-init c = none_yet _ _

pub loop-member-preserved : goal.loop-member-preserved
loop-member-preserved c = none_more _ _ _ _ c.loop-member-test.true c.member-item.is (denied c.mentions.ensures c.if-mentions.false) c.loop-member.invariant

pub returns-then-mentions : goal.returns-then-mentions
returns-then-mentions c = (λ _. (c.member-item.result, c.mentions.ensures.0 c.if-mentions.true), λ _. refl)

pub returns : goal.returns
returns c =
    let l : length c.deref-member-items.result.now ≤ c.loop-member.member-index = omega arith in
    (λ h. absurd (let e : false ≡ true = h in cc), λ h. absurd (none_whole (λ s. Mentions (finite.get c.args.image.now s) c.args.symbol.now) _ _ l c.loop-member.invariant h.0 (subst (λ xs. Contains xs h.0) (sym c.deref-member-items.ensures.value) ((c.in_ok-members.ensures h.0).1 (mention_is_there _ c.args.symbol.now h.1))) h.1))
