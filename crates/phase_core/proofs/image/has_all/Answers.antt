use Rattle.std.proofs.Common.{◌≡◌, ◌≤◌, refl, sym, ◌∙◌, length, arith, true, false}
use Rattle.phase_core.proofs.Lists.{in_at}
use Rattle.phase_core.proofs.Asking.{all_yet, all_more, all_whole}
use Rattle.phase_core.proofs.image.has_all.Goals as goal

pub loop-symbol-init : goal.loop-symbol-init
loop-symbol-init c = all_yet _ _

pub loop-symbol-preserved : goal.loop-symbol-preserved
loop-symbol-preserved c = all_more _ _ _ _ c.loop-symbol-test.true c.symbol-item.is (sym c.contains.ensures ∙ c.if-not-contains.false) c.loop-symbol.invariant

pub returns-then-not-contains : goal.returns-then-not-contains
returns-then-not-contains c = (
  λ h. absurd (let e : false ≡ true = h in cc),
  λ all. absurd (let e : true ≡ false = sym (all _ (in_at c.args.symbols.now _ _ c.loop-symbol-test.true c.symbol-item.is)) ∙ sym c.contains.ensures ∙ c.if-not-contains.true in cc),
)

pub returns : goal.returns
returns c =
    let l : length c.args.symbols.now ≤ c.loop-symbol.symbol-index = omega arith in
    (λ _. all_whole _ _ _ l c.loop-symbol.invariant, λ _. refl)
