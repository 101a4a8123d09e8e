use Rattle.std.proofs.Common.{◌≡◌, ◌↔◌, sym, subst, true}
use Rattle.std.specs.Prelude.{Contains}
use Rattle.std.specs.FinSet as set
use Rattle.std.proofs.lemmas.Result.{IfOk-weaker}
use Rattle.phase_core.specs.Closures.{Reaches}
use Rattle.phase_core.specs.Edges.{HasFold}
use Rattle.phase_core.specs.Edits.{IsChanged}
use Rattle.phase_core.proofs.Edited.{evicted_from}
use Rattle.phase_core.proofs.edits.evicted.Goals as goal

pub returns : goal.returns
returns c =
    IfOk-weaker c.reaching.result _ _ (λ evicted are s.
    evicted_from (IsChanged c.args.state.now c.args.world.now) (Reaches (HasFold c.args.state.now.edges)) c.deref.result.now (set.contains evicted s) s
    (λ t.
    let there = subst (λ xs. Contains xs t ↔ (set.contains c.in_ok-changed.field-0 t ≡ true)) (sym c.deref.ensures.value) (c.in_ok-changed-2.ensures t) in
    let is = c.in_ok-changed.ensures t in
    (λ h. is.0 (there.0 h), λ h. there.1 (is.1 h)))
    (are s)) c.reaching.ensures
