-- The answers to the events of a worker.
use Rattle.std.proofs.Common.{◌≡◌, ◌⊎◌, ◌↔◌, inl, inr, sym, ap, ◌∙◌, subst, ℕ, Bool, true, false, Some, Result}
use Rattle.std.specs.Prelude.{IsTrue, IfOk, slice_get}
use Rattle.std.specs.FinMap as finite
use Rattle.std.proofs.lemmas.Result.{IfOk-weaker}
use Rattle.hack_types.specs.declared.ids.SymbolId.{SymbolId}
use Rattle.phase_core.specs.declared.edge.CoreEdge.{CoreEdge}
use Rattle.phase_core.specs.declared.state.CoreState.{CoreState}
use Rattle.phase_core.specs.declared.state.CoreRecord.TheVariants.{Held}
use Rattle.phase_core.specs.declared.state.CoreWorker.TheVariants.{Idle, Work}
use Rattle.phase_core.specs.Images.{Image, Known, IsImage}
use Rattle.phase_core.specs.Edges.{HasCheck}
use Rattle.phase_core.specs.States.{AtWork, Holds, with_worker}
use Rattle.phase_core.specs.Phases.{MayFinish, Finished, finished, Taken}
use Rattle.phase_core.specs.Workers.{IsOwnCheck, IsInnerFold, MayNote, HasNoted, Learned, MayRead, DidRead, MayFold, Folded}
use Rattle.phase_core.specs.Acts.{Acts}
use Rattle.phase_core.proofs.Asking.{weaken, in_work, of_work}

module _ (state : CoreState) (worker : ℕ) where
  -- ---- Note

  module _ {E : Type 0} {own : SymbolId} {check : Bool} {known : Known} (edge : CoreEdge) (r : Result Bool E) (at : slice_get state.workers worker ≡ Some (Work own check known)) where
    abbrev MayBe : SymbolId → Bool → Known → Type 0
    MayBe own check known = IsOwnCheck state.world own check known edge ⊎ IsInnerFold state.world edge

    pub note_fold : edge.fold ≡ true → IfOk r (λ answer. IsTrue answer ↔ IsInnerFold state.world edge) → IfOk r (λ answer. IsTrue answer ↔ MayNote state worker edge)
    note_fold is h =
        IfOk-weaker r _ _ (λ answer both. (
          λ k. in_work MayBe at (inr (both.0 k)),
          λ m. elim (of_work MayBe at m) [ inl outer ↦ absurd (let e : true ≡ false = sym is ∙ outer.1 in cc) | inr inner ↦ both.1 inner ],
        )) h

    pub note_check : edge.fold ≡ false → IfOk r (λ answer. IsTrue answer ↔ IsOwnCheck state.world own check known edge) → IfOk r (λ answer. IsTrue answer ↔ MayNote state worker edge)
    note_check is h =
        IfOk-weaker r _ _ (λ answer both. (
          λ k. in_work MayBe at (inl (both.0 k)),
          λ m. elim (of_work MayBe at m) [ inl outer ↦ both.1 outer | inr inner ↦ absurd (let e : false ≡ true = sym is ∙ inner.0 in cc) ],
        )) h

  -- ---- Read and Fold

  pub learn_by : (own : SymbolId) (check : Bool) (known more : Known) (symbol : SymbolId) (image : Image) (next : CoreState) → slice_get state.workers worker ≡ Some (Work own check known)
      → more ≡ finite.insert known symbol image → next ≡ with_worker state worker (Work own check more) → AtWork state worker (λ _ _ _. Unit {0}) × Learned state worker symbol image next
  learn_by own check known more symbol image next at put becomes = (
    in_work (λ _ _ _. Unit {0}) at tt,
    in_work (λ o c k. next ≡ with_worker state worker (Work o c (finite.insert k symbol image))) at (becomes ∙ ap (λ (k : Known). with_worker state worker (Work own check k)) put),
  )

  learned_acts : (symbol : SymbolId) (image : Image) (Case : Type 0) (Effect : CoreState → Type 0) (next : CoreState) (answer : Bool) → Case → (Case → AtWork state worker (λ _ _ _. Unit {0}))
      → (Learned state worker symbol image next → Effect next) → Acts (AtWork state worker (λ _ _ _. Unit {0})) (Learned state worker symbol image) next answer → Acts Case Effect next answer
  learned_acts symbol image Case Effect next false case works gives idle = λ may. idle (works may)
  learned_acts symbol image Case Effect next true case works gives learned = (case, gives learned.1)

  noted_works : (symbol : SymbolId) → HasNoted state worker symbol → AtWork state worker (λ _ _ _. Unit {0})
  noted_works symbol h = weaken (slice_get state.workers worker) (λ own _ _. HasCheck state.edges own symbol) h

  pub read_by : {E : Type 0} (symbol : SymbolId) (image copy : Image) (next : CoreState) (r : Result Bool E) → HasNoted state worker symbol → finite.get state.records symbol ≡ Some (Held image) → copy ≡ image
      → IfOk r (Acts (AtWork state worker (λ _ _ _. Unit {0})) (Learned state worker symbol copy) next) → IfOk r (Acts (MayRead state worker symbol) (DidRead state worker symbol) next)
  read_by symbol image copy next r noted held same h =
      IfOk-weaker r _ _ (λ answer a.
      learned_acts symbol copy (MayRead state worker symbol) (DidRead state worker symbol) next answer (noted, subst (λ o. Holds o (λ _. Unit {0})) (sym held) tt) (λ may. noted_works symbol may.0)
      (λ l. subst (λ o. Holds o (λ i. Learned state worker symbol i next)) (sym held) (subst (λ (i : Image). Learned state worker symbol i next) same l)) a) h

  pub fold_by : {E : Type 0} (symbol : SymbolId) (image : Image) (next : CoreState) (r : Result Bool E) → MayFold state worker symbol → IsImage state.world symbol image
      → IfOk r (Acts (AtWork state worker (λ _ _ _. Unit {0})) (Learned state worker symbol image) next) → IfOk r (Acts (MayFold state worker symbol) (Folded state worker symbol) next)
  fold_by symbol image next r may is h =
      IfOk-weaker r _ _ (λ answer a. learned_acts symbol image (MayFold state worker symbol) (Folded state worker symbol) next answer may (λ m. noted_works symbol m.0) (λ l. (image, is, l)) a) h

  -- ---- Take and Finish

  pub take_by : (symbol : SymbolId) (check : Bool) (known : Known) (next : CoreState) → known ≡ finite.empty → next ≡ with_worker state worker (Work symbol check known) → Taken state worker symbol check next
  take_by symbol check known next nothing becomes = becomes ∙ ap (λ (k : Known). with_worker state worker (Work symbol check k)) nothing

  pub finish_by : (own : SymbolId) (check : Bool) (known copy : Known) (judged next : CoreState) → slice_get state.workers worker ≡ Some (Work own check known) → copy ≡ known → judged ≡ finished state own check copy
      → next ≡ with_worker judged worker Idle → MayFinish state worker × Finished state worker next
  finish_by own check known copy judged next at same judges becomes = (
    in_work (λ _ _ _. Unit {0}) at tt,
    in_work (λ o c k. next ≡ with_worker (finished state o c k) worker Idle) at
        (becomes ∙ ap (λ (s : CoreState). with_worker s worker Idle) (judges ∙ ap (λ (k : Known). finished state own check k) same)),
  )
