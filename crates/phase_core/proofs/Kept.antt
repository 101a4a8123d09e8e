-- Each event but an edit keeps what stands.
use Rattle.std.proofs.Common.{◌≡◌, ◌≢◌, ◌⊎◌, inl, inr, refl, sym, ap, ◌∙◌, subst, ℕ, Bool, true, false, not, ◌&&◌, List, Option, Some, None}
use Rattle.std.specs.Prelude.{is_some, slice_get, slice_set, replicate}
use Rattle.std.specs.FinMap as finite
use Rattle.std.specs.FinMap.{get-empty}
use Rattle.std.specs.FinSet as set
use Rattle.std.specs.FinSet.{contains-remove}
use Rattle.hack_types.specs.declared.ids.SymbolId.{SymbolId}
use Rattle.phase_core.specs.declared.edge.CoreEdge.{CoreEdge}
use Rattle.phase_core.specs.declared.state.Decl.{Decl}
use Rattle.phase_core.specs.declared.state.CoreState.{CoreState}
use Rattle.phase_core.specs.declared.state.CoreRecord.{CoreRecord}
use Rattle.phase_core.specs.declared.state.CoreRecord.TheVariants.{Claimed, Held}
use Rattle.phase_core.specs.declared.state.CoreVerdict.{CoreVerdict}
use Rattle.phase_core.specs.declared.state.CoreWorker.{CoreWorker}
use Rattle.phase_core.specs.declared.state.CoreWorker.TheVariants.{Idle, Work}
use Rattle.phase_core.specs.Orders.{symbol_order}
use Rattle.phase_core.specs.World.{World, IsDeclared, told_at}
use Rattle.phase_core.specs.Images.{Image, Known, IsImage}
use Rattle.phase_core.specs.Edges.{Edges, HasFold, HasCheck, IsCovered, fold_edge}
use Rattle.phase_core.specs.States.{Works, Holds, unclaimed, with_worker}
use Rattle.phase_core.specs.Phases.{Swept, Started, Taken, Finished, finished, with_verdict, Raised, Heard}
use Rattle.phase_core.specs.Workers.{MayNote, Noted, IsOwnCheck, IsInnerFold, HasNoted, Learned, MayRead, DidRead, MayFold, Folded, DidClaim, MayPublish, Published}
use Rattle.phase_core.proofs.Orders.{symbol_total, symbol_same, edge_total, edge_same, decided}
use Rattle.phase_core.proofs.Maps.{insert_cases, set_cases}
use Rattle.phase_core.proofs.Copies.{not_some}
use Rattle.phase_core.proofs.Standing.{Stands, Knows, Standing, AllStands, open_work, all_idle, set_worker, more_covered, more_known}

-- ---- one part changes

module _ {world : World} {records : finite.FinMap symbol_order CoreRecord} {edges : Edges} {stale : set.FinSet symbol_order} {verdicts : finite.FinMap symbol_order CoreVerdict} {workers : List CoreWorker}
    (st : Standing world records edges stale verdicts workers) where
  other_records : (more : finite.FinMap symbol_order CoreRecord)
      → ((s : SymbolId) (image : Image) → finite.get more s ≡ Some (Held image) → (finite.get records s ≡ Some (Held image)) ⊎ (IsImage world s image × IsCovered world edges s)) → Standing world more edges stale verdicts workers
  other_records more from = record {
    held = λ s image h. elim (from s image h) [ inl before ↦ st.held s image before | inr new ↦ new.0 ];
    held_covered = λ s image h. elim (from s image h) [ inl before ↦ st.held_covered s image before | inr new ↦ new.1 ];
    working = st.working;
    judged = st.judged;
    told = st.told;
    folds = st.folds;
    either = st.either;
    never_both = st.never_both;
  }

  other_workers : (more : List CoreWorker) → ((n : ℕ) (w : CoreWorker) → slice_get more n ≡ Some w → (own : SymbolId) (check : Bool) (known : Known) → w ≡ Work own check known → (slice_get workers n ≡ Some w) ⊎ Knows world edges own known)
      → Standing world records edges stale verdicts more
  other_workers more from = record {
    held = st.held;
    held_covered = st.held_covered;
    working = λ n own check known h. elim (from n _ h own check known refl) [ inl before ↦ st.working n own check known before | inr new ↦ new ];
    judged = st.judged;
    told = st.told;
    folds = st.folds;
    either = st.either;
    never_both = st.never_both;
  }

  idle_worker : (k : ℕ) → Standing world records edges stale verdicts (slice_set workers k Idle)
  idle_worker k =
      other_workers (slice_set workers k Idle) (λ n w h own check known is.
      elim (set_worker workers k n Idle w h) [ inl e ↦ absurd (let f = sym e ∙ is in cc) | inr before ↦ inl before ])

  busy_worker : (k : ℕ) (own : SymbolId) (check : Bool) (known : Known) → Knows world edges own known → Standing world records edges stale verdicts (slice_set workers k (Work own check known))
  busy_worker k own check known knows =
      other_workers (slice_set workers k (Work own check known)) (λ n w h own2 check2 known2 is.
      elim (set_worker workers k n (Work own check known) w h) [
        | inl e ↦
            let f : Work own check known ≡ Work own2 check2 known2 = sym e ∙ is in
            let o : own ≡ own2 = cc in
            let m : known ≡ known2 = cc in
            inr (subst (λ z. Knows world edges own2 z) m (subst (λ z. Knows world edges z known) o knows))
        | inr before ↦ inl before
      ])

-- ---- the events

module _ (state next : CoreState) (st : AllStands state) where
  unclaimed_held : (o : Option CoreRecord) (image : Image) → unclaimed o ≡ Some (Held image) → o ≡ Some (Held image)
  unclaimed_held None image h = absurd cc
  unclaimed_held (Some (Claimed n)) image h = absurd cc
  unclaimed_held (Some (Held i)) image h = h

  pub sweep_keeps : Swept state next → AllStands next
  sweep_keeps h = subst AllStands (sym h.rest) (other_records st next.records (λ s image k. inl (unclaimed_held _ image (sym (h.records s) ∙ k))))

  pub start_keeps : (workers : ℕ) → Started state workers next → AllStands next
  start_keeps workers h =
      subst AllStands (sym h)
      (other_workers st (replicate workers Idle) (λ n w k own check known is. absurd (let e = sym (all_idle workers n w k) ∙ is in cc)))

  pub take_keeps : (worker : ℕ) (symbol : SymbolId) (check : Bool) → Taken state worker symbol check next → AllStands next
  take_keeps worker symbol check h =
      subst AllStands (sym h) (busy_worker st worker symbol check finite.empty (λ s image k. absurd (not_some image (get-empty symbol_order s) k)))

  pub note_keeps : (worker : ℕ) (edge : CoreEdge) → MayNote state worker edge → Noted state edge next → AllStands next
  note_keeps worker edge may h =
      let w = open_work (slice_get state.workers worker) _ may in
      subst AllStands (sym h)
      (record {
        held = st.held;
        held_covered = λ s image k. more_covered state.edges more wider state.world s (st.held_covered s image k);
        working = λ n own check known k. more_known state.edges more wider state.world own known (st.working n own check known k);
        judged = λ u v k. more_known state.edges more wider state.world u v.known (st.judged u v k);
        told = st.told;
        folds = λ s t k. from_declared w.0 w.1 w.2 s t w.4 k;
        either = st.either;
        never_both = st.never_both;
      })
    where
      more : Edges
      more = set.insert state.edges edge

      wider : (e : CoreEdge) → set.contains state.edges e ≡ true → set.contains (set.insert state.edges edge) e ≡ true
      wider e k = elim (set_cases edge_total edge_same state.edges edge e) [ inl c ↦ c.1 | inr c ↦ c.1 ∙ k ]

      from_declared : (symbol : SymbolId) (check : Bool) (known : Known) (s t : SymbolId) → IsOwnCheck state.world symbol check known edge ⊎ IsInnerFold state.world edge → HasFold (set.insert state.edges edge) s t → IsDeclared state.world s
      from_declared symbol check known s t case k =
          elim (set_cases edge_total edge_same state.edges edge (fold_edge s t)) [
            | inl c ↦
                elim case [
                  | inl own ↦ absurd (let e : true ≡ false = ap (λ (x : CoreEdge). x.fold) c.0 ∙ own.1 in cc)
                  | inr inner ↦ subst (IsDeclared state.world) (sym (ap (λ (x : CoreEdge). x.from) c.0)) inner.1
                ]
            | inr c ↦ st.folds s t (sym c.1 ∙ k)
          ]

  learned_keeps : (worker : ℕ) (symbol : SymbolId) (image : Image) → HasNoted state worker symbol → IsImage state.world symbol image → IsCovered state.world state.edges symbol → Learned state worker symbol image next → AllStands next
  learned_keeps worker symbol image noted right covered h = by (slice_get state.workers worker) refl noted h
    where
      by : (o : Option CoreWorker) → slice_get state.workers worker ≡ o → Works o (λ own _ _. HasCheck state.edges own symbol)
          → Works o (λ own check known. next ≡ with_worker state worker (Work own check (finite.insert known symbol image))) → AllStands next
      by None e n k = absurd n
      by (Some Idle) e n k = absurd n
      by (Some (Work own check known)) e n k =
          subst AllStands (sym k)
          (busy_worker st worker own check (finite.insert known symbol image) (λ s i got.
          elim (insert_cases symbol_total symbol_same known symbol image s) [
            | inl c ↦
                let f : Some image ≡ Some i = sym c.1 ∙ got in
                let same : image ≡ i = cc in
                subst (λ z. Stands state.world state.edges own z i) (sym c.0) (subst (λ z. Stands state.world state.edges own symbol z) same (record { right = right; covered = covered; noted = n }))
            | inr c ↦ st.working worker own check known e s i (sym c.1 ∙ got)
          ]))

  pub read_keeps : (worker : ℕ) (symbol : SymbolId) → MayRead state worker symbol → DidRead state worker symbol next → AllStands next
  read_keeps worker symbol may h = by (finite.get state.records symbol) refl h
    where
      by : (o : Option CoreRecord) → finite.get state.records symbol ≡ o → Holds o (λ image. Learned state worker symbol image next) → AllStands next
      by None e k = absurd k
      by (Some (Claimed n)) e k = absurd k
      by (Some (Held image)) e k = learned_keeps worker symbol image may.0 (st.held symbol image e) (st.held_covered symbol image e) k

  pub fold_keeps : (worker : ℕ) (symbol : SymbolId) → MayFold state worker symbol → Folded state worker symbol next → AllStands next
  fold_keeps worker symbol may h = learned_keeps worker symbol h.0 may.0 h.1 may.1 h.2

  pub claim_keeps : (worker : ℕ) (symbol : SymbolId) → DidClaim state worker symbol next → AllStands next
  claim_keeps worker symbol h =
      subst AllStands (sym h)
      (other_records st (finite.insert state.records symbol (Claimed worker)) (λ s image k.
      elim (insert_cases symbol_total symbol_same state.records symbol (Claimed worker) s) [
        | inl c ↦ absurd (let e = sym c.1 ∙ k in cc)
        | inr c ↦ inl (sym c.1 ∙ k)
      ]))

  pub publish_keeps : (worker : ℕ) (symbol : SymbolId) → MayPublish state worker symbol → Published state symbol next → AllStands next
  publish_keeps worker symbol may h =
      subst AllStands (sym h.2)
      (other_records st (finite.insert state.records symbol (Held h.0)) (λ s image k.
      elim (insert_cases symbol_total symbol_same state.records symbol (Held h.0) s) [
        | inl c ↦
            let e : Some (Held h.0) ≡ Some (Held image) = sym c.1 ∙ k in
            let same : h.0 ≡ image = cc in
            inr (subst (λ z. IsImage state.world z image) (sym c.0) (subst (IsImage state.world symbol) same h.1), subst (IsCovered state.world state.edges) (sym c.0) may.1)
        | inr c ↦ inl (sym c.1 ∙ k)
      ]))

  pub raise_keeps : Raised state next → AllStands next
  raise_keeps h = subst AllStands (sym h) st

  pub hear_keeps : (worker : ℕ) → Heard state worker next → AllStands next
  hear_keeps worker h = subst AllStands (sym h) (idle_worker st worker)

-- ---- Finish

module _ (state : CoreState) (st : AllStands state) (own : SymbolId) (known : Known) (knows : Knows state.world state.edges own known) where
  not_stale : set.contains (set.remove state.stale own) own ≡ false
  not_stale =
      contains-remove symbol_total state.stale own own
      ∙ elim (decided symbol_total symbol_same own own) [
        | inl c ↦ ap (λ b. not b && set.contains state.stale own) c.1
        | inr c ↦ absurd (c.0 refl)
      ]

  other_stale : (u : SymbolId) → u ≢ own → set.contains (set.remove state.stale own) u ≡ set.contains state.stale u
  other_stale u apart =
      contains-remove symbol_total state.stale own u
      ∙ elim (decided symbol_total symbol_same u own) [
        | inl c ↦ absurd (apart c.0)
        | inr c ↦ ap (λ b. not b && set.contains state.stale u) c.1
      ]

  no_unit : finite.get state.world own ≡ None → Standing state.world state.records state.edges (set.remove state.stale own) state.verdicts state.workers
  no_unit none = record {
    held = st.held;
    held_covered = st.held_covered;
    working = st.working;
    judged = st.judged;
    told = st.told;
    folds = st.folds;
    either = λ u h. elim (st.either u h) [ inl k ↦ inl (other_stale u (apart u h) ∙ k) | inr k ↦ inr k ];
    never_both = λ u h k. st.never_both u h (sym (other_stale u (apart u h)) ∙ k);
  }
    where
      apart : (u : SymbolId) → IsDeclared state.world u → u ≢ own
      apart u h is = let e : false ≡ true = ap is_some (sym none) ∙ ap (λ z. is_some (finite.get state.world z)) (sym is) ∙ h in cc

  one_unit : (d : Decl) → finite.get state.world own ≡ Some d
      → Standing state.world state.records state.edges (set.remove state.stale own) (finite.insert state.verdicts own (record { text = d.text; names = d.names; known = known })) state.workers
  one_unit d has = record {
    held = st.held;
    held_covered = st.held_covered;
    working = st.working;
    judged = λ u v h.
        elim (insert_cases symbol_total symbol_same state.verdicts own verdict u) [
          | inl c ↦
              let e : Some verdict ≡ Some v = sym c.1 ∙ h in
              let same : verdict ≡ v = cc in
              subst (λ z. Knows state.world state.edges z v.known) (sym c.0) (subst (λ (z : CoreVerdict). Knows state.world state.edges own z.known) same knows)
          | inr c ↦ st.judged u v (sym c.1 ∙ h)
        ];
    told = λ u v h.
        elim (insert_cases symbol_total symbol_same state.verdicts own verdict u) [
          | inl c ↦
              let e : Some verdict ≡ Some v = sym c.1 ∙ h in
              let same : verdict ≡ v = cc in
              subst (λ z. told_at state.world z ≡ Some (v.text, v.names)) (sym c.0)
              (subst (λ (z : CoreVerdict). told_at state.world own ≡ Some (z.text, z.names)) same (ap told_in has))
          | inr c ↦ st.told u v (sym c.1 ∙ h)
        ];
    folds = st.folds;
    either = λ u h.
        elim (insert_cases symbol_total symbol_same state.verdicts own verdict u) [
          | inl c ↦ inr (ap is_some c.1)
          | inr c ↦ elim (st.either u h) [ inl k ↦ inl (other_stale u c.0 ∙ k) | inr k ↦ inr (ap is_some c.1 ∙ k) ]
        ];
    never_both = λ u h k.
        elim (insert_cases symbol_total symbol_same state.verdicts own verdict u) [
          | inl c ↦ absurd (let e : false ≡ true = sym not_stale ∙ ap (set.contains (set.remove state.stale own)) (sym c.0) ∙ k in cc)
          | inr c ↦ c.1 ∙ st.never_both u h (sym (other_stale u c.0) ∙ k)
        ];
  }
    where
      verdict : CoreVerdict
      verdict = record { text = d.text; names = d.names; known = known }

      told_in : Option Decl → Option (ℕ × List SymbolId)
      told_in None = None
      told_in (Some z) = Some (z.text, z.names)

pub finish_keeps : (state next : CoreState) (worker : ℕ) → AllStands state → Finished state worker next → AllStands next
finish_keeps state next worker st h = by (slice_get state.workers worker) refl h
  where
    judge : (own : SymbolId) (known : Known) → Knows state.world state.edges own known → (o : Option Decl) → finite.get state.world own ≡ o
        → AllStands (with_worker (let judged = with_verdict state own o known in record judged { stale = set.remove state.stale own }) worker Idle)
    judge own known knows None e = idle_worker (no_unit state st own known knows e) worker
    judge own known knows (Some d) e = idle_worker (one_unit state st own known knows d e) worker

    by : (o : Option CoreWorker) → slice_get state.workers worker ≡ o → Works o (λ symbol check known. next ≡ with_worker (finished state symbol check known) worker Idle) → AllStands next
    by None e k = absurd k
    by (Some Idle) e k = absurd k
    by (Some (Work own false known)) e k = subst AllStands (sym k) (idle_worker st worker)
    by (Some (Work own true known)) e k = subst AllStands (sym k) (judge own known (st.working worker own true known e) (finite.get state.world own) refl)
