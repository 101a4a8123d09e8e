-- What the events keep: soundness, with what it needs of the edges.
use Rattle.std.proofs.Common.{◌≡◌, ◌⊎◌, inl, inr, refl, sym, ap, ◌∙◌, ℕ, zero, suc, Bool, true, false, List, [], ◌∷◌, Option, Some, None}
use Rattle.std.specs.Prelude.{IsSome, is_some, slice_get, slice_set, replicate}
use Rattle.std.specs.FinMap as finite
use Rattle.std.specs.FinMap.{get-empty}
use Rattle.std.specs.FinSet as set
use Rattle.std.specs.FinSet.{contains-empty}
use Rattle.hack_types.specs.declared.ids.SymbolId.{SymbolId}
use Rattle.phase_core.specs.declared.edge.CoreEdge.{CoreEdge}
use Rattle.phase_core.specs.declared.state.CoreState.{CoreState}
use Rattle.phase_core.specs.declared.state.CoreRecord.{CoreRecord}
use Rattle.phase_core.specs.declared.state.CoreRecord.TheVariants.{Held}
use Rattle.phase_core.specs.declared.state.CoreVerdict.{CoreVerdict}
use Rattle.phase_core.specs.declared.state.CoreWorker.{CoreWorker}
use Rattle.phase_core.specs.declared.state.CoreWorker.TheVariants.{Idle, Work}
use Rattle.phase_core.specs.Orders.{symbol_order}
use Rattle.phase_core.specs.EdgeOrder.{edge_order}
use Rattle.phase_core.specs.World.{World, IsDeclared, told_at}
use Rattle.phase_core.specs.Closures.{IsPath}
use Rattle.phase_core.specs.Images.{Image, Known, IsImage}
use Rattle.phase_core.specs.Edges.{Edges, HasFold, HasCheck, IsCovered}
use Rattle.phase_core.specs.States.{empty_state, Works}
use Rattle.phase_core.specs.Sound.{Sound}
use Rattle.phase_core.proofs.Copies.{not_some}

-- what somebody at work on `own` knows of one symbol
pub record Stands (world : World) (edges : Edges) (own s : SymbolId) (image : Image) : Type 0 where
  -- it is the image in this world
  pub right : IsImage world s image
  -- whose closure is reached over fold edges
  pub covered : IsCovered world edges s
  -- and there is a check edge to it
  pub noted : HasCheck edges own s

abbrev pub Knows : World → Edges → SymbolId → Known → Type 0
Knows world edges own known = (s : SymbolId) (image : Image) → finite.get known s ≡ Some image → Stands world edges own s image

-- the invariant
pub record Standing (world : World) (records : finite.FinMap symbol_order CoreRecord) (edges : Edges) (stale : set.FinSet symbol_order) (verdicts : finite.FinMap symbol_order CoreVerdict) (workers : List CoreWorker) : Type 0 where
  -- every held record is the image in this world
  pub held : (s : SymbolId) (image : Image) → finite.get records s ≡ Some (Held image) → IsImage world s image
  -- its closure is reached over fold edges
  pub held_covered : (s : SymbolId) (image : Image) → finite.get records s ≡ Some (Held image) → IsCovered world edges s
  -- what a worker knows stands
  pub working : (n : ℕ) (own : SymbolId) (check : Bool) (known : Known) → slice_get workers n ≡ Some (Work own check known) → Knows world edges own known
  -- what a verdict knows stands
  pub judged : (u : SymbolId) (v : CoreVerdict) → finite.get verdicts u ≡ Some v → Knows world edges u v.known
  -- every verdict has the text and names of its unit
  pub told : (u : SymbolId) (v : CoreVerdict) → finite.get verdicts u ≡ Some v → told_at world u ≡ Some (v.text, v.names)
  -- fold edges lead from declared symbols
  pub folds : (s t : SymbolId) → HasFold edges s t → IsDeclared world s
  -- every declared symbol is stale or has a verdict
  pub either : (u : SymbolId) → IsDeclared world u → (set.contains stale u ≡ true) ⊎ IsSome (finite.get verdicts u)
  -- and never both
  pub never_both : (u : SymbolId) → IsDeclared world u → set.contains stale u ≡ true → finite.get verdicts u ≡ None

abbrev pub AllStands : CoreState → Type 0
AllStands state = Standing state.world state.records state.edges state.stale state.verdicts state.workers

-- ---- workers

pub open_work : (o : Option CoreWorker) (P : SymbolId → Bool → Known → Type 0) → Works o P → (own : SymbolId) × (check : Bool) × (known : Known) × (o ≡ Some (Work own check known)) × P own check known
open_work None P h = absurd h
open_work (Some Idle) P h = absurd h
open_work (Some (Work own check known)) P h = (own, check, known, refl, h)

pub all_idle : (n k : ℕ) (w : CoreWorker) → slice_get (replicate n Idle) k ≡ Some w → w ≡ Idle
all_idle zero k w h = absurd cc
all_idle (suc n) zero w h = let e : Some Idle ≡ Some w = h in cc
all_idle (suc n) (suc k) w h = all_idle n k w h

pub set_worker : (ws : List CoreWorker) (n k : ℕ) (x y : CoreWorker) → slice_get (slice_set ws n x) k ≡ Some y → (y ≡ x) ⊎ (slice_get ws k ≡ Some y)
set_worker [] n k x y h = inr h
set_worker (w ∷ ws) zero zero x y h = inl (let e : Some x ≡ Some y = h in cc)
set_worker (w ∷ ws) zero (suc k) x y h = inr h
set_worker (w ∷ ws) (suc n) zero x y h = inr h
set_worker (w ∷ ws) (suc n) (suc k) x y h = set_worker ws n k x y h

-- ---- more edges

pub more_reached : (leads more : SymbolId → SymbolId → Type 0) → ((s t : SymbolId) → leads s t → more s t) → (path : List SymbolId) (s t : SymbolId) → IsPath leads s path t → IsPath more s path t
more_reached leads more wider [] s t h = h
more_reached leads more wider (u ∷ path) s t h = (wider s u h.0, more_reached leads more wider path u t h.1)

module _ (edges more : Edges) (wider : (e : CoreEdge) → set.contains edges e ≡ true → set.contains more e ≡ true) where
  pub more_covered : (world : World) (s : SymbolId) → IsCovered world edges s → IsCovered world more s
  more_covered world s covered t inside =
      let way = covered t inside in
      (way.0, more_reached (HasFold edges) (HasFold more) (λ a b h. wider _ h) way.0 s t way.1)

  pub more_known : (world : World) (own : SymbolId) (known : Known) → Knows world edges own known → Knows world more own known
  more_known world own known knows s image h =
      let st = knows s image h in
      record { right = st.right; covered = more_covered world s st.covered; noted = wider _ st.noted }

-- ---- the beginning and the end

pub empty_stands : AllStands empty_state
empty_stands = record {
  held = λ s image h. absurd (not_some _ (get-empty symbol_order s) h);
  held_covered = λ s image h. absurd (not_some _ (get-empty symbol_order s) h);
  working = λ n own check known h. absurd (let e : None ≡ Some (Work own check known) = h in cc);
  judged = λ u v h. absurd (not_some v (get-empty symbol_order u) h);
  told = λ u v h. absurd (not_some v (get-empty symbol_order u) h);
  folds = λ s t h. absurd (let e : false ≡ true = sym (contains-empty edge_order _) ∙ h in cc);
  either = λ u h. absurd (let e : false ≡ true = ap is_some (sym (get-empty symbol_order u)) ∙ h in cc);
  never_both = λ u h _. absurd (let e : false ≡ true = ap is_some (sym (get-empty symbol_order u)) ∙ h in cc);
}

has_some : {X : Type 0} (o : Option X) → IsSome o → (x : X) × (o ≡ Some x)
has_some None h = absurd (let e : false ≡ true = h in cc)
has_some (Some x) h = (x, refl)

pub sound_standing : (state : CoreState) → AllStands state → Sound state
sound_standing state st = record {
  held = st.held;
  known = λ n s image h. let w = open_work (slice_get state.workers n) _ h in (st.working n w.0 w.1 w.2 w.3 s image w.4).right;
  judged = λ u v s image h k. (st.judged u v h s image k).right;
  told = st.told;
  noted = λ u v s h k. let i = has_some (finite.get v.known s) k in (st.judged u v h s i.0 i.1).noted;
  either = st.either;
  never_both = st.never_both;
}
