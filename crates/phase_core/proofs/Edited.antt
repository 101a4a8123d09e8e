-- The effect of an edit from what its helpers compute.
use Rattle.std.proofs.Common.{◌≡◌, ◌≢◌, ◌⊎◌, ◌↔◌, inl, inr, refl, sym, ap, ◌∙◌, subst, Bool, true, false, cond, List, [], ◌∷◌, Option, Some, None}
use Rattle.std.specs.Prelude.{Contains, IsSome, is_some}
use Rattle.std.specs.Option.{option_map}
use Rattle.std.specs.FinMap as finite
use Rattle.std.specs.FinSet as set
use Rattle.hack_types.specs.declared.ids.SymbolId.{SymbolId}
use Rattle.phase_core.specs.declared.edge.CoreEdge.{CoreEdge}
use Rattle.phase_core.specs.declared.closure.Reached.{Reached}
use Rattle.phase_core.specs.declared.state.CoreState.{CoreState}
use Rattle.phase_core.specs.declared.state.Decl.{Decl}
use Rattle.phase_core.specs.declared.state.CoreRecord.{CoreRecord}
use Rattle.phase_core.specs.declared.state.CoreRecord.TheVariants.{Claimed, Held}
use Rattle.phase_core.specs.declared.state.CoreVerdict.{CoreVerdict}
use Rattle.phase_core.specs.Orders.{symbol_order}
use Rattle.phase_core.specs.World.{World, IsDeclared, seen, seen_at, told_at}
use Rattle.phase_core.specs.Closures.{IsPath, Reaches}
use Rattle.phase_core.specs.Edges.{Edges, HasFold, fold_edge, check_edge}
use Rattle.phase_core.specs.States.{unclaimed, is_claimed}
use Rattle.phase_core.specs.Edits.{IsEvicted, BecomesStale, Edited}
use Rattle.phase_core.specs.Reached.{IsReach}
use Rattle.phase_core.specs.InsideEdits.{Symbols, LooksInto, Refreshed, IsOutdated, turn, RecordsLeft, VerdictsLeft, Left}
use Rattle.phase_core.proofs.Reached.{reaches_further}

-- ---- paths the other way round

pub reversed : (A B : SymbolId → SymbolId → Type 0) → ((s t : SymbolId) → A s t → B t s) → (path : List SymbolId) (s t : SymbolId) → IsPath A s path t → Reaches B t s
reversed A B turn [] s t h = ([], sym h)
reversed A B turn (u ∷ path) s t h = reaches_further B t u s (reversed A B turn path u t h.1) (turn s u h.0)

pub evicted_by : (edges back : Edges) (P : SymbolId → Type 0) (starts : List SymbolId) (r : Reached) → ((s t : SymbolId) → HasFold back s t ↔ HasFold edges t s) → ((s : SymbolId) → Contains starts s ↔ P s)
    → IsReach (HasFold back) starts r → (s : SymbolId) → (set.contains r.set s ≡ true) ↔ ((t : SymbolId) × P t × Reaches (HasFold edges) s t)
evicted_by edges back P starts r turned begun is s = (
  λ h.
      let from = (is.reached s).0 h in
      (from.0, (begun from.0).0 from.1, reversed (HasFold back) (HasFold edges) (λ a b k. (turned a b).0 k) from.2.0 from.0 s from.2.1),
  λ h. (is.reached s).1 (h.0, (begun h.0).1 h.1, reversed (HasFold edges) (HasFold back) (λ a b k. (turned b a).1 k) h.2.0 s h.0 h.2.1),
)

pub evicted_from : (P : SymbolId → Type 0) (R : SymbolId → SymbolId → Type 0) (ends : List SymbolId) (b : Bool) (s : SymbolId) → ((t : SymbolId) → Contains ends t ↔ P t) → (b ≡ true) ↔ ((t : SymbolId) × Contains ends t × R s t)
    → (b ≡ true) ↔ ((t : SymbolId) × P t × R s t)
evicted_from P R ends b s are both = (λ h. let r = both.0 h in (r.0, (are r.0).0 r.1, r.2), λ h. both.1 (h.0, (are h.0).1 h.1, h.2))

pub turned_is : (edges : Edges) (list : List CoreEdge) → ((e : CoreEdge) → Contains list e ↔ (set.contains edges e ≡ true)) → (back : Edges) (s t : SymbolId)
    → (set.contains back (fold_edge s t) ≡ true) ↔ ((e : CoreEdge) × Contains list e × (e.fold ≡ true) × (turn e ≡ fold_edge s t)) → HasFold back s t ↔ HasFold edges t s
turned_is edges list there back s t whole = (
  λ h.
      let r = whole.0 h in
      let is : r.0 ≡ fold_edge t s = λ i. record { fold = r.2 i; from = (r.3 i).to; to = (r.3 i).from } in
      subst (λ e. set.contains edges e ≡ true) is ((there r.0).0 r.1),
  λ h. whole.1 (fold_edge t s, (there (fold_edge t s)).1 h, refl, refl),
)

-- ---- records without claims

pub unclaimed_is : (o : Option CoreRecord) → cond (is_claimed o) None o ≡ unclaimed o
unclaimed_is None = refl
unclaimed_is (Some (Claimed worker)) = refl
unclaimed_is (Some (Held image)) = refl

same_bool : (a b : Bool) → ((a ≡ true) ↔ (b ≡ true)) → a ≡ b
same_bool true b h = sym (h.0 refl)
same_bool false true h = h.1 refl
same_bool false false h = refl

pub without_claimed : (claims : Symbols) (records rest : finite.FinMap symbol_order CoreRecord) → ((s : SymbolId) → (set.contains claims s ≡ true) ↔ (is_claimed (finite.get records s) ≡ true))
    → ((s : SymbolId) → finite.get rest s ≡ cond (set.contains claims s) None (finite.get records s)) → (s : SymbolId) → finite.get rest s ≡ unclaimed (finite.get records s)
without_claimed claims records rest are left s =
    left s ∙ ap (λ b. cond b None (finite.get records s)) (same_bool _ _ (are s)) ∙ unclaimed_is (finite.get records s)

pub records_by : (records rest left : finite.FinMap symbol_order CoreRecord) (evicted : Symbols) → ((s : SymbolId) → finite.get rest s ≡ unclaimed (finite.get records s))
    → ((s : SymbolId) → finite.get left s ≡ cond (set.contains evicted s) None (finite.get rest s)) → RecordsLeft records evicted left
records_by records rest left evicted unclaims gets s = gets s ∙ ap (cond (set.contains evicted s) None) (unclaims s)

-- ---- verdicts that aren't outdated

nothing : (b : Bool) → cond {A = Option CoreVerdict} b None None ≡ None
nothing true = refl
nothing false = refl

not_true : (b : Bool) → ¬ (b ≡ true) → b ≡ false
not_true true never = absurd (never refl)
not_true false never = refl

not_in : {P : Type 0} (b : Bool) → (b ≡ true) ↔ P → ¬ P → b ≡ false
not_in b both never = not_true b (λ h. never (both.0 h))

not_P : {P : Type 0} {b : Bool} → (b ≡ true) ↔ P → b ≡ false → ¬ P
not_P both never p = let e : false ≡ true = sym never ∙ both.1 p in cc

pub verdicts_by : (verdicts left : finite.FinMap symbol_order CoreVerdict) (world : World) (refreshed outdated : Symbols) → ((u : SymbolId) → (set.contains outdated u ≡ true) ↔ (IsSome (finite.get verdicts u) × IsOutdated world refreshed u))
    → ((u : SymbolId) → finite.get left u ≡ cond (set.contains outdated u) None (finite.get verdicts u)) → VerdictsLeft verdicts world refreshed left
verdicts_by verdicts left world refreshed outdated are gets = record {
  gone = λ u why. by u why (finite.get verdicts u) refl;
  kept = λ u fresh. gets u ∙ ap (λ b. cond b None (finite.get verdicts u)) (not_in (set.contains outdated u) (are u) (λ h. fresh h.1));
}
  where
    by : (u : SymbolId) → IsOutdated world refreshed u → (o : Option CoreVerdict) → finite.get verdicts u ≡ o → finite.get left u ≡ None
    by u why None e = gets u ∙ ap (cond (set.contains outdated u) None) e ∙ nothing (set.contains outdated u)
    by u why (Some v) e = gets u ∙ ap (λ b. cond b None (finite.get verdicts u)) ((are u).1 (ap is_some e, why))

-- ---- the whole

module _ (state next : CoreState) (world : World) (evicted refreshed : Symbols)
    (are_evicted : (s : SymbolId) → (set.contains evicted s ≡ true) ↔ IsEvicted state world s)
    (are_refreshed : (u : SymbolId) → (set.contains refreshed u ≡ true) ↔ Refreshed state world evicted u) where
  fresh_is : (u : SymbolId) → (set.contains refreshed u ≡ true) ↔ BecomesStale state world u
  fresh_is u = (
    λ h.
        let r = (are_refreshed u).0 h in
        (r.0, elim r.1 [ inl told ↦ inl told | inr looks ↦ inr (looks.0, (are_evicted looks.0).0 looks.1, looks.2) ]),
    λ h. (are_refreshed u).1 (h.0, elim h.1 [ inl told ↦ inl told | inr looks ↦ inr (looks.0, (are_evicted looks.0).1 looks.1, looks.2) ]),
  )

  pub edited_by : Left state world evicted refreshed next → Edited state world next
  edited_by left = record {
    world_is = left.world_is;
    records_gone = λ s h. left.records s ∙ ap (λ b. cond b None (unclaimed (finite.get state.records s))) ((are_evicted s).1 h);
    records_kept = λ s kept. left.records s ∙ ap (λ b. cond b None (unclaimed (finite.get state.records s))) (not_in (set.contains evicted s) (are_evicted s) kept);
    folds = λ s t. (
      λ h. let k = (left.edges (fold_edge s t)).0 h in (k.0, k.1.0, not_P (are_evicted s) k.1.1),
      λ h. (left.edges (fold_edge s t)).1 (h.0, (h.1, not_in (set.contains evicted s) (are_evicted s) h.2)),
    );
    checks = λ u t. (
      λ h. let k = (left.edges (check_edge u t)).0 h in (k.0, k.1.0, not_P (fresh_is u) k.1.1),
      λ h. (left.edges (check_edge u t)).1 (h.0, (h.1, not_in (set.contains refreshed u) (fresh_is u) h.2)),
    );
    stale = λ u. (
      λ h. let k = (left.stale u).0 h in (k.0, elim k.1 [ inl old ↦ inl old | inr new ↦ inr ((fresh_is u).0 new) ]),
      λ h. (left.stale u).1 (h.0, elim h.1 [ inl old ↦ inl old | inr new ↦ inr ((fresh_is u).1 new) ]),
    );
    verdicts_gone = λ u h. left.verdicts.gone u (elim h [ inl never ↦ inl never | inr becomes ↦ inr ((fresh_is u).1 becomes) ]);
    verdicts_kept = λ u there fresh. left.verdicts.kept u (λ h. elim h [ inl never ↦ never there | inr new ↦ fresh ((fresh_is u).0 new) ]);
    workers = left.workers;
    raised = left.raised;
  }

-- ---- the sets of an edit

pub changed_is_there : (old new : World) (s : SymbolId) → seen_at old s ≢ seen_at new s → IsSome (finite.get old s) ⊎ IsSome (finite.get new s)
changed_is_there old new s differs = by (finite.get old s) refl (finite.get new s) refl
  where
    by : (o : Option Decl) → finite.get old s ≡ o → (p : Option Decl) → finite.get new s ≡ p → IsSome (finite.get old s) ⊎ IsSome (finite.get new s)
    by (Some d) e p f = inl (ap is_some e)
    by None e (Some d) f = inr (ap is_some f)
    by None e None f = absurd (differs (ap (option_map seen) e ∙ sym (ap (option_map seen) f)))

pub looks_is : (edges : Edges) (evicted : Symbols) (list : List CoreEdge) (lookers : Symbols) (u : SymbolId) → ((e : CoreEdge) → Contains list e ↔ (set.contains edges e ≡ true))
    → (set.contains lookers u ≡ true) ↔ ((e : CoreEdge) × Contains list e × ((e.fold ≡ false) × (set.contains evicted e.to ≡ true)) × (e.from ≡ u)) → (set.contains lookers u ≡ true) ↔ LooksInto edges evicted u
looks_is edges evicted list lookers u there whole = (
  λ h.
      let r = whole.0 h in
      let is : r.0 ≡ check_edge u r.0.to = λ i. record { fold = r.2.0 i; from = r.3 i; to = r.0.to } in
      (r.0.to, r.2.1, subst (λ (e : CoreEdge). set.contains edges e ≡ true) is ((there r.0).0 r.1)),
  λ h. whole.1 (check_edge u h.0, (there (check_edge u h.0)).1 h.2, (refl, h.1), refl),
)

pub refreshed_by : (state : CoreState) (world : World) (lookers evicted : Symbols) (b : Bool) (u : SymbolId) → (set.contains lookers u ≡ true) ↔ LooksInto state.edges evicted u
    → (b ≡ true) ↔ (IsDeclared world u × ((set.contains lookers u ≡ true) ⊎ (told_at state.world u ≢ told_at world u))) → (b ≡ true) ↔ Refreshed state world evicted u
refreshed_by state world lookers evicted b u look both = (
  λ h. let k = both.0 h in (k.0, elim k.1 [ inl looks ↦ inr (look.0 looks) | inr told ↦ inl told ]),
  λ h. both.1 (h.0, elim h.1 [ inl told ↦ inr told | inr looks ↦ inl (look.1 looks) ]),
)
