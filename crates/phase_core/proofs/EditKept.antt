-- An edit keeps what stands.
use Rattle.std.proofs.Common.{◌≡◌, ◌≢◌, ◌⊎◌, inl, inr, refl, sym, ap, ◌∙◌, subst, ℕ, Bool, true, false, List, [], ◌∷◌, Option, Some, None}
use Rattle.std.specs.Prelude.{IsSome, IsSomeAnd, is_some, slice_get, Contains, All}
use Rattle.std.specs.FinMap as finite
use Rattle.std.specs.FinMap.{nat_cmp-IsAntisymmetric, slice_cmp-IsAntisymmetric}
use Rattle.std.specs.FinSet as set
use Rattle.std.specs.Option.{option_map}
use Rattle.std.proofs.lemmas.Cmp.{nat_cmp_total, lists_total}
use Rattle.hack_types.specs.declared.ids.SymbolId.{SymbolId}
use Rattle.phase_core.specs.declared.state.Decl.{Decl}
use Rattle.phase_core.specs.declared.state.CoreSeen.{CoreSeen}
use Rattle.phase_core.specs.declared.state.CoreState.{CoreState}
use Rattle.phase_core.specs.declared.state.CoreRecord.{CoreRecord}
use Rattle.phase_core.specs.declared.state.CoreRecord.TheVariants.{Claimed, Held}
use Rattle.phase_core.specs.declared.state.CoreVerdict.{CoreVerdict}
use Rattle.phase_core.specs.declared.state.CoreWorker.{CoreWorker}
use Rattle.phase_core.specs.declared.state.CoreWorker.TheVariants.{Idle, Work}
use Rattle.phase_core.specs.World.{World, IsDeclared, IsParent, seen, seen_at, told, told_at}
use Rattle.phase_core.specs.Closures.{IsPath, InClosure}
use Rattle.phase_core.specs.Images.{Image, IsImage}
use Rattle.phase_core.specs.Edges.{HasFold, IsCovered}
use Rattle.phase_core.specs.States.{AllAreIdle, unclaimed}
use Rattle.phase_core.specs.Edits.{MayEdit, IsEvicted, BecomesStale, Edited}
use Rattle.phase_core.proofs.Orders.{symbol_total, symbol_same, decided}
use Rattle.phase_core.proofs.Copies.{not_some}
use Rattle.phase_core.proofs.Lists.{slice_get_at}
use Rattle.phase_core.proofs.Reached.{closed, reaches_further}
use Rattle.phase_core.proofs.Standing.{Knows, Standing, AllStands}

-- ---- equal or not

Either : {X : Type 0} → X → X → Type 0
Either x y = (x ≡ y) ⊎ (x ≢ y)

numbers : (a b : ℕ) → (a ≡ b) ⊎ (a ≢ b)
numbers a b = elim (decided nat_cmp_total nat_cmp-IsAntisymmetric a b) [ inl h ↦ inl h.0 | inr h ↦ inr h.0 ]

lists : (a b : List SymbolId) → (a ≡ b) ⊎ (a ≢ b)
lists a b = elim (decided (lists_total symbol_total) (slice_cmp-IsAntisymmetric symbol_same) a b) [ inl h ↦ inl h.0 | inr h ↦ inr h.0 ]

pub seen_decided : (a b : CoreSeen) → (a ≡ b) ⊎ (a ≢ b)
seen_decided a b =
    elim (numbers a.version b.version) [
      | inr n ↦ inr (λ e. n (ap (λ (z : CoreSeen). z.version) e))
      | inl v ↦
          elim (lists a.parents b.parents) [
            | inr n ↦ inr (λ e. n (ap (λ (z : CoreSeen). z.parents) e))
            | inl p ↦
                elim (lists a.mentions b.mentions) [
                  | inr n ↦ inr (λ e. n (ap (λ (z : CoreSeen). z.mentions) e))
                  | inl m ↦ inl (λ i. record { version = v i; parents = p i; mentions = m i })
                ]
          ]
    ]

told_decided : (a b : ℕ × List SymbolId) → (a ≡ b) ⊎ (a ≢ b)
told_decided a b =
    elim (numbers a.0 b.0) [
      | inr n ↦ inr (λ e. n (ap (λ (z : ℕ × List SymbolId). z.0) e))
      | inl t ↦
          elim (lists a.1 b.1) [
            | inr n ↦ inr (λ e. n (ap (λ (z : ℕ × List SymbolId). z.1) e))
            | inl p ↦ inl (λ i. (t i, p i))
          ]
    ]

options : {X : Type 0} → ((a b : X) → (a ≡ b) ⊎ (a ≢ b)) → (a b : Option X) → (a ≡ b) ⊎ (a ≢ b)
options each None None = inl refl
options each None (Some y) = inr (λ e. cc)
options each (Some x) None = inr (λ e. cc)
options each (Some x) (Some y) = elim (each x y) [ inl e ↦ inl (ap (λ z. Some z) e) | inr n ↦ inr (λ e. n (let f : Some x ≡ Some y = e in cc)) ]

pub settled : {X : Type 0} (x y : X) → (x ≡ y) ⊎ (x ≢ y) → ¬ (x ≢ y) → x ≡ y
settled x y (inl e) never = e
settled x y (inr n) never = absurd (never n)

pub same_seen : (a b : Option CoreSeen) → ¬ (a ≢ b) → a ≡ b
same_seen a b never = settled a b (options seen_decided a b) never

pub same_told : (a b : Option (ℕ × List SymbolId)) → ¬ (a ≢ b) → a ≡ b
same_told a b never = settled a b (options told_decided a b) never

-- ---- what is seen alike

parents_alike : (o p : Option Decl) → option_map seen o ≡ option_map seen p → (t : SymbolId) → IsSomeAnd o (λ d. Contains d.parents t) → IsSomeAnd p (λ d. Contains d.parents t)
parents_alike None p e t h = absurd h
parents_alike (Some d) None e t h = absurd (let f : Some (seen d) ≡ None = e in cc)
parents_alike (Some d) (Some k) e t h =
    let f : Some (seen d) ≡ Some (seen k) = e in
    let s : seen d ≡ seen k = cc in
    subst (λ z. Contains z t) (ap (λ (z : CoreSeen). z.parents) s) h

declared_alike : {X : Type 0} (f : Decl → X) (o p : Option Decl) → option_map f o ≡ option_map f p → IsSome o → IsSome p
declared_alike f None p e h = absurd (let k : false ≡ true = h in cc)
declared_alike f (Some d) None e h = absurd (let k : Some (f d) ≡ None = e in cc)
declared_alike f (Some d) (Some k) e h = refl

held_before : (o : Option CoreRecord) (image : Image) → unclaimed o ≡ Some (Held image) → o ≡ Some (Held image)
held_before None image h = absurd cc
held_before (Some (Claimed n)) image h = absurd cc
held_before (Some (Held i)) image h = h

told_there : (o : Option Decl) (x : ℕ × List SymbolId) → option_map told o ≡ Some x → IsSome o
told_there None x e = absurd cc
told_there (Some d) x e = refl

idle_at : (ws : List CoreWorker) → All (λ w. w ≡ Idle) ws → (n : ℕ) (w : CoreWorker) → slice_get ws n ≡ Some w → w ≡ Idle
idle_at ws idle n w h = let at = slice_get_at ws n w h in subst (λ z. z ≡ Idle) at.1 (idle n w at.0)

-- ---- outside what is evicted

module _ (state : CoreState) (world : World) (st : AllStands state) where
  -- from what isn't evicted no evicted symbol is reached
  kept_further : (s t : SymbolId) → ¬ IsEvicted state world s → HasFold state.edges s t → ¬ IsEvicted state world t
  kept_further s t kept step gone = kept (gone.0, gone.1, (t ∷ gone.2.0, (step, gone.2.1)))

  seen_alike : (s : SymbolId) → ¬ IsEvicted state world s → seen_at state.world s ≡ seen_at world s
  seen_alike s kept = same_seen _ _ (λ changed. kept (s, changed, ([], refl)))

  -- the same of the symbols of a closure that is reached over fold edges
  module _ (s : SymbolId) (kept : ¬ IsEvicted state world s) (covered : IsCovered state.world state.edges s) where
    inner_alike : (t : SymbolId) → InClosure state.world s t → seen_at state.world t ≡ seen_at world t
    inner_alike t inside = same_seen _ _ (λ changed. kept (t, changed, covered t inside))

    Both : SymbolId → Type 0
    Both t = InClosure state.world s t × InClosure world s t

    forth : (t : SymbolId) → InClosure state.world s t → InClosure world s t
    unfolding Both
    forth t inside =
        (closed (IsParent state.world) Both
        (λ a b h step. (reaches_further (IsParent state.world) s a b h.0 step, reaches_further (IsParent world) s a b h.1 (parents_alike (finite.get state.world a) (finite.get world a) (inner_alike a h.0) b step)))
        inside.0 s t (([], refl), ([], refl)) inside.1).1

    back : (t : SymbolId) → InClosure world s t → InClosure state.world s t
    unfolding Both
    back t inside =
        (closed (IsParent world) Both
        (λ a b h step. (reaches_further (IsParent state.world) s a b h.0 (parents_alike (finite.get world a) (finite.get state.world a) (sym (inner_alike a h.0)) b step), reaches_further (IsParent world) s a b h.1 step))
        inside.0 s t (([], refl), ([], refl)) inside.1).0

    image_kept : (image : Image) → IsImage state.world s image → IsImage world s image
    image_kept image right = record {
      inside = λ t h. right.inside t (back t h) ∙ ap (λ z. Some z) (inner_alike t (back t h));
      only = λ t h. forth t (right.only t h);
    }

  module _ (next : CoreState) (ed : Edited state world next) where
    path_kept : (path : List SymbolId) (s t : SymbolId) → ¬ IsEvicted state world s → IsPath (HasFold state.edges) s path t → IsPath (HasFold next.edges) s path t
    path_kept [] s t kept h = h
    path_kept (u ∷ path) s t kept h =
        let there = declared_alike seen (finite.get state.world s) (finite.get world s) (seen_alike s kept) (st.folds s u h.0) in
        ((ed.folds s u).1 (h.0, there, kept), path_kept path u t (kept_further s u kept h.0) h.1)

    covered_kept : (s : SymbolId) → ¬ IsEvicted state world s → IsCovered state.world state.edges s → IsCovered world next.edges s
    covered_kept s kept covered t inside =
        let way = covered t (back s kept covered t inside) in
        (way.0, path_kept way.0 s t kept way.1)

    -- a verdict that is left was there before, of a declared unit that doesn't become stale
    left_declared : (u : SymbolId) (v : CoreVerdict) → finite.get next.verdicts u ≡ Some v → IsDeclared world u
    left_declared u v h = by (finite.get world u) refl
      where
        by : (o : Option Decl) → finite.get world u ≡ o → IsSome (finite.get world u)
        by (Some d) e = ap is_some e
        by None e = absurd (not_some v (ed.verdicts_gone u (inl (λ k. let f : false ≡ true = ap is_some (sym e) ∙ k in cc))) h)

    left_fresh : (u : SymbolId) (v : CoreVerdict) → finite.get next.verdicts u ≡ Some v → ¬ BecomesStale state world u
    left_fresh u v h becomes = not_some v (ed.verdicts_gone u (inr becomes)) h

    left_before : (u : SymbolId) (v : CoreVerdict) → finite.get next.verdicts u ≡ Some v → finite.get state.verdicts u ≡ Some v
    left_before u v h = sym (ed.verdicts_kept u (left_declared u v h) (left_fresh u v h)) ∙ h

    told_alike : (u : SymbolId) → IsDeclared world u → ¬ BecomesStale state world u → told_at state.world u ≡ told_at world u
    told_alike u there fresh = same_told _ _ (λ differs. fresh (there, inl differs))

    record_left : (s : SymbolId) (image : Image) → finite.get next.records s ≡ Some (Held image) → (¬ IsEvicted state world s) × (finite.get state.records s ≡ Some (Held image))
    record_left s image h =
        let kept : ¬ IsEvicted state world s = λ gone. not_some (Held image) (ed.records_gone s gone) h in
        (kept, held_before (finite.get state.records s) image (sym (ed.records_kept s kept) ∙ h))

    knows_kept : (u : SymbolId) (v : CoreVerdict) → finite.get next.verdicts u ≡ Some v → Knows world next.edges u v.known
    knows_kept u v h s image k =
        let stands = st.judged u v (left_before u v h) s image k in
        let kept : ¬ IsEvicted state world s = λ gone. left_fresh u v h (left_declared u v h, inr (s, gone, stands.noted)) in
        record {
          right = image_kept s kept stands.covered image stands.right;
          covered = covered_kept s kept stands.covered;
          noted = (ed.checks u s).1 (stands.noted, left_declared u v h, left_fresh u v h);
        }

    either_kept : (u : SymbolId) → IsDeclared world u → (set.contains next.stale u ≡ true) ⊎ IsSome (finite.get next.verdicts u)
    either_kept u there = by (set.contains next.stale u) refl
      where
        by : (b : Bool) → set.contains next.stale u ≡ b → (set.contains next.stale u ≡ true) ⊎ IsSome (finite.get next.verdicts u)
        by true e = inl e
        by false e =
            let fresh : ¬ BecomesStale state world u = λ becomes. let f : false ≡ true = sym e ∙ (ed.stale u).1 (there, inr becomes) in cc in
            let before : IsDeclared state.world u = declared_alike told (finite.get world u) (finite.get state.world u) (sym (told_alike u there fresh)) there in
            elim (st.either u before) [
              | inl stale ↦ absurd (let f : false ≡ true = sym e ∙ (ed.stale u).1 (there, inl stale) in cc)
              | inr verdict ↦ inr (ap is_some (ed.verdicts_kept u there fresh) ∙ verdict)
            ]

    never_kept : (u : SymbolId) → IsDeclared world u → set.contains next.stale u ≡ true → finite.get next.verdicts u ≡ None
    never_kept u there stale = by (finite.get next.verdicts u) refl
      where
        by : (o : Option CoreVerdict) → finite.get next.verdicts u ≡ o → finite.get next.verdicts u ≡ None
        by None e = e
        by (Some v) e =
            let was = left_before u v e in
            let before = told_there (finite.get state.world u) (v.text, v.names) (st.told u v was) in
            elim ((ed.stale u).0 stale).1 [
              | inl old ↦ absurd (not_some v (st.never_both u before old) was)
              | inr becomes ↦ absurd (left_fresh u v e becomes)
            ]

    stands_after : AllAreIdle state → Standing world next.records next.edges next.stale next.verdicts next.workers
    stands_after idle = record {
      held = λ s image h. let k = record_left s image h in image_kept s k.0 (st.held_covered s image k.1) image (st.held s image k.1);
      held_covered = λ s image h. let k = record_left s image h in covered_kept s k.0 (st.held_covered s image k.1);
      working = λ n own check known h.
          absurd (let e = idle_at state.workers idle n (Work own check known) (ap (λ ws. slice_get ws n) (sym ed.workers) ∙ h) in cc);
      judged = knows_kept;
      told = λ u v h. sym (told_alike u (left_declared u v h) (left_fresh u v h)) ∙ st.told u v (left_before u v h);
      folds = λ s t h. ((ed.folds s t).0 h).1;
      either = either_kept;
      never_both = never_kept;
    }

pub edit_keeps : (state next : CoreState) (world : World) → AllStands state → MayEdit state world → Edited state world next → AllStands next
edit_keeps state next world st may ed =
    subst (λ w. Standing w next.records next.edges next.stale next.verdicts next.workers) (sym ed.world_is) (stands_after state world st next ed may.0)
