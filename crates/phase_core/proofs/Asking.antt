-- Loops that look for an item, or whether all items are so.
use Rattle.std.proofs.Common.{◌≡◌, ◌↔◌, ◌<◌, ◌≤◌, inl, inr, refl, sym, ap, ◌∙◌, subst, ℕ, ◌+◌, Bool, true, false, ◌&&◌, List, [], ◌∷◌, length, get_or, Option, Some, None}
use Rattle.std.specs.Prelude.{Contains, All, IsSome, slice_get}
use Rattle.std.specs.FinMap as finite
use Rattle.std.specs.Cmp.Lexicographic.{pointwise}
use Rattle.std.proofs.lemmas.List.Elements.{Contains-get_or}
use Rattle.hack_types.specs.declared.ids.SymbolId.{SymbolId}
use Rattle.phase_core.specs.declared.state.CoreRecord.{CoreRecord}
use Rattle.phase_core.specs.declared.state.CoreWorker.{CoreWorker}
use Rattle.phase_core.specs.declared.state.CoreWorker.TheVariants.{Idle, Work}
use Rattle.phase_core.specs.declared.state.Decl.{Decl}
use Rattle.phase_core.specs.World.{World, MentionsParents, ParentsAreMentioned}
use Rattle.phase_core.specs.Images.{Image, Known}
use Rattle.phase_core.specs.States.{Works, is_claimed}
use Rattle.phase_core.specs.Workers.{Mentions, ShowsMention}
use Rattle.phase_core.specs.Inside.{symbol_eq, NoneSoFar, AllSoFar}
use Rattle.phase_core.proofs.Orders.{symbol_total, symbol_same, decided}
use Rattle.phase_core.proofs.Lists.{in_none, in_more, in_whole, slice_get_at, at_slice_get}
use Rattle.phase_core.proofs.Folds.{symbol_eq_order}

pub same_is : (a b : SymbolId) (r : Bool) → r ≡ symbol_eq a b → (r ≡ true) ↔ (a ≡ b)
same_is a b r is =
    elim (decided symbol_total symbol_same a b) [
      | inl c ↦ (λ _. c.0, λ _. is ∙ symbol_eq_order a b ∙ c.1)
      | inr c ↦ (λ h. absurd (let e : false ≡ true = sym (is ∙ symbol_eq_order a b ∙ c.1) ∙ h in cc), λ h. absurd (c.0 h))
    ]

-- two lists by `==`
both_lists : (xs ys : List SymbolId) → (pointwise symbol_eq xs ys ≡ true) ↔ (xs ≡ ys)
both_lists [] [] = (λ _. refl, λ _. refl)
both_lists [] (y ∷ ys) = (λ e. absurd (let f : false ≡ true = e in cc), λ e. absurd cc)
both_lists (x ∷ xs) [] = (λ e. absurd (let f : false ≡ true = e in cc), λ e. absurd cc)
both_lists (x ∷ xs) (y ∷ ys) = by (both_lists xs ys) (symbol_eq x y) (same_is x y (symbol_eq x y) refl) refl
  where
    by : (pointwise symbol_eq xs ys ≡ true) ↔ (xs ≡ ys) → (b : Bool) → ((symbol_eq x y ≡ true) ↔ (x ≡ y)) → symbol_eq x y ≡ b → ((symbol_eq x y && pointwise symbol_eq xs ys) ≡ true) ↔ (x ∷ xs ≡ y ∷ ys)
    by rest true one e = (
      λ h.
          let tail = rest.0 (sym (ap (λ z. z && pointwise symbol_eq xs ys) e) ∙ h) in
          let head = one.0 e in
          λ i. head i ∷ tail i,
      λ h.
          let tail : xs ≡ ys = cc in
          ap (λ z. z && pointwise symbol_eq xs ys) e ∙ rest.1 tail,
    )
    by rest false one e = (
      λ h. absurd (let f : false ≡ true = sym (ap (λ z. z && pointwise symbol_eq xs ys) e) ∙ h in cc),
      λ h.
          let head : x ≡ y = cc in
          absurd (let f : false ≡ true = sym e ∙ one.1 head in cc),
    )

pub lists_same : (xs ys : List SymbolId) (r : Bool) → r ≡ pointwise symbol_eq xs ys → (r ≡ true) ↔ (xs ≡ ys)
lists_same xs ys r is = let both = both_lists xs ys in (λ h. both.0 (sym is ∙ h), λ h. is ∙ both.1 h)

-- an answer that is false denies what it decides
pub denied : {P : Type 0} {r : Bool} → (r ≡ true) ↔ P → r ≡ false → ¬ P
denied both never p = let e : false ≡ true = sym never ∙ both.1 p in cc

module _ {X : Type 0} (P : X → Type 0) (xs : List X) where
  pub none_yet : NoneSoFar P xs 0
  none_yet = record { none = λ x h. absurd (in_none xs x h) }

  pub none_more : (i : ℕ) (x : X) → i < length xs → x ≡ get_or xs i x → ¬ P x → NoneSoFar P xs i → NoneSoFar P xs (i + 1)
  none_more i x l is not so_far = record {
    none = λ y h p. elim (in_more xs i x l y h) [ inl before ↦ so_far.none y before p | inr now ↦ not (subst P (sym (is ∙ now)) p) ];
  }

  pub none_whole : (i : ℕ) → length xs ≤ i → NoneSoFar P xs i → (x : X) → Contains xs x → ¬ P x
  none_whole i l so_far x h = so_far.none x (in_whole xs i l x h)

  pub all_yet : AllSoFar P xs 0
  all_yet = record { all = λ x h. absurd (in_none xs x h) }

  pub all_more : (i : ℕ) (x : X) → i < length xs → x ≡ get_or xs i x → P x → AllSoFar P xs i → AllSoFar P xs (i + 1)
  all_more i x l is p so_far = record {
    all = λ y h. elim (in_more xs i x l y h) [ inl before ↦ so_far.all y before | inr now ↦ subst P (is ∙ now) p ];
  }

  pub all_whole : (i : ℕ) → length xs ≤ i → AllSoFar P xs i → (x : X) → Contains xs x → P x
  all_whole i l so_far x h = so_far.all x (in_whole xs i l x h)

  -- `All` by number and by membership
  pub all_by_number : ((x : X) → Contains xs x → P x) → All P xs
  all_by_number each k d l = each (get_or xs k d) (Contains-get_or xs k d l)

  pub all_by_member : All P xs → (x : X) → Contains xs x → P x
  all_by_member all x h = subst P h.2 (all h.0 x h.1)

-- ---- workers

pub works_at : (ws : List CoreWorker) (Q : SymbolId → Bool → Known → Type 0) → ((n : ℕ) × Works (slice_get ws n) Q) → (w : CoreWorker) × Contains ws w × Works (Some w) Q
works_at ws Q h = by (slice_get ws h.0) refl h.1
  where
    by : (o : Option CoreWorker) → slice_get ws h.0 ≡ o → Works o Q → (w : CoreWorker) × Contains ws w × Works (Some w) Q
    by None e k = absurd k
    by (Some w) e k = let at = slice_get_at ws h.0 w e in (w, (h.0, at.0, at.1), k)

pub at_works : (ws : List CoreWorker) (Q : SymbolId → Bool → Known → Type 0) (i : ℕ) (w : CoreWorker) → i < length ws → w ≡ get_or ws i w → Works (Some w) Q → (n : ℕ) × Works (slice_get ws n) Q
at_works ws Q i w l is k = (i, subst (λ o. Works o Q) (sym (at_slice_get ws i w l is)) k)

pub weaken : (o : Option CoreWorker) (Q : SymbolId → Bool → Known → Type 0) → Works o Q → Works o (λ _ _ _. Unit {0})
weaken None Q h = h
weaken (Some Idle) Q h = h
weaken (Some (Work own check known)) Q h = tt

pub in_work : {o : Option CoreWorker} {own : SymbolId} {check : Bool} {known : Known} (Q : SymbolId → Bool → Known → Type 0) → o ≡ Some (Work own check known) → Q own check known → Works o Q
in_work Q e q = subst (λ z. Works z Q) (sym e) q

pub of_work : {o : Option CoreWorker} {own : SymbolId} {check : Bool} {known : Known} (Q : SymbolId → Bool → Known → Type 0) → o ≡ Some (Work own check known) → Works o Q → Q own check known
of_work Q e h = subst (λ z. Works z Q) e h

-- ---- what has something in a map is among its symbols

pub claimed_is_there : (o : Option CoreRecord) → is_claimed o ≡ true → IsSome o
claimed_is_there None h = absurd (let e : false ≡ true = h in cc)
claimed_is_there (Some r) h = refl

pub shown_is_there : (o : Option Image) (symbol : SymbolId) → ShowsMention o symbol → IsSome o
shown_is_there None symbol h = absurd h
shown_is_there (Some image) symbol h = refl

pub mention_is_there : (o : Option (Option Rattle.phase_core.specs.declared.state.CoreSeen.CoreSeen)) (symbol : SymbolId) → Mentions o symbol → IsSome o
mention_is_there None symbol h = absurd h
mention_is_there (Some x) symbol h = refl

pub parents_everywhere : (world : World) → ((s : SymbolId) → IsSome (finite.get world s) → MentionsParents (finite.get world s)) → ParentsAreMentioned world
parents_everywhere world each s = by (finite.get world s) (each s)
  where
    by : (o : Option Decl) → (IsSome o → MentionsParents o) → MentionsParents o
    by None h = tt
    by (Some d) h = h refl

-- what a declaration says of its parents
pub mentions_by : (o : Option Decl) (d : Decl) (mentions parents : List SymbolId) (b : Bool) → Some d ≡ o → mentions ≡ d.mentions → parents ≡ d.parents → (b ≡ true) ↔ ((s : SymbolId) → Contains parents s → Contains mentions s)
    → (b ≡ true) ↔ MentionsParents o
mentions_by o d mentions parents b there same_mentions same_parents both =
    subst (λ (z : Option Decl). (b ≡ true) ↔ MentionsParents z) there
    (subst (λ (ms : List SymbolId). (b ≡ true) ↔ ((t : SymbolId) → Contains d.parents t → Contains ms t)) same_mentions
    (subst (λ (ps : List SymbolId). (b ≡ true) ↔ ((t : SymbolId) → Contains ps t → Contains mentions t)) same_parents both))
