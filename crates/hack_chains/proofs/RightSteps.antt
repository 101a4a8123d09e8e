-- Clauses of what is put together from the right.
use Rattle.std.proofs.Common.{◌≡◌, ◌<◌, ◌+◌, ◌∙◌, Ok, Result, All, ℕ, List, ◌∷◌, length, drop, get_or, sym, ap, subst, arith}
use Rattle.std.proofs.lemmas.List.{drop_all, drop_more}
use Rattle.hack_types.specs.declared.hack_type.HackType.{HackType}
use Rattle.hack_decls.specs.DeclState.{DeclState}
use Rattle.hack_decls.specs.Names.{TypeIn}
use Rattle.hack_decls.specs.declared.stop.DeclStop.{DeclStop}
use Rattle.hack_rules.specs.Walks.{Setting, State}
use Rattle.hack_walk.specs.Checks.{Walks}
use Rattle.hack_walk.specs.WalkLaws.{walks_as, walks_pure, walks_then}
use Rattle.hack_chains.specs.declared.typed.Grouping.{Grouping}
use Rattle.hack_chains.specs.declared.typed.Typed.{Typed}
use Rattle.hack_chains.specs.inside.Rights.{TypedIn, combined, grouped}

module _ {Base Held : Type 0} {setting : Setting} (by : Grouping) (items : List Typed) where
  -- nothing yet
  pub grouped_none : (last : HackType) {state : DeclState Base Held} {here : State}
      → Walks (grouped by (drop (length items) items) last) setting state here (Ok last) state here (λ symbols. All (TypedIn symbols) items × TypeIn symbols last) TypeIn
  unfolding grouped
  grouped_none last {state = state} {here = here} =
      walks_as (grouped by (drop (length items) items) last) (Ok last) (walks_pure state here last (λ symbols n. n.1))
      (λ m. ap (λ (xs : List Typed). grouped by xs last setting m here) (drop_all (length items) items (omega arith)))

  -- one more
  pub grouped_next : (i k : ℕ) (x : Typed) (last : HackType) {old mid new : DeclState Base Held} {before between behind : State} {ty made : HackType}
      → i + 1 ≡ k → i < length items → x ≡ get_or items i x
      → Walks (grouped by (drop k items) last) setting old before (Ok ty) mid between (λ symbols. All (TypedIn symbols) items × TypeIn symbols last) TypeIn
      → Walks (combined by x.at x.ty ty) setting mid between (Ok made) new behind (λ symbols. TypeIn symbols x.ty × TypeIn symbols ty) TypeIn
      → Walks (grouped by (drop i items) last) setting old before (Ok made) new behind (λ symbols. All (TypedIn symbols) items × TypeIn symbols last) TypeIn
  unfolding grouped
  grouped_next i k x last {before = before} {made = made} on lt is so_far step =
      walks_as (grouped by (drop i items) last) (Ok made)
      (walks_then (combined by x.at x.ty) (Ok made) so_far step (λ symbols n. n)
      (λ symbols n t. (subst (TypedIn symbols) (sym is) (n.0 i x lt), t)) (λ symbols b n t h. h))
      (λ m. ap (λ (xs : List Typed). grouped by xs last setting m before)
      (drop_more items i x lt ∙ ap (λ (y : Typed). y ∷ drop (i + 1) items) (sym is) ∙ ap (λ (n : ℕ). x ∷ drop n items) on))

-- of another list that is the same
module _ {Base Held : Type 0} {setting : Setting} (by : Grouping) (last : HackType) {items others : List Typed} {result : Result HackType DeclStop} {old new : DeclState Base Held}
    {before behind : State} where
  pub regrouped : items ≡ others → Walks (grouped by items last) setting old before result new behind (λ symbols. All (TypedIn symbols) items × TypeIn symbols last) TypeIn
      → Walks (grouped by others last) setting old before result new behind (λ symbols. All (TypedIn symbols) others × TypeIn symbols last) TypeIn
  regrouped same check =
      subst (λ (xs : List Typed). Walks (grouped by xs last) setting old before result new behind (λ symbols. All (TypedIn symbols) xs × TypeIn symbols last) TypeIn) same check
