-- Runs, event by event.
use Rattle.std.proofs.Common.{◌≡◌, ◌<◌, ◌≤◌, inl, inr, refl, sym, ap, ◌∙◌, subst, ℕ, ◌+◌, List, [], ◌∷◌, ◌++◌, take, length, get_or, arith, zero, suc, Bool, true, false}
use Rattle.std.specs.Bool.{then_some}
use Rattle.std.specs.Prelude.{MatchOption}
use Rattle.std.proofs.lemmas.List.{take_more, take_all}
use Rattle.phase_core.specs.declared.event.Event.{Event}
use Rattle.phase_core.specs.declared.state.CoreState.{CoreState}
use Rattle.phase_core.specs.Steps.{HasCase, HasEffect, Steps, Runs, IsStuck}
use Rattle.phase_core.specs.Acts.{Acts, ActsAll}

pub run_more : (first : List Event) (event : Event) (state middle end : CoreState) → Runs state first middle → HasCase middle event → HasEffect middle event end → Runs state (first ++ event ∷ []) end
run_more [] event state middle end h case effect = (end, subst (λ s. HasCase s event) (sym h) case, subst (λ s. HasEffect s event end) (sym h) effect, refl)
run_more (e ∷ first) event state middle end h case effect = (h.0, h.1, h.2, run_more first event h.0 middle end h.3 case effect)

pub run_on : (events : List Event) (i : ℕ) (event : Event) (state middle end : CoreState) → i < length events → event ≡ get_or events i event → Runs state (take i events) middle → HasCase middle event → HasEffect middle event end
    → Runs state (take (i + 1) events) end
run_on events i event state middle end l is h case effect =
    subst (λ es. Runs state es end) (sym (take_more events i event l ∙ ap (λ e. take i events ++ e ∷ []) (sym is))) (run_more (take i events) event state middle end h case effect)

pub run_whole : (events : List Event) (i : ℕ) (state end : CoreState) → length events ≤ i → Runs state (take i events) end → Runs state events end
run_whole events i state end l h = subst (λ es. Runs state es end) (take_all i events l) h

stuck_behind : (first rest : List Event) (event : Event) (state middle : CoreState) → Runs state first middle → ¬ HasCase middle event → IsStuck state (first ++ event ∷ rest)
stuck_behind [] rest event state middle h none = inl (λ case. none (subst (λ s. HasCase s event) h case))
stuck_behind (e ∷ first) rest event state middle h none = inr (h.0, h.1, h.2, stuck_behind first rest event h.0 middle h.3 none)

parted : (events : List Event) (i : ℕ) (event : Event) → i < length events → event ≡ get_or events i event → (rest : List Event) × (events ≡ take i events ++ event ∷ rest)
parted [] i event l is = absurd (omega arith)
parted (e ∷ events) zero event l is = (events, ap (λ z. z ∷ events) (sym is))
parted (e ∷ events) (suc i) event l is = let r = parted events i event (omega arith) is in (r.0, ap (λ es. e ∷ es) r.1)

pub run_stuck : (events : List Event) (i : ℕ) (event : Event) (state middle : CoreState) → i < length events → event ≡ get_or events i event → Runs state (take i events) middle → ¬ HasCase middle event → IsStuck state events
run_stuck events i event state middle l is h none =
    let cut = parted events i event l is in
    subst (IsStuck state) (sym cut.1) (stuck_behind (take i events) cut.0 event state middle h none)

-- an event that was done, and one that wasn't
pub acted : (state next : CoreState) (event : Event) (b : Bool) → b ≡ true → Acts (HasCase state event) (HasEffect state event) next b → HasCase state event × HasEffect state event next
acted state next event b is h = subst (Acts (HasCase state event) (HasEffect state event) next) is h

pub refused : (state next : CoreState) (event : Event) (b : Bool) → b ≡ false → Acts (HasCase state event) (HasEffect state event) next b → ¬ HasCase state event
refused state next event b is h = subst (Acts (HasCase state event) (HasEffect state event) next) is h

-- the answers
pub acts_answers : (state copy next : CoreState) (event : Event) (b : Bool) → copy ≡ state → Acts (HasCase copy event) (HasEffect copy event) next b → Steps state event (then_some b next)
acts_answers state copy next event b is h = by b (subst (λ (s : CoreState). Acts (HasCase s event) (HasEffect s event) next b) is h)
  where
    by : (b : Bool) → Acts (HasCase state event) (HasEffect state event) next b → Steps state event (then_some b next)
    by true h = h
    by false h = h

pub ran : (begin state next : CoreState) (events : List Event) (b : Bool) → begin ≡ state → ActsAll begin events next b → MatchOption (then_some b next) (IsStuck state events) (Runs state events)
ran begin state next events b is h = by b (subst (λ (s : CoreState). ActsAll s events next b) is h)
  where
    by : (b : Bool) → ActsAll state events next b → MatchOption (then_some b next) (IsStuck state events) (Runs state events)
    by true h = h
    by false h = h
