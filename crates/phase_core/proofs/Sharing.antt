-- The answers to the events that begin, end and share out the work of a phase.
use Rattle.std.proofs.Common.{◌≡◌, ◌↔◌, ◌<◌, refl, sym, ap, ◌∙◌, subst, ℕ, true, false, List, [], ◌∷◌, Option, Some, None, arith}
use Rattle.std.specs.Prelude.{Contains}
use Rattle.std.specs.FinMap as finite
use Rattle.std.specs.FinSet as set
use Rattle.hack_types.specs.declared.ids.SymbolId.{SymbolId}
use Rattle.phase_core.specs.declared.state.Decl.{Decl}
use Rattle.phase_core.specs.declared.state.CoreRecord.{CoreRecord}
use Rattle.phase_core.specs.declared.state.CoreRecord.TheVariants.{Claimed, Held}
use Rattle.phase_core.specs.declared.state.CoreState.{CoreState}
use Rattle.phase_core.specs.Images.{Known}
use Rattle.phase_core.specs.InsideEdits.{Symbols}
use Rattle.phase_core.specs.States.{NoneIsClaimed, is_claimed}
use Rattle.phase_core.specs.Phases.{verdict_in}

-- ---- claims

claimed_by : (o : Option CoreRecord) → is_claimed o ≡ true → (worker : ℕ) × (o ≡ Some (Claimed worker))
claimed_by None h = absurd (let e : false ≡ true = h in cc)
claimed_by (Some (Claimed worker)) h = (worker, refl)
claimed_by (Some (Held image)) h = absurd (let e : false ≡ true = h in cc)

pub none_claimed : (state : CoreState) (claims : Symbols) (list : List SymbolId) → ((s : SymbolId) → (set.contains claims s ≡ true) ↔ (is_claimed (finite.get state.records s) ≡ true))
    → ((s : SymbolId) → Contains list s ↔ (set.contains claims s ≡ true)) → (list ≡ []) ↔ NoneIsClaimed state
none_claimed state claims list are listed = (
  λ nothing worker symbol claim.
      let there : Contains list symbol = (listed symbol).1 ((are symbol).1 (ap is_claimed claim)) in
      nobody (subst (λ xs. Contains xs symbol) nothing there),
  λ none. by list refl none,
)
  where
    nobody : {s : SymbolId} → Contains [] s → ⊥
    nobody h = let l : h.0 < 0 = h.1 in omega arith

    by : (xs : List SymbolId) → list ≡ xs → NoneIsClaimed state → xs ≡ []
    by [] e none = refl
    by (x ∷ xs) e none =
        let here : Contains list x = subst (λ ys. Contains ys x) (sym e) (0, omega arith, refl) in
        let claim = claimed_by (finite.get state.records x) ((are x).0 ((listed x).0 here)) in
        absurd (none claim.0 x claim.1)

-- ---- verdicts

pub verdict_by : (o : Option Decl) (d : Decl) (names : List SymbolId) (known copy : Known) → Some d ≡ o → names ≡ d.names → copy ≡ known
    → Some (record { text = d.text; names = names; known = copy }) ≡ verdict_in o known
verdict_by o d names known copy there same_names same_known =
    (λ i. Some (record { text = d.text; names = same_names i; known = same_known i })) ∙ ap (λ (z : Option Decl). verdict_in z known) there
