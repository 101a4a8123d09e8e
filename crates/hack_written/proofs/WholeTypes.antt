-- Whole types, from their first token.
use Rattle.std.proofs.Common.{◌≡◌, ◌∙◌, Bool, true, false, Ok, nat_le, refl, sym, ap, if◌then◌else◌}
use Rattle.hack_types.specs.Substituted.{limited, most_nodes}
use Rattle.hack_types.specs.TypeNodes.{nodes}
use Rattle.hack_types.specs.declared.hack_type.HackType.{HackType}
use Rattle.hack_types.specs.declared.place.Place.{Place}
use Rattle.hack_decls.specs.Asks.{Asks}
use Rattle.hack_decls.specs.DeclState.{DeclState, Map, Symbols}
use Rattle.hack_diag.specs.Messages.{too_big}
use Rattle.hack_rules.specs.Walks.{Setting, State, Walk, ◌>>=◌, ◌>>◌, pure, report, unless}
use Rattle.hack_rules.specs.WrittenTypes.{whole}
use Rattle.hack_written.specs.Reported.{reported}
use Rattle.hack_written.specs.inside.Rows.{told}
use Rattle.hack_written.proofs.Told.{told_is}

-- the state behind a whole type
abbrev pub behind : Bool → Setting → Place → State → State
behind small setting at state = if small then state else reported setting at too_big state

reported_by : (small : Bool) (ty : HackType) (setting : Setting) (m : Map) (at : Place) (s : State)
    → ◌≡◌ {A = HackType × State} (limited ty, (unless small at too_big setting m s).1) (limited ty, behind small setting at s)
unfolding unless report pure
reported_by true ty setting m at s = refl
reported_by false ty setting m at s = refl

pub whole_is : (at : Place) (ty : HackType) (checks : Bool → Walk (Unit {0})) (small : Bool) (found answer : HackType) (setting : Setting) (m : Map) (s mid last : State)
    → small ≡ nat_le (nodes ty) most_nodes → told (checks small) ty setting m s ≡ (found, mid) → answer ≡ limited found → last ≡ behind small setting at mid
    → whole at ty checks setting m s ≡ (answer, last)
unfolding whole ◌>>=◌ ◌>>◌ pure
whole_is at ty checks small found answer setting m s mid last is told_is made ends =
    ap (λ (b : Bool). (limited ty, (unless b at too_big setting m (checks b setting m s).1).1)) (sym is)
    ∙ ap (λ (r : HackType × State). (limited r.0, (unless small at too_big setting m r.1).1)) told_is
    ∙ reported_by small found setting m at mid
    ∙ (λ i. (sym made i, sym ends i))

same_by : (small : Bool) (setting : Setting) (at : Place) (s : State) → (behind small setting at s).variables ≡ s.variables
same_by true setting at s = refl
same_by false setting at s = refl

pub same_variables : (small : Bool) (setting : Setting) (at : Place) (s last : State) → last ≡ behind small setting at s → last.variables ≡ s.variables
same_variables small setting at s last is = ap (λ (t : State). t.variables) is ∙ same_by small setting at s

-- the answer over the call's own map
pub found_is : {Base Held : Type 0} {old new : DeclState Base Held} {Names : Symbols → Type 0} {Gives : Symbols → HackType → Type 0}
    (checks : Walk (Unit {0})) (ty found : HackType) (setting : Setting) (s mid : State)
    → Asks old (Ok found) new (λ m answer. told checks ty setting m s ≡ (answer, mid)) Names Gives → found ≡ ty
found_is {old = old} checks ty found setting s mid asks = told_is checks ty setting old.map s mid (asks.means old.map (λ x h. refl))
