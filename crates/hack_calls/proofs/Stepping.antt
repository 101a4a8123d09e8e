-- Steps and checks of a walk, otherwise said.
use Rattle.std.proofs.Common.{◌≡◌, ◌∙◌, Result, Ok, Err, subst, sym}
use Rattle.hack_types.specs.declared.no_memory.NoMemory.{NoMemory}
use Rattle.hack_decls.specs.DeclState.{DeclState, Map, Symbols}
use Rattle.hack_decls.specs.declared.stop.DeclStop.{DeclStop}
use Rattle.hack_rules.specs.Walks.{Setting, State, Walk}
use Rattle.hack_walk.specs.Checks.{Steps, Walks}

-- the steps of a walk are those of each walk that is the same from there
pub steps_as : {A : Type 0} {setting : Setting} {Names : Symbols → Type 0} {Gives : Symbols → A → Type 0} {walk : Walk A} {before behind : State} (other : Walk A) (result : Result A NoMemory)
    → Steps walk setting before result behind Names Gives → ((map : Map) → other setting map before ≡ walk setting map before)
    → Steps other setting before result behind Names Gives
steps_as other (Ok a) steps same = record { is = λ map. same map ∙ steps.is map; named = steps.named }
steps_as other (Err e) steps same = record { is = tt; named = steps.named }

-- steps that are given more
pub steps_more : {A : Type 0} {setting : Setting} {Names NamesB : Symbols → Type 0} {Gives : Symbols → A → Type 0} {walk : Walk A} {before behind : State} (result : Result A NoMemory)
    → Steps walk setting before result behind Names Gives → ((symbols : Symbols) → NamesB symbols → Names symbols) → Steps walk setting before result behind NamesB Gives
steps_more (Ok a) steps more = record { is = steps.is; named = λ symbols body n. steps.named symbols body (more symbols n) }
steps_more (Err e) steps more = record { is = tt; named = λ symbols body n. tt }

-- a check of a walk is one of the same walk, otherwise written
pub walks_same : {Base Held A : Type 0} {setting : Setting} {Names : Symbols → Type 0} {Gives : Symbols → A → Type 0} {walk : Walk A} {old new : DeclState Base Held} {before behind : State}
    (other : Walk A) (result : Result A DeclStop) → other ≡ walk → Walks walk setting old before result new behind Names Gives → Walks other setting old before result new behind Names Gives
walks_same {setting = setting} {Names = Names} {Gives = Gives} {old = old} {new = new} {before = before} {behind = behind} other result is walks =
    subst (λ w. Walks w setting old before result new behind Names Gives) (sym is) walks
