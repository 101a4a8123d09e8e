-- Steps of a walk, otherwise said.
use Rattle.std.proofs.Common.{◌≡◌, ◌∙◌, Result, Ok, Err}
use Rattle.hack_types.specs.declared.no_memory.NoMemory.{NoMemory}
use Rattle.hack_decls.specs.DeclState.{Map, Symbols}
use Rattle.hack_rules.specs.Walks.{Setting, State, Walk}
use Rattle.hack_walk.specs.Checks.{Steps}

-- the steps of a walk are those of each walk that is the same from there
pub steps_as : {A : Type 0} {setting : Setting} {Names : Symbols → Type 0} {Gives : Symbols → A → Type 0} {walk : Walk A} {before behind : State} (other : Walk A) (result : Result A NoMemory)
    → Steps walk setting before result behind Names Gives → ((map : Map) → other setting map before ≡ walk setting map before)
    → Steps other setting before result behind Names Gives
steps_as other (Ok a) steps same = record { is = λ map. same map ∙ steps.is map; named = steps.named }
steps_as other (Err e) steps same = record { is = tt; named = steps.named }
