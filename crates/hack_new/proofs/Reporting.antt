-- Diagnostics behind those that stand, where memory may run out.
use Rattle.std.proofs.Common.{◌≡◌, ◌∙◌, ◌++◌, ◌∷◌, Bool, false, Result, Ok, Err, OnOk, [], ap}
use Rattle.hack_types.specs.declared.diag.Diag.{Diag}
use Rattle.hack_types.specs.declared.no_memory.NoMemory.{NoMemory}
use Rattle.hack_types.specs.declared.place.Place.{Place}
use Rattle.hack_decls.specs.Asks.{Nothing}
use Rattle.hack_decls.specs.DeclState.{Symbols}
use Rattle.hack_diag.specs.Messages.{Message, diag_of}
use Rattle.hack_rules.specs.Walks.{Setting, State, report, unless}
use Rattle.hack_walk.specs.Checks.{Steps}
use Rattle.hack_walk.specs.WalkLaws.{step_report}
use Rattle.hack_new.proofs.Stepping.{steps_as}

module _ {setting : Setting} {Names : Symbols → Type 0} where
  pub reporting : (result : Result (Unit {0}) NoMemory) (before behind : State) (at : Place) (message : Message) (diag : Diag) → diag ≡ diag_of setting.names at message
      → behind.variables ≡ before.variables → OnOk result (behind.found ≡ before.found ++ diag ∷ []) → Steps (report at message) setting before result behind Names Nothing
  reporting (Ok done) before behind at message diag is same added =
      step_report before behind at message same (added ∙ ap (λ (d : Diag). before.found ++ d ∷ []) is)
  reporting (Err e) before behind at message diag is same added = record { is = tt; named = λ symbols body n. tt }

  -- what doesn't hold is reported
  pub unless_not : (result : Result (Unit {0}) NoMemory) (before behind : State) (holds : Bool) (at : Place) (message : Message) → holds ≡ false
      → Steps (report at message) setting before result behind Names Nothing → Steps (unless holds at message) setting before result behind Names Nothing
  unfolding unless
  unless_not result before behind holds at message is steps = steps_as (unless holds at message) result steps (λ map. ap (λ (b : Bool). unless b at message setting map before) is)
