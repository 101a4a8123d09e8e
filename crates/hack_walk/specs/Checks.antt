-- What a check of a body does: over every map that agrees on what was noted, its answer and the state behind it are those of a walk
-- (docs/language.md, Typing expressions). All checks of bodies have the one clause `Walks`.
use Rattle.std.specs.Prelude.{◌≡◌, All, Result, IfOk}
use Rattle.hack_types.specs.declared.no_memory.NoMemory.{NoMemory}
use Rattle.hack_decls.specs.Asks.{Asks}
use Rattle.hack_decls.specs.DeclState.{DeclState, Map, Symbols}
use Rattle.hack_decls.specs.Names.{TypeIn}
use Rattle.hack_decls.specs.declared.stop.DeclStop.{DeclStop}
use Rattle.hack_rules.specs.Meanings.{Branches}
use Rattle.hack_rules.specs.Variables.{Variables}
use Rattle.hack_rules.specs.Walks.{Setting, State, Walk}
use Rattle.hack_sub.specs.Named.{Around}
use Rattle.hack_sub.specs.declared.scope.Scope.{Scope}
use Rattle.hack_walk.specs.declared.setting.Setting.{Setting as Given}

-- what the code's setting stands for
abbrev pub setting_of : Given → Setting
setting_of given = record { names = given.names.now; scope = given.scope.now }

-- all that the types of variables name is among these symbols
abbrev pub VariablesIn : Symbols → Variables → Type 0
VariablesIn symbols variables = All (λ entry. TypeIn symbols entry.1) variables

-- all that the variables of both branches name is among these symbols
pub record BranchesIn (symbols : Symbols) (branches : Branches) : Type 0 where
  pub when_true : VariablesIn symbols branches.when_true
  pub when_false : VariablesIn symbols branches.when_false

-- all that a body's scope and its variables name, and `KeyedContainer`, is among these symbols
pub record BodyIn (symbols : Symbols) (scope : Scope) (variables : Variables) : Type 0 where
  pub around : Around symbols scope
  pub types : VariablesIn symbols variables

-- a check that looks declarations up: over every map that agrees on what was noted, the answer and the state behind are those of the walk;
-- what is noted is named by the scope, by the variables or by what the call was given (`Names`), and `Gives` says what the answer names
pub record Walks {Base Held A : Type 0} (walk : Walk A) (setting : Setting) (old : DeclState Base Held) (before : State)
    (result : Result A DeclStop) (new : DeclState Base Held) (behind : State) (Names : Symbols → Type 0) (Gives : Symbols → A → Type 0) : Type 0 where
  pub asks : Asks old result new (λ map answer. walk setting map before ≡ (answer, behind))
      (λ symbols. BodyIn symbols setting.scope before.variables × Names symbols)
      (λ symbols answer. VariablesIn symbols behind.variables × Gives symbols answer)

-- a check that looks nothing up: over every map the answer and the state behind are those of the walk
pub record Steps {A : Type 0} (walk : Walk A) (setting : Setting) (before : State) (result : Result A NoMemory) (behind : State)
    (Names : Symbols → Type 0) (Gives : Symbols → A → Type 0) : Type 0 where
  pub is : IfOk result (λ answer. (map : Map) → walk setting map before ≡ (answer, behind))
  pub named : (symbols : Symbols) → BodyIn symbols setting.scope before.variables → Names symbols
      → IfOk result (λ answer. VariablesIn symbols behind.variables × Gives symbols answer)

-- a question that leaves the state alone: over every map that agrees on what was noted, the answer is that of the map and the scope
abbrev pub Reads : {Base Held A : Type 0} → (Map → Scope → A) → Scope → DeclState Base Held → Result A DeclStop → DeclState Base Held
    → (Symbols → Type 0) → (Symbols → A → Type 0) → Type 0
Reads f scope old result new Names Gives = Asks old result new (λ map answer. answer ≡ f map scope) Names Gives
