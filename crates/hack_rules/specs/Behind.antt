-- What stands behind the walks of judgements, whatever they are of: what they add to the diagnostics, and what becomes of the variables
-- (docs/language.md, Typing expressions and Typing statements).
use Rattle.std.specs.Prelude.{◌≡◌, ◌<◌, ℕ, List, [], ◌∷◌, ◌++◌, IfSome, IsSome}
use Rattle.hack_types.specs.declared.diag.Diag.{Diag}
use Rattle.hack_decls.specs.DeclState.{Map}
use Rattle.hack_rules.specs.Ends.{Ends}
use Rattle.hack_rules.specs.Variables.{Variables, type_in}
use Rattle.hack_rules.specs.Walks.{Setting, State, Walk}

-- variables, and the diagnostics so far
abbrev pub state_of : Variables → List Diag → State
state_of here found = record { variables = here; found = found }

-- an answer and a state, with these diagnostics before its own
abbrev pub added : {A : Type 0} → List Diag → A × State → A × State
added found result = (result.0, state_of result.1.variables (found ++ result.1.found))

-- the diagnostics go behind those that stood, and with them neither the answer nor the variables change
abbrev pub Adds : {A : Type 0} → Walk A → Type 0
Adds {A} walk = (setting : Setting) (map : Map) (here : Variables) (found : List Diag)
    → ◌≡◌ {A = A × State} (walk setting map (state_of here found)) (added found (walk setting map (state_of here [])))

-- the id is below that of each of these variables
abbrev pub IsBelow : ℕ → Variables → Type 0
IsBelow name [] = Unit {0}
IsBelow name (entry ∷ variables) = (name < entry.0) × IsBelow name variables

-- the ids rise, so each variable stands once
abbrev pub Rises : Variables → Type 0
Rises [] = Unit {0}
Rises (entry ∷ variables) = IsBelow entry.0 variables × Rises variables

-- each variable of the first environment stands in the second
abbrev pub Stays : Variables → Variables → Type 0
Stays before behind = (name : ℕ) → IsSome (type_in before name) → IsSome (type_in behind name)

-- the variables behind a walk
abbrev pub Behind : {A : Type 0} → (Variables → Variables → Type 0) → Walk A → Type 0
Behind R walk = (setting : Setting) (map : Map) (state : State) → R state.variables (walk setting map state).1.variables

-- those of each end
abbrev pub AtEnds : (Variables → Variables → Type 0) → Walk Ends → Type 0
AtEnds R walk = (setting : Setting) (map : Map) (state : State)
    → IfSome (walk setting map state).0.normal (R state.variables) × IfSome (walk setting map state).0.breaks (R state.variables)
    × IfSome (walk setting map state).0.continues (R state.variables)

-- where these rise, those rise
abbrev pub StillRises : Variables → Variables → Type 0
StillRises before behind = Rises before → Rises behind
