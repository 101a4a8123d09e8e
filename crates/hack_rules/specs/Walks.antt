-- Walks: what a check makes of the variables and the diagnostics so far, over any map (docs/language.md, Typing expressions). A row of the page is
-- a walk, put together of those of its parts in the order in which they are typed.
use Rattle.std.specs.Prelude.{ℕ, Bool, if◌then◌else◌, Option, List, [], ◌∷◌, ◌++◌}
use Rattle.hack_types.specs.declared.diag.Diag.{Diag}
use Rattle.hack_types.specs.declared.hack_type.HackType.{HackType}
use Rattle.hack_types.specs.declared.hack_type.HackType.TheVariants.{Any}
use Rattle.hack_types.specs.declared.place.Place.{Place}
use Rattle.hack_decls.specs.DeclState.{Map}
use Rattle.hack_sub.specs.IsBelow.{is_below}
use Rattle.hack_sub.specs.Sub.{most_height}
use Rattle.hack_sub.specs.declared.scope.Scope.{Scope}
use Rattle.hack_diag.specs.Messages.{Message, diag_of, expected}
use Rattle.hack_rules.specs.Variables.{Variables, type_in, with_variable}

-- what stays the same in a body: the texts of names, and the scope
pub record Setting : Type 0 where
  pub names : List (List ℕ)
  pub scope : Scope

-- the variables at a point of a body, and the diagnostics up to there
pub record State : Type 0 where
  pub variables : Variables
  pub found : List Diag

-- over what stays the same and over a map, from a state an answer and the state behind it
abbrev pub Walk : Type 0 → Type 0
Walk A = Setting → Map → State → A × State

-- what goes on from an answer and the state behind it
abbrev pub after : {A B : Type 0} → A × State → (A → Walk B) → Setting → Map → B × State
after answer f setting map = f answer.0 setting map answer.1

-- one walk, and then another that goes on with its answer
infixl 10 ◌>>=◌
unfoldable pub ◌>>=◌ : {A B : Type 0} → Walk A → (A → Walk B) → Walk B
p >>= f = λ setting map state. after (p setting map state) f setting map

-- one walk, and then another
infixl 10 ◌>>◌
unfoldable pub ◌>>◌ : {A B : Type 0} → Walk A → Walk B → Walk B
p >> q = p >>= (λ _. q)

-- an answer, and nothing else
unfoldable pub pure : {A : Type 0} → A → Walk A
pure a = λ setting map state. (a, state)

-- what the map and the scope say
unfoldable pub reads : {A : Type 0} → (Map → Scope → A) → Walk A
reads f = λ setting map state. (f map setting.scope, state)

-- the variables here
unfoldable pub variables : Walk Variables
variables = λ setting map state. (state.variables, state)

-- these are the variables from here on
unfoldable pub replace : Variables → Walk (Unit {0})
replace new = λ setting map state. (tt, record state { variables = new })

-- a variable gets a type
unfoldable pub assign : ℕ → HackType → Walk (Unit {0})
assign name ty = λ setting map state. (tt, record state { variables = with_variable state.variables name ty })

-- the type that a variable has here
unfoldable pub variable_here : ℕ → Walk (Option HackType)
variable_here name = λ setting map state. (type_in state.variables name, state)

-- a diagnostic goes behind those that stood
unfoldable pub report : Place → Message → Walk (Unit {0})
report at message = λ setting map state. (tt, record state { found = state.found ++ diag_of setting.names at message ∷ [] })

-- a diagnostic, and the type of what can't be known
unfoldable pub refuse : Place → Message → Walk HackType
refuse at message = do
  report at message
  pure Any

-- a diagnostic unless this holds
unfoldable pub unless : Bool → Place → Message → Walk (Unit {0})
unless holds at message = if holds then pure tt else report at message

-- whether the first type is below the second
unfoldable pub is_sub : HackType → HackType → Walk Bool
is_sub lower upper = reads (λ map scope. is_below map scope most_height lower upper)

-- a type is expected where another was found
unfoldable pub expect : Place → HackType → HackType → Walk (Unit {0})
expect at wanted found = do
  fits ← is_sub found wanted
  unless fits at (expected wanted found)

-- one walk for each of a list, in order
unfoldable pub each : {A B : Type 0} → (A → Walk B) → List A → Walk (List B)
each f [] = pure []
each f (a ∷ as_) = do
  b ← f a
  bs ← each f as_
  pure (b ∷ bs)

-- one walk for each of a list, without answers
unfoldable pub for_each : {A : Type 0} → (A → Walk (Unit {0})) → List A → Walk (Unit {0})
for_each f [] = pure tt
for_each f (a ∷ as_) = do
  f a
  for_each f as_

-- of two lists the pairs, as far as both go
unfoldable pub for_pairs : {A B : Type 0} → (A → B → Walk (Unit {0})) → List A → List B → Walk (Unit {0})
for_pairs f (a ∷ as_) (b ∷ bs) = do
  f a b
  for_pairs f as_ bs
for_pairs f _ _ = pure tt

-- the answer of a walk from other variables; nothing else of it is kept
unfoldable pub quietly : {A : Type 0} → Variables → Walk A → Walk A
quietly from walk = λ setting map state. ((walk setting map (record { variables = from; found = [] })).0, state)
