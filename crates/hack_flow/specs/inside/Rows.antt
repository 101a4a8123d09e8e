-- Loops as the code has them, and the pieces of their turns.
use Rattle.std.specs.Prelude.{Option, Some, None, List, [], ◌∷◌, All, IfSome, option_map}
use Rattle.hack_decls.specs.DeclState.{Symbols}
use Rattle.hack_decls.specs.Names.{TypeIn}
use Rattle.hack_parts.specs.ExprIn.{ExprIn}
use Rattle.hack_rules.specs.Ends.{Doing, Ends, Inside}
use Rattle.hack_rules.specs.Expressions.{meaning_of}
use Rattle.hack_rules.specs.Loops.{Turn, deeper, do_test, do_turn, for_steps, for_turn, foreach_turn, reached, while_turn}
use Rattle.hack_rules.specs.Meanings.{Meaning}
use Rattle.hack_rules.specs.Statements.{meanings_of}
use Rattle.hack_rules.specs.Variables.{Variables, either, joined_with, widened}
use Rattle.hack_rules.specs.Walks.{Walk, ◌>>=◌, ◌>>◌, each, pure, quietly, replace, variables}
use Rattle.hack_sub.specs.declared.scope.Scope.{Scope}
use Rattle.hack_walk.specs.Checks.{VariablesIn}
use Rattle.hack_flow.specs.declared.turns.Loop.{Loop}
use Rattle.hack_flow.specs.declared.turns.Loop.TheVariants as loop

-- a turn of a loop around this body
abbrev pub turn_of : Loop → Doing → Inside → Walk Turn
turn_of (loop.While condition) body inside = while_turn (meaning_of condition.now) body inside
turn_of (loop.Do condition) body inside = do_turn body (meaning_of condition.now) inside
turn_of (loop.For condition steps) body inside = for_turn (option_map meaning_of condition.now) (meanings_of steps.now) body inside
turn_of (loop.Foreach key_type value_type key value) body inside = foreach_turn (key_type.now, value_type.now) key value body inside

-- all that a loop itself names is among these symbols
abbrev pub LoopIn : Scope → Symbols → Loop → Type 0
LoopIn scope symbols (loop.While condition) = ExprIn scope symbols condition.now
LoopIn scope symbols (loop.Do condition) = ExprIn scope symbols condition.now
LoopIn scope symbols (loop.For condition steps) = IfSome condition.now (ExprIn scope symbols) × All (ExprIn scope symbols) steps.now
LoopIn scope symbols (loop.Foreach key_type value_type key value) = TypeIn symbols key_type.now × TypeIn symbols value_type.now

-- all that a turn names is among these symbols
pub record TurnIn (symbols : Symbols) (turn : Turn) : Type 0 where
  pub ends : All (VariablesIn symbols) turn.ends
  pub behind : IfSome turn.behind (VariablesIn symbols)
  pub breaks : IfSome turn.breaks (VariablesIn symbols)

-- an entry joined with the ends of a turn from it, of which nothing else is kept
unfoldable pub passed : Variables → Walk Turn → Walk Variables
passed entry turn = do
  pass ← quietly entry turn
  pure (joined_with entry pass.ends)

-- the turn that a body's ends make, where these variables stand behind the test
abbrev pub round : Variables → Ends → Turn
round behind ends = record { ends = reached ends; behind = Some behind; breaks = ends.breaks }

-- the body, and then the turn is over
unfoldable pub body_turn : Doing → Inside → Variables → Walk Turn
body_turn body inside behind = do
  ends ← body.ends (deeper inside)
  pure (round behind ends)

-- the entry of the third pass, from that of the second
unfoldable pub third_entry : Variables → Walk Turn → Walk Variables
third_entry entry turn = do
  behind ← passed entry turn
  pure (widened entry behind)

-- one end alone, where there is one
abbrev pub only_end : Option Variables → Ends
only_end normal = record { normal = normal; breaks = None; continues = None }

-- what stands behind a loop
abbrev pub behind_loop : Turn → Ends
behind_loop last = only_end (either last.behind last.breaks)

-- the last pass
unfoldable pub last_pass : Walk Turn → Walk Ends
last_pass turn = do
  last ← turn
  pure (behind_loop last)

-- the test behind a body of a `do` that ended so
abbrev pub behind_body : Meaning → Ends → Walk Turn
behind_body condition ends = do_test condition ends (either ends.normal ends.continues)

-- the test of a `do`, where a path reaches it
abbrev pub test_from : Meaning → Option Variables → Option Variables → Walk Turn
test_from condition breaks None = pure (record { ends = []; behind = None; breaks = breaks })
test_from condition breaks (Some here) = do
  replace here
  branches ← condition.branches
  pure (record { ends = branches.when_true ∷ []; behind = Some branches.when_false; breaks = breaks })

-- the same behind the variables that were put in place
unfoldable pub test_here : Meaning → Option Variables → Walk Turn
test_here condition breaks = do
  branches ← condition.branches
  pure (record { ends = branches.when_true ∷ []; behind = Some branches.when_false; breaks = breaks })

-- the steps of a `for` behind a body that ended so
abbrev pub behind_for : List Meaning → Option Variables → Ends → Walk Turn
behind_for steps behind ends = for_steps steps behind ends.breaks (either ends.normal ends.continues)

-- the steps behind the variables that were put in place
unfoldable pub steps_here : List Meaning → Option Variables → Option Variables → Walk Turn
steps_here steps behind breaks = do
  each (λ step. step.walk) steps
  end ← variables
  pure (record { ends = end ∷ []; behind = behind; breaks = breaks })

-- the body of a `for` where its test holds, and then the steps
unfoldable pub for_body : List Meaning → Doing → Inside → Option Variables → Walk Turn
for_body steps body inside behind = do
  ends ← body.ends (deeper inside)
  behind_for steps behind ends

-- expressions in a row, of which no type is kept
abbrev pub all_done : List Meaning → Walk (Unit {0})
all_done es = each (λ e. e.walk) es >> pure tt
