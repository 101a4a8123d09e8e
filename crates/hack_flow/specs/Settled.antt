-- How the check of a statement leaves its ends: the variables of the normal end stand in the state, so that no statement copies them
-- (docs/language.md, Typing statements).
use Rattle.std.specs.Prelude.{Bool, true, false, Option, Some, None, [], IfSome}
use Rattle.hack_decls.specs.DeclState.{Symbols}
use Rattle.hack_rules.specs.Ends.{Ends, Inside}
use Rattle.hack_rules.specs.Variables.{Variables}
use Rattle.hack_rules.specs.Walks.{Walk, ◌>>=◌, ◌>>◌, pure, replace}
use Rattle.hack_walk.specs.Checks.{VariablesIn}
use Rattle.hack_flow.specs.declared.exits.Exits.{Exits}
use Rattle.hack_flow.specs.declared.inside.Inside.{Inside as Given}

-- what the code's count of loops stands for
abbrev pub inside_of : Given → Inside
inside_of given = record { loops = given.loops; breakable = given.breakable }

-- whether a path goes on
abbrev pub is_reached : Option Variables → Bool
is_reached None = false
is_reached (Some here) = true

-- the variables of a normal end, and none where there is no such end
abbrev pub variables_of : Option Variables → Variables
variables_of None = []
variables_of (Some here) = here

-- the same the other way round
abbrev pub normal_of : Bool → Variables → Option Variables
normal_of false here = None
normal_of true here = Some here

-- ends apart from the variables of the normal one
abbrev pub exits_of : Ends → Exits
exits_of ends = record { reached = is_reached ends.normal; breaks = ends.breaks; continues = ends.continues }

-- the ends, with these variables for the normal one
abbrev pub ends_of : Exits → Variables → Ends
ends_of exits here = record { normal = normal_of exits.reached here; breaks = exits.breaks; continues = exits.continues }

-- a walk with the variables of its normal end as those behind it, and none where no path goes on
unfoldable pub settled : Walk Ends → Walk Exits
settled walk = do
  ends ← walk
  replace (variables_of ends.normal)
  pure (exits_of ends)

-- a walk behind which no variables are left
unfoldable pub emptied : {A : Type 0} → Walk A → Walk A
emptied walk = do
  a ← walk
  replace []
  pure a

-- all that the types of variables name with which a statement is left is among these symbols
pub record ExitsIn (symbols : Symbols) (exits : Exits) : Type 0 where
  pub breaks : IfSome exits.breaks (VariablesIn symbols)
  pub continues : IfSome exits.continues (VariablesIn symbols)
