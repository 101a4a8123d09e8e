-- How a statement ends: the variables behind it, and those with which it is left by `break` and `continue` (docs/language.md, Typing statements).
use Rattle.std.specs.Prelude.{ℕ, Bool, false, Option, Some, None, List, [], ◌∷◌}
use Rattle.hack_rules.specs.Variables.{Variables, either}
use Rattle.hack_rules.specs.Walks.{Walk, ◌>>=◌, ◌>>◌, pure, replace, variables}

-- nothing where no path ends so
pub record Ends : Type 0 where
  pub normal : Option Variables
  pub breaks : Option Variables
  pub continues : Option Variables

-- how many loops are around a statement, and whether `break` may stand there
pub record Inside : Type 0 where
  pub loops : ℕ
  pub breakable : Bool

-- outside all loops
abbrev pub outside : Inside
outside = record { loops = 0; breakable = false }

-- a statement to those around it: its ends, and the variables that are assigned in it
pub record Doing : Type 0 where
  pub ends : Inside → Walk Ends
  pub assigned : List ℕ

-- no path ends
abbrev pub no_ends : Ends
no_ends = record { normal = None; breaks = None; continues = None }

-- the one end is here
abbrev pub normal_end : Variables → Ends
normal_end here = record { normal = Some here; breaks = None; continues = None }

-- the statement ends here
unfoldable pub ends_here : Walk Ends
ends_here = do
  here ← variables
  pure (normal_end here)

-- the ends of one of two
abbrev pub either_end : Ends → Ends → Ends
either_end left right = record {
  normal = either left.normal right.normal;
  breaks = either left.breaks right.breaks;
  continues = either left.continues right.continues;
}

-- breaks and continues so far, once these ends are among them
abbrev pub with_leaves : Ends → Ends → Option Variables → Ends
with_leaves so_far ends normal =
    record { normal = normal; breaks = either so_far.breaks ends.breaks; continues = either so_far.continues ends.continues }

-- ---- statements in a row

-- the rest of a block, where a path reaches it
abbrev pub block_on : (Ends → Walk Ends) → Ends → Option Variables → Walk Ends
block_on rest ends None = pure ends
block_on rest ends (Some here) = do
  replace here
  rest ends

-- what no path reaches is not looked at
unfoldable pub block_from : List Doing → Inside → Ends → Walk Ends
block_from [] inside so_far = do
  here ← variables
  pure (record so_far { normal = Some here })
block_from (statement ∷ statements) inside so_far = do
  ends ← statement.ends inside
  block_on (block_from statements inside) (with_leaves so_far ends ends.normal) ends.normal

-- the statements of a block
unfoldable pub block : List Doing → Inside → Walk Ends
block statements inside = block_from statements inside no_ends
