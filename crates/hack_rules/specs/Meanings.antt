-- What an expression is to the rows that it stands in: how it is typed, and what rows ask of its form (docs/language.md, Typing expressions).
use Rattle.std.specs.Prelude.{ℕ, Bool, false, Option, Some, None, List, []}
use Rattle.hack_types.specs.declared.hack_type.HackType.{HackType}
use Rattle.hack_types.specs.declared.place.Place.{Place}
use Rattle.hack_rules.specs.Variables.{Variables}
use Rattle.hack_rules.specs.Walks.{Walk, ◌>>=◌, ◌>>◌, pure, variables}

-- an index that was typed: its place, the key where it is a key string, and its type
pub record Index : Type 0 where
  pub at : Place
  pub key : Option ℕ
  pub ty : HackType

-- a target whose parts were typed
pub data Aim : Type 0 where
  -- a variable
  variable : Place → ℕ → Aim
  -- a property of this type
  property : HackType → Aim
  -- an element of what another target had, whose type it was; without an index behind the last one
  element : Place → Aim → HackType → Option Index → Aim
  -- what can't be assigned to, and the type that it has
  other : Place → HackType → Aim

-- the variables where a condition holds, and where it doesn't
pub record Branches : Type 0 where
  pub when_true : Variables
  pub when_false : Variables

-- an expression to those around it
pub record Meaning : Type 0 where
  -- the place of its first token
  pub at : Place
  -- its type as a value
  pub walk : Walk HackType
  -- its type in the left of `??`
  pub left : Walk HackType
  -- as a condition
  pub branches : Walk Branches
  -- as the target of an assignment, and of `??=`
  pub aim : Walk Aim
  pub left_aim : Walk Aim
  -- the variable that it is, through brackets
  pub subject : Option ℕ
  -- whether it is `null`, through brackets
  pub is_null : Bool
  -- the key string that it is
  pub key : Option ℕ
  -- the variables that it assigns where it is a target, and those that are assigned in it
  pub roots : List ℕ
  pub assigned : List ℕ

-- a condition that says nothing of variables
unfoldable pub plain_branches : Walk HackType → Walk Branches
plain_branches walk = do
  walk
  behind ← variables
  pure (record { when_true = behind; when_false = behind })

-- an expression that can't be assigned to is typed as a value
unfoldable pub no_aim : Place → Walk HackType → Walk Aim
no_aim at walk = do
  ty ← walk
  pure (other at ty)

-- an expression of which no row asks more than its type
abbrev pub plain : Place → Walk HackType → List ℕ → Meaning
plain at walk assigned = record {
  at = at;
  walk = walk;
  left = walk;
  branches = plain_branches walk;
  aim = no_aim at walk;
  left_aim = no_aim at walk;
  subject = None;
  is_null = false;
  key = None;
  roots = [];
  assigned = assigned;
}

-- what is assigned in an expression, where there is one
abbrev pub assigned_in_any : Option Meaning → List ℕ
assigned_in_any None = []
assigned_in_any (Some meaning) = meaning.assigned
