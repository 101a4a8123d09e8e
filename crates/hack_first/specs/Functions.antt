-- First units as plain data, without the ids of their names. A first unit is a function whose result is int or string
-- and whose body is one return of a literal or a call; it has no attributes and no parameters of either sort
-- (docs/language.md, First units).
use Rattle.std.specs.Prelude.{ℕ, List, [], codes, slice_index_or}
use Rattle.hack_types.specs.declared.place.Place.{Place}
use Rattle.hack_first.specs.declared.unit.Primitive.{Primitive}
use Rattle.hack_first.specs.declared.unit.Primitive.TheVariants.{Int, Str}
use Rattle.hack_first.specs.declared.unit.Returned.{Returned}
use Rattle.hack_first.specs.declared.unit.Returned.TheVariants.{Literal, Call}
use Rattle.hack_first.specs.declared.unit.FirstUnit.{FirstUnit}

-- what a function returns
pub data Value : Type 0 where
  -- a literal of this type
  OfType : Primitive → Value
  -- what the function of this name returns
  OfCall : List ℕ → Value

-- a function: its name and where that stands in its file, its result type, what it returns and where that stands
pub record Function : Type 0 where
  pub name : List ℕ
  pub name_at : Place
  pub result : Primitive
  pub value : Value
  pub at : Place

-- the text of a name among these
abbrev pub named : List (List ℕ) → ℕ → List ℕ
named names id = slice_index_or names id []

-- what is returned, where the names are these
abbrev pub value_of : List (List ℕ) → Returned → Value
value_of names (Literal primitive) = OfType primitive
value_of names (Call id) = OfCall (named names id)

-- the function that a first unit is, where the names are these
abbrev pub function_of : List (List ℕ) → FirstUnit → Function
function_of names u = record {
  name = named names u.name;
  name_at = u.name_at;
  result = u.result;
  value = value_of names u.returned;
  at = u.at;
}

-- the keyword of a type, which is its text
abbrev pub type_text : Primitive → List ℕ
type_text Int = codes "int"
type_text Str = codes "string"
