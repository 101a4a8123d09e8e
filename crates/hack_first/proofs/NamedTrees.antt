-- First units of trees as functions, with the texts of their names.
use Rattle.std.proofs.Common.{◌≡◌, ℕ, List, [], ◌∷◌, map, Option, None, Some, option_map, refl, ap, ◌∙◌}
use Rattle.hack_types.specs.declared.place.Place.{Place}
use Rattle.hack_tree.specs.declared.expression.Expr.{Expr, out-Expr}
use Rattle.hack_tree.specs.declared.statement.Stmt.{Stmt}
use Rattle.hack_tree.specs.declared.declaration.DeclaredName.{DeclaredName}
use Rattle.hack_tree.specs.declared.declaration.Unit.{Unit as UnitOf}
use Rattle.hack_tree.specs.declared.declaration.UnitTree.{UnitTree}
use Rattle.hack_parse_expr.specs.Symbols.{Declared}
use Rattle.hack_parse_file.specs.Files.{absolute}
use Rattle.hack_first.specs.declared.unit.Primitive.{Primitive}
use Rattle.hack_first.specs.declared.unit.Returned.{Returned}
use Rattle.hack_first.specs.declared.unit.FirstUnit.{FirstUnit}
use Rattle.hack_first.specs.Functions.{Function, Value, named, value_of as value_told, function_of}
use Rattle.hack_first.specs.FirstTrees as trees
use Rattle.hack_first.specs.FirstTrees.{ExprLayer, StmtLayer, unit_by, first_in, first_units, and_more}

-- what is returned, by its text, and where it stands
abbrev pub told : List (List ℕ) → Option (Returned × Place) → Option (Value × Place)
told names None = None
told names (Some found) = Some (value_told names found.0, found.1)

abbrev pub value_in : List (List ℕ) → ExprLayer → Option (Value × Place)
value_in names layer = told names (trees.value_in layer)

abbrev pub value_of : List (List ℕ) → Expr → Option (Value × Place)
value_of names value = value_in names (out-Expr value)

abbrev pub returned_in : List (List ℕ) → StmtLayer → Option (Value × Place)
returned_in names layer = told names (trees.returned_in layer)

abbrev pub returned : List (List ℕ) → List Stmt → Option (Value × Place)
returned names body = told names (trees.returned body)

-- the function that a tree is, if it is a first unit
abbrev pub first_of : List (List ℕ) → Place → UnitTree → Option Function
first_of names start tree = option_map (function_of names) (first_in start tree)

-- the function of these parts
abbrev pub function_at : List (List ℕ) → Place → DeclaredName → Primitive → Value × Place → Function
function_at names start name p v = record { name = named names name.name; name_at = absolute start name.at; result = p; value = v.0; at = absolute start v.1 }

-- a function whose value is known is that of its parts
pub function_told : (names : List (List ℕ)) (start : Place) (name : DeclaredName) (p : Primitive) (found : Option (Returned × Place)) (v : Value × Place) → told names found ≡ Some v →
    option_map (function_of names) (unit_by start name (Some p) found) ≡ Some (function_at names start name p v)
function_told names start name p None v e = absurd cc
function_told names start name p (Some found) v e =
    let same : (value_told names found.0, found.1) ≡ v = cc in
    ap (λ (w : Value × Place). Some (function_at names start name p w)) same

-- all the functions, if all the declarations are first units
abbrev pub first_functions : List (List ℕ) → List Declared → Option (List Function)
first_functions names [] = Some []
first_functions names (d ∷ declared) = and_more (first_of names d.first.at d.tree) (first_functions names declared)

-- the same of declarations where they stand in a file
abbrev pub unit_functions : List (List ℕ) → List UnitOf → Option (List Function)
unit_functions names [] = Some []
unit_functions names (u ∷ units) = and_more (first_of names u.start u.tree) (unit_functions names units)

-- the functions of one more first unit
more_of : (names : List (List ℕ)) (first : Option FirstUnit) (others : Option (List FirstUnit)) →
    and_more (option_map (function_of names) first) (option_map (map (function_of names)) others) ≡ option_map (map (function_of names)) (and_more first others)
more_of names (Some f) (Some fs) = refl
more_of names (Some f) None = refl
more_of names None others = refl

-- the functions of units are those that the first units are
pub functions_are : (names : List (List ℕ)) (units : List UnitOf) → unit_functions names units ≡ option_map (map (function_of names)) (first_units units)
functions_are names [] = refl
functions_are names (u ∷ units) = ap (and_more (first_of names u.start u.tree)) (functions_are names units) ∙ more_of names (first_in u.start u.tree) (first_units units)
