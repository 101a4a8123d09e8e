-- Which trees are first units, and which first units they are; a name is told by its id (docs/language.md, First units).
use Rattle.std.specs.Prelude.{List, [], ◌∷◌, Option, None, Some}
use Rattle.hack_types.specs.declared.place.Place.{Place}
use Rattle.hack_tree.specs.declared.written_type.Primitive.{Primitive as TreePrimitive}
use Rattle.hack_tree.specs.declared.written_type.Primitive.TheVariants as primitive
use Rattle.hack_tree.specs.declared.written_type.WrittenType.{WrittenType, out-WrittenType}
use Rattle.hack_tree.specs.declared.written_type.WrittenType.TheOpen.{WrittenType-F}
use Rattle.hack_tree.specs.declared.written_type.ClassType.{ClassType}
use Rattle.hack_tree.specs.declared.written_type.FieldType.{FieldType}
use Rattle.hack_tree.specs.declared.expression.Literal.{Literal}
use Rattle.hack_tree.specs.declared.expression.Literal.TheVariants as literal
use Rattle.hack_tree.specs.declared.expression.Expr.{Expr, out-Expr}
use Rattle.hack_tree.specs.declared.expression.Expr.TheOpen.{Expr-F}
use Rattle.hack_tree.specs.declared.expression.ScopedMember.{ScopedMember}
use Rattle.hack_tree.specs.declared.expression.Suffix.{Suffix}
use Rattle.hack_tree.specs.declared.expression.Entry.{Entry}
use Rattle.hack_tree.specs.declared.expression.FieldValue.{FieldValue}
use Rattle.hack_tree.specs.declared.expression.Operand.{Operand}
use Rattle.hack_tree.specs.declared.statement.Stmt.{Stmt, out-Stmt}
use Rattle.hack_tree.specs.declared.statement.Stmt.TheOpen.{Stmt-F}
use Rattle.hack_tree.specs.declared.statement.Case.{Case}
use Rattle.hack_tree.specs.declared.statement.Catch.{Catch}
use Rattle.hack_tree.specs.declared.declaration.DeclaredName.{DeclaredName}
use Rattle.hack_tree.specs.declared.declaration.TypeParameter.{TypeParameter}
use Rattle.hack_tree.specs.declared.declaration.Parameter.{Parameter}
use Rattle.hack_tree.specs.declared.declaration.Unit.{Unit as UnitOf}
use Rattle.hack_tree.specs.declared.declaration.UnitTree.{UnitTree}
use Rattle.hack_tree.specs.declared.declaration.UnitTree.TheVariants as unit
use Rattle.hack_parse_file.specs.Files.{absolute}
use Rattle.hack_first.specs.declared.unit.Primitive.{Primitive}
use Rattle.hack_first.specs.declared.unit.Primitive.TheVariants.{Int, Str}
use Rattle.hack_first.specs.declared.unit.Returned.{Returned}
use Rattle.hack_first.specs.declared.unit.Returned.TheVariants as returns
use Rattle.hack_first.specs.declared.unit.FirstUnit.{FirstUnit}

abbrev pub primitive_of : TreePrimitive → Option Primitive
primitive_of primitive.Int = Some Int
primitive_of primitive.String = Some Str
primitive_of _ = None

-- types, expressions and statements as one level is opened
abbrev pub TypeLayer : Type 0
TypeLayer = WrittenType-F WrittenType ClassType FieldType

abbrev pub ExprLayer : Type 0
ExprLayer = Expr-F Expr ScopedMember Suffix Entry FieldValue Operand

abbrev pub StmtLayer : Type 0
StmtLayer = Stmt-F Stmt Case Catch

abbrev pub primitive_in : TypeLayer → Option Primitive
primitive_in (WrittenType-F.Primitive at p) = primitive_of p
primitive_in _ = None

abbrev pub primitive_of_type : WrittenType → Option Primitive
primitive_of_type written = primitive_in (out-WrittenType written)

-- the result type of a function without parameters of either sort
abbrev pub result_of : List TypeParameter → List Parameter → Option WrittenType → Option Primitive
result_of [] [] (Some result) = primitive_of_type result
result_of types parameters result = None

abbrev pub literal_of : Literal → Option Returned
literal_of literal.Int = Some (returns.Literal Int)
literal_of literal.Text = Some (returns.Literal Str)
literal_of (literal.KeyText name) = Some (returns.Literal Str)
literal_of _ = None

-- what is returned and where it stands, from its first token
abbrev pub at_place : Place → Option Returned → Option (Returned × Place)
at_place at None = None
at_place at (Some value) = Some (value, at)

-- a literal, or a call without arguments
abbrev pub value_in : ExprLayer → Option (Returned × Place)
value_in (Expr-F.Literal at l) = at_place at (literal_of l)
value_in (Expr-F.Call at name []) = Some (returns.Call name, at)
value_in _ = None

abbrev pub value_of : Expr → Option (Returned × Place)
value_of value = value_in (out-Expr value)

-- what a return of such an expression returns
abbrev pub returned_in : StmtLayer → Option (Returned × Place)
returned_in (Stmt-F.Return at (Some value)) = value_of value
returned_in _ = None

-- what a body returns that is one such return
abbrev pub returned : List Stmt → Option (Returned × Place)
returned (only ∷ []) = returned_in (out-Stmt only)
returned _ = None

-- the first unit of this name, in a declaration that starts here
abbrev pub unit_by : Place → DeclaredName → Option Primitive → Option (Returned × Place) → Option FirstUnit
unit_by start name (Some result) (Some value) = Some (record {
  name = name.name;
  name_at = absolute start name.at;
  result = result;
  returned = value.0;
  at = absolute start value.1;
})
unit_by start name result value = None

-- the first unit that a tree is, if it is one; its declaration starts at this place of the file
abbrev pub first_in : Place → UnitTree → Option FirstUnit
first_in start (unit.Function [] callable body) =
    unit_by start callable.name (result_of callable.type_parameters callable.parameters callable.result) (returned body)
first_in start _ = None

-- one more before the others, where all are there
abbrev pub and_more : {A : Type 0} → Option A → Option (List A) → Option (List A)
and_more (Some first) (Some others) = Some (first ∷ others)
and_more first others = None

-- the first units that the declarations of a file are, if all of them are
abbrev pub first_units : List UnitOf → Option (List FirstUnit)
first_units [] = Some []
first_units (u ∷ units) = and_more (first_in u.start u.tree) (first_units units)
