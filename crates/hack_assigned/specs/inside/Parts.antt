-- What is assigned in the parts of expressions and statements.
use Rattle.std.specs.Prelude.{ℕ, Bool, true, false, Option, Some, None, List, [], ◌∷◌, ◌++◌}
use Rattle.std.specs.List.{flat_map}
use Rattle.hack_tree.specs.declared.expression.Entry.{Entry}
use Rattle.hack_tree.specs.declared.expression.Expr.{Expr}
use Rattle.hack_tree.specs.declared.expression.Expr.TheOpen.{ScopedMember-F}
use Rattle.hack_tree.specs.declared.expression.FieldValue.{FieldValue}
use Rattle.hack_tree.specs.declared.expression.Operand.{Operand}
use Rattle.hack_tree.specs.declared.expression.PrefixOperator.{PrefixOperator}
use Rattle.hack_tree.specs.declared.expression.PrefixOperator.TheVariants as prefix
use Rattle.hack_tree.specs.declared.expression.ScopedMember.{ScopedMember, out-ScopedMember}
use Rattle.hack_tree.specs.declared.expression.Suffix.{Suffix}
use Rattle.hack_tree.specs.declared.statement.Case.{Case}
use Rattle.hack_tree.specs.declared.statement.Catch.{Catch}
use Rattle.hack_tree.specs.declared.statement.Stmt.{Stmt}
use Rattle.hack_rules.specs.Expressions.{meaning_of}
use Rattle.hack_rules.specs.Meanings.{assigned_in_any}
use Rattle.hack_rules.specs.Statements.{assigned_in_block, doing_of}
use Rattle.hack_assigned.specs.StmtParts.{case_of, catch_of}

-- in an expression
abbrev pub in_expression : Expr → List ℕ
in_expression e = (meaning_of e).assigned

-- in expressions, in their order
abbrev pub in_each : List Expr → List ℕ
in_each parts = flat_map in_expression parts

-- in an operand of a chain
abbrev pub in_operand : Operand → List ℕ
in_operand operand = in_expression operand.operand

-- in an entry of a dict
abbrev pub in_entry : Entry → List ℕ
in_entry entry = in_expression entry.key ++ in_expression entry.value

-- in a field of a shape
abbrev pub in_field : FieldValue → List ℕ
in_field field = in_expression field.value

-- in an expression that may be missing
abbrev pub in_any : Option Expr → List ℕ
in_any None = []
in_any (Some e) = in_expression e

-- in arguments that may be missing
abbrev pub in_arguments : Option (List Expr) → List ℕ
in_arguments None = []
in_arguments (Some arguments) = in_each arguments

-- in what stands behind `::`
abbrev pub in_member_by : ScopedMember-F Expr ScopedMember Suffix Entry FieldValue Operand → List ℕ
in_member_by (ScopedMember-F.Property name) = []
in_member_by (ScopedMember-F.Word name arguments) = in_arguments arguments

-- the same
abbrev pub in_member : ScopedMember → List ℕ
in_member member = in_member_by (out-ScopedMember member)

-- `++` and `--`
abbrev pub is_step : PrefixOperator → Bool
is_step prefix.Increment = true
is_step prefix.Decrement = true
is_step _ = false

-- in a statement
abbrev pub in_statement : Stmt → List ℕ
in_statement s = (doing_of s).assigned

-- in a case of a `switch`
abbrev pub in_case : Case → List ℕ
in_case c = assigned_in_any (case_of c).value ++ assigned_in_block (case_of c).body

-- in a catch, its variable among them
abbrev pub in_catch : Catch → List ℕ
in_catch c = (catch_of c).variable ∷ assigned_in_block (catch_of c).body
