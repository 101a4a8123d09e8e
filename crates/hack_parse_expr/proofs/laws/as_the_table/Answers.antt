use Rattle.hack_parse_expr.proofs.TypesFollow.{types_stand, types_fail}
use Rattle.hack_parse_expr.proofs.ExpressionsFollow.{expressions_stand, expressions_fail}
use Rattle.hack_parse_expr.proofs.laws.as_the_table.Goals as goal

pub returns-clause-type_stands : goal.returns-clause-type_stands
returns-clause-type_stands c = types_stand

pub returns-clause-type_fails : goal.returns-clause-type_fails
returns-clause-type_fails c = types_fail

pub returns-clause-expression_stands : goal.returns-clause-expression_stands
returns-clause-expression_stands c = expressions_stand

pub returns-clause-expression_fails : goal.returns-clause-expression_fails
returns-clause-expression_fails c = expressions_fail
