-- The parsers of expressions follow the grammar's runs.
use Rattle.std.proofs.Common.{◌≡◌, ◌↔◌, ℕ, zero, suc, true, [], ◌∷◌, Option, None, Some, Ok, Err, refl}
use Rattle.hack_tree.specs.declared.expression.Expr.{Expr}
use Rattle.hack_parse_expr.specs.declared.rows.UnaryRow.{UnaryRow}
use Rattle.hack_parse_expr.specs.declared.rows.UnaryRow.TheVariants as unary_kind
use Rattle.hack_parse_expr.specs.declared.rows.Nested.{Nested}
use Rattle.hack_parse_expr.specs.declared.rows.Nested.TheVariants as nested_kind
use Rattle.hack_parse_expr.specs.declared.stop.ParseStop.{ParseStop}
use Rattle.hack_parse_expr.specs.Input.{Input, too_deep}
use Rattle.hack_parse_expr.specs.Decides.{is_there, unary_row}
use Rattle.hack_parse_expr.specs.Kinds.{next_kind, second_kind}
use Rattle.hack_parse_expr.specs.Symbols.{optional, list, list1, rule, Expression, Unary, Postfix, Arguments}
use Rattle.hack_parse_expr.specs.Rows.{unary_rows}
use Rattle.hack_parse_expr.specs.Run.{Stands, Fails}
use Rattle.hack_parse_expr.specs.Parsers.{Parser}
use Rattle.hack_parse_expr.specs.Expressions as parsers
use Rattle.hack_parse_expr.specs.Expressions.{nests}
use Rattle.hack_parse_expr.proofs.Follows.{FollowsOne, stepping, RowFollows, rule_follows, row_nests_by, row_too_deep}
use Rattle.hack_parse_expr.proofs.OperandsFollow.{expressions_follow, expressions1_follow, call_arguments_follow}
use Rattle.hack_parse_expr.proofs.SuffixesFollow.{expression_if_any_follows, postfix_follows}
use Rattle.hack_parse_expr.proofs.OperatorsFollow.{OperatedFollows, operated_by_follows, whole_follows}
use Rattle.hack_parse_expr.proofs.Alone.{stands_law, fails_law, stands_as, fails_as}

-- the parser of what counts as nesting follows, for both of its questions
pub record NestsFollow (depth : ℕ) (nested : Nested → Parser Expr) : Type 1 where
  pub expression : FollowsOne depth (rule Expression) (nested nested_kind.Expression)
  pub operated : OperatedFollows depth (nested nested_kind.Operated)

-- a parser that follows the rows of the operators and casts reads a unary where one of them comes next
by_operated : (depth : ℕ) (p : Parser Expr) →
    ((i : Input) → parsers.begins_operated i.left ≡ true → RowFollows depth (rule Unary) i (unary_rows (unary_row (next_kind i.left) (second_kind i.left))) (p i)) →
    OperatedFollows depth p
by_operated depth p rows = record { leads = λ R pending tree i h is. stepping R (rule Unary ∷ pending) tree i pending tree (p i) ((rows i is).leads R pending tree h) }

-- where no row may be opened, an operator or a cast is too deep
operated_too_deep : (i : Input) (u : Option UnaryRow) → is_there u ≡ true →
    RowFollows 0 (rule Unary) i (unary_rows u) (Err (too_deep i))
operated_too_deep i None is = absurd (cc)
operated_too_deep i (Some (unary_kind.Prefix o)) is = row_too_deep
operated_too_deep i (Some (unary_kind.Cast to)) is = row_too_deep

-- what counts as nesting is read as the runs have it, at each depth
pub nests_follow : (depth : ℕ) → NestsFollow depth (nests depth)
unfolding nests parsers.operated
nests_follow zero = record {
  expression = rule_follows 0 Expression (nests zero nested_kind.Expression) (λ i. row_too_deep);
  operated = by_operated 0 (nests zero nested_kind.Operated) (λ i is. operated_too_deep i (unary_row (next_kind i.left) (second_kind i.left)) is);
}
nests_follow (suc depth) =
    let f : NestsFollow depth (nests depth) = nests_follow depth in
    record {
      expression = rule_follows (suc depth) Expression (nests (suc depth) nested_kind.Expression) (λ i. row_nests_by (parsers.whole depth (nests depth)) (whole_follows depth (nests depth) f.expression f.operated));
      operated = by_operated (suc depth) (nests (suc depth) nested_kind.Operated) (λ i is. operated_by_follows depth (nests depth) f.expression f.operated i (unary_row (next_kind i.left) (second_kind i.left)) is);
    }

-- an expression, at each depth
pub expression_follows : (depth : ℕ) → FollowsOne depth (rule Expression) (nests depth nested_kind.Expression)
expression_follows depth = (nests_follow depth).expression

-- one that may stand
pub may_stand_follows : (depth : ℕ) → FollowsOne depth (optional (rule Expression)) (parsers.expression_if_any depth (nests depth))
may_stand_follows depth = expression_if_any_follows depth (nests depth) (expression_follows depth)

-- expressions with commas
pub with_commas_follow : (depth : ℕ) → FollowsOne depth (list (rule Expression)) (parsers.expressions depth (nests depth))
with_commas_follow depth = expressions_follow depth (nests depth) (expression_follows depth)

-- one expression or more, with commas
pub one_or_more_follow : (depth : ℕ) → FollowsOne depth (list1 (rule Expression)) (parsers.expressions1 depth (nests depth))
one_or_more_follow depth = expressions1_follow depth (nests depth) (expression_follows depth)

-- arguments that may stand
pub arguments_if_any_follow : (depth : ℕ) → FollowsOne depth (optional (rule Arguments)) (parsers.arguments_if_any depth (nests depth))
arguments_if_any_follow depth = call_arguments_follow depth (nests depth) (expression_follows depth)

-- an operand with its suffixes
pub operand_follows : (depth : ℕ) → FollowsOne depth (rule Postfix) (parsers.postfix depth (nests depth))
operand_follows depth = postfix_follows depth (nests depth) (expression_follows depth)

-- an expression stands at the beginning of an input exactly where the parser reads it
pub expressions_stand : (i : Input) (v : Expr) (rest : Input) →
    Stands (rule Expression) i v rest ↔ (nests 128 nested_kind.Expression i ≡ Ok (v, rest))
expressions_stand i v rest = stands_law (rule Expression) (nests 128 nested_kind.Expression) (nests_follow 128).expression i v rest

-- and it fails exactly where the parser stops
pub expressions_fail : (i : Input) (stop : ParseStop) →
    Fails (rule Expression) i stop ↔ (nests 128 nested_kind.Expression i ≡ Err stop)
expressions_fail i stop = fails_law (rule Expression) (nests 128 nested_kind.Expression) (nests_follow 128).expression i stop

-- where an operator or a cast comes next, a unary stands there exactly where the parser reads it
pub unaries_stand : (i : Input) (v : Expr) (rest : Input) → parsers.begins_operated i.left ≡ true →
    Stands (rule Unary) i v rest ↔ (nests 128 nested_kind.Operated i ≡ Ok (v, rest))
unaries_stand i v rest is = stands_as (rule Unary) i (nests 128 nested_kind.Operated i) ((nests_follow 128).operated.leads Expr [] (λ v. v) i refl is) v rest

-- and it fails exactly where the parser stops
pub unaries_fail : (i : Input) (stop : ParseStop) → parsers.begins_operated i.left ≡ true →
    Fails (rule Unary) i stop ↔ (nests 128 nested_kind.Operated i ≡ Err stop)
unaries_fail i stop is = fails_as (rule Unary) i (nests 128 nested_kind.Operated i) ((nests_follow 128).operated.leads Expr [] (λ v. v) i refl is) stop
