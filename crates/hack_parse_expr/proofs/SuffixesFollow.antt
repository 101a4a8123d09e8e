-- The parsers of operands with what stands behind them follow the grammar's runs, where the parser of an expression does.
use Rattle.std.proofs.Common.{◌≡◌, ℕ, true, false, List, [], ◌∷◌, Option, None, Some, refl}
use Rattle.hack_lexer.specs.declared.kind.Mark.TheVariants as mark
use Rattle.hack_tree.specs.declared.expression.Expr.{Expr}
use Rattle.hack_tree.specs.declared.expression.TestOperator.{TestOperator}
use Rattle.hack_tree.specs.declared.expression.Suffix.TheVariants as s
use Rattle.hack_parse_expr.specs.declared.rows.SuffixRow.{SuffixRow}
use Rattle.hack_parse_expr.specs.declared.rows.SuffixRow.TheVariants as suffix
use Rattle.hack_parse_expr.specs.declared.rows.Nested.{Nested}
use Rattle.hack_parse_expr.specs.declared.rows.Nested.TheVariants as nested_kind
use Rattle.hack_parse_expr.specs.Input.{Input}
use Rattle.hack_parse_expr.specs.Decides.{is_there, suffix_row, test_operator}
use Rattle.hack_parse_expr.specs.Kinds.{next_kind}
use Rattle.hack_parse_expr.specs.Symbols.{Mark_, Word, Decided, Symbol, one, optional, many, rule, Type_, Expression, Tested, Test, Postfix, Suffix, Arguments, Awaits}
use Rattle.hack_parse_expr.specs.Rows.{begins_expression, suffix_rows, test_row}
use Rattle.hack_parse_expr.specs.Parsers.{Parser, ◌>>=◌, token}
use Rattle.hack_parse_expr.specs.Types.{written_type}
use Rattle.hack_parse_expr.specs.Expressions as parsers
use Rattle.hack_parse_expr.proofs.Follows.{FollowsOne, RowFollows, Part, Plan, in_order, part, token_part, expect_part, place_part, plan_follows, rule_follows, row_reads, no_row}
use Rattle.hack_parse_expr.proofs.ListsFollow.{optional_follows, many_follows, Shrinks, token_shrinks, refuse_shrinks, follows_keeps}
use Rattle.hack_parse_expr.proofs.TypesFollow.{type_follows}
use Rattle.hack_parse_expr.proofs.OperandsFollow.{arguments_part, primary_follows}

-- parsers in order that begin with a token shorten what is left
pub plan_shrinks : {A : Type 0} (depth : ℕ) (parts : List Symbol) (plan : Plan depth parts) (makes : Awaits (one Decided ∷ parts) A) →
    Shrinks depth (token >>= (λ t. in_order depth parts plan (makes t)))
plan_shrinks depth parts plan makes = token_shrinks depth (λ t. in_order depth parts plan (makes t)) (λ t. follows_keeps depth parts (makes t) (in_order depth parts plan (makes t)) (plan_follows depth parts plan (makes t)))

-- the row of a suffix is there exactly if the next token begins one
suffix_is_there : (r : Option SuffixRow) → is_there (suffix_rows r) ≡ is_there r
suffix_is_there None = refl
suffix_is_there (Some suffix.Index) = refl
suffix_is_there (Some suffix.Member) = refl
suffix_is_there (Some suffix.NullMember) = refl
suffix_is_there (Some suffix.Increment) = refl
suffix_is_there (Some suffix.Decrement) = refl

-- the row of a test is there exactly if the next token begins one
test_is_there : (o : Option TestOperator) → is_there (test_row o) ≡ is_there o
test_is_there None = refl
test_is_there (Some o) = refl

module _ (depth : ℕ) (nested : Nested → Parser Expr) (expression_follows : FollowsOne depth (rule Expression) (nested nested_kind.Expression)) where
  -- an expression that may stand
  pub expression_if_any_follows : FollowsOne depth (optional (rule Expression)) (parsers.expression_if_any depth nested)
  unfolding parsers.expression_if_any
  expression_if_any_follows = optional_follows depth (rule Expression) begins_expression (nested nested_kind.Expression) (λ ts. refl) expression_follows

  -- its parser, as the parser of a part
  abbrev pub optional_part : Part depth (optional (rule Expression))
  optional_part = part (parsers.expression_if_any depth nested) expression_if_any_follows

  -- arguments that may stand, as a part
  abbrev the_arguments : Part depth (optional (rule Arguments))
  the_arguments = arguments_part depth nested expression_follows

  -- a suffix, by its row
  suffix_by_follows : (i : Input) (r : Option SuffixRow) →
      RowFollows depth (rule Suffix) i (suffix_rows r) (parsers.suffix_by depth nested r i)
  unfolding parsers.index parsers.member
  suffix_by_follows i None = no_row
  suffix_by_follows i (Some suffix.Index) = row_reads (token_part, (optional_part, (expect_part (Mark_ mark.CloseBracket), tt)))
  suffix_by_follows i (Some suffix.Member) = row_reads (token_part, (expect_part Word, (the_arguments, tt)))
  suffix_by_follows i (Some suffix.NullMember) = row_reads (token_part, (expect_part Word, (the_arguments, tt)))
  suffix_by_follows i (Some suffix.Increment) = row_reads (token_part, tt)
  suffix_by_follows i (Some suffix.Decrement) = row_reads (token_part, tt)

  -- a suffix
  pub suffix_follows : FollowsOne depth (rule Suffix) (parsers.suffix depth nested)
  unfolding parsers.suffix
  suffix_follows = rule_follows depth Suffix (parsers.suffix depth nested) (λ i. suffix_by_follows i (suffix_row (next_kind i.left)))

  -- each suffix takes a token
  suffix_by_shrinks : (r : Option SuffixRow) → Shrinks depth (parsers.suffix_by depth nested r)
  unfolding parsers.index parsers.member
  suffix_by_shrinks None = refuse_shrinks depth
  suffix_by_shrinks (Some suffix.Index) = plan_shrinks depth (optional (rule Expression) ∷ one (Mark_ mark.CloseBracket) ∷ []) (optional_part, (expect_part (Mark_ mark.CloseBracket), tt)) (λ _ index _. s.Index index)
  suffix_by_shrinks (Some suffix.Member) = plan_shrinks depth (one Word ∷ optional (rule Arguments) ∷ []) (expect_part Word, (the_arguments, tt)) (λ _ word arguments. s.Member false word.name arguments)
  suffix_by_shrinks (Some suffix.NullMember) = plan_shrinks depth (one Word ∷ optional (rule Arguments) ∷ []) (expect_part Word, (the_arguments, tt)) (λ _ word arguments. s.Member true word.name arguments)
  suffix_by_shrinks (Some suffix.Increment) = plan_shrinks depth [] tt (λ _. s.Increment)
  suffix_by_shrinks (Some suffix.Decrement) = plan_shrinks depth [] tt (λ _. s.Decrement)

  -- so does each turn of the loop
  suffix_shrinks : Shrinks depth (parsers.suffix depth nested)
  unfolding parsers.suffix
  suffix_shrinks pending h i v rest o = suffix_by_shrinks (suffix_row (next_kind i.left)) pending h i v rest o

  -- suffixes
  pub suffixes_follow : FollowsOne depth (many (rule Suffix)) (parsers.suffixes depth nested)
  unfolding parsers.suffixes
  suffixes_follow = many_follows depth (rule Suffix) parsers.begins_suffix (parsers.suffix depth nested) (λ ts. suffix_is_there (suffix_row (next_kind ts))) refl suffix_follows suffix_shrinks

  -- an operand and its suffixes
  pub postfix_follows : FollowsOne depth (rule Postfix) (parsers.postfix depth nested)
  unfolding parsers.postfix
  postfix_follows = rule_follows depth Postfix (parsers.postfix depth nested) (λ i. row_reads (place_part, (part (parsers.primary depth nested) (primary_follows depth nested expression_follows), (part (parsers.suffixes depth nested) suffixes_follow, tt))))

  -- a type as a part
  abbrev type_part : Part depth (rule Type_)
  type_part = part (written_type depth) (type_follows depth)

  -- a test, by its operator
  test_by_follows : (i : Input) (o : Option TestOperator) →
      RowFollows depth (rule Test) i (test_row o) (parsers.test_by depth nested o i)
  test_by_follows i None = no_row
  test_by_follows i (Some o) = row_reads (token_part, (type_part, tt))

  -- a test
  pub test_follows : FollowsOne depth (rule Test) (parsers.type_test depth nested)
  unfolding parsers.type_test
  test_follows = rule_follows depth Test (parsers.type_test depth nested) (λ i. test_by_follows i (test_operator (next_kind i.left)))

  -- each test takes a token
  test_by_shrinks : (o : Option TestOperator) → Shrinks depth (parsers.test_by depth nested o)
  test_by_shrinks None = refuse_shrinks depth
  test_by_shrinks (Some o) = plan_shrinks depth (rule Type_ ∷ []) (type_part, tt) (λ _ t. record { operator = o; tested = t })

  -- so does each turn of the loop
  test_shrinks : Shrinks depth (parsers.type_test depth nested)
  unfolding parsers.type_test
  test_shrinks pending h i v rest o = test_by_shrinks (test_operator (next_kind i.left)) pending h i v rest o

  -- tests
  pub tests_follow : FollowsOne depth (many (rule Test)) (parsers.type_tests depth nested)
  unfolding parsers.type_tests
  tests_follow = many_follows depth (rule Test) parsers.begins_test (parsers.type_test depth nested) (λ ts. test_is_there (test_operator (next_kind ts))) refl test_follows test_shrinks

  -- an operand, its suffixes and its tests
  pub tested_follows : FollowsOne depth (rule Tested) (parsers.tested depth nested)
  unfolding parsers.tested
  tested_follows = rule_follows depth Tested (parsers.tested depth nested) (λ i. row_reads (place_part, (part (parsers.postfix depth nested) postfix_follows, (part (parsers.type_tests depth nested) tests_follow, tt))))
