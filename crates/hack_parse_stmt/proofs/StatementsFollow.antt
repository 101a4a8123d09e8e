-- The parsers of statements follow the grammar's runs.
use Rattle.std.proofs.Common.{◌≡◌, ◌↔◌, ℕ, zero, suc, ◌<◌, Bool, true, false, List, [], ◌∷◌, length, Option, None, Some, Ok, Err, refl, sym, ◌||◌, if◌then◌else◌}
use Rattle.hack_lexer.specs.declared.kind.Mark.{Mark}
use Rattle.hack_lexer.specs.declared.kind.Mark.TheVariants as mark
use Rattle.hack_lexer.specs.declared.kind.Keyword.TheVariants as keyword
use Rattle.hack_tree.specs.declared.expression.Expr.{Expr}
use Rattle.hack_tree.specs.declared.statement.Stmt.{Stmt}
use Rattle.hack_tree.specs.declared.statement.Stmt.TheVariants as stmt
use Rattle.hack_tree.specs.declared.statement.Case.{Case as CaseTree, roll-Case}
use Rattle.hack_tree.specs.declared.statement.Catch.{Catch as CatchTree, roll-Catch}
use Rattle.hack_tree.specs.declared.declaration.DeclaredName.{DeclaredName}
use Rattle.hack_parse_expr.specs.declared.lexeme.Lexeme.{Lexeme}
use Rattle.hack_parse_expr.specs.declared.rows.StatementRow.{StatementRow}
use Rattle.hack_parse_expr.specs.declared.rows.StatementRow.TheVariants as row
use Rattle.hack_parse_expr.specs.declared.stop.ParseStop.{ParseStop}
use Rattle.hack_parse_expr.specs.Input.{Input}
use Rattle.hack_parse_expr.specs.Decides.{is_there, statement_row}
use Rattle.hack_parse_expr.specs.Kinds.{next_kind, second_kind}
use Rattle.hack_parse_expr.specs.Symbols.{Mark_, Keyword_, Variable, Decided, one, here, optional, many, list, list1, rule, Expression, Postfix, ClassType_, Statement, Block, Else, Variables, SecondVariable, Case, Catch, Finally}
use Rattle.hack_parse_expr.specs.Rows.{sees, begins, reads, declared_name, statement_rows, variables as variables_tree}
use Rattle.hack_parse_expr.specs.Run.{Stands, Fails}
use Rattle.hack_parse_expr.specs.Parsers.{Parser, ◌>>=◌, ◌>>◌, ◌<$>◌, pure, refuse, refuse_depth, token, expect, place, many_of}
use Rattle.hack_parse_expr.specs.Types.{written_type, named}
use Rattle.hack_parse_expr.specs.Expressions.{nests, expressions, expressions1, expression_if_any, postfix}
use Rattle.hack_parse_expr.proofs.Follows.{Follows, FollowsOne, RowFollows, first_follows, rule_follows, row_by, row_nests_by, row_too_deep, no_row, expect_follows, place_follows}
use Rattle.hack_parse_expr.proofs.ListsFollow.{Shrinks, many_follows, refuse_shrinks, same_follows, at_terminal_follows}
use Rattle.hack_parse_expr.proofs.Pieces.{Piece, Turn, turn, turn_follows, turn_shrinks, done, ◌and◌, a_token, the, the_made, a_parser, the_symbol, taking, behind_token_follows, seen_follows, optional_seen, many_of_same, expected, shrinks_nested}
use Rattle.hack_parse_expr.proofs.TypesFollow.{if_row, named_follows, type_follows}
use Rattle.hack_parse_expr.proofs.OperandsFollow.{and_then_twice}
use Rattle.hack_parse_expr.proofs.ExpressionsFollow.{expression_follows, may_stand_follows, with_commas_follow, one_or_more_follow, operand_follows}
use Rattle.hack_parse_expr.proofs.Alone.{stands_law, fails_law}
use Rattle.hack_parse_stmt.specs.declared.statements.ForHead.{ForHead}
use Rattle.hack_parse_stmt.specs.declared.statements.CatchHead.{CatchHead}
use Rattle.hack_parse_stmt.specs.Statements as parsers
use Rattle.hack_parse_stmt.specs.Statements.{statement, block}

-- ---- where rows are there

-- the row of a statement is there exactly if the next tokens begin one
pub statement_is_there : (r : Option StatementRow) → is_there (statement_rows r) ≡ is_there r
statement_is_there None = refl
statement_is_there (Some row.Block) = refl
statement_is_there (Some row.Empty) = refl
statement_is_there (Some row.If) = refl
statement_is_there (Some row.While) = refl
statement_is_there (Some row.DoWhile) = refl
statement_is_there (Some row.For) = refl
statement_is_there (Some row.Foreach) = refl
statement_is_there (Some row.Switch) = refl
statement_is_there (Some row.Return) = refl
statement_is_there (Some row.Throw) = refl
statement_is_there (Some row.Break) = refl
statement_is_there (Some row.Continue) = refl
statement_is_there (Some row.Echo) = refl
statement_is_there (Some row.Try) = refl
statement_is_there (Some row.Expression) = refl

-- a statement begins where its row is there
pub begins_statements : (ts : List Lexeme) → begins (rule Statement) ts ≡ parsers.begins_statement ts
begins_statements ts = statement_is_there (statement_row (next_kind ts) (second_kind ts))

-- a case begins with `case` or `default`
pub begins_cases : (ts : List Lexeme) → begins (rule Case) ts ≡ parsers.begins_case ts
begins_cases ts = by_sight (sees (Keyword_ keyword.Case) ts) (sees (Keyword_ keyword.Default) ts)
  where
    by_sight : (c d : Bool) →
        is_there (if c then reads {x = rule Case} (one Decided ∷ rule Expression ∷ one (Mark_ mark.Colon) ∷ many (rule Statement) ∷ []) (λ t value _ body. roll-Case (record { at = t.at; value = Some value; body = body })) else (if d then reads (one Decided ∷ one (Mark_ mark.Colon) ∷ many (rule Statement) ∷ []) (λ t _ body. roll-Case (record { at = t.at; value = None; body = body })) else None)) ≡ c || d
    by_sight true d = refl
    by_sight false true = refl
    by_sight false false = refl

-- a catch begins with `catch`
pub begins_catches : (ts : List Lexeme) → begins (rule Catch) ts ≡ sees (Keyword_ keyword.Catch) ts
begins_catches ts =
    if_row (record {
      counts = false;
      parts = one Decided ∷ one (Mark_ mark.OpenParen) ∷ rule ClassType_ ∷ one Variable ∷ one (Mark_ mark.CloseParen) ∷ rule Block ∷ [];
      makes = λ _ _ class t _ body. roll-Catch (record { class = class; variable = declared_name t; body = body });
    }) (sees (Keyword_ keyword.Catch) ts)

-- `else` and a statement begin with `else`
pub begins_else : (ts : List Lexeme) → begins (rule Else) ts ≡ sees (Keyword_ keyword.Else) ts
begins_else ts = if_row (record { counts = false; parts = one Decided ∷ rule Statement ∷ []; makes = λ _ body. body }) (sees (Keyword_ keyword.Else) ts)

-- `finally` and a block begin with `finally`
pub begins_finally : (ts : List Lexeme) → begins (rule Finally) ts ≡ sees (Keyword_ keyword.Finally) ts
begins_finally ts = if_row (record { counts = false; parts = one Decided ∷ rule Block ∷ []; makes = λ _ body. body }) (sees (Keyword_ keyword.Finally) ts)

-- ---- the variables of a foreach

-- two variables or one
abbrev of_variables : DeclaredName → Option DeclaredName → Option DeclaredName × DeclaredName
of_variables first None = (None, first)
of_variables first (Some second) = (Some first, second)

-- behind the first variable
abbrev behind_first : DeclaredName → Parser (Option DeclaredName × DeclaredName)
behind_first first = λ i. if sees (Mark_ mark.FatArrow) i.left then (token >> ((λ second. (Some first, second)) <$> parsers.variable)) i else Ok ((None, first), i)

-- `=>` and the second variable, where there are two
second_follows : (depth : ℕ) (t : Lexeme) →
    Follows depth (optional (rule SecondVariable) ∷ []) (variables_tree t) (behind_first (declared_name t))
second_follows depth t =
    seen_follows depth SecondVariable (Mark_ mark.FatArrow) (one Decided ∷ one Variable ∷ []) (λ _ l. declared_name l) (variables_tree t) (token >> ((λ second. (Some (declared_name t), second)) <$> parsers.variable)) (λ ts. refl) (λ ts. refl)
    (λ R pending tree i h. (behind_token_follows depth (one Variable) (λ l. (Some (declared_name t), declared_name l)) ((λ second. (Some (declared_name t), second)) <$> parsers.variable)
    (turn_follows (record { pieces = the_made Variable declared_name and done; makes = λ second. (Some (declared_name t), second) }))).leads R pending tree i h)

-- the variables of a `foreach`
pub variables_follow : (depth : ℕ) → FollowsOne depth (rule Variables) parsers.variables
unfolding parsers.variables
variables_follow depth = rule_follows depth Variables parsers.variables (λ i. row_by parsers.variables
    (same_follows depth (one Variable ∷ optional (rule SecondVariable) ∷ []) variables_tree (expect Variable >>= (λ t. behind_first (declared_name t))) parsers.variables
    (first_follows depth (one Variable) (optional (rule SecondVariable) ∷ []) (λ v. v) variables_tree (expect Variable) (λ t. behind_first (declared_name t)) (expect_follows depth Variable) (second_follows depth) (λ pending. refl))
    (λ i. sym (and_then_twice (expect Variable i) (λ t. pure (declared_name t)) behind_first))))

-- ---- statements, over the parser of a statement in which one row less may be opened

module _ (depth : ℕ) (nested : Parser Stmt) (nested_follows : FollowsOne depth (rule Statement) nested) (nested_shrinks : Shrinks depth nested) where
  -- statements
  pub statements_follow : FollowsOne depth (many (rule Statement)) (parsers.statements depth nested)
  unfolding parsers.statements
  statements_follow = many_follows depth (rule Statement) parsers.begins_statement nested begins_statements refl nested_follows nested_shrinks

  -- ---- blocks

  -- a block
  abbrev block_turn : Turn depth (List Stmt)
  block_turn = record {
    pieces = a_token and the_symbol (many (rule Statement)) (parsers.statements depth nested) statements_follow and the (Mark_ mark.CloseBrace) and done;
    makes = λ _ body _. body;
  }

  -- it begins with its brace
  pub block_follows : FollowsOne depth (rule Block) (block depth nested)
  unfolding block
  block_follows = rule_follows depth Block (block depth nested) (λ i.
      at_terminal_follows depth (Mark_ mark.OpenBrace) i (many (rule Statement) ∷ one (Mark_ mark.CloseBrace) ∷ []) (λ _ body _. body) _ (turn_follows block_turn))

  -- it takes its brace
  block_shrinks : Shrinks depth (block depth nested)
  unfolding block
  block_shrinks = turn_shrinks (record {
    pieces = the (Mark_ mark.OpenBrace) and the_symbol (many (rule Statement)) (parsers.statements depth nested) statements_follow and the (Mark_ mark.CloseBrace) and done;
    makes = λ _ body _. body;
  }) refl

  -- ---- pieces

  -- a statement in a statement
  abbrev a_statement : Piece depth
  a_statement = the_symbol (rule Statement) nested nested_follows

  -- a block
  abbrev a_block : Piece depth
  a_block = taking (the_symbol (rule Block) (block depth nested) block_follows) block_shrinks

  -- a place
  abbrev a_place : Piece depth
  a_place = the_symbol here place (place_follows depth)

  -- an expression
  abbrev an_expression : Piece depth
  an_expression = the_symbol (rule Expression) (parsers.expression depth) (expression_follows depth)

  -- an expression that may stand
  abbrev may_stand : Piece depth
  may_stand = the_symbol (optional (rule Expression)) (expression_if_any depth (nests depth)) (may_stand_follows depth)

  -- expressions with commas
  abbrev with_commas : Piece depth
  with_commas = the_symbol (list (rule Expression)) (expressions depth (nests depth)) (with_commas_follow depth)

  -- an expression in brackets
  abbrev bracketed_turn : Turn depth Expr
  bracketed_turn = record {
    pieces = the (Mark_ mark.OpenParen) and an_expression and the (Mark_ mark.CloseParen) and done;
    makes = λ _ inner _. inner;
  }

  -- it follows its three parts
  bracketed_follows : Follows depth (one (Mark_ mark.OpenParen) ∷ rule Expression ∷ one (Mark_ mark.CloseParen) ∷ []) (λ _ inner _. inner) (parsers.bracketed depth)
  unfolding parsers.bracketed
  bracketed_follows = turn_follows bracketed_turn

  -- it as a piece
  abbrev bracketed : Piece depth
  bracketed = a_parser (one (Mark_ mark.OpenParen) ∷ rule Expression ∷ one (Mark_ mark.CloseParen) ∷ []) (λ _ inner _. inner) (parsers.bracketed depth) bracketed_follows

  -- an expression that may stand, and `;`
  abbrev value_if_any_turn : Turn depth (Option Expr)
  value_if_any_turn = record { pieces = may_stand and the (Mark_ mark.Semicolon) and done; makes = λ value _. value }

  value_if_any_follows : Follows depth (optional (rule Expression) ∷ one (Mark_ mark.Semicolon) ∷ []) (λ value _. value) (parsers.value_if_any depth)
  unfolding parsers.value_if_any
  value_if_any_follows = turn_follows value_if_any_turn

  abbrev value_if_any : Piece depth
  value_if_any = a_parser (optional (rule Expression) ∷ one (Mark_ mark.Semicolon) ∷ []) (λ value _. value) (parsers.value_if_any depth) value_if_any_follows

  -- expressions, and this mark behind them
  abbrev expressions_to_turn : Mark → Turn depth (List Expr)
  expressions_to_turn m = record { pieces = with_commas and the (Mark_ m) and done; makes = λ found _. found }

  expressions_to_follows : (m : Mark) → Follows depth (list (rule Expression) ∷ one (Mark_ m) ∷ []) (λ found _. found) (parsers.expressions_to depth m)
  unfolding parsers.expressions_to
  expressions_to_follows m = turn_follows (expressions_to_turn m)

  abbrev expressions_to : Mark → Piece depth
  expressions_to m = a_parser (list (rule Expression) ∷ one (Mark_ m) ∷ []) (λ found _. found) (parsers.expressions_to depth m) (expressions_to_follows m)

  -- the brackets of a `for`
  abbrev for_head_turn : Turn depth (ForHead)
  for_head_turn = record { pieces = the (Mark_ mark.OpenParen) and expressions_to mark.Semicolon and value_if_any and expressions_to mark.CloseParen and done; makes = λ _ first condition step. record { start = first; condition = condition; step = step } }

  for_head_follows : Follows depth (one (Mark_ mark.OpenParen) ∷ list (rule Expression) ∷ one (Mark_ mark.Semicolon) ∷ optional (rule Expression) ∷ one (Mark_ mark.Semicolon) ∷ list (rule Expression) ∷ one (Mark_ mark.CloseParen) ∷ []) (λ _ first _ condition _ step _. record { start = first; condition = condition; step = step }) (parsers.for_head depth)
  unfolding parsers.for_head
  for_head_follows = turn_follows for_head_turn

  abbrev for_head : Piece depth
  for_head = a_parser (one (Mark_ mark.OpenParen) ∷ list (rule Expression) ∷ one (Mark_ mark.Semicolon) ∷ optional (rule Expression) ∷ one (Mark_ mark.Semicolon) ∷ list (rule Expression) ∷ one (Mark_ mark.CloseParen) ∷ []) (λ _ first _ condition _ step _. record { start = first; condition = condition; step = step }) (parsers.for_head depth) for_head_follows

  -- what a `foreach` goes over, and `as`
  abbrev foreach_subject_turn : Turn depth (Expr)
  foreach_subject_turn = record { pieces = the (Mark_ mark.OpenParen) and the_symbol (rule Postfix) (postfix depth (nests depth)) (operand_follows depth) and the (Keyword_ keyword.As) and done; makes = λ _ subject _. subject }

  foreach_subject_follows : Follows depth (one (Mark_ mark.OpenParen) ∷ rule Postfix ∷ one (Keyword_ keyword.As) ∷ []) (λ _ subject _. subject) (parsers.foreach_subject depth)
  unfolding parsers.foreach_subject
  foreach_subject_follows = turn_follows foreach_subject_turn

  abbrev foreach_subject : Piece depth
  foreach_subject = a_parser (one (Mark_ mark.OpenParen) ∷ rule Postfix ∷ one (Keyword_ keyword.As) ∷ []) (λ _ subject _. subject) (parsers.foreach_subject depth) foreach_subject_follows

  -- the variables of a `foreach`, and `)`
  abbrev variables_closed_turn : Turn depth (Option DeclaredName × DeclaredName)
  variables_closed_turn = record { pieces = the_symbol (rule Variables) parsers.variables (variables_follow depth) and the (Mark_ mark.CloseParen) and done; makes = λ found _. found }

  variables_closed_follows : Follows depth (rule Variables ∷ one (Mark_ mark.CloseParen) ∷ []) (λ found _. found) (parsers.variables_closed)
  unfolding parsers.variables_closed
  variables_closed_follows = turn_follows variables_closed_turn

  abbrev variables_closed : Piece depth
  variables_closed = a_parser (rule Variables ∷ one (Mark_ mark.CloseParen) ∷ []) (λ found _. found) (parsers.variables_closed) variables_closed_follows

  -- what stands behind the statement of a `do`
  abbrev do_condition_turn : Turn depth (Expr)
  do_condition_turn = record { pieces = the (Keyword_ keyword.While) and bracketed and the (Mark_ mark.Semicolon) and done; makes = λ _ condition _. condition }

  do_condition_follows : Follows depth (one (Keyword_ keyword.While) ∷ one (Mark_ mark.OpenParen) ∷ rule Expression ∷ one (Mark_ mark.CloseParen) ∷ one (Mark_ mark.Semicolon) ∷ []) (λ _ _ condition _ _. condition) (parsers.do_condition depth)
  unfolding parsers.do_condition
  do_condition_follows = turn_follows do_condition_turn

  abbrev do_condition : Piece depth
  do_condition = a_parser (one (Keyword_ keyword.While) ∷ one (Mark_ mark.OpenParen) ∷ rule Expression ∷ one (Mark_ mark.CloseParen) ∷ one (Mark_ mark.Semicolon) ∷ []) (λ _ _ condition _ _. condition) (parsers.do_condition depth) do_condition_follows

  -- the brackets of a catch
  abbrev catch_head_turn : Turn depth (CatchHead)
  catch_head_turn = record { pieces = the (Mark_ mark.OpenParen) and the_symbol (rule ClassType_) (named (written_type depth)) (named_follows depth (written_type depth) (type_follows depth)) and the_made Variable declared_name and the (Mark_ mark.CloseParen) and done; makes = λ _ class name _. record { class = class; variable = name } }

  catch_head_follows : Follows depth (one (Mark_ mark.OpenParen) ∷ rule ClassType_ ∷ one Variable ∷ one (Mark_ mark.CloseParen) ∷ []) (λ _ class t _. record { class = class; variable = declared_name t }) (parsers.catch_head depth)
  unfolding parsers.catch_head
  catch_head_follows = turn_follows catch_head_turn

  abbrev catch_head : Piece depth
  catch_head = a_parser (one (Mark_ mark.OpenParen) ∷ rule ClassType_ ∷ one Variable ∷ one (Mark_ mark.CloseParen) ∷ []) (λ _ class t _. record { class = class; variable = declared_name t }) (parsers.catch_head depth) catch_head_follows

  -- ---- cases

  -- statements as a piece
  abbrev the_statements : Piece depth
  the_statements = the_symbol (many (rule Statement)) (parsers.statements depth nested) statements_follow

  -- a case with a value
  abbrev case_turn : Turn depth CaseTree
  case_turn = record {
    pieces = a_token and an_expression and the (Mark_ mark.Colon) and the_statements and done;
    makes = λ t value _ body. roll-Case (record { at = t.at; value = Some value; body = body });
  }

  -- the case without one
  abbrev default_turn : Turn depth CaseTree
  default_turn = record {
    pieces = a_token and the (Mark_ mark.Colon) and the_statements and done;
    makes = λ t _ body. roll-Case (record { at = t.at; value = None; body = body });
  }

  -- a case
  case_follows : FollowsOne depth (rule Case) (parsers.case depth nested)
  unfolding parsers.case parsers.case_read parsers.default_read
  case_follows = rule_follows depth Case (parsers.case depth nested) (λ i. by_sight i (sees (Keyword_ keyword.Case) i.left) (sees (Keyword_ keyword.Default) i.left))
    where
      by_sight : (i : Input) (c d : Bool) →
          RowFollows depth (rule Case) i (if c then reads (one Decided ∷ rule Expression ∷ one (Mark_ mark.Colon) ∷ many (rule Statement) ∷ []) (λ t value _ body. roll-Case (record { at = t.at; value = Some value; body = body })) else (if d then reads (one Decided ∷ one (Mark_ mark.Colon) ∷ many (rule Statement) ∷ []) (λ t _ body. roll-Case (record { at = t.at; value = None; body = body })) else None)) (if c then turn case_turn i else (if d then turn default_turn i else refuse i))
      by_sight i true d = row_by (turn case_turn) (turn_follows case_turn)
      by_sight i false true = row_by (turn default_turn) (turn_follows default_turn)
      by_sight i false false = no_row

  -- each case takes a token
  case_shrinks : Shrinks depth (parsers.case depth nested)
  unfolding parsers.case parsers.case_read parsers.default_read
  case_shrinks pending h i v rest e = by_sight (sees (Keyword_ keyword.Case) i.left) (sees (Keyword_ keyword.Default) i.left) e
    where
      by_sight : (c d : Bool) → (if c then turn case_turn i else (if d then turn default_turn i else refuse i)) ≡ Ok (v, rest) →
          length rest.left < length i.left
      by_sight true d e = turn_shrinks case_turn refl pending h i v rest e
      by_sight false true e = turn_shrinks default_turn refl pending h i v rest e
      by_sight false false e = refuse_shrinks depth pending h i v rest e

  -- cases
  cases_follow : FollowsOne depth (many (rule Case)) (parsers.cases depth nested)
  unfolding parsers.cases
  cases_follow = many_follows depth (rule Case) parsers.begins_case (parsers.case depth nested) begins_cases refl case_follows case_shrinks

  -- cases in braces
  abbrev case_block_turn : Turn depth (List CaseTree)
  case_block_turn = record { pieces = the (Mark_ mark.OpenBrace) and the_symbol (many (rule Case)) (parsers.cases depth nested) cases_follow and the (Mark_ mark.CloseBrace) and done; makes = λ _ found _. found }

  case_block_follows : Follows depth (one (Mark_ mark.OpenBrace) ∷ many (rule Case) ∷ one (Mark_ mark.CloseBrace) ∷ []) (λ _ found _. found) (parsers.case_block depth nested)
  unfolding parsers.case_block
  case_block_follows = turn_follows case_block_turn

  abbrev case_block : Piece depth
  case_block = a_parser (one (Mark_ mark.OpenBrace) ∷ many (rule Case) ∷ one (Mark_ mark.CloseBrace) ∷ []) (λ _ found _. found) (parsers.case_block depth nested) case_block_follows

  -- ---- catches

  -- a catch, behind whatever token comes first
  abbrev catch_turn : Turn depth CatchTree
  catch_turn = record { pieces = a_token and catch_head and a_block and done; makes = λ _ head body. roll-Catch (record { class = head.class; variable = head.variable; body = body }) }

  -- a catch, behind `catch`
  abbrev strict_turn : Turn depth CatchTree
  strict_turn = record {
    pieces = the (Keyword_ keyword.Catch) and catch_head and a_block and done;
    makes = λ _ head body. roll-Catch (record { class = head.class; variable = head.variable; body = body });
  }

  -- a catch behind `catch`
  catch_follows : FollowsOne depth (rule Catch) (turn strict_turn)
  catch_follows = rule_follows depth Catch (turn strict_turn) (λ i.
      at_terminal_follows depth (Keyword_ keyword.Catch) i (one (Mark_ mark.OpenParen) ∷ rule ClassType_ ∷ one Variable ∷ one (Mark_ mark.CloseParen) ∷ rule Block ∷ [])
      (λ _ _ class t _ body. roll-Catch (record { class = class; variable = declared_name t; body = body })) _ (turn_follows catch_turn))

  -- catches
  catches_follow : FollowsOne depth (many (rule Catch)) (parsers.catches depth nested)
  unfolding parsers.catches parsers.catch
  catches_follow = same_follows depth (many (rule Catch) ∷ []) (λ v. v) (many_of (sees (Keyword_ keyword.Catch)) (turn strict_turn)) (parsers.catches depth nested)
      (many_follows depth (rule Catch) (sees (Keyword_ keyword.Catch)) (turn strict_turn) begins_catches refl catch_follows (turn_shrinks strict_turn refl))
      (many_of_same (sees (Keyword_ keyword.Catch)) (turn strict_turn) (parsers.catch depth nested) (λ i is. expected (Keyword_ keyword.Catch) _ i is))

  -- ---- what may stand behind a statement

  -- `else` and a statement
  otherwise_follows : FollowsOne depth (optional (rule Else)) (parsers.otherwise depth nested)
  unfolding parsers.otherwise
  otherwise_follows = optional_seen depth Else (Keyword_ keyword.Else) (one Decided ∷ rule Statement ∷ []) (λ _ body. body) (token >> nested) (λ ts. refl) (λ ts. refl)
      (behind_token_follows depth (rule Statement) (λ v. v) nested nested_follows)

  -- `finally` and a block
  finally_follows : FollowsOne depth (optional (rule Finally)) (parsers.finally depth nested)
  unfolding parsers.finally
  finally_follows = optional_seen depth Finally (Keyword_ keyword.Finally) (one Decided ∷ rule Block ∷ []) (λ _ body. body) (token >> block depth nested) (λ ts. refl) (λ ts. refl)
      (behind_token_follows depth (rule Block) (λ v. v) (block depth nested) block_follows)

  -- ---- statements by their rows

  -- a block as a statement
  abbrev block_statement : Turn depth Stmt
  block_statement = record { pieces = a_place and a_block and done; makes = λ at body. stmt.Block at body }

  -- `;` alone
  abbrev empty_statement : Turn depth Stmt
  empty_statement = record { pieces = a_token and done; makes = λ t. stmt.Empty t.at }

  -- `if`
  abbrev if_statement : Turn depth Stmt
  if_statement = record {
    pieces = a_token and bracketed and a_statement and the_symbol (optional (rule Else)) (parsers.otherwise depth nested) otherwise_follows and done;
    makes = λ t condition body other. stmt.If t.at condition body other;
  }

  -- `while`
  abbrev while_statement : Turn depth Stmt
  while_statement = record {
    pieces = a_token and bracketed and a_statement and done;
    makes = λ t condition body. stmt.While t.at condition body;
  }

  -- `do`
  abbrev do_statement : Turn depth Stmt
  do_statement = record {
    pieces = a_token and a_statement and do_condition and done;
    makes = λ t body condition. stmt.DoWhile t.at body condition;
  }

  -- `for`
  abbrev for_statement : Turn depth Stmt
  for_statement = record {
    pieces = a_token and for_head and a_statement and done;
    makes = λ t head body. stmt.For t.at head.start head.condition head.step body;
  }

  -- `foreach`
  abbrev foreach_statement : Turn depth Stmt
  foreach_statement = record {
    pieces = a_token and foreach_subject and variables_closed and a_statement and done;
    makes = λ t subject found body. stmt.Foreach t.at subject found.0 found.1 body;
  }

  -- `switch`
  abbrev switch_statement : Turn depth Stmt
  switch_statement = record {
    pieces = a_token and bracketed and case_block and done;
    makes = λ t subject found. stmt.Switch t.at subject found;
  }

  -- `return`
  abbrev return_statement : Turn depth Stmt
  return_statement = record {
    pieces = a_token and value_if_any and done;
    makes = λ t value. stmt.Return t.at value;
  }

  -- `throw`
  abbrev throw_statement : Turn depth Stmt
  throw_statement = record {
    pieces = a_token and an_expression and the (Mark_ mark.Semicolon) and done;
    makes = λ t value _. stmt.Throw t.at value;
  }

  -- `break`
  abbrev break_statement : Turn depth Stmt
  break_statement = record { pieces = a_token and the (Mark_ mark.Semicolon) and done; makes = λ t _. stmt.Break t.at }

  -- `continue`
  abbrev continue_statement : Turn depth Stmt
  continue_statement = record { pieces = a_token and the (Mark_ mark.Semicolon) and done; makes = λ t _. stmt.Continue t.at }

  -- `echo`
  abbrev echo_statement : Turn depth Stmt
  echo_statement = record {
    pieces = a_token and the_symbol (list1 (rule Expression)) (expressions1 depth (nests depth)) (one_or_more_follow depth) and the (Mark_ mark.Semicolon) and done;
    makes = λ t values _. stmt.Echo t.at values;
  }

  -- `try`
  abbrev try_statement : Turn depth Stmt
  try_statement = record {
    pieces = a_token and a_block and the_symbol (many (rule Catch)) (parsers.catches depth nested) catches_follow and the_symbol (optional (rule Finally)) (parsers.finally depth nested) finally_follows and done;
    makes = λ t body found last. stmt.Try t.at body found last;
  }

  -- an expression as a statement
  abbrev expression_statement : Turn depth Stmt
  expression_statement = record {
    pieces = a_place and an_expression and the (Mark_ mark.Semicolon) and done;
    makes = λ at whole _. stmt.Expression at whole;
  }

  -- it follows the row, which counts
  statement_by_follows : (i : Input) (r : Option StatementRow) →
      RowFollows (suc depth) (rule Statement) i (statement_rows r) (parsers.statement_by depth nested r i)
  unfolding parsers.block_statement parsers.empty_statement parsers.if_statement parsers.while_statement parsers.do_statement parsers.for_statement parsers.foreach_statement parsers.switch_statement parsers.return_statement parsers.throw_statement parsers.break_statement parsers.continue_statement parsers.echo_statement parsers.try_statement parsers.expression_statement
  statement_by_follows i None = no_row
  statement_by_follows i (Some row.Block) = row_nests_by (turn block_statement) (turn_follows block_statement)
  statement_by_follows i (Some row.Empty) = row_nests_by (turn empty_statement) (turn_follows empty_statement)
  statement_by_follows i (Some row.If) = row_nests_by (turn if_statement) (turn_follows if_statement)
  statement_by_follows i (Some row.While) = row_nests_by (turn while_statement) (turn_follows while_statement)
  statement_by_follows i (Some row.DoWhile) = row_nests_by (turn do_statement) (turn_follows do_statement)
  statement_by_follows i (Some row.For) = row_nests_by (turn for_statement) (turn_follows for_statement)
  statement_by_follows i (Some row.Foreach) = row_nests_by (turn foreach_statement) (turn_follows foreach_statement)
  statement_by_follows i (Some row.Switch) = row_nests_by (turn switch_statement) (turn_follows switch_statement)
  statement_by_follows i (Some row.Return) = row_nests_by (turn return_statement) (turn_follows return_statement)
  statement_by_follows i (Some row.Throw) = row_nests_by (turn throw_statement) (turn_follows throw_statement)
  statement_by_follows i (Some row.Break) = row_nests_by (turn break_statement) (turn_follows break_statement)
  statement_by_follows i (Some row.Continue) = row_nests_by (turn continue_statement) (turn_follows continue_statement)
  statement_by_follows i (Some row.Echo) = row_nests_by (turn echo_statement) (turn_follows echo_statement)
  statement_by_follows i (Some row.Try) = row_nests_by (turn try_statement) (turn_follows try_statement)
  statement_by_follows i (Some row.Expression) = row_nests_by (turn expression_statement) (turn_follows expression_statement)

  -- each statement takes a token
  statement_by_shrinks : (r : Option StatementRow) → Shrinks depth (parsers.statement_by depth nested r)
  unfolding parsers.block_statement parsers.empty_statement parsers.if_statement parsers.while_statement parsers.do_statement parsers.for_statement parsers.foreach_statement parsers.switch_statement parsers.return_statement parsers.throw_statement parsers.break_statement parsers.continue_statement parsers.echo_statement parsers.try_statement parsers.expression_statement
  statement_by_shrinks None = refuse_shrinks depth
  statement_by_shrinks (Some row.Block) = turn_shrinks block_statement refl
  statement_by_shrinks (Some row.Empty) = turn_shrinks empty_statement refl
  statement_by_shrinks (Some row.If) = turn_shrinks if_statement refl
  statement_by_shrinks (Some row.While) = turn_shrinks while_statement refl
  statement_by_shrinks (Some row.DoWhile) = turn_shrinks do_statement refl
  statement_by_shrinks (Some row.For) = turn_shrinks for_statement refl
  statement_by_shrinks (Some row.Foreach) = turn_shrinks foreach_statement refl
  statement_by_shrinks (Some row.Switch) = turn_shrinks switch_statement refl
  statement_by_shrinks (Some row.Return) = turn_shrinks return_statement refl
  statement_by_shrinks (Some row.Throw) = turn_shrinks throw_statement refl
  statement_by_shrinks (Some row.Break) = turn_shrinks break_statement refl
  statement_by_shrinks (Some row.Continue) = turn_shrinks continue_statement refl
  statement_by_shrinks (Some row.Echo) = turn_shrinks echo_statement refl
  statement_by_shrinks (Some row.Try) = turn_shrinks try_statement refl
  statement_by_shrinks (Some row.Expression) = turn_shrinks expression_statement refl

-- ---- statements at each depth

-- where no row may be opened, what begins a statement is too deep, and else it is refused
too_deep_or_none : (i : Input) (r : Option StatementRow) →
    RowFollows 0 (rule Statement) i (statement_rows r) (if is_there r then refuse_depth i else refuse i)
too_deep_or_none i None = no_row
too_deep_or_none i (Some row.Block) = row_too_deep
too_deep_or_none i (Some row.Empty) = row_too_deep
too_deep_or_none i (Some row.If) = row_too_deep
too_deep_or_none i (Some row.While) = row_too_deep
too_deep_or_none i (Some row.DoWhile) = row_too_deep
too_deep_or_none i (Some row.For) = row_too_deep
too_deep_or_none i (Some row.Foreach) = row_too_deep
too_deep_or_none i (Some row.Switch) = row_too_deep
too_deep_or_none i (Some row.Return) = row_too_deep
too_deep_or_none i (Some row.Throw) = row_too_deep
too_deep_or_none i (Some row.Break) = row_too_deep
too_deep_or_none i (Some row.Continue) = row_too_deep
too_deep_or_none i (Some row.Echo) = row_too_deep
too_deep_or_none i (Some row.Try) = row_too_deep
too_deep_or_none i (Some row.Expression) = row_too_deep

-- a statement is read as the runs have it, and takes a token
record StatementFollows (depth : ℕ) (p : Parser Stmt) : Type 1 where
  pub follows : FollowsOne depth (rule Statement) p
  pub shrinks : Shrinks depth p

-- where no row may be opened, nothing is read
none_shrinks : (c : Bool) (i rest : Input) (v : Stmt) → (if c then refuse_depth i else refuse i) ≡ Ok (v, rest) →
    length rest.left < length i.left
none_shrinks true i rest v e = absurd (cc)
none_shrinks false i rest v e = absurd (cc)

-- at each depth
each_follows : (depth : ℕ) → StatementFollows depth (statement depth)
unfolding statement parsers.statement_read
each_follows zero = record {
  follows = rule_follows zero Statement (statement zero) (λ i. too_deep_or_none i (statement_row (next_kind i.left) (second_kind i.left)));
  shrinks = λ pending h i v rest e. none_shrinks (parsers.begins_statement i.left) i rest v e;
}
each_follows (suc depth) =
    let f : StatementFollows depth (statement depth) = each_follows depth in
    record {
      follows = rule_follows (suc depth) Statement (statement (suc depth)) (λ i. statement_by_follows depth (statement depth) f.follows f.shrinks i (statement_row (next_kind i.left) (second_kind i.left)));
      shrinks = λ pending h i v rest e.
          shrinks_nested depth (parsers.statement_by depth (statement depth) (statement_row (next_kind i.left) (second_kind i.left)))
          (statement_by_shrinks depth (statement depth) f.follows f.shrinks (statement_row (next_kind i.left) (second_kind i.left))) pending h i v rest e;
    }

-- a statement
pub statement_follows : (depth : ℕ) → FollowsOne depth (rule Statement) (statement depth)
statement_follows depth = (each_follows depth).follows

-- each statement takes a token
pub statement_shrinks : (depth : ℕ) → Shrinks depth (statement depth)
statement_shrinks depth = (each_follows depth).shrinks

-- a block of statements
pub body_follows : (depth : ℕ) → FollowsOne depth (rule Block) (block depth (statement depth))
body_follows depth = block_follows depth (statement depth) (statement_follows depth) (statement_shrinks depth)

-- a statement stands at the beginning of an input exactly where the parser reads it
pub statements_stand : (i : Input) (v : Stmt) (rest : Input) →
    Stands (rule Statement) i v rest ↔ (statement 128 i ≡ Ok (v, rest))
statements_stand i v rest = stands_law (rule Statement) (statement 128) (statement_follows 128) i v rest

-- and it fails exactly where the parser stops
pub statements_fail : (i : Input) (stop : ParseStop) → Fails (rule Statement) i stop ↔ (statement 128 i ≡ Err stop)
statements_fail i stop = fails_law (rule Statement) (statement 128) (statement_follows 128) i stop
