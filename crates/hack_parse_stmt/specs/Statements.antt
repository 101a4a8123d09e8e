-- The parsers of statements.
use Rattle.std.specs.Prelude.{◌||◌, if◌then◌else◌, ℕ, zero, suc, Bool, List, Option, None, Some, Ok}
use Rattle.hack_lexer.specs.declared.kind.Mark.{Mark}
use Rattle.hack_lexer.specs.declared.kind.Mark.TheVariants as mark
use Rattle.hack_lexer.specs.declared.kind.Keyword.TheVariants as keyword
use Rattle.hack_tree.specs.declared.expression.Expr.{Expr}
use Rattle.hack_tree.specs.declared.statement.Stmt.{Stmt}
use Rattle.hack_tree.specs.declared.statement.Stmt.TheVariants as stmt
use Rattle.hack_tree.specs.declared.statement.Case.{Case, roll-Case}
use Rattle.hack_tree.specs.declared.statement.Catch.{Catch, roll-Catch}
use Rattle.hack_tree.specs.declared.declaration.DeclaredName.{DeclaredName}
use Rattle.hack_parse_expr.specs.declared.lexeme.Lexeme.{Lexeme}
use Rattle.hack_parse_expr.specs.declared.rows.StatementRow.{StatementRow}
use Rattle.hack_parse_expr.specs.declared.rows.StatementRow.TheVariants as row
use Rattle.hack_parse_expr.specs.Decides.{is_there, statement_row}
use Rattle.hack_parse_expr.specs.Kinds.{next_kind, second_kind}
use Rattle.hack_parse_expr.specs.Symbols.{Mark_, Keyword_, Variable}
use Rattle.hack_parse_expr.specs.Rows.{sees, declared_name}
use Rattle.hack_parse_expr.specs.Parsers.{Parser, ◌>>=◌, ◌>>◌, ◌<$>◌, pure, refuse, refuse_depth, token, expect, place, optionally, many_of}
use Rattle.hack_parse_expr.specs.Types.{written_type, named}
use Rattle.hack_parse_stmt.specs.declared.statements.ForHead.{ForHead}
use Rattle.hack_parse_stmt.specs.declared.statements.CatchHead.{CatchHead}
use Rattle.hack_parse_expr.specs.Expressions.{nests, expression_at, expressions, expressions1, expression_if_any, postfix}

-- the next tokens begin a statement
abbrev pub begins_statement : List Lexeme → Bool
begins_statement ts = is_there (statement_row (next_kind ts) (second_kind ts))

abbrev pub begins_case : List Lexeme → Bool
begins_case ts = sees (Keyword_ keyword.Case) ts || sees (Keyword_ keyword.Default) ts

-- a variable where it gets a value
abbrev pub variable : Parser DeclaredName
variable = declared_name <$> expect Variable

-- the variables of a `foreach`
unfoldable pub variables : Parser (Option DeclaredName × DeclaredName)
variables = do
  first ← variable
  (λ i. if sees (Mark_ mark.FatArrow) i.left then (token >> ((λ second. (Some first, second)) <$> variable)) i else Ok ((None, first), i))

-- they and the bracket behind them
unfoldable pub variables_closed : Parser (Option DeclaredName × DeclaredName)
variables_closed = do
  found ← variables
  expect (Mark_ mark.CloseParen)
  pure found

-- `;` alone
unfoldable pub empty_statement : Parser Stmt
empty_statement = (λ t. stmt.Empty t.at) <$> token

unfoldable pub break_statement : Parser Stmt
break_statement = do
  t ← token
  expect (Mark_ mark.Semicolon)
  pure (stmt.Break t.at)

unfoldable pub continue_statement : Parser Stmt
continue_statement = do
  t ← token
  expect (Mark_ mark.Semicolon)
  pure (stmt.Continue t.at)

-- ---- what has no statement in it, where so many rows that count as nesting may still be opened

module _ (depth : ℕ) where
  abbrev pub expression : Parser Expr
  expression = expression_at depth

  -- an expression in brackets
  unfoldable pub bracketed : Parser Expr
  bracketed = do
    expect (Mark_ mark.OpenParen)
    inner ← expression
    expect (Mark_ mark.CloseParen)
    pure inner

  -- an expression that may stand, and `;`
  unfoldable pub value_if_any : Parser (Option Expr)
  value_if_any = do
    value ← expression_if_any depth (nests depth)
    expect (Mark_ mark.Semicolon)
    pure value

  -- expressions, and this mark behind them
  unfoldable pub expressions_to : Mark → Parser (List Expr)
  expressions_to m = do
    found ← expressions depth (nests depth)
    expect (Mark_ m)
    pure found

  -- the brackets of a `for`
  unfoldable pub for_head : Parser ForHead
  for_head = do
    expect (Mark_ mark.OpenParen)
    first ← expressions_to mark.Semicolon
    condition ← value_if_any
    step ← expressions_to mark.CloseParen
    pure (record { start = first; condition = condition; step = step })

  -- what a `foreach` goes over, and `as`
  unfoldable pub foreach_subject : Parser Expr
  foreach_subject = do
    expect (Mark_ mark.OpenParen)
    subject ← postfix depth (nests depth)
    expect (Keyword_ keyword.As)
    pure subject

  -- what stands behind the statement of a `do`
  unfoldable pub do_condition : Parser Expr
  do_condition = do
    expect (Keyword_ keyword.While)
    condition ← bracketed
    expect (Mark_ mark.Semicolon)
    pure condition

  unfoldable pub return_statement : Parser Stmt
  return_statement = do
    t ← token
    value ← value_if_any
    pure (stmt.Return t.at value)

  unfoldable pub throw_statement : Parser Stmt
  throw_statement = do
    t ← token
    value ← expression
    expect (Mark_ mark.Semicolon)
    pure (stmt.Throw t.at value)

  unfoldable pub echo_statement : Parser Stmt
  echo_statement = do
    t ← token
    values ← expressions1 depth (nests depth)
    expect (Mark_ mark.Semicolon)
    pure (stmt.Echo t.at values)

  unfoldable pub expression_statement : Parser Stmt
  expression_statement = do
    at ← place
    whole ← expression
    expect (Mark_ mark.Semicolon)
    pure (stmt.Expression at whole)

  -- the class and the variable of a catch, in brackets
  unfoldable pub catch_head : Parser CatchHead
  catch_head = do
    expect (Mark_ mark.OpenParen)
    class ← named (written_type depth)
    name ← variable
    expect (Mark_ mark.CloseParen)
    pure (record { class = class; variable = name })

-- ---- statements, where so many rows may still be opened, and the parser reads a statement in which that is so

module _ (depth : ℕ) (nested : Parser Stmt) where
  unfoldable pub statements : Parser (List Stmt)
  statements = many_of begins_statement nested

  unfoldable pub block : Parser (List Stmt)
  block = do
    expect (Mark_ mark.OpenBrace)
    body ← statements
    expect (Mark_ mark.CloseBrace)
    pure body

  unfoldable pub block_statement : Parser Stmt
  block_statement = do
    at ← place
    stmt.Block at <$> block

  unfoldable pub otherwise : Parser (Option Stmt)
  otherwise = optionally (sees (Keyword_ keyword.Else)) (token >> nested)

  unfoldable pub if_statement : Parser Stmt
  if_statement = do
    t ← token
    condition ← bracketed depth
    body ← nested
    other ← otherwise
    pure (stmt.If t.at condition body other)

  unfoldable pub while_statement : Parser Stmt
  while_statement = do
    t ← token
    condition ← bracketed depth
    stmt.While t.at condition <$> nested

  unfoldable pub do_statement : Parser Stmt
  do_statement = do
    t ← token
    body ← nested
    condition ← do_condition depth
    pure (stmt.DoWhile t.at body condition)

  unfoldable pub for_statement : Parser Stmt
  for_statement = do
    t ← token
    head ← for_head depth
    stmt.For t.at head.start head.condition head.step <$> nested

  unfoldable pub foreach_statement : Parser Stmt
  foreach_statement = do
    t ← token
    subject ← foreach_subject depth
    found ← variables_closed
    stmt.Foreach t.at subject found.0 found.1 <$> nested

  unfoldable pub case_read : Parser Case
  case_read = do
    t ← token
    value ← expression depth
    expect (Mark_ mark.Colon)
    body ← statements
    pure (roll-Case (record { at = t.at; value = Some value; body = body }))

  unfoldable pub default_read : Parser Case
  default_read = do
    t ← token
    expect (Mark_ mark.Colon)
    body ← statements
    pure (roll-Case (record { at = t.at; value = None; body = body }))

  unfoldable pub case : Parser Case
  case = λ i.
      if sees (Keyword_ keyword.Case) i.left then case_read i
      else (if sees (Keyword_ keyword.Default) i.left then default_read i else refuse i)

  unfoldable pub cases : Parser (List Case)
  cases = many_of begins_case case

  -- cases in braces
  unfoldable pub case_block : Parser (List Case)
  case_block = do
    expect (Mark_ mark.OpenBrace)
    found ← cases
    expect (Mark_ mark.CloseBrace)
    pure found

  unfoldable pub switch_statement : Parser Stmt
  switch_statement = do
    t ← token
    subject ← bracketed depth
    found ← case_block
    pure (stmt.Switch t.at subject found)

  unfoldable pub catch : Parser Catch
  catch = do
    token
    head ← catch_head depth
    body ← block
    pure (roll-Catch (record { class = head.class; variable = head.variable; body = body }))

  unfoldable pub catches : Parser (List Catch)
  catches = many_of (sees (Keyword_ keyword.Catch)) catch

  unfoldable pub finally : Parser (Option (List Stmt))
  finally = optionally (sees (Keyword_ keyword.Finally)) (token >> block)

  unfoldable pub try_statement : Parser Stmt
  try_statement = do
    t ← token
    body ← block
    found ← catches
    last ← finally
    pure (stmt.Try t.at body found last)

  abbrev pub statement_by : Option StatementRow → Parser Stmt
  statement_by None = refuse
  statement_by (Some row.Block) = block_statement
  statement_by (Some row.Empty) = empty_statement
  statement_by (Some row.If) = if_statement
  statement_by (Some row.While) = while_statement
  statement_by (Some row.DoWhile) = do_statement
  statement_by (Some row.For) = for_statement
  statement_by (Some row.Foreach) = foreach_statement
  statement_by (Some row.Switch) = switch_statement
  statement_by (Some row.Return) = return_statement depth
  statement_by (Some row.Throw) = throw_statement depth
  statement_by (Some row.Break) = break_statement
  statement_by (Some row.Continue) = continue_statement
  statement_by (Some row.Echo) = echo_statement depth
  statement_by (Some row.Try) = try_statement
  statement_by (Some row.Expression) = expression_statement depth

  unfoldable pub statement_read : Parser Stmt
  statement_read = λ i. statement_by (statement_row (next_kind i.left) (second_kind i.left)) i

-- a statement in which so many rows that count as nesting may be opened, itself among them
unfoldable pub statement : ℕ → Parser Stmt
statement zero = λ i. if begins_statement i.left then refuse_depth i else refuse i
statement (suc depth) = statement_read depth (statement depth)
