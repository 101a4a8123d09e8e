-- The parsers of operands follow the grammar's runs, where the parser of an expression does.
use Rattle.std.proofs.Common.{◌≡◌, ℕ, Bool, true, false, List, [], ◌∷◌, Option, None, Some, Ok, Err, refl, ◌∙◌, if◌then◌else◌}
use Rattle.hack_lexer.specs.declared.kind.Mark.TheVariants as mark
use Rattle.hack_lexer.specs.declared.kind.TokenKind.{TokenKind}
use Rattle.hack_lexer.specs.declared.kind.TokenKind.TheVariants as kind
use Rattle.hack_tree.specs.declared.written_type.WrittenType.{WrittenType}
use Rattle.hack_tree.specs.declared.expression.ClassReference.TheVariants as reference
use Rattle.hack_tree.specs.declared.expression.Expr.{Expr}
use Rattle.hack_tree.specs.declared.expression.Expr.TheVariants as e
use Rattle.hack_tree.specs.declared.expression.ScopedMember.{ScopedMember as ScopedMemberTree}
use Rattle.hack_tree.specs.declared.expression.ScopedMember.TheVariants as scoped
use Rattle.hack_parse_expr.specs.declared.lexeme.Lexeme.{Lexeme}
use Rattle.hack_parse_expr.specs.declared.rows.ClassWord.{ClassWord}
use Rattle.hack_parse_expr.specs.declared.rows.PrimaryRow.{PrimaryRow}
use Rattle.hack_parse_expr.specs.declared.rows.PrimaryRow.TheVariants as primary
use Rattle.hack_parse_expr.specs.declared.rows.Nested.{Nested}
use Rattle.hack_parse_expr.specs.declared.rows.Nested.TheVariants as nested_kind
use Rattle.hack_parse_expr.specs.Input.{Input}
use Rattle.hack_parse_expr.specs.Decides.{primary_row, class_word}
use Rattle.hack_parse_expr.specs.Kinds.{next_kind}
use Rattle.hack_parse_expr.specs.Symbols.{Mark_, Variable, Word, KeyText, Decided, one, optional, list, list1, rule, TypeArguments, Expression, Primary, BehindName, ScopedMember, Arguments, NewClass, Entry, FieldValue}
use Rattle.hack_parse_expr.specs.Rows.{sees, begins, begins_expression, or_empty, reads, at_terminal, primary_rows, call, new_class, new_class_of_word, new_class_row}
use Rattle.hack_parse_expr.specs.Parsers.{Parser, Outcome, and_then, ◌>>=◌, ◌>>◌, ◌<$>◌, pure, token, expect}
use Rattle.hack_parse_expr.specs.Types.{written_type, arguments_if_any}
use Rattle.hack_parse_expr.specs.Expressions as parsers
use Rattle.hack_parse_expr.proofs.Follows.{FollowsOne, Follows, RowFollows, Part, part, token_part, expect_part, first_follows, nothing_follows, plan_follows, rule_follows, row_by, row_reads, no_row, token_follows}
use Rattle.hack_parse_expr.proofs.ListsFollow.{optional_follows, at_terminal_follows, same_follows, list_follows, list1_follows}
use Rattle.hack_parse_expr.proofs.TypesFollow.{type_follows, arguments_if_any_follow, if_row}

-- two parsers behind one, with the same outcomes
pub and_then_same : {A B : Type 0} (o : Outcome A) (f g : A → Parser B) → ((a : A) (j : Input) → f a j ≡ g a j) →
    and_then o f ≡ and_then o g
and_then_same (Ok p) f g e = e p.0 p.1
and_then_same (Err stop) f g e = refl

-- what is made of what a function makes of what was read
pub made_of : {A B : Type 0} (o : Outcome A) (f : A → Lexeme → B) (t : Lexeme) →
    and_then (and_then o (λ x. pure (f x))) (λ w. pure (w t)) ≡ and_then o (λ x. pure (f x t))
made_of (Ok p) f t = refl
made_of (Err stop) f t = refl

-- a parser behind two is a parser behind the second, behind the first
pub and_then_twice : {A B C : Type 0} (o : Outcome A) (f : A → Parser B) (g : B → Parser C) →
    and_then (and_then o f) g ≡ and_then o (λ a. f a >>= g)
and_then_twice (Ok p) f g = refl
and_then_twice (Err stop) f g = refl

-- a name and what the parser behind it makes of it
abbrev constant : Lexeme → Expr
constant name = e.Constant name.at name.name

-- `::` and a member behind a name
abbrev scoped_name : ScopedMemberTree → Lexeme → Expr
scoped_name member name = e.Scoped name.at (reference.Named name.name) member

module _ (depth : ℕ) (nested : Nested → Parser Expr) (expression_follows : FollowsOne depth (rule Expression) (nested nested_kind.Expression)) where
  -- the parser of an expression, as the parser of a part
  abbrev pub expression_part : Part depth (rule Expression)
  expression_part = part (nested nested_kind.Expression) expression_follows

  -- ---- lists in brackets

  -- expressions with commas
  pub expressions_follow : FollowsOne depth (list (rule Expression)) (parsers.expressions depth nested)
  unfolding parsers.expressions
  expressions_follow = list_follows depth (rule Expression) begins_expression (nested nested_kind.Expression) (λ ts. refl) refl expression_follows

  -- one expression or more, with commas
  pub expressions1_follow : FollowsOne depth (list1 (rule Expression)) (parsers.expressions1 depth nested)
  unfolding parsers.expressions1
  expressions1_follow = list1_follows depth (rule Expression) begins_expression (nested nested_kind.Expression) (λ ts. refl) refl expression_follows

  -- a key and its value
  pub entry_follows : FollowsOne depth (rule Entry) (parsers.entry depth nested)
  unfolding parsers.entry
  entry_follows = rule_follows depth Entry (parsers.entry depth nested) (λ i. row_reads (expression_part, (expect_part (Mark_ mark.FatArrow), (expression_part, tt))))

  -- entries with commas
  pub entries_follow : FollowsOne depth (list (rule Entry)) (parsers.entries depth nested)
  unfolding parsers.entries
  entries_follow = list_follows depth (rule Entry) begins_expression (parsers.entry depth nested) (λ ts. refl) refl entry_follows

  -- a field of a shape and its value
  pub field_value_follows : FollowsOne depth (rule FieldValue) (parsers.field_value depth nested)
  unfolding parsers.field_value
  field_value_follows = rule_follows depth FieldValue (parsers.field_value depth nested) (λ i. row_reads (expect_part KeyText, (expect_part (Mark_ mark.FatArrow), (expression_part, tt))))

  -- fields with commas
  pub field_values_follow : FollowsOne depth (list (rule FieldValue)) (parsers.field_values depth nested)
  unfolding parsers.field_values
  field_values_follow = list_follows depth (rule FieldValue) (sees KeyText) (parsers.field_value depth nested) (λ ts. refl) refl field_value_follows

  -- arguments in brackets
  pub arguments_follow : FollowsOne depth (rule Arguments) (parsers.arguments depth nested)
  unfolding parsers.arguments
  arguments_follow = rule_follows depth Arguments (parsers.arguments depth nested) (λ i.
      at_terminal_follows depth (Mark_ mark.OpenParen) i (list (rule Expression) ∷ one (Mark_ mark.CloseParen) ∷ []) (λ _ found _. found) _
      (plan_follows depth (one Decided ∷ list (rule Expression) ∷ one (Mark_ mark.CloseParen) ∷ []) (token_part, (part (parsers.expressions depth nested) expressions_follow, (expect_part (Mark_ mark.CloseParen), tt))) (λ _ found _. found)))

  -- arguments begin with their bracket
  arguments_begin : (ts : List Lexeme) → begins (rule Arguments) ts ≡ sees (Mark_ mark.OpenParen) ts
  arguments_begin ts = if_row (record { counts = false; parts = one Decided ∷ list (rule Expression) ∷ one (Mark_ mark.CloseParen) ∷ []; makes = λ _ found _. found }) (sees (Mark_ mark.OpenParen) ts)

  -- arguments that may stand
  pub call_arguments_follow : FollowsOne depth (optional (rule Arguments)) (parsers.arguments_if_any depth nested)
  unfolding parsers.arguments_if_any
  call_arguments_follow = optional_follows depth (rule Arguments) (sees (Mark_ mark.OpenParen)) (parsers.arguments depth nested) arguments_begin arguments_follow

  -- their parser, as the parser of a part
  abbrev pub arguments_part : Part depth (optional (rule Arguments))
  arguments_part = part (parsers.arguments_if_any depth nested) call_arguments_follow

  -- ---- what stands alone

  -- what stands behind `::`
  pub scoped_member_follows : FollowsOne depth (rule ScopedMember) (parsers.scoped_member depth nested)
  unfolding parsers.scoped_member
  scoped_member_follows = rule_follows depth ScopedMember (parsers.scoped_member depth nested) (λ i. by_sight i (sees Variable i.left))
    where
      by_sight : (i : Input) (c : Bool) →
          RowFollows depth (rule ScopedMember) i (if c then reads (one Decided ∷ []) (λ t. scoped.Property t.name) else at_terminal Word i.left (reads (one Decided ∷ optional (rule Arguments) ∷ []) (λ word arguments. scoped.Word word.name arguments))) (if c then ((λ t. scoped.Property t.name) <$> token) i else (expect Word >>= (λ word. parsers.arguments_if_any depth nested >>= (λ found. pure (scoped.Word word.name found)))) i)
      by_sight i true = row_reads (token_part, tt)
      by_sight i false = at_terminal_follows depth Word i (optional (rule Arguments) ∷ []) (λ word arguments. scoped.Word word.name arguments) _
          (plan_follows depth (one Decided ∷ optional (rule Arguments) ∷ []) (token_part, (arguments_part, tt)) (λ word arguments. scoped.Word word.name arguments))

  -- what stands behind a name, as a function of the name
  behind : Parser (Lexeme → Expr)
  behind = λ i.
      if sees (Mark_ mark.OpenParen) i.left then (call <$> parsers.arguments depth nested) i
      else (if sees (Mark_ mark.ColonColon) i.left then (token >> (scoped_name <$> parsers.scoped_member depth nested)) i
      else Ok (constant, i))

  -- what stands behind a name
  behind_follows : FollowsOne depth (rule BehindName) behind
  unfolding behind
  behind_follows = rule_follows depth BehindName behind (λ i. by_sight i (sees (Mark_ mark.OpenParen) i.left) (sees (Mark_ mark.ColonColon) i.left))
    where
      by_sight : (i : Input) (c d : Bool) →
          RowFollows depth (rule BehindName) i (if c then reads (rule Arguments ∷ []) call else (if d then reads (one Decided ∷ rule ScopedMember ∷ []) (λ _ member name. scoped_name member name) else reads [] constant)) (if c then (call <$> parsers.arguments depth nested) i else (if d then (token >> (scoped_name <$> parsers.scoped_member depth nested)) i else Ok (constant, i)))
      by_sight i true d = row_reads (part (parsers.arguments depth nested) arguments_follow, tt)
      by_sight i false true = row_reads (token_part, (part (parsers.scoped_member depth nested) scoped_member_follows, tt))
      by_sight i false false = row_reads tt

  -- the parser of what stands behind a name makes that function of it
  behind_is : (t : Lexeme) (j : Input) → (behind >>= (λ w. pure (w t))) j ≡ parsers.behind_name depth nested t j
  unfolding behind parsers.behind_name
  behind_is t j = by_sight (sees (Mark_ mark.OpenParen) j.left) (sees (Mark_ mark.ColonColon) j.left)
    where
      by_sight : (c d : Bool) →
          and_then (if c then (call <$> parsers.arguments depth nested) j else (if d then (token >> (scoped_name <$> parsers.scoped_member depth nested)) j else Ok (constant, j))) (λ w. pure (w t)) ≡ (if c then (e.Call t.at t.name <$> parsers.arguments depth nested) j else (if d then (token >> (e.Scoped t.at (reference.Named t.name) <$> parsers.scoped_member depth nested)) j else Ok (e.Constant t.at t.name, j)))
      by_sight true d = made_of (parsers.arguments depth nested j) call t
      by_sight false true = and_then_twice (token j) (λ _. scoped_name <$> parsers.scoped_member depth nested) (λ w. pure (w t))
          ∙ and_then_same (token j) (λ _. (scoped_name <$> parsers.scoped_member depth nested) >>= (λ w. pure (w t))) (λ _. e.Scoped t.at (reference.Named t.name) <$> parsers.scoped_member depth nested) (λ l k. made_of (parsers.scoped_member depth nested k) scoped_name t)
      by_sight false false = refl

  -- a name and what stands behind it
  name_follows : Follows depth {A = Expr} (one Decided ∷ rule BehindName ∷ []) (λ name whole. whole name) (parsers.name depth nested)
  unfolding parsers.name
  name_follows = same_follows depth (one Decided ∷ rule BehindName ∷ []) (λ name whole. whole name) (token >>= (λ t. behind >>= (λ w. pure (w t)))) (parsers.name depth nested)
      (plan_follows depth (one Decided ∷ rule BehindName ∷ []) (token_part, (part behind behind_follows, tt)) (λ name whole. whole name))
      (λ i. and_then_same (token i) (λ t. behind >>= (λ w. pure (w t))) (parsers.behind_name depth nested) behind_is)

  -- arguments of a type that may stand, none where they do not
  type_arguments_if_any_follow : Follows depth {A = List WrittenType} (optional (rule TypeArguments) ∷ []) or_empty (arguments_if_any (written_type depth))
  type_arguments_if_any_follow = arguments_if_any_follow depth (written_type depth) (type_follows depth)

  -- a word for a class behind `new`
  new_word_follows : (i : Input) (w : Option ClassWord) →
      RowFollows depth (rule NewClass) i (new_class_of_word w) (parsers.new_word depth nested w i)
  new_word_follows i None = no_row
  new_word_follows i (Some w) = row_reads (token_part, tt)

  -- the class behind `new`, by the token
  new_class_by_follows : (i : Input) (k : Option TokenKind) →
      RowFollows depth (rule NewClass) i (new_class_row k) (parsers.new_class_by depth nested k i)
  new_class_by_follows i (Some kind.Name) = row_by _
      (first_follows depth (one Decided) (optional (rule TypeArguments) ∷ []) (λ v. v) (λ t arguments. new_class t (reference.Named t.name) arguments) token (λ t. arguments_if_any (written_type depth) >>= (λ found. pure (t.at, reference.Named t.name, found))) (token_follows depth)
      (λ t. first_follows depth (optional (rule TypeArguments)) [] or_empty (λ found. (t.at, reference.Named t.name, found)) (arguments_if_any (written_type depth)) (λ found. pure (t.at, reference.Named t.name, found)) type_arguments_if_any_follow
      (λ found. nothing_follows depth (t.at, reference.Named t.name, found)) (λ pending. refl))
      (λ pending. refl))
  new_class_by_follows i (Some (kind.Keyword k)) = new_word_follows i (class_word k)
  new_class_by_follows i (Some _) = no_row
  new_class_by_follows i None = no_row

  -- the class behind `new`
  new_class_follows : FollowsOne depth (rule NewClass) (parsers.new_class depth nested)
  unfolding parsers.new_class
  new_class_follows = rule_follows depth NewClass (parsers.new_class depth nested) (λ i. new_class_by_follows i (next_kind i.left))

  -- an operand, by its row
  primary_by_follows : (i : Input) (r : Option PrimaryRow) →
      RowFollows depth (rule Primary) i (primary_rows r) (parsers.primary_by depth nested r i)
  unfolding parsers.bracketed parsers.literal_read parsers.key_text parsers.variable parsers.this parsers.scoped_word parsers.new parsers.container parsers.dict parsers.shape
  primary_by_follows i None = no_row
  primary_by_follows i (Some primary.Bracket) = row_reads (token_part, (expression_part, (expect_part (Mark_ mark.CloseParen), tt)))
  primary_by_follows i (Some primary.Int) = row_reads (token_part, tt)
  primary_by_follows i (Some primary.Float) = row_reads (token_part, tt)
  primary_by_follows i (Some primary.Text) = row_reads (token_part, tt)
  primary_by_follows i (Some primary.KeyText) = row_reads (token_part, tt)
  primary_by_follows i (Some primary.True) = row_reads (token_part, tt)
  primary_by_follows i (Some primary.False) = row_reads (token_part, tt)
  primary_by_follows i (Some primary.Null) = row_reads (token_part, tt)
  primary_by_follows i (Some primary.Variable) = row_reads (token_part, tt)
  primary_by_follows i (Some primary.This) = row_reads (token_part, tt)
  primary_by_follows i (Some primary.Name) = row_by (parsers.name depth nested) name_follows
  primary_by_follows i (Some (primary.ClassWord w)) = row_reads (token_part, (expect_part (Mark_ mark.ColonColon), (part (parsers.scoped_member depth nested) scoped_member_follows, tt)))
  primary_by_follows i (Some primary.New) = row_reads (token_part, (part (parsers.new_class depth nested) new_class_follows, (part (parsers.arguments depth nested) arguments_follow, tt)))
  primary_by_follows i (Some (primary.Container c)) = row_reads (token_part, (expect_part (Mark_ mark.OpenBracket), (part (parsers.expressions depth nested) expressions_follow, (expect_part (Mark_ mark.CloseBracket), tt))))
  primary_by_follows i (Some primary.Dict) = row_reads (token_part, (expect_part (Mark_ mark.OpenBracket), (part (parsers.entries depth nested) entries_follow, (expect_part (Mark_ mark.CloseBracket), tt))))
  primary_by_follows i (Some primary.Shape) = row_reads (token_part, (expect_part (Mark_ mark.OpenParen), (part (parsers.field_values depth nested) field_values_follow, (expect_part (Mark_ mark.CloseParen), tt))))

  -- an operand
  pub primary_follows : FollowsOne depth (rule Primary) (parsers.primary depth nested)
  unfolding parsers.primary
  primary_follows = rule_follows depth Primary (parsers.primary depth nested) (λ i. primary_by_follows i (primary_row (next_kind i.left)))
