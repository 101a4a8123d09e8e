-- The tokens from which the type and the return of a first unit were read.
use Rattle.std.proofs.Common.{◌≡◌, ℕ, suc, Bool, true, false, cond, List, ◌∷◌, ◌++◌, map, Option, Some, None, Ok, refl, sym, ap, ◌∙◌, subst, arith}
use Rattle.hack_types.specs.declared.place.Place.{Place}
use Rattle.hack_lexer.specs.declared.kind.TokenKind.TheVariants as kind
use Rattle.hack_lexer.specs.declared.kind.Mark.TheVariants as mark
use Rattle.hack_lexer.specs.declared.kind.Keyword.TheVariants as keyword
use Rattle.hack_tree.specs.declared.written_type.WrittenType.{WrittenType, out-WrittenType}
use Rattle.hack_tree.specs.declared.written_type.WrittenType.TheVariants as written
use Rattle.hack_tree.specs.declared.written_type.WrittenType.TheViews.{roll-WrittenType, out-roll-WrittenType}
use Rattle.hack_tree.specs.declared.expression.Expr.{Expr}
use Rattle.hack_tree.specs.declared.statement.Stmt.{Stmt, out-Stmt}
use Rattle.hack_tree.specs.declared.statement.Stmt.TheVariants as stmt
use Rattle.hack_tree.specs.declared.statement.Stmt.TheViews.{roll-Stmt, out-roll-Stmt}
use Rattle.hack_parse_expr.specs.declared.lexeme.Lexeme.{Lexeme}
use Rattle.hack_parse_expr.specs.declared.rows.TypeRow.{TypeRow}
use Rattle.hack_parse_expr.specs.declared.rows.TypeRow.TheVariants as type
use Rattle.hack_parse_expr.specs.declared.rows.StatementRow.{StatementRow}
use Rattle.hack_parse_expr.specs.declared.rows.StatementRow.TheVariants as row
use Rattle.hack_parse_expr.specs.declared.rows.Nested.TheVariants as nested_kind
use Rattle.hack_parse_expr.specs.Input.{Input, relative}
use Rattle.hack_parse_expr.specs.Kinds.{next_kind, second_kind}
use Rattle.hack_parse_expr.specs.Decides.{type_row, statement_row}
use Rattle.hack_parse_expr.specs.Symbols.{Mark_}
use Rattle.hack_parse_expr.specs.Rows.{begins_expression}
use Rattle.hack_parse_expr.specs.Parsers.{Outcome, Parser, and_then, token, expect, place}
use Rattle.hack_parse_expr.specs.Types.{named as class_named, optional, container, dict, fields, shape, type_by, type_row_read, written_type}
use Rattle.hack_parse_expr.specs.Expressions.{nests, expression_at, expressions1, expression_if_any}
use Rattle.hack_parse_stmt.specs.Statements.{variables_closed, value_if_any, for_head, foreach_subject, do_condition, block, bracketed, block_statement, empty_statement, otherwise, if_statement, while_statement, do_statement, for_statement, foreach_statement, case_block, switch_statement, return_statement, throw_statement, break_statement, continue_statement, echo_statement, expression_statement, catches, finally, try_statement, statement_by, statement_read, statement}
use Rattle.hack_first.specs.declared.unit.Primitive.{Primitive}
use Rattle.hack_first.specs.Functions.{Value}
use Rattle.hack_first.specs.FirstUnits.{mark as mark_form, keyword as keyword_form, type_keyword, IsSpelled}
use Rattle.hack_first.specs.FirstTrees.{TypeLayer, StmtLayer, primitive_of, primitive_in}
use Rattle.hack_first.proofs.NamedTrees.{value_of, returned_in}
use Rattle.hack_first.proofs.Layers.{out_return, out_primitive}
use Rattle.hack_first.proofs.Gives.{steps, same_value, same_rest, Always, always_then, always_is, Took, token_takes, expect_takes}
use Rattle.hack_first.proofs.RowsBack.{form, form_of_mark, form_of_kind, primitive_row, return_row}
use Rattle.hack_first.proofs.ValuesBack.{value_back}

-- ---- types

-- the type is not one of a first unit
abbrev NoPrimitive : WrittenType → Type 0
NoPrimitive w = primitive_in (out-WrittenType w) ≡ None

-- a type whose level is no primitive type
no_primitive : (layer : TypeLayer) (w : WrittenType) → roll-WrittenType layer ≡ w → primitive_in layer ≡ None → NoPrimitive w
no_primitive layer w rolls none = ap (λ z. primitive_in (out-WrittenType z)) (sym rolls) ∙ ap primitive_in (out-roll-WrittenType layer) ∙ none

-- a parser that gives no such type did not give one
type_never : (o : Outcome WrittenType) (w : WrittenType) (rest : Input) (p : Primitive) → Always NoPrimitive o → primitive_in (out-WrittenType w) ≡ Some p → o ≡ Ok (w, rest) → ⊥
type_never o w rest p h some e =
    let none : primitive_in (out-WrittenType w) ≡ None = always_is NoPrimitive o w rest h e in
    let wrong : ◌≡◌ {A = Option Primitive} (Some p) None = sym some ∙ none in cc

-- the token of a type
pub record TypeBack (names : List (List ℕ)) (i rest : Input) (p : Primitive) : Type 0 where
  pub l : Lexeme
  pub took : Took i l rest
  pub is : form names l ≡ keyword_form (type_keyword p)

-- no other row gives a type of a first unit
type_row_back : (names : List (List ℕ)) (nested : Parser WrittenType) (r : Option TypeRow) (i rest : Input) (w : WrittenType) (p : Primitive) → primitive_in (out-WrittenType w) ≡ Some p → type_row (next_kind i.left) ≡ r →
    type_by nested r i ≡ Ok (w, rest) → TypeBack names i rest p
unfolding optional container dict shape
type_row_back names nested None i rest w p some at h = absurd cc
type_row_back names nested (Some (type.Primitive q)) i rest w p some at h =
    let s = steps (token i) _ w rest h in
    let k = token_takes i s.value s.mid s.first in
    let end : s.mid ≡ rest = same_rest (written.Primitive s.value.at q) w s.mid rest s.others in
    let is : written.Primitive s.value.at q ≡ w = same_value (written.Primitive s.value.at q) w s.mid rest s.others in
    let told : primitive_of q ≡ Some p = ap primitive_in (sym (out_primitive s.value.at q)) ∙ ap (λ z. primitive_in (out-WrittenType z)) is ∙ some in
    let which : next_kind i.left ≡ Some (kind.Keyword (type_keyword p)) = primitive_row (next_kind i.left) q p at told in
    record { l = k.l; took = subst (Took i k.l) end k.took; is = form_of_kind names (kind.Keyword (type_keyword p)) k.l (ap next_kind (sym k.took.parts) ∙ which) (omega arith) }
type_row_back names nested (Some type.Optional) i rest w p some at h =
    let P = NoPrimitive in
    absurd (type_never _ w rest p (always_then P (token i) _ (λ t j. always_then P (nested j) _ (λ x k. no_primitive _ _ (written.rolls-Optional t.at x) refl))) some h)
type_row_back names nested (Some type.This) i rest w p some at h =
    let P = NoPrimitive in
    absurd (type_never _ w rest p (always_then P (token i) _ (λ t j. no_primitive _ _ (written.rolls-This t.at) refl)) some h)
type_row_back names nested (Some (type.Container c)) i rest w p some at h =
    let P = NoPrimitive in
    absurd (type_never _ w rest p (always_then P (token i) _ (λ t j. always_then P (expect (Mark_ mark.Less) j) _ (λ y k. always_then P (nested k) _ (λ x m. always_then P (expect (Mark_ mark.Greater) m) _ (λ z n.
    no_primitive _ _ (written.rolls-Container t.at c x) refl))))) some h)
type_row_back names nested (Some type.Dict) i rest w p some at h =
    let P = NoPrimitive in
    absurd (type_never _ w rest p (always_then P (token i) _ (λ t j. always_then P (expect (Mark_ mark.Less) j) _ (λ y k. always_then P (nested k) _ (λ x m. always_then P (expect (Mark_ mark.Comma) m) _ (λ z n.
    always_then P (nested n) _ (λ v o. always_then P (expect (Mark_ mark.Greater) o) _ (λ u q. no_primitive _ _ (written.rolls-Dict t.at x v) refl))))))) some h)
type_row_back names nested (Some type.Shape) i rest w p some at h =
    let P = NoPrimitive in
    absurd (type_never _ w rest p (always_then P (token i) _ (λ t j. always_then P (expect (Mark_ mark.OpenParen) j) _ (λ y k. always_then P (fields nested k) _ (λ x m. always_then P (expect (Mark_ mark.CloseParen) m) _ (λ z n.
    no_primitive _ _ (written.rolls-Shape t.at x.0 x.1) refl))))) some h)
type_row_back names nested (Some type.Class) i rest w p some at h =
    let P = NoPrimitive in
    absurd (type_never _ w rest p (always_then P (class_named nested i) _ (λ c j. no_primitive _ _ (written.rolls-Class c) refl)) some h)

-- the token from which the type of a first unit was read
pub type_back : (names : List (List ℕ)) (depth : ℕ) (i rest : Input) (w : WrittenType) (p : Primitive) → primitive_in (out-WrittenType w) ≡ Some p → written_type (suc depth) i ≡ Ok (w, rest) → TypeBack names i rest p
unfolding written_type type_row_read
type_back names depth i rest w p some h = type_row_back names (written_type depth) (type_row (next_kind i.left)) i rest w p some refl h

-- ---- statements

-- the statement is no return of a value
abbrev NoReturn : List (List ℕ) → Stmt → Type 0
NoReturn names s = returned_in names (out-Stmt s) ≡ None

-- a statement whose level is no return
no_return : (names : List (List ℕ)) (layer : StmtLayer) (s : Stmt) → roll-Stmt layer ≡ s → returned_in names layer ≡ None → NoReturn names s
no_return names layer s rolls none = ap (λ z. returned_in names (out-Stmt z)) (sym rolls) ∙ ap (returned_in names) (out-roll-Stmt layer) ∙ none

-- a parser that gives no return did not give one
statement_never : (names : List (List ℕ)) (o : Outcome Stmt) (s : Stmt) (rest : Input) (v : Value × Place) → Always (NoReturn names) o → returned_in names (out-Stmt s) ≡ Some v → o ≡ Ok (s, rest) → ⊥
statement_never names o s rest v h some e =
    let none : returned_in names (out-Stmt s) ≡ None = always_is (NoReturn names) o s rest h e in
    let wrong : ◌≡◌ {A = Option (Value × Place)} (Some v) None = sym some ∙ none in cc

-- the tokens of a return
pub record ReturnBack (names : List (List ℕ)) (i rest : Input) (v : Value × Place) : Type 0 where
  pub l : Lexeme
  pub first : Lexeme
  pub more : List Lexeme
  pub end : Lexeme
  pub parts : i.left ≡ l ∷ first ∷ more ++ end ∷ rest.left
  pub is : form names l ≡ keyword_form keyword.Return
  pub spells : IsSpelled v.0 (map (form names) (first ∷ more))
  pub placed : v.1 ≡ relative i.start first.at
  pub is_end : form names end ≡ mark_form mark.Semicolon
  pub start : rest.start ≡ i.start

-- an expression was read where there is one
some_expression : (depth : ℕ) (i rest : Input) (x : Expr) (b : Bool) → cond b (and_then (nests depth nested_kind.Expression i) (λ y j. Ok (Some y, j))) (Ok (None, i)) ≡ Ok (Some x, rest) → nests depth nested_kind.Expression i ≡ Ok (x, rest)
some_expression depth i rest x true h =
    let s = steps (nests depth nested_kind.Expression i) _ (Some x) rest h in
    let is : ◌≡◌ {A = Option Expr} (Some s.value) (Some x) = same_value (Some s.value) (Some x) s.mid rest s.others in
    let value : s.value ≡ x = cc in
    s.first ∙ (λ k. Ok (value k, same_rest (Some s.value) (Some x) s.mid rest s.others k))
some_expression depth i rest x false h = absurd (let wrong : ◌≡◌ {A = Option Expr} None (Some x) = same_value None (Some x) i rest h in cc)

-- a return of a value was read from its tokens
return_of : (names : List (List ℕ)) (depth : ℕ) (i mid j end rest : Input) (l t : Lexeme) (at : Place) (value : Option Expr) (s : Stmt) (v : Value × Place) → Took i l mid → form names l ≡ keyword_form keyword.Return → returned_in names (out-Stmt s) ≡ Some v →
    expression_if_any (suc depth) (nests (suc depth)) mid ≡ Ok (value, j) → expect (Mark_ mark.Semicolon) j ≡ Ok (t, end) → ◌≡◌ {A = Outcome Stmt} (Ok (stmt.Return at value, end)) (Ok (s, rest)) → ReturnBack names i rest v
unfolding expression_if_any
return_of names depth i mid j end rest l t at None s v took is some reads ends h =
    absurd (let none : returned_in names (out-Stmt s) ≡ None = ap (λ z. returned_in names (out-Stmt z)) (sym (same_value (stmt.Return at None) s end rest h)) ∙ ap (returned_in names) (out_return at None) in
    let wrong : ◌≡◌ {A = Option (Value × Place)} (Some v) None = sym some ∙ none in cc)
return_of names depth i mid j end rest l t at (Some x) s v took is some reads ends h =
    let value : value_of names x ≡ Some v = ap (returned_in names) (sym (out_return at (Some x))) ∙ ap (λ z. returned_in names (out-Stmt z)) (same_value (stmt.Return at (Some x)) s end rest h) ∙ some in
    let whole = some_expression (suc depth) mid j x (begins_expression mid.left) reads in
    let b = value_back names depth mid j x v value whole in
    let e = expect_takes (Mark_ mark.Semicolon) j t end ends in
    let last : end ≡ rest = same_rest (stmt.Return at (Some x)) s end rest h in
    record {
      l = l;
      first = b.first;
      more = b.more;
      end = e.l;
      parts = took.parts ∙ ap (λ ls. l ∷ ls) (b.parts ∙ ap (λ ls. b.first ∷ b.more ++ ls) (e.took.parts ∙ ap (λ (k : Input). e.l ∷ k.left) last));
      is = is;
      spells = b.spells;
      placed = b.placed ∙ ap (λ start. relative start b.first.at) took.start;
      is_end = form_of_mark names mark.Semicolon e.l e.fits_so;
      start = ap (λ (k : Input). k.start) (sym last) ∙ e.took.start ∙ b.start ∙ took.start;
    }

-- no other row gives a return
statement_row_back : (names : List (List ℕ)) (depth : ℕ) (nested : Parser Stmt) (r : Option StatementRow) (i rest : Input) (s : Stmt) (v : Value × Place) → returned_in names (out-Stmt s) ≡ Some v →
    statement_row (next_kind i.left) (second_kind i.left) ≡ r → statement_by (suc depth) nested r i ≡ Ok (s, rest) → ReturnBack names i rest v
unfolding value_if_any block_statement empty_statement if_statement while_statement do_statement for_statement foreach_statement switch_statement return_statement throw_statement break_statement continue_statement echo_statement expression_statement try_statement
statement_row_back names depth nested None i rest s v some at h = absurd cc
statement_row_back names depth nested (Some row.Return) i rest s v some at h =
    let d = suc depth in
    let s1 = steps (token i) _ s rest h in
    let s2 = steps (value_if_any d s1.mid) _ s rest s1.others in
    let s3 = steps (expression_if_any d (nests d) s1.mid) _ s2.value s2.mid s2.first in
    let s4 = steps (expect (Mark_ mark.Semicolon) s3.mid) _ s2.value s2.mid s3.others in
    let same : s3.value ≡ s2.value = same_value s3.value s2.value s4.mid s2.mid s4.others in
    let behind : s4.mid ≡ s2.mid = same_rest s3.value s2.value s4.mid s2.mid s4.others in
    let whole : ◌≡◌ {A = Outcome Stmt} (Ok (stmt.Return s1.value.at s3.value, s4.mid)) (Ok (s, rest)) =
    ap (λ x. Ok (stmt.Return s1.value.at x, s4.mid)) same ∙ ap (λ m. Ok (stmt.Return s1.value.at s2.value, m)) behind ∙ s2.others in
    let k = token_takes i s1.value s1.mid s1.first in
    let which : next_kind i.left ≡ Some (kind.Keyword keyword.Return) = return_row (next_kind i.left) (second_kind i.left) at in
    let f = form_of_kind names (kind.Keyword keyword.Return) k.l (ap next_kind (sym k.took.parts) ∙ which) (omega arith) in
    return_of names depth i s1.mid s3.mid s4.mid rest k.l s4.value s1.value.at s3.value s v k.took f some s3.first s4.first whole
statement_row_back names depth nested (Some row.Block) i rest s v some at h =
    let P = NoReturn names in let d = suc depth in
    absurd (statement_never names _ s rest v (always_then P (place i) _ (λ t j. always_then P (block d nested j) _ (λ x k. no_return names _ _ (stmt.rolls-Block t x) refl))) some h)
statement_row_back names depth nested (Some row.Empty) i rest s v some at h =
    let P = NoReturn names in
    absurd (statement_never names _ s rest v (always_then P (token i) _ (λ t j. no_return names _ _ (stmt.rolls-Empty t.at) refl)) some h)
statement_row_back names depth nested (Some row.If) i rest s v some at h =
    let P = NoReturn names in let d = suc depth in
    absurd (statement_never names _ s rest v (always_then P (token i) _ (λ t j. always_then P (bracketed d j) _ (λ x k. always_then P (nested k) _ (λ y m. always_then P (otherwise d nested m) _ (λ z n.
    no_return names _ _ (stmt.rolls-If t.at x y z) refl))))) some h)
statement_row_back names depth nested (Some row.While) i rest s v some at h =
    let P = NoReturn names in let d = suc depth in
    absurd (statement_never names _ s rest v (always_then P (token i) _ (λ t j. always_then P (bracketed d j) _ (λ x k. always_then P (nested k) _ (λ y m.
    no_return names _ _ (stmt.rolls-While t.at x y) refl)))) some h)
statement_row_back names depth nested (Some row.DoWhile) i rest s v some at h =
    let P = NoReturn names in let d = suc depth in
    absurd (statement_never names _ s rest v (always_then P (token i) _ (λ t j. always_then P (nested j) _ (λ x k. always_then P (do_condition d k) _ (λ z m.
    no_return names _ _ (stmt.rolls-DoWhile t.at x z) refl)))) some h)
statement_row_back names depth nested (Some row.For) i rest s v some at h =
    let P = NoReturn names in let d = suc depth in
    absurd (statement_never names _ s rest v (always_then P (token i) _ (λ t j. always_then P (for_head d j) _ (λ x k. always_then P (nested k) _ (λ c m.
    no_return names _ _ (stmt.rolls-For t.at x.start x.condition x.step c) refl)))) some h)
statement_row_back names depth nested (Some row.Foreach) i rest s v some at h =
    let P = NoReturn names in let d = suc depth in
    absurd (statement_never names _ s rest v (always_then P (token i) _ (λ t j. always_then P (foreach_subject d j) _ (λ y k. always_then P (variables_closed k) _ (λ w m. always_then P (nested m) _ (λ a n.
    no_return names _ _ (stmt.rolls-Foreach t.at y w.0 w.1 a) refl))))) some h)
statement_row_back names depth nested (Some row.Switch) i rest s v some at h =
    let P = NoReturn names in let d = suc depth in
    absurd (statement_never names _ s rest v (always_then P (token i) _ (λ t j. always_then P (bracketed d j) _ (λ x k. always_then P (case_block d nested k) _ (λ z m.
    no_return names _ _ (stmt.rolls-Switch t.at x z) refl)))) some h)
statement_row_back names depth nested (Some row.Throw) i rest s v some at h =
    let P = NoReturn names in let d = suc depth in
    absurd (statement_never names _ s rest v (always_then P (token i) _ (λ t j. always_then P (expression_at d j) _ (λ x k. always_then P (expect (Mark_ mark.Semicolon) k) _ (λ y m.
    no_return names _ _ (stmt.rolls-Throw t.at x) refl)))) some h)
statement_row_back names depth nested (Some row.Break) i rest s v some at h =
    let P = NoReturn names in
    absurd (statement_never names _ s rest v (always_then P (token i) _ (λ t j. always_then P (expect (Mark_ mark.Semicolon) j) _ (λ x k. no_return names _ _ (stmt.rolls-Break t.at) refl))) some h)
statement_row_back names depth nested (Some row.Continue) i rest s v some at h =
    let P = NoReturn names in
    absurd (statement_never names _ s rest v (always_then P (token i) _ (λ t j. always_then P (expect (Mark_ mark.Semicolon) j) _ (λ x k. no_return names _ _ (stmt.rolls-Continue t.at) refl))) some h)
statement_row_back names depth nested (Some row.Echo) i rest s v some at h =
    let P = NoReturn names in let d = suc depth in
    absurd (statement_never names _ s rest v (always_then P (token i) _ (λ t j. always_then P (expressions1 d (nests d) j) _ (λ x k. always_then P (expect (Mark_ mark.Semicolon) k) _ (λ y m.
    no_return names _ _ (stmt.rolls-Echo t.at x) refl)))) some h)
statement_row_back names depth nested (Some row.Try) i rest s v some at h =
    let P = NoReturn names in let d = suc depth in
    absurd (statement_never names _ s rest v (always_then P (token i) _ (λ t j. always_then P (block d nested j) _ (λ x k. always_then P (catches d nested k) _ (λ y m. always_then P (finally d nested m) _ (λ z n.
    no_return names _ _ (stmt.rolls-Try t.at x y z) refl))))) some h)
statement_row_back names depth nested (Some row.Expression) i rest s v some at h =
    let P = NoReturn names in let d = suc depth in
    absurd (statement_never names _ s rest v (always_then P (place i) _ (λ t j. always_then P (expression_at d j) _ (λ x k. always_then P (expect (Mark_ mark.Semicolon) k) _ (λ y m.
    no_return names _ _ (stmt.rolls-Expression t x) refl)))) some h)

-- the tokens from which a return of a value was read
pub statement_back : (names : List (List ℕ)) (depth : ℕ) (i rest : Input) (s : Stmt) (v : Value × Place) → returned_in names (out-Stmt s) ≡ Some v → statement (suc (suc depth)) i ≡ Ok (s, rest) → ReturnBack names i rest v
unfolding statement statement_read
statement_back names depth i rest s v some h = statement_row_back names depth (statement (suc depth)) (statement_row (next_kind i.left) (second_kind i.left)) i rest s v some refl h
