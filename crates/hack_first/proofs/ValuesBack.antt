-- The tokens from which a literal or a call without arguments was read.
use Rattle.std.proofs.Common.{◌≡◌, ℕ, suc, Bool, true, false, cond, inl, inr, List, [], ◌∷◌, ◌++◌, map, Option, Some, None, Ok, refl, sym, ap, ◌∙◌, subst, arith}
use Rattle.hack_types.specs.declared.place.Place.{Place}
use Rattle.hack_lexer.specs.declared.kind.TokenKind.{TokenKind}
use Rattle.hack_lexer.specs.declared.kind.TokenKind.TheVariants as kind
use Rattle.hack_lexer.specs.declared.kind.Mark.TheVariants as mark
use Rattle.hack_lexer.specs.Kinds.{sort_of_kind}
use Rattle.hack_tree.specs.declared.expression.ClassReference.TheVariants as reference
use Rattle.hack_tree.specs.declared.expression.Literal.{Literal}
use Rattle.hack_tree.specs.declared.expression.Literal.TheVariants as literal
use Rattle.hack_tree.specs.declared.expression.Expr.{Expr}
use Rattle.hack_tree.specs.declared.expression.Expr.TheVariants as e
use Rattle.hack_parse_expr.specs.declared.lexeme.Lexeme.{Lexeme}
use Rattle.hack_parse_expr.specs.declared.rows.PrimaryRow.{PrimaryRow}
use Rattle.hack_parse_expr.specs.declared.rows.PrimaryRow.TheVariants as row
use Rattle.hack_parse_expr.specs.declared.rows.Nested.{Nested}
use Rattle.hack_parse_expr.specs.declared.rows.Nested.TheVariants as nested_kind
use Rattle.hack_parse_expr.specs.Input.{Input, relative}
use Rattle.hack_parse_expr.specs.Kinds.{next_kind}
use Rattle.hack_parse_expr.specs.Decides.{primary_row}
use Rattle.hack_parse_expr.specs.Symbols.{Mark_}
use Rattle.hack_parse_expr.specs.Rows.{sees, begins_expression, reference_of}
use Rattle.hack_parse_expr.specs.Parsers.{Outcome, Parser, and_then, token, expect}
use Rattle.hack_parse_expr.specs.Expressions.{expressions, entries, field_values, arguments, scoped_member, behind_name, name, scoped_word, new_class, new, container, dict, shape, bracketed, literal_read, key_text, variable, this, primary_by, primary, nests}
use Rattle.hack_first.specs.declared.unit.Primitive.TheVariants.{Int, Str}
use Rattle.hack_first.specs.Functions.{Value, OfType, OfCall, named}
use Rattle.hack_first.specs.FirstUnits.{IsSpelled}
use Rattle.hack_first.specs.FirstTrees.{literal_of, at_place}
use Rattle.hack_first.proofs.NamedTrees.{told, value_in, value_of}
use Rattle.hack_first.proofs.Layers.{out_literal, out_call}
use Rattle.hack_first.proofs.Gives.{steps, same_value, same_rest, always_then, Took, token_takes}
use Rattle.hack_first.proofs.RowsBack.{form, form_of_kind, form_of_name, int_row, text_row, key_text_row, name_row}
use Rattle.hack_first.proofs.BracketsBack.{TookBrackets, no_items}
use Rattle.hack_first.proofs.ExpressionsBack.{NoValue, none_of, clash, never, expression_through}

-- the tokens of a value
pub record ValueBack (names : List (List ℕ)) (i rest : Input) (v : Value × Place) : Type 0 where
  pub first : Lexeme
  pub more : List Lexeme
  pub parts : i.left ≡ first ∷ more ++ rest.left
  pub spells : IsSpelled v.0 (map (form names) (first ∷ more))
  pub placed : v.1 ≡ relative i.start first.at
  pub start : rest.start ≡ i.start

-- a call without arguments has brackets with nothing in them
no_arguments : (names : List (List ℕ)) (depth : ℕ) (nested : Nested → Parser Expr) (i rest : Input) → arguments depth nested i ≡ Ok ([], rest) → TookBrackets names i rest
unfolding arguments expressions
no_arguments names depth nested i rest h = no_items names begins_expression (nested nested_kind.Expression) i rest h

-- a value of one token
one_back : (names : List (List ℕ)) (i rest : Input) (v : Value × Place) (l : Lexeme) (value : Value) → Took i l rest → IsSpelled value (form names l ∷ []) → ◌≡◌ {A = Option (Value × Place)} (Some (value, relative i.start l.at)) (Some v) →
    ValueBack names i rest v
one_back names i rest v l value took spells same =
    let is : (value, relative i.start l.at) ≡ v = cc in
    record {
      first = l;
      more = [];
      parts = took.parts;
      spells = subst (λ w. IsSpelled w (form names l ∷ [])) (ap (λ (p : Value × Place). p.0) is) spells;
      placed = ap (λ (p : Value × Place). p.1) (sym is);
      start = took.start;
    }

-- a token that is told as a literal
record LiteralBack (names : List (List ℕ)) (which : Lexeme → Literal) (i rest : Input) (v : Value × Place) : Type 0 where
  l : Lexeme
  t : Lexeme
  took : Took i l rest
  gives : told names (at_place (relative i.start l.at) (literal_of (which t))) ≡ Some v

-- a literal was read from one token
literal_back : (names : List (List ℕ)) (which : Lexeme → Literal) (i rest : Input) (x : Expr) (v : Value × Place) → value_of names x ≡ Some v →
    and_then (token i) (λ t j. Ok (e.Literal t.at (which t), j)) ≡ Ok (x, rest) → LiteralBack names which i rest v
literal_back names which i rest x v value h =
    let s = steps (token i) _ x rest h in
    let k = token_takes i s.value s.mid s.first in
    let end : s.mid ≡ rest = same_rest (e.Literal s.value.at (which s.value)) x s.mid rest s.others in
    let is : e.Literal s.value.at (which s.value) ≡ x = same_value (e.Literal s.value.at (which s.value)) x s.mid rest s.others in
    let at : s.value.at ≡ relative i.start k.l.at = ap (λ (t : Lexeme). t.at) k.is in
    let gives : told names (at_place s.value.at (literal_of (which s.value))) ≡ Some v = ap (value_in names) (sym (out_literal s.value.at (which s.value))) ∙ ap (value_of names) is ∙ value in
    record { l = k.l; t = s.value; took = subst (Took i k.l) end k.took; gives = ap (λ p. told names (at_place p (literal_of (which s.value)))) (sym at) ∙ gives }

-- the kind of the token that was taken
kind_taken : (i rest : Input) (l : Lexeme) (k : TokenKind) → Took i l rest → next_kind i.left ≡ Some k → ◌≡◌ {A = Option TokenKind} (Some l.kind) (Some k)
kind_taken i rest l k took e = ap next_kind (sym took.parts) ∙ e

-- a call without arguments was read from a name and brackets
call_of : (names : List (List ℕ)) (depth : ℕ) (nested : Nested → Parser Expr) (i mid j rest : Input) (l : Lexeme) (x : Expr) (v : Value × Place) (found : List Expr) → Took i l mid → sort_of_kind l.kind ≡ 0 → value_of names x ≡ Some v →
    arguments depth nested mid ≡ Ok (found, j) → ◌≡◌ {A = Outcome Expr} (Ok (e.Call (relative i.start l.at) l.name found, j)) (Ok (x, rest)) → ValueBack names i rest v
call_of names depth nested i mid j rest l x v (y ∷ found) took is_name value reads h =
    absurd (clash names x v value (subst (NoValue names) (same_value (e.Call (relative i.start l.at) l.name (y ∷ found)) x j rest h) (ap (value_in names) (out_call (relative i.start l.at) l.name (y ∷ found)))))
call_of names depth nested i mid j rest l x v [] took is_name value reads h =
    let b = no_arguments names depth nested mid j reads in
    let end : j ≡ rest = same_rest (e.Call (relative i.start l.at) l.name []) x j rest h in
    let is : e.Call (relative i.start l.at) l.name [] ≡ x = same_value (e.Call (relative i.start l.at) l.name []) x j rest h in
    let gives : ◌≡◌ {A = Option (Value × Place)} (Some (OfCall (named names l.name), relative i.start l.at)) (Some v) = ap (value_in names) (sym (out_call (relative i.start l.at) l.name [])) ∙ ap (value_of names) is ∙ value in
    let same : (OfCall (named names l.name), relative i.start l.at) ≡ v = cc in
    let spells : IsSpelled (OfCall (named names l.name)) (form names l ∷ form names b.opens ∷ form names b.closes ∷ []) = λ k. form_of_name names l is_name k ∷ b.is_open k ∷ b.is_close k ∷ [] in
    record {
      first = l;
      more = b.opens ∷ b.closes ∷ [];
      parts = took.parts ∙ ap (λ ls. l ∷ ls) (b.parts ∙ ap (λ (m : Input). b.opens ∷ b.closes ∷ m.left) end);
      spells = subst (λ w. IsSpelled w (form names l ∷ form names b.opens ∷ form names b.closes ∷ [])) (ap (λ (p : Value × Place). p.0) same) spells;
      placed = ap (λ (p : Value × Place). p.1) (sym same);
      start = ap (λ (m : Input). m.start) (sym end) ∙ b.start ∙ took.start;
    }

-- behind a name
named_back : (names : List (List ℕ)) (depth : ℕ) (nested : Nested → Parser Expr) (i mid rest : Input) (l : Lexeme) (x : Expr) (v : Value × Place) → Took i l mid → sort_of_kind l.kind ≡ 0 → value_of names x ≡ Some v →
    behind_name depth nested (record l { at = relative i.start l.at }) mid ≡ Ok (x, rest) → ValueBack names i rest v
unfolding behind_name
named_back names depth nested i mid rest l x v took is_name value h = by (sees (Mark_ mark.OpenParen) mid.left) (sees (Mark_ mark.ColonColon) mid.left) h
  where
    by : (b c : Bool) → cond b (and_then (arguments depth nested mid) (λ found j. Ok (e.Call (relative i.start l.at) l.name found, j)))
        (cond c (and_then (token mid) (λ t j. and_then (scoped_member depth nested j) (λ m k. Ok (e.Scoped (relative i.start l.at) (reference.Named l.name) m, k)))) (Ok (e.Constant (relative i.start l.at) l.name, mid))) ≡ Ok (x, rest) →
        ValueBack names i rest v
    by true c h =
        let s = steps (arguments depth nested mid) _ x rest h in
        call_of names depth nested i mid s.mid rest l x v s.value took is_name value s.first s.others
    by false true h =
        let P = NoValue names in
        absurd (never names _ x rest v (always_then P (token mid) _ (λ t j. always_then P (scoped_member depth nested j) _ (λ m k. none_of names _ _ (e.rolls-Scoped (relative i.start l.at) (reference.Named l.name) m) refl))) value h)
    by false false h = absurd (never names _ x rest v (none_of names _ _ (e.rolls-Constant (relative i.start l.at) l.name) refl) value h)

-- a literal of another sort is no value
literal_never : (names : List (List ℕ)) (which : Literal) (i rest : Input) (x : Expr) (v : Value × Place) → literal_of which ≡ None → value_of names x ≡ Some v → literal_read which i ≡ Ok (x, rest) → ValueBack names i rest v
unfolding literal_read
literal_never names which i rest x v none value h =
    let b = literal_back names (λ t. which) i rest x v value h in
    absurd (let no : told names (at_place (relative i.start b.l.at) (literal_of which)) ≡ None = ap (λ l. told names (at_place (relative i.start b.l.at) l)) none in
    let wrong : ◌≡◌ {A = Option (Value × Place)} (Some v) None = sym b.gives ∙ no in cc)

-- no other row gives a value
row_back : (names : List (List ℕ)) (depth : ℕ) (nested : Nested → Parser Expr) (r : Option PrimaryRow) (i rest : Input) (x : Expr) (v : Value × Place) → value_of names x ≡ Some v → primary_row (next_kind i.left) ≡ r →
    primary_by depth nested r i ≡ Ok (x, rest) → ValueBack names i rest v
unfolding bracketed literal_read key_text variable this name scoped_word new container dict shape
row_back names depth nested None i rest x v value at h = absurd cc
row_back names depth nested (Some row.Int) i rest x v value at h =
    let b = literal_back names (λ t. literal.Int) i rest x v value h in
    let f = form_of_kind names kind.Int b.l (kind_taken i rest b.l kind.Int b.took (int_row _ at)) (omega arith) in
    one_back names i rest v b.l (OfType Int) b.took ([], ap (λ w. w ∷ []) f) b.gives
row_back names depth nested (Some row.Text) i rest x v value at h =
    let b = literal_back names (λ t. literal.Text) i rest x v value h in
    let f = form_of_kind names kind.Text b.l (kind_taken i rest b.l kind.Text b.took (text_row _ at)) (omega arith) in
    one_back names i rest v b.l (OfType Str) b.took (inl ([], ap (λ w. w ∷ []) f)) b.gives
row_back names depth nested (Some row.KeyText) i rest x v value at h =
    let b = literal_back names (λ t. literal.KeyText t.name) i rest x v value h in
    let f = form_of_kind names kind.KeyText b.l (kind_taken i rest b.l kind.KeyText b.took (key_text_row _ at)) (omega arith) in
    one_back names i rest v b.l (OfType Str) b.took (inr ([], ap (λ w. w ∷ []) f)) b.gives
row_back names depth nested (Some row.Name) i rest x v value at h =
    let s = steps (token i) _ x rest h in
    let k = token_takes i s.value s.mid s.first in
    let kind_so : ◌≡◌ {A = Option TokenKind} (Some k.l.kind) (Some kind.Name) = kind_taken i s.mid k.l kind.Name k.took (name_row _ at) in
    let same : k.l.kind ≡ kind.Name = cc in
    named_back names depth nested i s.mid rest k.l x v k.took (ap sort_of_kind same) value (ap (λ t. behind_name depth nested t s.mid) (sym k.is) ∙ s.others)
row_back names depth nested (Some row.Float) i rest x v value at h = literal_never names literal.Float i rest x v refl value h
row_back names depth nested (Some row.True) i rest x v value at h = literal_never names literal.True i rest x v refl value h
row_back names depth nested (Some row.False) i rest x v value at h = literal_never names literal.False i rest x v refl value h
row_back names depth nested (Some row.Null) i rest x v value at h = literal_never names literal.Null i rest x v refl value h
row_back names depth nested (Some row.Bracket) i rest x v value at h =
    let P = NoValue names in
    absurd (never names _ x rest v (always_then P (token i) _ (λ t j. always_then P (nested nested_kind.Expression j) _ (λ y k. always_then P (expect (Mark_ mark.CloseParen) k) _ (λ z m.
    none_of names _ _ (e.rolls-Bracketed t.at y) refl)))) value h)
row_back names depth nested (Some row.Variable) i rest x v value at h =
    let P = NoValue names in
    absurd (never names _ x rest v (always_then P (token i) _ (λ t j. none_of names _ _ (e.rolls-Variable t.at t.name) refl)) value h)
row_back names depth nested (Some row.This) i rest x v value at h =
    let P = NoValue names in
    absurd (never names _ x rest v (always_then P (token i) _ (λ t j. none_of names _ _ (e.rolls-This t.at) refl)) value h)
row_back names depth nested (Some (row.ClassWord word)) i rest x v value at h =
    let P = NoValue names in
    absurd (never names _ x rest v (always_then P (token i) _ (λ t j. always_then P (expect (Mark_ mark.ColonColon) j) _ (λ y k. always_then P (scoped_member depth nested k) _ (λ z m.
    none_of names _ _ (e.rolls-Scoped t.at (reference_of word) z) refl)))) value h)
row_back names depth nested (Some row.New) i rest x v value at h =
    let P = NoValue names in
    absurd (never names _ x rest v (always_then P (token i) _ (λ t j. always_then P (new_class depth nested j) _ (λ c k. always_then P (arguments depth nested k) _ (λ z m.
    none_of names _ _ (e.rolls-New t.at c.0 c.1 c.2 z) refl)))) value h)
row_back names depth nested (Some (row.Container c)) i rest x v value at h =
    let P = NoValue names in
    absurd (never names _ x rest v (always_then P (token i) _ (λ t j. always_then P (expect (Mark_ mark.OpenBracket) j) _ (λ y k. always_then P (expressions depth nested k) _ (λ z m. always_then P (expect (Mark_ mark.CloseBracket) m) _ (λ w n.
    none_of names _ _ (e.rolls-Container t.at c z) refl))))) value h)
row_back names depth nested (Some row.Dict) i rest x v value at h =
    let P = NoValue names in
    absurd (never names _ x rest v (always_then P (token i) _ (λ t j. always_then P (expect (Mark_ mark.OpenBracket) j) _ (λ y k. always_then P (entries depth nested k) _ (λ z m. always_then P (expect (Mark_ mark.CloseBracket) m) _ (λ w n.
    none_of names _ _ (e.rolls-Dict t.at z) refl))))) value h)
row_back names depth nested (Some row.Shape) i rest x v value at h =
    let P = NoValue names in
    absurd (never names _ x rest v (always_then P (token i) _ (λ t j. always_then P (expect (Mark_ mark.OpenParen) j) _ (λ y k. always_then P (field_values depth nested k) _ (λ z m. always_then P (expect (Mark_ mark.CloseParen) m) _ (λ w n.
    none_of names _ _ (e.rolls-Shape t.at z) refl))))) value h)

-- the tokens from which a value was read
pub value_back : (names : List (List ℕ)) (depth : ℕ) (i rest : Input) (x : Expr) (v : Value × Place) → value_of names x ≡ Some v → nests (suc depth) nested_kind.Expression i ≡ Ok (x, rest) → ValueBack names i rest v
unfolding primary
value_back names depth i rest x v value h =
    row_back names depth (nests depth) (primary_row (next_kind i.left)) i rest x v value refl (expression_through names depth i rest x v value h)
