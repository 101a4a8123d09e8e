-- An expression that is a literal or a call without arguments was read from its own tokens alone.
use Rattle.std.proofs.Common.{◌≡◌, ℕ, zero, suc, Bool, true, false, cond, List, [], ◌∷◌, Option, Some, None, Ok, refl, sym, ap, ◌∙◌, subst}
use Rattle.hack_types.specs.declared.place.Place.{Place}
use Rattle.hack_lexer.specs.declared.kind.Mark.TheVariants as mark
use Rattle.hack_tree.specs.declared.expression.AssignOperator.{AssignOperator}
use Rattle.hack_tree.specs.declared.expression.Expr.{Expr}
use Rattle.hack_tree.specs.declared.expression.Expr.TheVariants as e
use Rattle.hack_tree.specs.declared.expression.Expr.TheViews.{roll-Expr, out-roll-Expr}
use Rattle.hack_tree.specs.declared.expression.Operand.{Operand}
use Rattle.hack_tree.specs.declared.expression.TypeTest.{TypeTest}
use Rattle.hack_tree.specs.declared.expression.Suffix.{Suffix}
use Rattle.hack_parse_expr.specs.declared.rows.Level.{Level}
use Rattle.hack_parse_expr.specs.declared.rows.Level.TheVariants as level_kind
use Rattle.hack_parse_expr.specs.declared.rows.UnaryRow.{UnaryRow}
use Rattle.hack_parse_expr.specs.declared.rows.UnaryRow.TheVariants as unary_kind
use Rattle.hack_parse_expr.specs.declared.rows.Nested.{Nested}
use Rattle.hack_parse_expr.specs.declared.rows.Nested.TheVariants as nested_kind
use Rattle.hack_parse_expr.specs.Input.{Input}
use Rattle.hack_parse_expr.specs.Kinds.{next_kind, second_kind}
use Rattle.hack_parse_expr.specs.Decides.{assign_operator, unary_row}
use Rattle.hack_parse_expr.specs.Symbols.{Mark_}
use Rattle.hack_parse_expr.specs.Rows.{sees, chain, tested as tested_tree, postfix as postfix_tree}
use Rattle.hack_parse_expr.specs.Parsers.{Outcome, Parser, and_then, token, expect, place}
use Rattle.hack_parse_expr.specs.Expressions.{begins_operated, expression_if_any, primary, suffixes, suffix, postfix, type_tests, type_test, tested, powers, operands, unary, operated_by, operated, further, operations, at_level, product, sum, relation, equality, bit_and, bit_xor, bit_or, logical_and, logical_or, coalesce, branches, conditional, assigned_by, whole, nests}
use Rattle.hack_first.specs.Functions.{Value}
use Rattle.hack_first.specs.FirstTrees.{ExprLayer}
use Rattle.hack_first.proofs.NamedTrees.{value_in, value_of}
use Rattle.hack_first.proofs.Gives.{steps, same_value, same_rest, Always, always_then, always_is, place_takes, Each, many_each}

-- ---- what is no value

-- the tree is no literal of a first unit and no call without arguments
abbrev pub NoValue : List (List ℕ) → Expr → Type 0
NoValue names x = value_of names x ≡ None

-- a tree whose level is no literal and no call
pub none_of : (names : List (List ℕ)) (layer : ExprLayer) (x : Expr) → roll-Expr layer ≡ x → value_in names layer ≡ None → NoValue names x
none_of names layer x rolls none = ap (value_of names) (sym rolls) ∙ ap (value_in names) (out-roll-Expr layer) ∙ none

-- a value is not no value
pub clash : (names : List (List ℕ)) (x : Expr) (v : Value × Place) → value_of names x ≡ Some v → NoValue names x → ⊥
clash names x v some none = let e : ◌≡◌ {A = Option (Value × Place)} (Some v) None = sym some ∙ none in cc

-- what a parser that gives no value gives is no value
pub never : (names : List (List ℕ)) (o : Outcome Expr) (x : Expr) (rest : Input) (v : Value × Place) → Always (NoValue names) o → value_of names x ≡ Some v → o ≡ Ok (x, rest) → ⊥
never names o x rest v h value e = clash names x v value (always_is (NoValue names) o x rest h e)

-- ---- one level after another

-- what the first parser reads as a value the second reads
abbrev pub Through : List (List ℕ) → Parser Expr → Parser Expr → Type 0
Through names p q = (i rest : Input) (x : Expr) (v : Value × Place) → value_of names x ≡ Some v → p i ≡ Ok (x, rest) → q i ≡ Ok (x, rest)

-- an operand with nothing behind it
record IsAlone (first x : Expr) (mid rest : Input) : Type 0 where
  same : first ≡ x
  here : mid ≡ rest

-- a chain that is a value has one operand
chain_alone : (names : List (List ℕ)) (p : Parser Operand) (at : Place) (first x : Expr) (others : List Operand) (i mid rest : Input) (v : Value × Place) → value_of names x ≡ Some v → Each p i others mid →
    ◌≡◌ {A = Outcome Expr} (Ok (chain at first others, mid)) (Ok (x, rest)) → IsAlone first x i rest
chain_alone names p at first x [] i mid rest v value each e = record { same = same_value first x mid rest e; here = each ∙ same_rest first x mid rest e }
chain_alone names p at first x (o ∷ others) i mid rest v value each h =
    absurd (clash names x v value (subst (NoValue names) (same_value (e.Chain at first (o ∷ others)) x mid rest h) (none_of names _ _ (e.rolls-Chain at first (o ∷ others)) refl)))

-- an operand with tests that is a value has no tests
tests_alone : (names : List (List ℕ)) (p : Parser TypeTest) (at : Place) (first x : Expr) (others : List TypeTest) (i mid rest : Input) (v : Value × Place) → value_of names x ≡ Some v → Each p i others mid →
    ◌≡◌ {A = Outcome Expr} (Ok (tested_tree at first others, mid)) (Ok (x, rest)) → IsAlone first x i rest
tests_alone names p at first x [] i mid rest v value each e = record { same = same_value first x mid rest e; here = each ∙ same_rest first x mid rest e }
tests_alone names p at first x (o ∷ others) i mid rest v value each h =
    absurd (clash names x v value (subst (NoValue names) (same_value (e.Test at first (o ∷ others)) x mid rest h) (none_of names _ _ (e.rolls-Test at first (o ∷ others)) refl)))

-- an operand with suffixes that is a value has no suffixes
suffixes_alone : (names : List (List ℕ)) (p : Parser Suffix) (at : Place) (first x : Expr) (others : List Suffix) (i mid rest : Input) (v : Value × Place) → value_of names x ≡ Some v → Each p i others mid →
    ◌≡◌ {A = Outcome Expr} (Ok (postfix_tree at first others, mid)) (Ok (x, rest)) → IsAlone first x i rest
suffixes_alone names p at first x [] i mid rest v value each e = record { same = same_value first x mid rest e; here = each ∙ same_rest first x mid rest e }
suffixes_alone names p at first x (o ∷ others) i mid rest v value each h =
    absurd (clash names x v value (subst (NoValue names) (same_value (e.Postfix at first (o ∷ others)) x mid rest h) (none_of names _ _ (e.rolls-Postfix at first (o ∷ others)) refl)))

-- the first of some parsers, from where the place is taken
at_first : {A : Type 0} (p : Parser A) (i mid end : Input) (x first : A) (rest : Input) → mid ≡ i → p mid ≡ Ok (first, end) → first ≡ x → end ≡ rest → p i ≡ Ok (x, rest)
at_first p i mid end x first rest here reads same there = ap p (sym here) ∙ reads ∙ (λ k. Ok (same k, there k))

-- a value of a level is one of its operands
level_through : (names : List (List ℕ)) (depth : ℕ) (nested : Nested → Parser Expr) (l : Level) (operand : Parser Expr) → Through names (at_level depth nested l operand) operand
unfolding at_level operations
level_through names depth nested l operand i rest x v value h =
    let s1 = steps (place i) _ x rest h in
    let s2 = steps (operand s1.mid) _ x rest s1.others in
    let s3 = steps (operations depth nested l operand s2.mid) _ x rest s2.others in
    let each = many_each _ (further depth nested l operand) s3.value s2.mid s3.mid s3.first in
    let alone = chain_alone names (further depth nested l operand) s1.value s2.value x s3.value s2.mid s3.mid rest v value each s3.others in
    at_first operand i s1.mid s2.mid x s2.value rest (place_takes i s1.value s1.mid s1.first) s2.first alone.same alone.here

-- a row with an operator before its operand is no value
operated_row_never : (names : List (List ℕ)) (depth : ℕ) (nested : Nested → Parser Expr) (row : Option UnaryRow) (i : Input) → Always (NoValue names) (operated_by depth nested row i)
operated_row_never names depth nested None i = tt
operated_row_never names depth nested (Some (unary_kind.Prefix o)) i =
    let P = NoValue names in
    always_then P (token i) _ (λ t j. always_then P (unary depth nested j) _ (λ x k. none_of names _ _ (e.rolls-Prefix t.at o x) refl))
operated_row_never names depth nested (Some (unary_kind.Cast to)) i =
    let P = NoValue names in
    always_then P (token i) _ (λ t j. always_then P (token j) _ (λ second k. always_then P (expect (Mark_ mark.CloseParen) k) _ (λ third m.
    always_then P (unary depth nested m) _ (λ x n. none_of names _ _ (e.rolls-Cast t.at to x) refl))))

-- what begins with an operator or a cast is no value
operated_never : (names : List (List ℕ)) (depth : ℕ) (i : Input) → Always (NoValue names) (nests depth nested_kind.Operated i)
unfolding nests operated
operated_never names zero i = tt
operated_never names (suc depth) i = operated_row_never names depth (nests depth) (unary_row (next_kind i.left) (second_kind i.left)) i

-- a conditional expression is no value
branches_never : (names : List (List ℕ)) (depth : ℕ) (nested : Nested → Parser Expr) (at : Place) (condition : Expr) (i : Input) → Always (NoValue names) (branches depth nested at condition i)
unfolding branches
branches_never names depth nested at condition i =
    let P = NoValue names in
    always_then P (token i) _ (λ t j. always_then P (expression_if_any depth nested j) _ (λ middle k. always_then P (expect (Mark_ mark.Colon) k) _ (λ colon m.
    always_then P (coalesce depth nested m) _ (λ other n. none_of names _ _ (e.rolls-Conditional at condition middle other) refl))))

-- a value has no `?` behind it
conditional_through : (names : List (List ℕ)) (depth : ℕ) (nested : Nested → Parser Expr) → Through names (conditional depth nested) (coalesce depth nested)
unfolding conditional
conditional_through names depth nested i rest x v value h =
    let s1 = steps (place i) _ x rest h in
    let s2 = steps (coalesce depth nested s1.mid) _ x rest s1.others in
    by s1.value s1.mid s2.value s2.mid (place_takes i s1.value s1.mid s1.first) s2.first (sees (Mark_ mark.Question) s2.mid.left) s2.others
  where
    by : (at : Place) (j : Input) (first : Expr) (k : Input) → j ≡ i → coalesce depth nested j ≡ Ok (first, k) → (b : Bool) → cond b (branches depth nested at first k) (Ok (first, k)) ≡ Ok (x, rest) → coalesce depth nested i ≡ Ok (x, rest)
    by at j first k here reads true h = absurd (never names _ x rest v (branches_never names depth nested at first k) value h)
    by at j first k here reads false h = at_first (coalesce depth nested) i j k x first rest here reads (same_value first x k rest h) (same_rest first x k rest h)

-- a value has no assignment behind it
whole_through : (names : List (List ℕ)) (depth : ℕ) (nested : Nested → Parser Expr) → Through names (whole depth nested) (conditional depth nested)
unfolding whole
whole_through names depth nested i rest x v value h =
    let s1 = steps (place i) _ x rest h in
    let s2 = steps (conditional depth nested s1.mid) _ x rest s1.others in
    by s1.value s1.mid s2.value s2.mid (place_takes i s1.value s1.mid s1.first) s2.first (assign_operator (next_kind s2.mid.left)) s2.others
  where
    by : (at : Place) (j : Input) (first : Expr) (k : Input) → j ≡ i → conditional depth nested j ≡ Ok (first, k) → (o : Option AssignOperator) → assigned_by depth nested at first o k ≡ Ok (x, rest) → conditional depth nested i ≡ Ok (x, rest)
    by at j first k here reads None h = at_first (conditional depth nested) i j k x first rest here reads (same_value first x k rest h) (same_rest first x k rest h)
    by at j first k here reads (Some o) h =
        let P = NoValue names in
        absurd (never names _ x rest v (always_then P (token k) _ (λ t m. always_then P (nested nested_kind.Expression m) _ (λ z n. none_of names _ _ (e.rolls-Assign at first o z) refl))) value h)

-- a value has no operator before it
unary_through : (names : List (List ℕ)) (depth : ℕ) → Through names (unary depth (nests depth)) (operands depth (nests depth))
unfolding unary
unary_through names depth i rest x v value h = by (begins_operated i.left) h
  where
    by : (b : Bool) → cond b (nests depth nested_kind.Operated i) (operands depth (nests depth) i) ≡ Ok (x, rest) → operands depth (nests depth) i ≡ Ok (x, rest)
    by true h = absurd (never names _ x rest v (operated_never names depth i) value h)
    by false h = h

-- a value has no `**` behind it
operands_through : (names : List (List ℕ)) (depth : ℕ) (nested : Nested → Parser Expr) → Through names (operands depth nested) (tested depth nested)
unfolding operands
operands_through names depth nested i rest x v value h =
    let s1 = steps (place i) _ x rest h in
    let s2 = steps (tested depth nested s1.mid) _ x rest s1.others in
    by s1.value s1.mid s2.value s2.mid (place_takes i s1.value s1.mid s1.first) s2.first (sees (Mark_ mark.Power) s2.mid.left) s2.others
  where
    by : (at : Place) (j : Input) (first : Expr) (k : Input) → j ≡ i → tested depth nested j ≡ Ok (first, k) → (b : Bool) → cond b (and_then (powers depth nested first k) (λ xs m. Ok (e.Power at xs, m))) (Ok (first, k)) ≡ Ok (x, rest) → tested depth nested i ≡ Ok (x, rest)
    by at j first k here reads true h =
        let P = NoValue names in
        absurd (never names _ x rest v (always_then P (powers depth nested first k) _ (λ xs m. none_of names _ _ (e.rolls-Power at xs) refl)) value h)
    by at j first k here reads false h = at_first (tested depth nested) i j k x first rest here reads (same_value first x k rest h) (same_rest first x k rest h)

-- a value has no test behind it
tested_through : (names : List (List ℕ)) (depth : ℕ) (nested : Nested → Parser Expr) → Through names (tested depth nested) (postfix depth nested)
unfolding tested type_tests
tested_through names depth nested i rest x v value h =
    let s1 = steps (place i) _ x rest h in
    let s2 = steps (postfix depth nested s1.mid) _ x rest s1.others in
    let s3 = steps (type_tests depth nested s2.mid) _ x rest s2.others in
    let each = many_each _ (type_test depth nested) s3.value s2.mid s3.mid s3.first in
    let alone = tests_alone names (type_test depth nested) s1.value s2.value x s3.value s2.mid s3.mid rest v value each s3.others in
    at_first (postfix depth nested) i s1.mid s2.mid x s2.value rest (place_takes i s1.value s1.mid s1.first) s2.first alone.same alone.here

-- a value has no suffix behind it
postfix_through : (names : List (List ℕ)) (depth : ℕ) (nested : Nested → Parser Expr) → Through names (postfix depth nested) (primary depth nested)
unfolding postfix suffixes
postfix_through names depth nested i rest x v value h =
    let s1 = steps (place i) _ x rest h in
    let s2 = steps (primary depth nested s1.mid) _ x rest s1.others in
    let s3 = steps (suffixes depth nested s2.mid) _ x rest s2.others in
    let each = many_each _ (suffix depth nested) s3.value s2.mid s3.mid s3.first in
    let alone = suffixes_alone names (suffix depth nested) s1.value s2.value x s3.value s2.mid s3.mid rest v value each s3.others in
    at_first (primary depth nested) i s1.mid s2.mid x s2.value rest (place_takes i s1.value s1.mid s1.first) s2.first alone.same alone.here

-- through all the levels
pub expression_through : (names : List (List ℕ)) (depth : ℕ) → Through names (nests (suc depth) nested_kind.Expression) (primary depth (nests depth))
unfolding nests product sum relation equality bit_and bit_xor bit_or logical_and logical_or coalesce
expression_through names depth i rest x v value h =
    let N = nests depth in
    let h1 = whole_through names depth N i rest x v value h in
    let h2 = conditional_through names depth N i rest x v value h1 in
    let h3 = level_through names depth N level_kind.Coalesce (logical_or depth N) i rest x v value h2 in
    let h4 = level_through names depth N level_kind.Or (logical_and depth N) i rest x v value h3 in
    let h5 = level_through names depth N level_kind.And (bit_or depth N) i rest x v value h4 in
    let h6 = level_through names depth N level_kind.BitOr (bit_xor depth N) i rest x v value h5 in
    let h7 = level_through names depth N level_kind.BitXor (bit_and depth N) i rest x v value h6 in
    let h8 = level_through names depth N level_kind.BitAnd (equality depth N) i rest x v value h7 in
    let h9 = level_through names depth N level_kind.Equality (relation depth N) i rest x v value h8 in
    let h10 = level_through names depth N level_kind.Relation (sum depth N) i rest x v value h9 in
    let h11 = level_through names depth N level_kind.Sum (product depth N) i rest x v value h10 in
    let h12 = level_through names depth N level_kind.Product (unary depth N) i rest x v value h11 in
    let h13 = unary_through names depth i rest x v value h12 in
    let h14 = operands_through names depth N i rest x v value h13 in
    let h15 = tested_through names depth N i rest x v value h14 in
    postfix_through names depth N i rest x v value h15
