-- The parsers of operators and their operands follow the grammar's runs, where the parsers of what counts as nesting do.
use Rattle.std.proofs.Common.{◌≡◌, ℕ, zero, suc, ◌+◌, ◌≤◌, ◌<◌, Bool, true, false, List, [], ◌∷◌, ◌++◌, length, Option, None, Some, Ok, refl, ap, ◌∙◌, sym, subst, arith, if◌then◌else◌, append_assoc}
use Rattle.hack_types.specs.declared.place.Place.{Place}
use Rattle.hack_lexer.specs.declared.kind.Mark.TheVariants as mark
use Rattle.hack_tree.specs.declared.expression.AssignOperator.{AssignOperator}
use Rattle.hack_tree.specs.declared.expression.BinaryOperator.{BinaryOperator}
use Rattle.hack_tree.specs.declared.expression.Expr.{Expr}
use Rattle.hack_tree.specs.declared.expression.Expr.TheVariants as e
use Rattle.hack_tree.specs.declared.expression.Operand.{roll-Operand}
use Rattle.hack_parse_expr.specs.declared.lexeme.Lexeme.{Lexeme}
use Rattle.hack_parse_expr.specs.declared.rows.Level.{Level}
use Rattle.hack_parse_expr.specs.declared.rows.Level.TheVariants as level
use Rattle.hack_parse_expr.specs.declared.rows.UnaryRow.{UnaryRow}
use Rattle.hack_parse_expr.specs.declared.rows.UnaryRow.TheVariants as unary_kind
use Rattle.hack_parse_expr.specs.declared.rows.Nested.{Nested}
use Rattle.hack_parse_expr.specs.declared.rows.Nested.TheVariants as nested_kind
use Rattle.hack_parse_expr.specs.Input.{Input}
use Rattle.hack_parse_expr.specs.Decides.{is_there, assign_operator, operator, unary_row}
use Rattle.hack_parse_expr.specs.Kinds.{next_kind, second_kind}
use Rattle.hack_parse_expr.specs.Symbols.{Mark_, Decided, Symbol, one, here, optional, many, rule, Expression, Assigned, Conditional, Branches, AtLevel, Tighter, Further, Unary, Power, Powers, Tested, Awaits}
use Rattle.hack_parse_expr.specs.Rows.{sees, begins, or_empty, reads, power, powers_rows, unary_rows, conditional, assigned, assigned_row, further_row}
use Rattle.hack_parse_expr.specs.Run.{by_row, nesting}
use Rattle.hack_parse_expr.specs.Parsers.{Parser, ◌>>=◌, ◌>>◌, ◌<$>◌, pure, token, after, place}
use Rattle.hack_parse_expr.specs.Expressions as parsers
use Rattle.hack_parse_expr.proofs.Runs.{reached}
use Rattle.hack_parse_expr.proofs.Follows.{state, FollowsOne, Leads, stepping, binding, Follows, RowFollows, Part, part, token_part, expect_part, place_part, first_follows, plan_follows, rule_follows, row_by, row_reads, row_nests, no_row, token_follows, place_follows}
use Rattle.hack_parse_expr.proofs.ListsFollow.{choosing, ended, empty, after_seen, optional_where, many_follows, Shrinks, refuse_shrinks, follows_keeps, token_takes}
use Rattle.hack_parse_expr.proofs.TypesFollow.{if_row}
use Rattle.hack_parse_expr.proofs.OperandsFollow.{expression_part}
use Rattle.hack_parse_expr.proofs.SuffixesFollow.{plan_shrinks, optional_part, tested_follows}

-- where an operator or a cast comes next, the parser reads a unary
pub record OperatedFollows (depth : ℕ) (p : Parser Expr) : Type 1 where
  pub leads : (R : Type 0) (pending : List Symbol) (tree : Expr → Awaits pending R) (i : Input) →
      nesting pending + depth ≡ 128 → parsers.begins_operated i.left ≡ true →
      Leads (state (rule Unary ∷ pending) tree i) pending tree (p i)

-- the row of a further operand is there exactly if an operator of its level is
further_is_there : (l : Level) (o : Option BinaryOperator) → is_there (further_row l o) ≡ is_there o
further_is_there l None = refl
further_is_there l (Some o) = refl

module _ (depth : ℕ) (nested : Nested → Parser Expr) (expression_follows : FollowsOne depth (rule Expression) (nested nested_kind.Expression)) (operated_follows : OperatedFollows depth (nested nested_kind.Operated)) where
  -- an expression, one that may stand and an operand with its tests, as parts
  abbrev the_expression : Part depth (rule Expression)
  the_expression = expression_part depth nested expression_follows

  abbrev the_optional : Part depth (optional (rule Expression))
  the_optional = optional_part depth nested expression_follows

  abbrev the_tested : Part depth (rule Tested)
  the_tested = part (parsers.tested depth nested) (tested_follows depth nested expression_follows)

  -- ---- powers

  -- what is read behind `**`
  abbrev one_power : ℕ → List Expr → Parser (List Expr)
  one_power n found = λ j. if parsers.begins_operated j.left then ((λ x. found ++ x ∷ []) <$> nested nested_kind.Operated) j
      else (parsers.tested depth nested >>= (λ x. parsers.powers_from depth nested n (found ++ x ∷ []))) j

  -- a power begins with `**`
  power_begins : (ts : List Lexeme) → begins (rule Power) ts ≡ sees (Mark_ mark.Power) ts
  power_begins ts = if_row (record { counts = false; parts = one Decided ∷ rule Powers ∷ []; makes = λ _ operands. operands }) (sees (Mark_ mark.Power) ts)

  -- the loop of `powers`, behind what it has found
  powers_loop : (R : Type 0) (pending : List Symbol) (tree : List Expr → Awaits pending R) →
      nesting pending + depth ≡ 128 →
      (n : ℕ) (found : List Expr) (onward : Option (List Expr) → Awaits pending R) (i : Input) →
      (sees (Mark_ mark.Power) i.left ≡ false → onward None ≡ tree found) → ((v : Expr) (vs : List Expr) → onward (Some (v ∷ vs)) ≡ tree (found ++ v ∷ vs)) →
      length i.left ≤ n →
      Leads (state (optional (rule Power) ∷ pending) onward i) pending tree (parsers.powers_from depth nested n found i)
  unfolding parsers.powers_from
  powers_loop R pending tree h zero found onward i last others below =
      stepping R (optional (rule Power) ∷ pending) onward i pending tree (Ok (found, i))
      (choosing R (optional (rule Power)) (rule Power ∷ []) (λ v. Some v) None pending onward tree i (begins (rule Power) i.left) false
      (power_begins i.left ∙ ap (sees (Mark_ mark.Power)) (empty i.left below)) (Ok (found, i)) (Ok (found, i))
      (λ t. absurd (let k : begins (rule Power) i.left ≡ false = power_begins i.left ∙ ap (sees (Mark_ mark.Power)) (empty i.left below) in cc))
      (λ t. ended R pending found tree (onward None) i (last (ap (sees (Mark_ mark.Power)) (empty i.left below)))))
  powers_loop R pending tree h (suc n) found onward i last others below =
      stepping R (optional (rule Power) ∷ pending) onward i pending tree (parsers.powers_from depth nested (suc n) found i)
      (choosing R (optional (rule Power)) (rule Power ∷ []) (λ v. Some v) None pending onward tree i (begins (rule Power) i.left) (sees (Mark_ mark.Power) i.left)
      (power_begins i.left) (one_power n found (after (Mark_ mark.Power) i)) (Ok (found, i))
      (λ t. subst (λ o. Leads (state (rule Power ∷ pending) (λ v. onward (Some v)) i) pending tree o) (after_seen (Mark_ mark.Power) (one_power n found) i (sym (power_begins i.left) ∙ t))
      (stepping R (rule Power ∷ pending) (λ v. onward (Some v)) i pending tree ((token >> one_power n found) i)
      (subst (λ c. Leads (by_row (rule Power) pending (λ v. onward (Some v)) i (if c then reads (one Decided ∷ rule Powers ∷ []) (λ _ operands. operands) else None)) pending tree ((token >> one_power n found) i)) (sym (sym (power_begins i.left) ∙ t))
      (binding R _ (token i) (λ _. one_power n found) (rule Powers ∷ pending) (λ _ operands. onward (Some operands)) pending tree
      ((token_follows depth).leads R (rule Powers ∷ pending) (λ _ operands. onward (Some operands)) i h)
      (λ l j o r. stepping R (rule Powers ∷ pending) (λ operands. onward (Some operands)) j pending tree (one_power n found j)
      (by_unary
      (λ x k shorter. powers_loop R pending tree h n (found ++ x ∷ []) (λ operands. onward (Some (x ∷ or_empty operands))) k (λ no. others x [])
      (λ v vs. others x (v ∷ vs) ∙ ap tree (sym (append_assoc found (x ∷ []) (v ∷ vs)))) shorter)
      j (let k : length j.left < length i.left = token_takes i l j o in omega arith) (unary_row (next_kind j.left) (second_kind j.left)) refl))))))
      (λ t. ended R pending found tree (onward None) i (last (sym (power_begins i.left) ∙ t))))
    where
      by_unary : ((x : Expr) (k : Input) → length k.left ≤ n → Leads (state (optional (rule Power) ∷ pending) (λ operands. onward (Some (x ∷ or_empty operands))) k) pending tree (parsers.powers_from depth nested n (found ++ x ∷ []) k)) →
          (j : Input) → length j.left ≤ n → (u : Option UnaryRow) →
          unary_row (next_kind j.left) (second_kind j.left) ≡ u →
          Leads (by_row (rule Powers) pending (λ operands. onward (Some operands)) j (powers_rows u)) pending tree (if is_there u then ((λ x. found ++ x ∷ []) <$> nested nested_kind.Operated) j else (parsers.tested depth nested >>= (λ x. parsers.powers_from depth nested n (found ++ x ∷ []))) j)
      by_unary again j below (Some u) is =
          binding R _ (nested nested_kind.Operated j) (λ x. pure (found ++ x ∷ [])) pending (λ x. onward (Some (x ∷ []))) pending tree
          (operated_follows.leads R pending (λ x. onward (Some (x ∷ []))) j h (ap is_there is))
          (λ x k o r. ended R pending (found ++ x ∷ []) tree (onward (Some (x ∷ []))) k (others x []))
      by_unary again j below None is =
          binding R _ (parsers.tested depth nested j) (λ x. parsers.powers_from depth nested n (found ++ x ∷ [])) (optional (rule Power) ∷ pending) (λ x operands. onward (Some (x ∷ or_empty operands))) pending tree
          ((tested_follows depth nested expression_follows).leads R (optional (rule Power) ∷ pending) (λ x operands. onward (Some (x ∷ or_empty operands))) j h)
          (λ x k o r.
          let keeps : length k.left ≤ length j.left = follows_keeps depth (rule Tested ∷ []) (λ v. v) (parsers.tested depth nested) (tested_follows depth nested expression_follows) pending h j x k o in
          again x k (omega arith))

  -- the powers behind an operand, with the operand before them, or the operand alone
  abbrev with_powers : Place → Expr → Parser Expr
  with_powers at first = λ i. if sees (Mark_ mark.Power) i.left then (e.Power at <$> parsers.powers depth nested first) i else Ok (first, i)

  -- they follow
  powers_follow : (at : Place) (first : Expr) →
      Follows depth (optional (rule Power) ∷ []) (power at first) (with_powers at first)
  unfolding parsers.powers
  powers_follow at first = record {
    leads = λ R pending tree i h. by_sight R pending tree i h (sees (Mark_ mark.Power) i.left) refl;
    plain = λ pending. refl;
  }
    where
      by_sight : (R : Type 0) (pending : List Symbol) (tree : Expr → Awaits pending R) (i : Input) →
          nesting pending + depth ≡ 128 → (c : Bool) → sees (Mark_ mark.Power) i.left ≡ c →
          Leads (state (optional (rule Power) ∷ pending) (λ others. tree (power at first others)) i) pending tree (if c then (e.Power at <$> parsers.powers depth nested first) i else Ok (first, i))
      by_sight R pending tree i h true is =
          binding R _ (parsers.powers depth nested first i) (λ others. pure (e.Power at others)) pending (λ others. tree (e.Power at others)) pending tree
          (powers_loop R pending (λ others. tree (e.Power at others)) h (length i.left) (first ∷ []) (λ others. tree (power at first others)) i (λ no. absurd (cc)) (λ v vs. refl) (let k : length i.left ≤ length i.left = omega arith in k))
          (λ others j o r. reached)
      by_sight R pending tree i h false is =
          stepping R (optional (rule Power) ∷ pending) (λ others. tree (power at first others)) i pending tree (Ok (first, i))
          (choosing R (optional (rule Power)) (rule Power ∷ []) (λ v. Some v) None pending (λ others. tree (power at first others)) tree i (begins (rule Power) i.left) false
          (power_begins i.left ∙ is) (Ok (first, i)) (Ok (first, i))
          (λ t. absurd (let k : begins (rule Power) i.left ≡ false = power_begins i.left ∙ is in cc))
          (λ t. reached))

  -- an operand and its powers
  operands_follow : Follows depth (here ∷ rule Tested ∷ optional (rule Power) ∷ []) power (parsers.operands depth nested)
  unfolding parsers.operands
  operands_follow =
      first_follows depth here (rule Tested ∷ optional (rule Power) ∷ []) (λ v. v) power place (λ at. parsers.tested depth nested >>= with_powers at) (place_follows depth)
      (λ at. first_follows depth (rule Tested) (optional (rule Power) ∷ []) (λ v. v) (power at) (parsers.tested depth nested) (with_powers at) (tested_follows depth nested expression_follows)
      (powers_follow at) (λ pending. refl))
      (λ pending. refl)

  -- ---- unaries

  -- a unary, by its row
  unary_leads : (R : Type 0) (pending : List Symbol) (tree : Expr → Awaits pending R) (i : Input) →
      nesting pending + depth ≡ 128 → (u : Option UnaryRow) →
      unary_row (next_kind i.left) (second_kind i.left) ≡ u →
      Leads (state (rule Unary ∷ pending) tree i) pending tree (if is_there u then nested nested_kind.Operated i else parsers.operands depth nested i)
  unary_leads R pending tree i h (Some u) is = operated_follows.leads R pending tree i h (ap is_there is)
  unary_leads R pending tree i h None is =
      stepping R (rule Unary ∷ pending) tree i pending tree (parsers.operands depth nested i)
      (subst (λ u. Leads (by_row (rule Unary) pending tree i (unary_rows u)) pending tree (parsers.operands depth nested i)) (sym is)
      (operands_follow.leads R pending tree i h))

  -- a unary
  pub unary_follows : FollowsOne depth (rule Unary) (parsers.unary depth nested)
  unfolding parsers.unary
  unary_follows = record {
    leads = λ R pending tree i h. unary_leads R pending tree i h (unary_row (next_kind i.left) (second_kind i.left)) refl;
    plain = λ pending. refl;
  }

  -- a unary as a part
  abbrev the_unary : Part depth (rule Unary)
  the_unary = part (parsers.unary depth nested) unary_follows

  -- an operator or a cast with its operand, in one row more that counts
  pub operated_by_follows : (i : Input) (u : Option UnaryRow) → is_there u ≡ true →
      RowFollows (suc depth) (rule Unary) i (unary_rows u) (parsers.operated_by depth nested u i)
  operated_by_follows i None is = absurd (cc)
  operated_by_follows i (Some (unary_kind.Prefix o)) is = row_nests (token_part, (the_unary, tt))
  operated_by_follows i (Some (unary_kind.Cast to)) is = row_nests (token_part, (token_part, (expect_part (Mark_ mark.CloseParen), (the_unary, tt))))

  -- ---- binary operators

  module _ (l : Level) (operand : Parser Expr) (operand_follows : FollowsOne depth (rule (Tighter l)) operand) where
    -- an operand of the level as a part
    abbrev the_operand : Part depth (rule (Tighter l))
    the_operand = part operand operand_follows

    -- an operator and the operand behind it, by the operator
    further_by_follows : (i : Input) (o : Option BinaryOperator) →
        RowFollows depth (rule (Further l)) i (further_row l o) (parsers.further_by depth nested operand o i)
    further_by_follows i None = no_row
    further_by_follows i (Some o) = row_reads (token_part, (the_operand, tt))

    -- an operator and the operand behind it
    further_follows : FollowsOne depth (rule (Further l)) (parsers.further depth nested l operand)
    unfolding parsers.further
    further_follows = rule_follows depth (Further l) (parsers.further depth nested l operand) (λ i. further_by_follows i (operator l (next_kind i.left)))

    -- an operator takes a token
    further_by_shrinks : (o : Option BinaryOperator) → Shrinks depth (parsers.further_by depth nested operand o)
    further_by_shrinks None = refuse_shrinks depth
    further_by_shrinks (Some o) = plan_shrinks depth (rule (Tighter l) ∷ []) (the_operand, tt) (λ _ x. roll-Operand (record { operator = o; operand = x }))

    -- each turn of the loop takes a token
    further_shrinks : Shrinks depth (parsers.further depth nested l operand)
    unfolding parsers.further
    further_shrinks pending h i v rest o = further_by_shrinks (operator l (next_kind i.left)) pending h i v rest o

    -- the operators of a level with their operands
    operations_follow : FollowsOne depth (many (rule (Further l))) (parsers.operations depth nested l operand)
    unfolding parsers.operations
    operations_follow = many_follows depth (rule (Further l)) (parsers.begins_operator l) (parsers.further depth nested l operand) (λ ts. further_is_there l (operator l (next_kind ts))) refl further_follows further_shrinks

    -- operands with operators of one level between them
    at_level_follows : FollowsOne depth (rule (AtLevel l)) (parsers.at_level depth nested l operand)
    unfolding parsers.at_level
    at_level_follows = rule_follows depth (AtLevel l) (parsers.at_level depth nested l operand) (λ i. row_reads (place_part, (the_operand, (part (parsers.operations depth nested l operand) operations_follow, tt))))

  -- the ten levels, the tightest first
  pub product_follows : FollowsOne depth (rule (AtLevel level.Product)) (parsers.product depth nested)
  unfolding parsers.product
  product_follows = at_level_follows level.Product (parsers.unary depth nested) (rule_follows depth (Tighter level.Product) (parsers.unary depth nested) (λ i. row_by (parsers.unary depth nested) unary_follows))

  pub sum_follows : FollowsOne depth (rule (AtLevel level.Sum)) (parsers.sum depth nested)
  unfolding parsers.sum
  sum_follows = at_level_follows level.Sum (parsers.product depth nested) (rule_follows depth (Tighter level.Sum) (parsers.product depth nested) (λ i. row_by (parsers.product depth nested) product_follows))

  pub relation_follows : FollowsOne depth (rule (AtLevel level.Relation)) (parsers.relation depth nested)
  unfolding parsers.relation
  relation_follows = at_level_follows level.Relation (parsers.sum depth nested) (rule_follows depth (Tighter level.Relation) (parsers.sum depth nested) (λ i. row_by (parsers.sum depth nested) sum_follows))

  pub equality_follows : FollowsOne depth (rule (AtLevel level.Equality)) (parsers.equality depth nested)
  unfolding parsers.equality
  equality_follows = at_level_follows level.Equality (parsers.relation depth nested) (rule_follows depth (Tighter level.Equality) (parsers.relation depth nested) (λ i. row_by (parsers.relation depth nested) relation_follows))

  pub bit_and_follows : FollowsOne depth (rule (AtLevel level.BitAnd)) (parsers.bit_and depth nested)
  unfolding parsers.bit_and
  bit_and_follows = at_level_follows level.BitAnd (parsers.equality depth nested) (rule_follows depth (Tighter level.BitAnd) (parsers.equality depth nested) (λ i. row_by (parsers.equality depth nested) equality_follows))

  pub bit_xor_follows : FollowsOne depth (rule (AtLevel level.BitXor)) (parsers.bit_xor depth nested)
  unfolding parsers.bit_xor
  bit_xor_follows = at_level_follows level.BitXor (parsers.bit_and depth nested) (rule_follows depth (Tighter level.BitXor) (parsers.bit_and depth nested) (λ i. row_by (parsers.bit_and depth nested) bit_and_follows))

  pub bit_or_follows : FollowsOne depth (rule (AtLevel level.BitOr)) (parsers.bit_or depth nested)
  unfolding parsers.bit_or
  bit_or_follows = at_level_follows level.BitOr (parsers.bit_xor depth nested) (rule_follows depth (Tighter level.BitOr) (parsers.bit_xor depth nested) (λ i. row_by (parsers.bit_xor depth nested) bit_xor_follows))

  pub logical_and_follows : FollowsOne depth (rule (AtLevel level.And)) (parsers.logical_and depth nested)
  unfolding parsers.logical_and
  logical_and_follows = at_level_follows level.And (parsers.bit_or depth nested) (rule_follows depth (Tighter level.And) (parsers.bit_or depth nested) (λ i. row_by (parsers.bit_or depth nested) bit_or_follows))

  pub logical_or_follows : FollowsOne depth (rule (AtLevel level.Or)) (parsers.logical_or depth nested)
  unfolding parsers.logical_or
  logical_or_follows = at_level_follows level.Or (parsers.logical_and depth nested) (rule_follows depth (Tighter level.Or) (parsers.logical_and depth nested) (λ i. row_by (parsers.logical_and depth nested) logical_and_follows))

  pub coalesce_follows : FollowsOne depth (rule (AtLevel level.Coalesce)) (parsers.coalesce depth nested)
  unfolding parsers.coalesce
  coalesce_follows = at_level_follows level.Coalesce (parsers.logical_or depth nested) (rule_follows depth (Tighter level.Coalesce) (parsers.logical_or depth nested) (λ i. row_by (parsers.logical_or depth nested) logical_or_follows))

  -- the operands and operators of each level
  pub level_follows : (l : Level) → FollowsOne depth (rule (AtLevel l)) (parsers.level depth nested l)
  level_follows level.Coalesce = coalesce_follows
  level_follows level.Or = logical_or_follows
  level_follows level.And = logical_and_follows
  level_follows level.BitOr = bit_or_follows
  level_follows level.BitXor = bit_xor_follows
  level_follows level.BitAnd = bit_and_follows
  level_follows level.Equality = equality_follows
  level_follows level.Relation = relation_follows
  level_follows level.Sum = sum_follows
  level_follows level.Product = product_follows

  -- ---- conditional expressions and assignments

  -- branches begin with `?`
  branches_begin : (ts : List Lexeme) → begins (rule Branches) ts ≡ sees (Mark_ mark.Question) ts
  branches_begin ts = if_row (record { counts = false; parts = one Decided ∷ optional (rule Expression) ∷ one (Mark_ mark.Colon) ∷ rule (AtLevel level.Coalesce) ∷ []; makes = λ _ middle _ other. (middle, other) }) (sees (Mark_ mark.Question) ts)

  -- the branches of a conditional expression, in order
  branches_follow : (at : Place) (c : Expr) →
      Follows depth (one Decided ∷ optional (rule Expression) ∷ one (Mark_ mark.Colon) ∷ rule (AtLevel level.Coalesce) ∷ []) (λ _ middle _ other. e.Conditional at c middle other) (parsers.branches depth nested at c)
  unfolding parsers.branches
  branches_follow at c = plan_follows depth (one Decided ∷ optional (rule Expression) ∷ one (Mark_ mark.Colon) ∷ rule (AtLevel level.Coalesce) ∷ []) (token_part, (the_optional, (expect_part (Mark_ mark.Colon), (part (parsers.coalesce depth nested) coalesce_follows, tt)))) (λ _ middle _ other. e.Conditional at c middle other)

  -- an expression of the loosest level with its branches
  pub conditional_follows : FollowsOne depth (rule Conditional) (parsers.conditional depth nested)
  unfolding parsers.conditional
  conditional_follows = rule_follows depth Conditional (parsers.conditional depth nested) (λ i. row_by (parsers.conditional depth nested)
      (first_follows depth here (rule (AtLevel level.Coalesce) ∷ optional (rule Branches) ∷ []) (λ v. v) conditional place (λ at. parsers.coalesce depth nested >>= (λ c. with_branches at c)) (place_follows depth)
      (λ at. first_follows depth (rule (AtLevel level.Coalesce)) (optional (rule Branches) ∷ []) (λ v. v) (conditional at) (parsers.coalesce depth nested) (with_branches at) coalesce_follows
      (λ c. optional_where depth (rule Branches) (sees (Mark_ mark.Question)) (conditional at c) (parsers.branches depth nested at c) branches_begin (branches_lead at c))
      (λ pending. refl))
      (λ pending. refl)))
    where
      with_branches : Place → Expr → Parser Expr
      with_branches at c = λ i. if sees (Mark_ mark.Question) i.left then parsers.branches depth nested at c i else Ok (c, i)

      -- the branches where `?` comes next
      branches_lead : (at : Place) (c : Expr) (R : Type 0) (pending : List Symbol) (tree : Expr → Awaits pending R) (i : Input) →
          nesting pending + depth ≡ 128 → sees (Mark_ mark.Question) i.left ≡ true →
          Leads (state (rule Branches ∷ pending) (λ v. tree (conditional at c (Some v))) i) pending tree (parsers.branches depth nested at c i)
      branches_lead at c R pending tree i h is =
          stepping R (rule Branches ∷ pending) (λ v. tree (conditional at c (Some v))) i pending tree (parsers.branches depth nested at c i)
          (subst (λ b. Leads (by_row (rule Branches) pending (λ v. tree (conditional at c (Some v))) i (if b then reads (one Decided ∷ optional (rule Expression) ∷ one (Mark_ mark.Colon) ∷ rule (AtLevel level.Coalesce) ∷ []) (λ _ middle _ other. (middle, other)) else None)) pending tree (parsers.branches depth nested at c i)) (sym is)
          ((branches_follow at c).leads R pending tree i h))

  -- the assignment behind a target, by its operator
  assigned_leads : (at : Place) (target : Expr) (R : Type 0) (pending : List Symbol) (tree : Expr → Awaits pending R) (i : Input) →
      nesting pending + depth ≡ 128 → (a : Option AssignOperator) → assign_operator (next_kind i.left) ≡ a →
      Leads (state (optional (rule Assigned) ∷ pending) (λ v. tree (assigned at target v)) i) pending tree (parsers.assigned_by depth nested at target a i)
  assigned_leads at target R pending tree i h None is =
      stepping R (optional (rule Assigned) ∷ pending) (λ v. tree (assigned at target v)) i pending tree (Ok (target, i))
      (choosing R (optional (rule Assigned)) (rule Assigned ∷ []) (λ v. Some v) None pending (λ v. tree (assigned at target v)) tree i (begins (rule Assigned) i.left) false
      (ap (λ a. is_there (assigned_row a)) is) (Ok (target, i)) (Ok (target, i))
      (λ t. absurd (let k : begins (rule Assigned) i.left ≡ false = ap (λ a. is_there (assigned_row a)) is in cc))
      (λ t. reached))
  assigned_leads at target R pending tree i h (Some o) is =
      stepping R (optional (rule Assigned) ∷ pending) (λ v. tree (assigned at target v)) i pending tree (parsers.assigned_by depth nested at target (Some o) i)
      (choosing R (optional (rule Assigned)) (rule Assigned ∷ []) (λ v. Some v) None pending (λ v. tree (assigned at target v)) tree i (begins (rule Assigned) i.left) true
      (ap (λ a. is_there (assigned_row a)) is) (parsers.assigned_by depth nested at target (Some o) i) (Ok (target, i))
      (λ t. stepping R (rule Assigned ∷ pending) (λ v. tree (assigned at target (Some v))) i pending tree (parsers.assigned_by depth nested at target (Some o) i)
      (subst (λ a. Leads (by_row (rule Assigned) pending (λ v. tree (assigned at target (Some v))) i (assigned_row a)) pending tree (parsers.assigned_by depth nested at target (Some o) i)) (sym is)
      ((plan_follows depth (one Decided ∷ rule Expression ∷ []) (token_part, (the_expression, tt)) (λ _ value. e.Assign at target o value)).leads R pending tree i h)))
      (λ t. absurd (let k : begins (rule Assigned) i.left ≡ true = ap (λ a. is_there (assigned_row a)) is in cc)))

  -- an expression, whose row counts
  pub whole_follows : Follows depth (here ∷ rule Conditional ∷ optional (rule Assigned) ∷ []) assigned (parsers.whole depth nested)
  unfolding parsers.whole
  whole_follows =
      first_follows depth here (rule Conditional ∷ optional (rule Assigned) ∷ []) (λ v. v) assigned place (λ at. parsers.conditional depth nested >>= (λ target. with_assigned at target)) (place_follows depth)
      (λ at. first_follows depth (rule Conditional) (optional (rule Assigned) ∷ []) (λ v. v) (assigned at) (parsers.conditional depth nested) (with_assigned at) conditional_follows
      (λ target. record {
        leads = λ R pending tree i h. assigned_leads at target R pending tree i h (assign_operator (next_kind i.left)) refl;
        plain = λ pending. refl;
      })
      (λ pending. refl))
      (λ pending. refl)
    where
      with_assigned : Place → Expr → Parser Expr
      with_assigned at target = λ i. parsers.assigned_by depth nested at target (assign_operator (next_kind i.left)) i
