-- What is assigned in a chain is what its operands assign, in their order, however they are grouped.
use Rattle.std.proofs.Common.{◌≡◌, ◌∙◌, ◌<◌, ◌≤◌, ◌++◌, ℕ, Bool, true, false, List, [], ◌∷◌, length, map, refl, sym, ap, arith}
use Rattle.std.specs.List.{flat_map}
use Rattle.std.proofs.lemmas.List.{append_assoc}
use Rattle.std.proofs.lemmas.List.Concat.{flat_map-cons}
use Rattle.std.proofs.lemmas.List.Folds.{flat_map-map}
use Rattle.hack_tree.specs.declared.expression.BinaryOperator.{BinaryOperator}
use Rattle.hack_tree.specs.declared.expression.BinaryOperator.TheVariants as binary
use Rattle.hack_tree.specs.declared.expression.Expr.{Expr}
use Rattle.hack_tree.specs.declared.expression.Operand.{Operand}
use Rattle.hack_rules.specs.Chains.{Joined, binary_value, chain_by, chain_value, from_left, from_right, is_coalesce}
use Rattle.hack_rules.specs.Expressions.{meaning_of}
use Rattle.hack_rules.specs.Meanings.{Meaning}
use Rattle.hack_parts.specs.ExprMeanings as one
use Rattle.hack_parts.specs.Forms.{joined_of}
use Rattle.hack_assigned.specs.inside.Parts.{in_expression, in_operand}
use Rattle.hack_assigned.proofs.Adding.{behind_none, same_each}

abbrev in_joined : Joined → List ℕ
in_joined j = j.operand.assigned

between : (operator : BinaryOperator) (left right : Meaning) → (binary_value operator left right).assigned ≡ left.assigned ++ right.assigned
between binary.Coalesce left right = refl
between binary.Or left right = refl
between binary.And left right = refl
between binary.BitOr left right = refl
between binary.BitXor left right = refl
between binary.BitAnd left right = refl
between binary.Equal left right = refl
between binary.NotEqual left right = refl
between binary.Identical left right = refl
between binary.NotIdentical left right = refl
between binary.Less left right = refl
between binary.LessEqual left right = refl
between binary.Greater left right = refl
between binary.GreaterEqual left right = refl
between binary.Spaceship left right = refl
between binary.Add left right = refl
between binary.Subtract left right = refl
between binary.Concat left right = refl
between binary.Multiply left right = refl
between binary.Divide left right = refl
between binary.Remainder left right = refl

rootless : (operator : BinaryOperator) (left right : Meaning) → [] ≡ (binary_value operator left right).roots
rootless binary.Coalesce left right = refl
rootless binary.Or left right = refl
rootless binary.And left right = refl
rootless binary.BitOr left right = refl
rootless binary.BitXor left right = refl
rootless binary.BitAnd left right = refl
rootless binary.Equal left right = refl
rootless binary.NotEqual left right = refl
rootless binary.Identical left right = refl
rootless binary.NotIdentical left right = refl
rootless binary.Less left right = refl
rootless binary.LessEqual left right = refl
rootless binary.Greater left right = refl
rootless binary.GreaterEqual left right = refl
rootless binary.Spaceship left right = refl
rootless binary.Add left right = refl
rootless binary.Subtract left right = refl
rootless binary.Concat left right = refl
rootless binary.Multiply left right = refl
rootless binary.Divide left right = refl
rootless binary.Remainder left right = refl

in_left : (first : Meaning) (others : List Joined) → (from_left first others).assigned ≡ first.assigned ++ flat_map in_joined others
unfolding from_left
in_left first [] = sym (behind_none first.assigned)
in_left first (next ∷ others) =
    in_left (binary_value next.operator first next.operand) others ∙ ap (λ l. l ++ flat_map in_joined others) (between next.operator first next.operand)
    ∙ append_assoc first.assigned next.operand.assigned (flat_map in_joined others) ∙ ap (λ l. first.assigned ++ l) (sym (flat_map-cons in_joined next others))

in_right : (first : Meaning) (others : List Joined) → (from_right first others).assigned ≡ first.assigned ++ flat_map in_joined others
unfolding from_right
in_right first [] = sym (behind_none first.assigned)
in_right first (next ∷ others) = ap (λ l. first.assigned ++ l) (in_right next.operand others ∙ sym (flat_map-cons in_joined next others))

grouped : (right : Bool) (first : Meaning) (others : List Joined) → (chain_by right first others).assigned ≡ first.assigned ++ flat_map in_joined others
grouped true first others = in_right first others
grouped false first others = in_left first others

in_chain : (first : Meaning) (others : List Joined) → (chain_value first others).assigned ≡ first.assigned ++ flat_map in_joined others
unfolding chain_value
in_chain first [] = sym (behind_none first.assigned)
in_chain first (next ∷ others) = grouped (is_coalesce next.operator) first (next ∷ others)

pub chained : (first : Expr) (others : List Operand) → in_expression first ++ flat_map in_operand others ≡ (chain_value (meaning_of first) (map joined_of others)).assigned
chained first others =
    ap (λ l. in_expression first ++ l) (same_each in_operand (λ o. in_joined (joined_of o)) (λ o. ap in_joined (sym (one.joined o))) others ∙ sym (flat_map-map in_joined joined_of others))
    ∙ sym (in_chain (meaning_of first) (map joined_of others))

-- ---- roots

left_rootless : (first : Meaning) (others : List Joined) → [] ≡ first.roots → [] ≡ (from_left first others).roots
unfolding from_left
left_rootless first [] is = is
left_rootless first (next ∷ others) is = left_rootless (binary_value next.operator first next.operand) others (rootless next.operator first next.operand)

grouped_rootless : (right : Bool) (first : Meaning) (next : Joined) (others : List Joined) → [] ≡ (chain_by right first (next ∷ others)).roots
unfolding from_left from_right
grouped_rootless true first next others = refl
grouped_rootless false first next others = left_rootless (binary_value next.operator first next.operand) others (rootless next.operator first next.operand)

pub chain_rootless : (first : Meaning) (others : List Operand) → 0 < length others → [] ≡ (chain_value first (map joined_of others)).roots
unfolding chain_value
chain_rootless first [] more = absurd (omega (arith, more))
chain_rootless first (next ∷ others) more = grouped_rootless (is_coalesce (joined_of next).operator) first (joined_of next) (map joined_of others)

pub chain_of_one : (first : Meaning) (others : List Operand) → length others ≤ 0 → first.roots ≡ (chain_value first (map joined_of others)).roots
unfolding chain_value
chain_of_one first [] none = refl
chain_of_one first (next ∷ others) none = absurd (omega (arith, none))
