-- A chain by its last operand, and by the side from which it is grouped.
use Rattle.std.proofs.Common.{◌≡◌, ◌∙◌, ◌++◌, Bool, true, false, List, [], ◌∷◌, map, refl, sym, ap}
use Rattle.hack_tree.specs.declared.expression.Operand.{Operand}
use Rattle.hack_parts.specs.ExprMeanings.{joined}
use Rattle.hack_parts.specs.Forms.{joined_of}
use Rattle.hack_parts.specs.Parts.{walk_by}
use Rattle.hack_parts.specs.declared.reading.Reading.{Reading}
use Rattle.hack_parts.specs.declared.reading.Reading.TheVariants as reading
use Rattle.hack_rules.specs.Chains.{Joined, chain_by, chain_value, from_left, from_right, is_coalesce}
use Rattle.hack_rules.specs.Expressions.{meaning_of}
use Rattle.hack_rules.specs.Meanings.{Meaning, plain_branches}
use Rattle.hack_chains.specs.inside.Chaining.{first_operator}
use Rattle.hack_chains.proofs.LeftGroups.{last_left, left_same}

-- the first operator says how it is grouped
pub chain_is : (first : Meaning) (front : List Operand) (last : Operand)
    → chain_value first (map joined_of (front ++ last ∷ [])) ≡ chain_by (is_coalesce (first_operator front last)) first (map joined_of (front ++ last ∷ []))
unfolding chain_value
chain_is first [] last = ap (λ (j : Joined). chain_by (is_coalesce j.operator) first (joined_of last ∷ [])) (joined last)
chain_is first (o ∷ os) last = ap (λ (j : Joined). chain_by (is_coalesce j.operator) first (joined_of o ∷ map joined_of (os ++ last ∷ []))) (joined o)

by_left : (right : Bool) (first : Meaning) (front : List Operand) (last : Operand)
    → (chain_by right first (map joined_of (front ++ last ∷ []))).left ≡ (chain_by right first (map joined_of (front ++ last ∷ []))).walk
unfolding from_right
by_left true first [] last = refl
by_left true first (o ∷ os) last = refl
by_left false first front last =
    let whole = last_left first front last in
    ap (λ (m : Meaning). m.left) whole ∙ left_same last.operator (from_left first (map joined_of front)) (meaning_of last.operand) ∙ sym (ap (λ (m : Meaning). m.walk) whole)

-- in the left of `??` a chain with an operator is as it is as a value
pub chain_left : (as_read : Reading) (first : Meaning) (front : List Operand) (last : Operand)
    → walk_by as_read (chain_value first (map joined_of (front ++ last ∷ []))) ≡ (chain_value first (map joined_of (front ++ last ∷ []))).walk
chain_left reading.Value first front last = refl
chain_left reading.Left first front last =
    let whole = chain_is first front last in
    ap (λ (m : Meaning). m.left) whole ∙ by_left (is_coalesce (first_operator front last)) first front last ∙ sym (ap (λ (m : Meaning). m.walk) whole)

-- `??` says nothing of variables
pub right_branches : (first : Meaning) (front : List Operand) (last : Operand)
    → (from_right first (map joined_of (front ++ last ∷ []))).branches ≡ plain_branches (from_right first (map joined_of (front ++ last ∷ []))).walk
unfolding from_right
right_branches first [] last = refl
right_branches first (o ∷ os) last = refl

-- grouped from this side
pub grouped_from : (right : Bool) (first : Meaning) (front : List Operand) (last : Operand) → is_coalesce (first_operator front last) ≡ right
    → chain_value first (map joined_of (front ++ last ∷ [])) ≡ chain_by right first (map joined_of (front ++ last ∷ []))
grouped_from right first front last is = chain_is first front last ∙ ap (λ (b : Bool). chain_by b first (map joined_of (front ++ last ∷ []))) is
