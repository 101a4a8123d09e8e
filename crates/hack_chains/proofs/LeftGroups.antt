-- One more operator of a chain that groups from the left.
use Rattle.std.proofs.Common.{◌≡◌, ◌<◌, ◌≤◌, ◌+◌, ◌++◌, ◌∙◌, ℕ, zero, suc, Option, None, List, [], ◌∷◌, length, map, take, get_or, Bool, true, false, if◌then◌else◌, refl, sym, ap, arith}
use Rattle.std.specs.List.{fold}
use Rattle.std.proofs.lemmas.List.{map_push, take_more}
use Rattle.std.proofs.lemmas.List.Sums.{fold_push}
use Rattle.hack_tree.specs.declared.expression.BinaryOperator.{BinaryOperator}
use Rattle.hack_tree.specs.declared.expression.BinaryOperator.TheVariants as binary
use Rattle.hack_tree.specs.declared.expression.Operand.{Operand}
use Rattle.hack_types.specs.declared.hack_type.HackType.{HackType}
use Rattle.hack_decls.specs.DeclState.{Map}
use Rattle.hack_rules.specs.Chains.{Joined, and_branches, and_row, binary_value, coalesce_row, compared, equality_branches, equality_row, from_left, inequality_branches, operation_row, or_branches, or_row}
use Rattle.hack_rules.specs.Expressions.{meaning_of}
use Rattle.hack_rules.specs.Meanings.{Branches, Meaning, plain_branches}
use Rattle.hack_rules.specs.Walks.{Setting, State, Walk, ◌>>=◌, ◌>>◌, pure, replace, variables}
use Rattle.hack_parts.specs.ExprMeanings.{joined}
use Rattle.hack_parts.specs.Forms.{joined_of}
use Rattle.hack_chains.specs.declared.so_far.SoFar.{SoFar}
use Rattle.hack_chains.specs.declared.so_far.SoFar.TheVariants as so
use Rattle.hack_chains.specs.declared.so_far.Wanted.{Wanted}
use Rattle.hack_chains.specs.declared.so_far.Wanted.TheVariants as wanted
use Rattle.hack_chains.specs.inside.Chaining.{asked, asked_at, branches_on, compared_at, logic_branches, logic_row, reached, step_branches, step_on, step_value, value_on}

-- ---- one operator

-- its type, by what is reached of its left side
pub value_stepped : (operator : BinaryOperator) (left right : Meaning) (setting : Setting) (map : Map) (s : State)
    → (binary_value operator left right).walk setting map s ≡ (reached (asked operator) left >>= step_value left.at operator right) setting map s
unfolding and_row or_row equality_row operation_row coalesce_row logic_row value_on ◌>>=◌ ◌>>◌ pure replace variables
value_stepped binary.Coalesce left right setting map s = refl
value_stepped binary.Or left right setting map s = refl
value_stepped binary.And left right setting map s = refl
value_stepped binary.BitOr left right setting map s = refl
value_stepped binary.BitXor left right setting map s = refl
value_stepped binary.BitAnd left right setting map s = refl
value_stepped binary.Equal left right setting map s = refl
value_stepped binary.NotEqual left right setting map s = refl
value_stepped binary.Identical left right setting map s = refl
value_stepped binary.NotIdentical left right setting map s = refl
value_stepped binary.Less left right setting map s = refl
value_stepped binary.LessEqual left right setting map s = refl
value_stepped binary.Greater left right setting map s = refl
value_stepped binary.GreaterEqual left right setting map s = refl
value_stepped binary.Spaceship left right setting map s = refl
value_stepped binary.Add left right setting map s = refl
value_stepped binary.Subtract left right setting map s = refl
value_stepped binary.Concat left right setting map s = refl
value_stepped binary.Multiply left right setting map s = refl
value_stepped binary.Divide left right setting map s = refl
value_stepped binary.Remainder left right setting map s = refl

-- its branches
pub branches_stepped : (operator : BinaryOperator) (left right : Meaning) (setting : Setting) (map : Map) (s : State)
    → (binary_value operator left right).branches setting map s
    ≡ (reached (asked operator) left >>= step_branches left.at (compared left right) operator right) setting map s
unfolding and_branches or_branches equality_branches inequality_branches equality_row operation_row coalesce_row plain_branches logic_branches branches_on ◌>>=◌ ◌>>◌ pure replace variables
branches_stepped binary.Coalesce left right setting map s = refl
branches_stepped binary.Or left right setting map s = refl
branches_stepped binary.And left right setting map s = refl
branches_stepped binary.BitOr left right setting map s = refl
branches_stepped binary.BitXor left right setting map s = refl
branches_stepped binary.BitAnd left right setting map s = refl
branches_stepped binary.Equal left right setting map s = refl
branches_stepped binary.NotEqual left right setting map s = refl
branches_stepped binary.Identical left right setting map s = refl
branches_stepped binary.NotIdentical left right setting map s = refl
branches_stepped binary.Less left right setting map s = refl
branches_stepped binary.LessEqual left right setting map s = refl
branches_stepped binary.Greater left right setting map s = refl
branches_stepped binary.GreaterEqual left right setting map s = refl
branches_stepped binary.Spaceship left right setting map s = refl
branches_stepped binary.Add left right setting map s = refl
branches_stepped binary.Subtract left right setting map s = refl
branches_stepped binary.Concat left right setting map s = refl
branches_stepped binary.Multiply left right setting map s = refl
branches_stepped binary.Divide left right setting map s = refl
branches_stepped binary.Remainder left right setting map s = refl

-- in the left of `??` it is as it is as a value
pub left_same : (operator : BinaryOperator) (left right : Meaning) → (binary_value operator left right).left ≡ (binary_value operator left right).walk
left_same binary.Coalesce left right = refl
left_same binary.Or left right = refl
left_same binary.And left right = refl
left_same binary.BitOr left right = refl
left_same binary.BitXor left right = refl
left_same binary.BitAnd left right = refl
left_same binary.Equal left right = refl
left_same binary.NotEqual left right = refl
left_same binary.Identical left right = refl
left_same binary.NotIdentical left right = refl
left_same binary.Less left right = refl
left_same binary.LessEqual left right = refl
left_same binary.Greater left right = refl
left_same binary.GreaterEqual left right = refl
left_same binary.Spaceship left right = refl
left_same binary.Add left right = refl
left_same binary.Subtract left right = refl
left_same binary.Concat left right = refl
left_same binary.Multiply left right = refl
left_same binary.Divide left right = refl
left_same binary.Remainder left right = refl

same_at : (operator : BinaryOperator) (left right : Meaning) → (binary_value operator left right).at ≡ left.at
same_at binary.Coalesce left right = refl
same_at binary.Or left right = refl
same_at binary.And left right = refl
same_at binary.BitOr left right = refl
same_at binary.BitXor left right = refl
same_at binary.BitAnd left right = refl
same_at binary.Equal left right = refl
same_at binary.NotEqual left right = refl
same_at binary.Identical left right = refl
same_at binary.NotIdentical left right = refl
same_at binary.Less left right = refl
same_at binary.LessEqual left right = refl
same_at binary.Greater left right = refl
same_at binary.GreaterEqual left right = refl
same_at binary.Spaceship left right = refl
same_at binary.Add left right = refl
same_at binary.Subtract left right = refl
same_at binary.Concat left right = refl
same_at binary.Multiply left right = refl
same_at binary.Divide left right = refl
same_at binary.Remainder left right = refl

neither : (null : Bool) (o : Option ℕ) → o ≡ None → (if null then o else o) ≡ None
neither true o is = is
neither false o is = is

no_subject : (operator : BinaryOperator) (left right other : Meaning) → compared (binary_value operator left right) other ≡ None
no_subject binary.Coalesce left right other = neither other.is_null None refl
no_subject binary.Or left right other = neither other.is_null None refl
no_subject binary.And left right other = neither other.is_null None refl
no_subject binary.BitOr left right other = neither other.is_null None refl
no_subject binary.BitXor left right other = neither other.is_null None refl
no_subject binary.BitAnd left right other = neither other.is_null None refl
no_subject binary.Equal left right other = neither other.is_null None refl
no_subject binary.NotEqual left right other = neither other.is_null None refl
no_subject binary.Identical left right other = neither other.is_null None refl
no_subject binary.NotIdentical left right other = neither other.is_null None refl
no_subject binary.Less left right other = neither other.is_null None refl
no_subject binary.LessEqual left right other = neither other.is_null None refl
no_subject binary.Greater left right other = neither other.is_null None refl
no_subject binary.GreaterEqual left right other = neither other.is_null None refl
no_subject binary.Spaceship left right other = neither other.is_null None refl
no_subject binary.Add left right other = neither other.is_null None refl
no_subject binary.Subtract left right other = neither other.is_null None refl
no_subject binary.Concat left right other = neither other.is_null None refl
no_subject binary.Multiply left right other = neither other.is_null None refl
no_subject binary.Divide left right other = neither other.is_null None refl
no_subject binary.Remainder left right other = neither other.is_null None refl

abbrev of_type : HackType × State → SoFar × State
of_type end = (so.Value end.0, end.1)

abbrev of_branches : Branches × State → SoFar × State
of_branches end = (so.Branches end.0, end.1)

-- in the form in which it is asked for
pub stepped : (form : Wanted) (operator : BinaryOperator) (left right : Meaning) (setting : Setting) (map : Map) (s : State)
    → reached form (binary_value operator left right) setting map s ≡ (reached (asked operator) left >>= step_on form left.at (compared left right) operator right) setting map s
unfolding ◌>>=◌ pure
stepped wanted.Value operator left right setting map s =
    ap of_type (value_stepped operator left right setting map s)
stepped wanted.Left operator left right setting map s =
    ap (λ (walk : Walk HackType). of_type (walk setting map s)) (left_same operator left right)
    ∙ ap of_type (value_stepped operator left right setting map s)
stepped wanted.Branches operator left right setting map s =
    ap of_branches (branches_stepped operator left right setting map s)

-- ---- a chain

abbrev one_more : Meaning → Joined → Meaning
one_more left next = binary_value next.operator left next.operand

-- the last operator
pub last_left : (first : Meaning) (front : List Operand) (x : Operand)
    → from_left first (map joined_of (front ++ x ∷ [])) ≡ binary_value x.operator (from_left first (map joined_of front)) (meaning_of x.operand)
unfolding from_left
last_left first front x =
    ap (λ (js : List Joined). fold one_more first js) (map_push joined_of front x)
    ∙ fold_push one_more first (map joined_of front) (joined_of x)
    ∙ ap (λ (j : Joined). one_more (fold one_more first (map joined_of front)) j) (joined x)

-- one more operator
pub more_left : (first : Meaning) (others : List Operand) (i : ℕ) (x : Operand) → i < length others → x ≡ get_or others i x
    → from_left first (map joined_of (take (i + 1) others)) ≡ binary_value x.operator (from_left first (map joined_of (take i others))) (meaning_of x.operand)
unfolding from_left
more_left first others i x lt is =
    ap (λ (xs : List Operand). fold one_more first (map joined_of xs)) (take_more others i x lt ∙ ap (λ (y : Operand). take i others ++ y ∷ []) (sym is))
    ∙ last_left first (take i others) x

-- its place is that of the first operand
pub chain_at : (first : Meaning) (others : List Joined) → (from_left first others).at ≡ first.at
unfolding from_left
chain_at first [] = refl
chain_at first (next ∷ others) = chain_at (one_more first next) others ∙ same_at next.operator first next.operand

-- with an operator it is no variable and no `null`
no_variable : (operator : BinaryOperator) (left right : Meaning) (others : List Joined) (other : Meaning) → compared (from_left (binary_value operator left right) others) other ≡ None
unfolding from_left
no_variable operator left right [] other = no_subject operator left right other
no_variable operator left right (next ∷ others) other = no_variable next.operator (binary_value operator left right) next.operand others other

-- the variable that is compared
pub chain_compared : (first : Meaning) (others : List Operand) (i : ℕ) (other : Meaning) → i ≤ length others
    → compared_at i first other ≡ compared (from_left first (map joined_of (take i others))) other
unfolding from_left
chain_compared first others zero other le = refl
chain_compared first [] (suc i) other le = absurd (omega (arith, le))
chain_compared first (x ∷ others) (suc i) other le =
    sym (no_variable (joined_of x).operator first (joined_of x).operand (map joined_of (take i others)) other)

-- the operator at an index asks for its left side
pub asked_here : (others : List Operand) (i : ℕ) (x : Operand) (last : Wanted) → i < length others → x ≡ get_or others i x → asked_at others i last ≡ asked x.operator
asked_here [] i x last lt is = absurd (omega (arith, lt))
asked_here (o ∷ others) zero x last lt is = ap (λ (y : Operand). asked y.operator) (sym is)
asked_here (o ∷ others) (suc i) x last lt is = asked_here others i x last (omega (arith, lt)) is

-- behind the last operator this form is asked for
pub asked_behind : (others : List Operand) (i : ℕ) (last : Wanted) → length others ≤ i → asked_at others i last ≡ last
asked_behind [] i last le = refl
asked_behind (o ∷ others) zero last le = absurd (omega (arith, le))
asked_behind (o ∷ others) (suc i) last le = asked_behind others i last (omega (arith, le))

pub compared_later : (i : ℕ) (first other : Meaning) → 0 < i → compared_at i first other ≡ None
compared_later zero first other lt = absurd (omega (arith, lt))
compared_later (suc i) first other lt = refl
