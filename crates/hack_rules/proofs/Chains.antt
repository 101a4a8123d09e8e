-- Operators between and before operands, and `? :`, go well.
use Rattle.std.proofs.Common.{Bool, true, false, Option, Some, None, List, [], ◌∷◌}
use Rattle.std.specs.List.{AllByRecursion}
use Rattle.hack_tree.specs.declared.expression.BinaryOperator.{BinaryOperator}
use Rattle.hack_tree.specs.declared.expression.BinaryOperator.TheVariants as binary
use Rattle.hack_tree.specs.declared.expression.PrefixOperator.{PrefixOperator}
use Rattle.hack_tree.specs.declared.expression.PrefixOperator.TheVariants as prefix
use Rattle.hack_types.specs.declared.place.Place.{Place}
use Rattle.hack_rules.specs.Chains.{Joined, and_branches, and_row, and_value, binary_value, chain_by, chain_value, coalesce_row, coalesce_value, compared, conditional_row, conditional_value, equality_branches, equality_row, equality_value, from_left, from_right, inequality_branches, inequality_value, is_coalesce, not_branches, not_row, not_value, operation_or, operation_row, or_branches, or_row, or_value, power_row, power_value, prefix_value, short_row, sign_row, sign_value}
use Rattle.hack_rules.specs.Meanings.{Meaning}
use Rattle.hack_rules.specs.Operators.{Operation, Sign, add, complement, minus, operation_of, plus, power, subtract}
use Rattle.hack_rules.specs.Variables.{Variables}
use Rattle.hack_rules.proofs.Environments.{follows_joined}
use Rattle.hack_rules.proofs.Meanings.{AllSound, MaySound, Parted, Sound, goes_no_aim, sound_plain}
use Rattle.hack_rules.proofs.Operators.{goes_operate, goes_operate_alone}
use Rattle.hack_rules.proofs.Refining.{goes_tested_branches}
use Rattle.hack_rules.proofs.Steps.{Free, Goes, goes_next, goes_pure, goes_replace, goes_then, goes_variables}
use Rattle.hack_rules.proofs.Targets.{goes_coalesced, sound_increment}

-- an operand of a chain
pub record SoundJoined (base : Variables) (joined : Joined) : Type 0 where
  pub operand : Sound base joined.operand

module _ {base : Variables} where
  -- ---- `!`, `&&`, `||`

  goes_not_row : {operand : Meaning} → Sound base operand → Goes base Free (not_row operand)
  unfolding not_row
  goes_not_row o = goes_next o.walk (goes_pure _ tt)

  goes_not_branches : {operand : Meaning} → Sound base operand → Goes base (Parted base) (not_branches operand)
  unfolding not_branches
  goes_not_branches o = goes_then o.branches (λ branches f. goes_pure _ (f.1, f.0))

  sound_not : (at : Place) {operand : Meaning} → Sound base operand → Sound base (not_value at operand)
  sound_not _ o = record {
    walk = goes_not_row o;
    left = goes_not_row o;
    branches = goes_not_branches o;
    aim = goes_no_aim _ (goes_not_row o);
    left_aim = goes_no_aim _ (goes_not_row o);
  }

  goes_and_row : {left right : Meaning} → Sound base left → Sound base right → Goes base Free (and_row left right)
  unfolding and_row
  goes_and_row l r = goes_then l.branches (λ first f. goes_next (goes_replace f.0) (goes_next r.walk
      (goes_then goes_variables (λ behind g. goes_next (goes_replace (follows_joined f.1 g)) (goes_pure _ tt)))))

  goes_and_branches : {left right : Meaning} → Sound base left → Sound base right → Goes base (Parted base) (and_branches left right)
  unfolding and_branches
  goes_and_branches l r = goes_then l.branches (λ first f. goes_next (goes_replace f.0) (goes_then r.branches (λ second g. goes_pure _ (g.0, follows_joined f.1 g.1))))

  sound_and : {left right : Meaning} → Sound base left → Sound base right → Sound base (and_value left right)
  sound_and l r = record {
    walk = goes_and_row l r;
    left = goes_and_row l r;
    branches = goes_and_branches l r;
    aim = goes_no_aim _ (goes_and_row l r);
    left_aim = goes_no_aim _ (goes_and_row l r);
  }

  goes_or_row : {left right : Meaning} → Sound base left → Sound base right → Goes base Free (or_row left right)
  unfolding or_row
  goes_or_row l r = goes_then l.branches (λ first f. goes_next (goes_replace f.1) (goes_next r.walk
      (goes_then goes_variables (λ behind g. goes_next (goes_replace (follows_joined f.0 g)) (goes_pure _ tt)))))

  goes_or_branches : {left right : Meaning} → Sound base left → Sound base right → Goes base (Parted base) (or_branches left right)
  unfolding or_branches
  goes_or_branches l r = goes_then l.branches (λ first f. goes_next (goes_replace f.1) (goes_then r.branches (λ second g. goes_pure _ (follows_joined f.0 g.0, g.1))))

  sound_or : {left right : Meaning} → Sound base left → Sound base right → Sound base (or_value left right)
  sound_or l r = record {
    walk = goes_or_row l r;
    left = goes_or_row l r;
    branches = goes_or_branches l r;
    aim = goes_no_aim _ (goes_or_row l r);
    left_aim = goes_no_aim _ (goes_or_row l r);
  }

  -- ---- `==` and its kin

  goes_equality_row : {left right : Meaning} → Sound base left → Sound base right → Goes base Free (equality_row left right)
  unfolding equality_row
  goes_equality_row l r = goes_next l.walk (goes_next r.walk (goes_pure _ tt))

  goes_equality_branches : (left right : Meaning) → Sound base left → Sound base right → Goes base (Parted base) (equality_branches left right)
  unfolding equality_branches
  goes_equality_branches left right l r = goes_next (goes_equality_row l r) (goes_tested_branches _ (compared left right))

  goes_inequality_branches : (left right : Meaning) → Sound base left → Sound base right → Goes base (Parted base) (inequality_branches left right)
  unfolding inequality_branches
  goes_inequality_branches left right l r = goes_then (goes_equality_branches left right l r) (λ branches f. goes_pure _ (f.1, f.0))

  sound_equality : (left right : Meaning) → Sound base left → Sound base right → Sound base (equality_value left right)
  sound_equality left right l r = record {
    walk = goes_equality_row l r;
    left = goes_equality_row l r;
    branches = goes_equality_branches left right l r;
    aim = goes_no_aim _ (goes_equality_row l r);
    left_aim = goes_no_aim _ (goes_equality_row l r);
  }

  sound_inequality : (left right : Meaning) → Sound base left → Sound base right → Sound base (inequality_value left right)
  sound_inequality left right l r = record {
    walk = goes_equality_row l r;
    left = goes_equality_row l r;
    branches = goes_inequality_branches left right l r;
    aim = goes_no_aim _ (goes_equality_row l r);
    left_aim = goes_no_aim _ (goes_equality_row l r);
  }

  -- ---- operators with a table

  goes_operation_row : (operation : Operation) {left right : Meaning} → Sound base left → Sound base right → Goes base Free (operation_row operation left right)
  unfolding operation_row
  goes_operation_row operation l r = goes_then l.walk (λ first g. goes_then r.walk (λ second h. goes_operate _ operation _ _))

  goes_power_row : (operands : List Meaning) → AllSound base operands → Goes base Free (power_row operands)
  unfolding power_row
  goes_power_row [] all = goes_pure _ tt
  goes_power_row (last ∷ []) all = all.0.walk
  goes_power_row (operand ∷ next ∷ operands) all = goes_then all.0.walk (λ first g. goes_then (goes_power_row (next ∷ operands) all.1) (λ second h. goes_operate _ power _ _))

  pub sound_power : (at : Place) (operands : List Meaning) → AllSound base operands → Sound base (power_value at operands)
  sound_power _ operands all = sound_plain (goes_power_row operands all)

  goes_sign_row : (at : Place) (sign : Sign) {operand : Meaning} → Sound base operand → Goes base Free (sign_row at sign operand)
  unfolding sign_row
  goes_sign_row _ sign o = goes_then o.walk (λ ty g. goes_operate_alone _ sign _)

  sound_sign : (at : Place) (sign : Sign) {operand : Meaning} → Sound base operand → Sound base (sign_value at sign operand)
  sound_sign _ sign o = sound_plain (goes_sign_row _ sign o)

  -- ---- `??` and `? :`

  goes_coalesce_row : {left right : Meaning} → Sound base left → Sound base right → Goes base Free (coalesce_row left right)
  unfolding coalesce_row
  goes_coalesce_row l r = goes_then l.left (λ first g. goes_then r.walk (λ second h. goes_coalesced _ _))

  sound_coalesce : {left right : Meaning} → Sound base left → Sound base right → Sound base (coalesce_value left right)
  sound_coalesce l r = sound_plain (goes_coalesce_row l r)

  goes_short_row : {condition other : Meaning} → Sound base condition → Sound base other → Goes base Free (short_row condition other)
  unfolding short_row
  goes_short_row c o = goes_then c.walk (λ first g. goes_then o.walk (λ second h. goes_coalesced _ _))

  goes_conditional_row : {condition middle other : Meaning} → Sound base condition → Sound base middle → Sound base other → Goes base Free (conditional_row condition middle other)
  unfolding conditional_row
  goes_conditional_row c m o = goes_then c.branches (λ branches f. goes_next (goes_replace f.0) (goes_then m.walk (λ first g.
      goes_then goes_variables (λ behind h. goes_next (goes_replace f.1) (goes_then o.walk (λ second i.
      goes_then goes_variables (λ end j. goes_next (goes_replace (follows_joined h j)) (goes_pure _ tt))))))))

  pub sound_conditional : (at : Place) {condition : Meaning} (middle : Option Meaning) {other : Meaning} → Sound base condition → MaySound base middle → Sound base other
      → Sound base (conditional_value at condition middle other)
  sound_conditional _ None c m o = sound_plain (goes_short_row c o)
  sound_conditional _ (Some middle) c m o = sound_plain (goes_conditional_row c m o)

  -- ---- chains

  sound_operation : (operation : Option Operation) {left right : Meaning} → Sound base left → Sound base right → Sound base (operation_or operation left right)
  sound_operation (Some operation) l r = sound_plain (goes_operation_row operation l r)
  sound_operation None l r = sound_coalesce l r

  sound_binary : (operator : BinaryOperator) {left right : Meaning} → Sound base left → Sound base right → Sound base (binary_value operator left right)
  sound_binary binary.Coalesce l r = sound_coalesce l r
  sound_binary binary.Or l r = sound_or l r
  sound_binary binary.And l r = sound_and l r
  sound_binary binary.Equal {left = left} {right = right} l r = sound_equality left right l r
  sound_binary binary.Identical {left = left} {right = right} l r = sound_equality left right l r
  sound_binary binary.NotEqual {left = left} {right = right} l r = sound_inequality left right l r
  sound_binary binary.NotIdentical {left = left} {right = right} l r = sound_inequality left right l r
  sound_binary operator l r = sound_operation (operation_of operator) l r

  sound_from_right : {first : Meaning} (others : List Joined) → Sound base first → AllByRecursion (SoundJoined base) others → Sound base (from_right first others)
  unfolding from_right
  sound_from_right [] s all = s
  sound_from_right (next ∷ others) s all = sound_coalesce s (sound_from_right others all.0.operand all.1)

  sound_from_left : (first : Meaning) (others : List Joined) → Sound base first → AllByRecursion (SoundJoined base) others → Sound base (from_left first others)
  unfolding from_left
  sound_from_left first [] s all = s
  sound_from_left first (next ∷ others) s all =
      sound_from_left (binary_value next.operator first next.operand) others (sound_binary next.operator s all.0.operand) all.1

  sound_chain_by : (right : Bool) (first : Meaning) (others : List Joined) → Sound base first → AllByRecursion (SoundJoined base) others → Sound base (chain_by right first others)
  sound_chain_by true first others s all = sound_from_right others s all
  sound_chain_by false first others s all = sound_from_left first others s all

  pub sound_chain : (first : Meaning) (others : List Joined) → Sound base first → AllByRecursion (SoundJoined base) others → Sound base (chain_value first others)
  unfolding chain_value
  sound_chain first [] s all = s
  sound_chain first (next ∷ others) s all = sound_chain_by (is_coalesce next.operator) first (next ∷ others) s all

  pub sound_prefix : (at : Place) (operator : PrefixOperator) {operand : Meaning} → Sound base operand → Sound base (prefix_value at operator operand)
  sound_prefix _ prefix.Not o = sound_not _ o
  sound_prefix _ prefix.Minus o = sound_sign _ minus o
  sound_prefix _ prefix.Plus o = sound_sign _ plus o
  sound_prefix _ prefix.BitNot o = sound_sign _ complement o
  sound_prefix _ prefix.Increment o = sound_increment _ add o
  sound_prefix _ prefix.Decrement o = sound_increment _ subtract o
