-- What the sides of a condition name, and the branches that are made of them.
use Rattle.std.proofs.Common.{◌≡◌, Bool, true, false}
use Rattle.hack_decls.specs.DeclState.{Symbols}
use Rattle.hack_rules.specs.Meanings.{Branches}
use Rattle.hack_rules.specs.Variables.{Variables}
use Rattle.hack_walk.specs.Checks.{BranchesIn, VariablesIn}
use Rattle.hack_walk.specs.NamesKept.{in_joined}
use Rattle.hack_chains.specs.inside.Chaining.{ends, other_side, turned, typed_side}

module _ (symbols : Symbols) where
  pub in_typed : (and : Bool) (branches : Branches) → BranchesIn symbols branches → VariablesIn symbols (typed_side and branches)
  in_typed true branches n = n.when_true
  in_typed false branches n = n.when_false

  pub in_other : (and : Bool) (branches : Branches) → BranchesIn symbols branches → VariablesIn symbols (other_side and branches)
  in_other true branches n = n.when_false
  in_other false branches n = n.when_true

  pub in_ends : (and : Bool) (apart : Variables) (second : Branches) → VariablesIn symbols apart → BranchesIn symbols second → BranchesIn symbols (ends and apart second)
  in_ends true apart second n b = record { when_true = b.when_true; when_false = in_joined symbols apart second.when_false n b.when_false }
  in_ends false apart second n b = record { when_true = in_joined symbols apart second.when_true n b.when_true; when_false = b.when_false }

  pub in_turned : (same : Bool) (branches : Branches) → BranchesIn symbols branches → BranchesIn symbols (turned same branches)
  in_turned true branches b = b
  in_turned false branches b = record { when_true = b.when_false; when_false = b.when_true }

-- branches are told by both sides
pub branches_are : (made : Branches) (so not : Variables) → made.when_true ≡ so → made.when_false ≡ not → made ≡ record { when_true = so; when_false = not }
branches_are made so not one two = λ i. record { when_true = one i; when_false = two i }
