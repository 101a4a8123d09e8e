use Rattle.std.proofs.Common.{◌≡◌, ◌<◌, ℕ, [], get_or}
use Rattle.hack_types.specs.Names.{fixed_names}
use Rattle.hack_types.proofs.names.fixed_index.Given as goal

abbrev pub invariant-loop-index : goal.invariant-loop-index
invariant-loop-index l = (k : ℕ) → k < l.index → get_or fixed_names k [] ≡ l.text → ⊥
