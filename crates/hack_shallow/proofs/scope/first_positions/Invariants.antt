use Rattle.std.proofs.Common.{◌≡◌, ℕ, take}
use Rattle.std.specs.Ordering.{nat_cmp}
use Rattle.std.specs.BTreeMap.{get}
use Rattle.hack_shallow.specs.Scope.{first_at}
use Rattle.hack_shallow.proofs.scope.first_positions.Given as goal

abbrev pub invariant-loop-name : goal.invariant-loop-name
invariant-loop-name l = record {
  index : l.index ≡ l.name-index;
  found : (query : ℕ) → get nat_cmp l.first query ≡ first_at query (take l.name-index l.names);
}
