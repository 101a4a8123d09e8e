use Rattle.std.proofs.Common.{◌≡◌, length}
use Rattle.std.specs.Vec.Iter.{into_iter_items, into_iter_len}
use Rattle.hack_rules.specs.Variables.{joined_with}
use Rattle.hack_walk.proofs.join.joined_with.Given as goal

abbrev pub invariant-loop-end : goal.invariant-loop-end
invariant-loop-end l =
    (joined_with l.here (into_iter_items l.end-iterator) ≡ joined_with l.initial.here (into_iter_items l.initial.end-iterator))
    × (into_iter_len l.end-iterator ≡ length (into_iter_items l.end-iterator))
