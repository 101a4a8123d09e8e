use Rattle.std.proofs.Common.{◌≡◌, take}
use Rattle.hack_new.proofs.solved.class_of_solved.Given as goal

abbrev pub invariant-loop-index : goal.invariant-loop-index
invariant-loop-index l = l.types.items ≡ take l.index l.fn.solved
