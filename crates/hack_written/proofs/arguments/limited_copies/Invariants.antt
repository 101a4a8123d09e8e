use Rattle.std.proofs.Common.{◌≡◌, map, take}
use Rattle.hack_types.specs.Substituted.{limited}
use Rattle.hack_written.proofs.arguments.limited_copies.Given as goal

abbrev pub invariant-loop-ty : goal.invariant-loop-ty
invariant-loop-ty l = l.small ≡ map limited (take l.ty-index l.types)
