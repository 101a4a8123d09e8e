use Rattle.std.proofs.Common.{◌≡◌, map, take}
use Rattle.hack_types.specs.declared.hack_type.HackType.TheVariants.{Any}
use Rattle.hack_calls.proofs.mentions.any_for_each.Given as goal

abbrev pub invariant-loop-param : goal.invariant-loop-param
invariant-loop-param l = l.types ≡ map (λ param. Any) (take l._param-index l.params)
