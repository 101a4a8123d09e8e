use Rattle.std.proofs.Common.{◌≡◌, map, take}
use Rattle.hack_types.specs.declared.hack_type.HackType.TheVariants.{Any}
use Rattle.hack_new.proofs.solved.class_of_any.Given as goal

abbrev pub invariant-loop-param : goal.invariant-loop-param
invariant-loop-param l = l.types.items ≡ map (λ param. Any) (take l._param-index l.params)
