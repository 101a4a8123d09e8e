use Rattle.std.proofs.Common.{◌≡◌, map, take}
use Rattle.hack_new.specs.inside.Lifts.{lifted_one}
use Rattle.hack_new.proofs.lifting.lifted_params.Given as goal

abbrev pub invariant-loop-param : goal.invariant-loop-param
invariant-loop-param l = l.all.items ≡ map (lifted_one l.count) (take l.param-index l.params)
