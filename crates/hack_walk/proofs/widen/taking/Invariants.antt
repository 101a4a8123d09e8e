use Rattle.std.proofs.Common.{◌≡◌, take}
use Rattle.hack_rules.specs.Variables.{taking}
use Rattle.hack_walk.proofs.widen.taking.Given as goal

abbrev pub invariant-loop-name : goal.invariant-loop-name
invariant-loop-name l = l.variables ≡ taking (take l.name-index l.names) l.from l.initial.variables
