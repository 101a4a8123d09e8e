use Rattle.std.proofs.Common.{◌≡◌, take, false}
use Rattle.std.specs.List.{list_any}
use Rattle.hack_fold.specs.ShallowMap.{shallows_of}
use Rattle.hack_fold.specs.Line.{is_parent}
use Rattle.hack_fold.proofs.line.reaches.Given as goal

abbrev pub invariant-loop-name : goal.invariant-loop-name
invariant-loop-name l = list_any (is_parent (shallows_of l.map) l.s) (take l.name-index l.names) ≡ false
