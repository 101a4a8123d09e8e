use Rattle.std.proofs.Common.{◌≡◌, drop}
use Rattle.hack_sub.specs.IsBelow.{covers}
use Rattle.hack_sub.proofs.shapes.covers.Given as goal

abbrev pub invariant-loop-field : goal.invariant-loop-field
invariant-loop-field l = covers l.others (drop l.field-index l.fields) ≡ covers l.others l.fields
