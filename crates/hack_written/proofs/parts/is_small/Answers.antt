use Rattle.std.proofs.lemmas.Bool.Decides.{same_from_decides}
use Rattle.hack_sub.specs.IsBelow.{is_small}
use Rattle.hack_written.proofs.Puts.{small}
use Rattle.hack_written.proofs.parts.is_small.Goals as goal

pub returns : goal.returns
returns c = same_from_decides c.is_within.result (is_small c.args.ty.now) c.is_within.ensures (small c.args.ty.now)
