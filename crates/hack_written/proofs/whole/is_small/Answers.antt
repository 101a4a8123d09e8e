use Rattle.std.proofs.Common.{nat_le}
use Rattle.std.proofs.lemmas.Bool.Decides.{same_from_decides}
use Rattle.hack_types.specs.Substituted.{most_nodes}
use Rattle.hack_types.specs.TypeNodes.{nodes}
use Rattle.hack_written.proofs.Puts.{small}
use Rattle.hack_written.proofs.whole.is_small.Goals as goal

pub returns : goal.returns
returns c = same_from_decides c.is_within.result (nat_le (nodes c.args.ty) most_nodes) c.is_within.ensures (small c.args.ty)
