use Rattle.std.proofs.Common.{◌∙◌}
use Rattle.hack_first.proofs.AllFirst.{all_first}
use Rattle.hack_first.proofs.first.are_first.Goals as goal

pub returns : goal.returns
returns c = c.each_is_first.ensures ∙ all_first c.args.units.now
