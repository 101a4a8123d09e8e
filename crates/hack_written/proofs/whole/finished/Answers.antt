use Rattle.hack_written.proofs.Puts.{goes, stays}
use Rattle.hack_written.proofs.whole.finished.Goals as goal

pub returns-then-is_small-clause-answer : goal.returns-then-is_small-clause-answer
returns-then-is_small-clause-answer c = stays c.args.ty c.args.is_small c.requires c.if-is_small.true

pub returns-clause-answer : goal.returns-clause-answer
returns-clause-answer c = goes c.args.ty c.args.is_small c.requires c.if-is_small.false
