use Rattle.hack_infer.specs.Filling.{filled, filling_of}
use Rattle.hack_written.proofs.Puts.{whole}
use Rattle.hack_written.proofs.bounds.put.Goals as goal

pub returns-in-Ok : goal.returns-in-Ok
returns-in-Ok c = whole (filled (filling_of c.args.filling.now) c.args.bound.now) c.in-Ok.ty c.in-Ok.ensures
