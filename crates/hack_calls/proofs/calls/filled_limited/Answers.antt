use Rattle.hack_infer.specs.Filling.{filled, filling_of}
use Rattle.hack_calls.proofs.Filled.{whole}
use Rattle.hack_calls.proofs.calls.filled_limited.Goals as goal

pub returns-in-Ok : goal.returns-in-Ok
returns-in-Ok c = whole (filled (filling_of c.args.filling.now) c.args.ty.now) c.in-Ok.filled c.in-Ok.ensures
