use Rattle.hack_infer.proofs.PutLaws.{put_whole}
use Rattle.hack_infer.proofs.sights.put_in.Goals as goal

pub returns-in-Ok : goal.returns-in-Ok
returns-in-Ok c = put_whole c.args.arguments.now c.args.ty.now c.in-Ok.put c.in-Ok.ensures
