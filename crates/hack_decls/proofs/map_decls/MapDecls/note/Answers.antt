use Rattle.hack_decls.proofs.PlainLemmas.{noted}
use Rattle.hack_decls.proofs.map_decls.MapDecls.note.Goals as goal

pub returns-in-Ok : goal.returns-in-Ok
returns-in-Ok c = noted c.args.self.now c.insert.new.self c.args.s c.in-Ok.ensures.updates
