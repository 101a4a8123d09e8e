use Rattle.hack_decls.proofs.PlainLemmas.{declared}
use Rattle.hack_decls.proofs.map_decls.MapDecls.put.Goals as goal

pub returns-clause-declares : goal.returns-clause-declares
returns-clause-declares c = declared c.args.self.now c.insert.new.self c.args.s c.args.folded c.in_ok-before.ensures.updates
