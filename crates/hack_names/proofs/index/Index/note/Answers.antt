use Rattle.hack_names.proofs.Indexed.{kept_with}
use Rattle.hack_names.proofs.index.Index.note.Goals as goal

pub returns-in_ok-insert-clause-kept : goal.returns-in_ok-insert-clause-kept
returns-in_ok-insert-clause-kept c = kept_with c.args.self.now.contested c.insert.new.self c.args.symbol.now c.in_ok-insert.ensures.updates.0
