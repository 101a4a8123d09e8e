use Rattle.std.proofs.Common.{Some, ◌∙◌}
use Rattle.hack_names.proofs.Indexed.{noted_with, noted_same, set_from, same_from, on_err}
use Rattle.hack_names.proofs.index.Index.add.Goals as goal

pub returns-in_err-note-clause-err : goal.returns-in_err-note-clause-err
returns-in_err-note-clause-err c = on_err c.from_residual.result _ (same_from c.args.self.now.declared c.note.new.self.declared c.note.new.self.declared c.note.ensures.same (λ i. c.note.new.self.declared.entries))

pub returns-in_err-note-clause-noted : goal.returns-in_err-note-clause-noted
returns-in_err-note-clause-noted c = noted_same c.args.self.now.declared c.note.new.self.declared c.args.self.now.contested c.note.new.self.contested c.requires c.note.ensures.same c.note.ensures.kept

pub returns-in_err-insert-clause-err : goal.returns-in_err-insert-clause-err
returns-in_err-insert-clause-err c = on_err c.from_residual-in_err-insert.result _ (same_from c.args.self.now.declared c.note.new.self.declared c.insert.new.self c.note.ensures.same c.in_err-insert.ensures.err)

pub returns-in_err-insert-clause-noted : goal.returns-in_err-insert-clause-noted
returns-in_err-insert-clause-noted c =
    noted_same c.args.self.now.declared c.insert.new.self c.args.self.now.contested c.note.new.self.contested c.requires (c.in_err-insert.ensures.err ∙ c.note.ensures.same) c.note.ensures.kept

pub returns-clause-added : goal.returns-clause-added
returns-clause-added c = set_from c.args.self.now.declared c.note.new.self.declared c.insert.new.self c.args.key (Some c.args.head) c.note.ensures.same c.in_ok-insert.ensures.updates.0

pub returns-clause-noted : goal.returns-clause-noted
returns-clause-noted c =
    noted_with c.note.new.self.declared c.insert.new.self c.note.new.self.contested c.note.new.self.contested c.args.key c.args.head
    (noted_same c.args.self.now.declared c.note.new.self.declared c.args.self.now.contested c.note.new.self.contested c.requires c.note.ensures.same c.note.ensures.kept)
    c.in_ok-insert.ensures.updates.0 (λ s has. has) c.in_ok-note.ensures.noted
