use Rattle.phase_core.proofs.edits.edit.Goals as goal

pub returns : goal.returns
returns c = (c.in_ok-may_edit.ensures.0 c.if-not-branch.false, c.in_ok-edit_over.ensures c.in_ok-evicted.ensures)
