use Rattle.hack_assigned.proofs.Adding.{told}
use Rattle.hack_assigned.proofs.Stated.{catches_are}
use Rattle.hack_assigned.proofs.statements.assigned_in_catches.Goals as goal

pub returns : goal.returns
returns c = told _ _ _ (catches_are c.args.catches.now) c.in_catches.ensures
