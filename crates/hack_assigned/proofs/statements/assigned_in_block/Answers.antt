use Rattle.hack_assigned.proofs.Adding.{told}
use Rattle.hack_assigned.proofs.Stated.{block_is}
use Rattle.hack_assigned.proofs.statements.assigned_in_block.Goals as goal

pub returns : goal.returns
returns c = told _ _ _ (block_is c.args.statements.now) c.in_statements.ensures
