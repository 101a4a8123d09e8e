use Rattle.hack_rules.proofs.Idle.{joined_itself, passes}
use Rattle.hack_rules.proofs.IdleLoops.{do_keeps, for_keeps, foreach_keeps, while_keeps}
use Rattle.hack_rules.proofs.laws.idle_loops.Goals as goal

pub returns : goal.returns
returns c = record {
  passes = λ setting map entry turn rises round. passes setting map entry rises turn round;
  joins = joined_itself;
  while_loop = while_keeps;
  do_loop = do_keeps;
  for_loop = for_keeps;
  foreach_loop = foreach_keeps;
}
