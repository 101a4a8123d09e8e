use Rattle.hack_calls.proofs.heads.+head_within.Given as goal

abbrev pub decreases-head_within : goal.decreases-head_within
decreases-head_within g l = l.steps
