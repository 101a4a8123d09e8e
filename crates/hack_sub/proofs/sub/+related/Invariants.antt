use Rattle.hack_sub.proofs.sub.+related.Given as goal

abbrev pub decreases-related : goal.decreases-related
decreases-related g l = l.height
