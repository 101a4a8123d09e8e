use Rattle.hack_infer.proofs.matching.+match_in.Given as goal

abbrev pub decreases-match_in : goal.decreases-match_in
decreases-match_in g l = l.depth
