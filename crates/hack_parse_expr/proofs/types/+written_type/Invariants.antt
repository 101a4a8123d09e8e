use Rattle.hack_parse_expr.proofs.types.+written_type.Given as goal

abbrev pub decreases-written_type : goal.decreases-written_type
decreases-written_type l = l.depth
