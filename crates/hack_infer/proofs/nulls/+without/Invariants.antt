use Rattle.std.proofs.Common.{◌+◌, ◌*◌, take}
use Rattle.hack_infer.specs.inside.Calls.{PartsSoFar}
use Rattle.hack_infer.specs.WithoutNull.{without_null_in}
use Rattle.hack_infer.proofs.nulls.+without.Given as goal

abbrev pub decreases-without_null_in : goal.decreases-without_null_in
decreases-without_null_in g l = 8 * l.turns

abbrev pub decreases-by_option : goal.decreases-by_option
decreases-by_option g l = 8 * l.turns + 5

abbrev pub decreases-by_members : goal.decreases-by_members
decreases-by_members g l = 8 * l.turns + 4

abbrev pub decreases-by_name : goal.decreases-by_name
decreases-by_name g l = 8 * l.turns + 3

abbrev pub decreases-union_without : goal.decreases-union_without
decreases-union_without g l = 8 * l.turns + 2

abbrev pub decreases-alias_without : goal.decreases-alias_without
decreases-alias_without g l = 8 * l.turns + 2

abbrev pub invariant-union_without-loop-member : goal.invariant-union_without-loop-member
invariant-union_without-loop-member g l = PartsSoFar (g.D.Decls.state l.initial.decls) (g.D.Decls.state l.decls) (λ map. without_null_in l.turns map)
    (take l.member-index l.members) l.members l.parts.items
