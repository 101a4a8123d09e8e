use Rattle.std.proofs.lemmas.Bool.Decides.{same_from_decides}
use Rattle.hack_types.specs.SameLaws.{equal_is_same, same_is_equal}
use Rattle.hack_types.specs.SameType.{same_type}
use Rattle.hack_walk.proofs.widen.same.Goals as goal

pub returns : goal.returns
returns c = let S = c.args.before.now in let T = c.args.ty.now in
    same_from_decides c.same.result (same_type S T) c.same.ensures (same_is_equal S T, equal_is_same S T)
