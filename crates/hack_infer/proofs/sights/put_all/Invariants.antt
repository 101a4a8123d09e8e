use Rattle.std.proofs.Common.{◌≡◌, map, take}
use Rattle.hack_infer.specs.Seeing.{put_in}
use Rattle.hack_infer.proofs.sights.put_all.Given as goal

abbrev pub invariant-loop-ty : goal.invariant-loop-ty
invariant-loop-ty l = l.all.items ≡ map (put_in l.arguments) (take l.ty-index l.ty-items)
