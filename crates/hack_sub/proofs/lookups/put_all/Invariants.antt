use Rattle.std.proofs.Common.{◌≡◌, ◌++◌, drop, map, option_map}
use Rattle.hack_types.specs.Substituted.{substitute}
use Rattle.hack_sub.specs.IsBelow.{all_small}
use Rattle.hack_sub.proofs.lookups.put_all.Given as goal

abbrev pub invariant-loop-ty : goal.invariant-loop-ty
invariant-loop-ty l =
    option_map (λ rest. l.all.items ++ rest) (all_small (map (substitute l.arguments) (drop l.ty-index l.ty-items)))
    ≡ all_small (map (substitute l.arguments) l.ty-items)
