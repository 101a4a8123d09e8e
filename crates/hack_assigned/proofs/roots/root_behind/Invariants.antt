use Rattle.std.proofs.Common.{◌≡◌, drop, option_to_list}
use Rattle.hack_assigned.specs.inside.Suffixes.{kept_behind}
use Rattle.hack_assigned.proofs.roots.root_behind.Given as goal

abbrev pub invariant-loop-suffix : goal.invariant-loop-suffix
invariant-loop-suffix l = kept_behind (option_to_list l.behind) (drop l.suffix-index l.suffixes) ≡ kept_behind (option_to_list l.fn.root) l.suffixes
