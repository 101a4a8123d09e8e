use Rattle.std.proofs.Common.{◌≡◌, ◌++◌, map, take}
use Rattle.hack_rules.specs.News.{lifted_param}
use Rattle.hack_new.proofs.lifting.lifted_type_params.Given as goal

abbrev pub invariant-loop-param : goal.invariant-loop-param
invariant-loop-param l = l.all.items ≡ map (lifted_param l.count) (take l.param-index l.class)

abbrev pub invariant-loop-param-2 : goal.invariant-loop-param-2
invariant-loop-param-2 l = l.all.items ≡ map (lifted_param l.count) l.fn.class ++ map (lifted_param l.count) (take l.param-index l.own)
