use Rattle.std.proofs.Common.{◌++◌, sym, ap}
use Rattle.hack_fold.specs.inside.Walking.{ahead_of}
use Rattle.hack_fold.specs.ShallowMap.{shallows_of}
use Rattle.hack_fold.proofs.WalkLemmas.{no_parents, parents_ahead}
use Rattle.hack_fold.proofs.walk.push_parents.Goals as goal

pub returns-in_ok-push-3 : goal.returns-in_ok-push-3
returns-in_ok-push-3 c =
    parents_ahead (shallows_of c.args.map.now) c.args.name.now c.in-Some.sig.now c.in-Some.ensures
    c.args.ahead.now.items c.push.new.self.items c.push-in-Some.new.self.items c.push-in-Some-2.new.self.items c.as_slice.result c.as_slice-in-Some.result c.as_slice-in-Some-2.result
    c.in_ok-push.ensures.items c.in_ok-push-2.ensures.items c.in_ok-push-3.ensures.items c.as_slice.ensures c.as_slice-in-Some.ensures c.as_slice-in-Some-2.ensures

pub returns-in_default : goal.returns-in_default
returns-in_default c = sym (ap (λ l. l ++ ahead_of c.args.ahead.now.items) (no_parents (shallows_of c.args.map.now) c.args.name.now c.in_default.ensures))
