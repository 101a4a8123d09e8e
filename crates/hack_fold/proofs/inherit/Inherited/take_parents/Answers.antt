use Rattle.hack_decls.specs.AskLaws.{kept_then}
use Rattle.hack_fold.specs.inside.Gathered.{so_far}
use Rattle.hack_fold.proofs.InheritLemmas.{in_three}
use Rattle.hack_fold.proofs.inherit.Inherited.take_parents.Goals as goal

pub returns-clause-takes : goal.returns-clause-takes
returns-clause-takes g c =
    in_three (g.D.Decls.state c.args.decls.now).map (g.D.Decls.state c.take_all.new.decls).map (g.D.Decls.state c.take_all-2.new.decls).map c.args.child c.args.sig.now
    (so_far c.args.self.now) (so_far c.take_all.new.self) (so_far c.take_all-2.new.self) (so_far c.take_all-3.new.self) c.take_all-3.result c.extends_sort.result c.extends_sort.ensures
    c.in_ok-take_all.ensures.keeps.map c.in_ok-take_all-2.ensures.keeps.map c.in_ok-take_all.ensures.takes c.in_ok-take_all-2.ensures.takes c.take_all-3.ensures.takes

pub returns-clause-keeps : goal.returns-clause-keeps
returns-clause-keeps g c = kept_then (kept_then c.in_ok-take_all.ensures.keeps c.in_ok-take_all-2.ensures.keeps) c.take_all-3.ensures.keeps
