use Rattle.std.proofs.Common.{◌≡◌, Ok, take}
use Rattle.hack_decls.specs.Looks.{Keeps}
use Rattle.hack_fold.specs.inside.Gathered.{IsSound, so_far}
use Rattle.hack_fold.specs.inside.OneByOne.{with_parents}
use Rattle.hack_fold.specs.Parents.{placed}
use Rattle.hack_fold.proofs.inherit.Inherited.take_all.Given as goal

abbrev pub invariant-loop-parent : goal.invariant-loop-parent
invariant-loop-parent g l = record {
  takes : so_far l.self ≡ with_parents (g.D.Decls.state l.initial.decls).map l.child (so_far l.initial.self) (placed l.wanted (take l.parent-index l.parent-items));
  sound : IsSound l.self;
  keeps : Keeps {A = Unit {0}} (g.D.Decls.state l.initial.decls) (Ok tt) (g.D.Decls.state l.decls);
}
