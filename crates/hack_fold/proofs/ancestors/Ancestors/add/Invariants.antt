use Rattle.std.proofs.Common.{◌≡◌, fold, map, take}
use Rattle.hack_fold.specs.inside.Gathered.{AreNamed}
use Rattle.hack_fold.specs.Paths.{ancestor_in}
use Rattle.hack_fold.specs.Walked.{with_ancestor}
use Rattle.hack_fold.proofs.ancestors.Ancestors.add.Given as goal

abbrev pub invariant-loop-ancestor : goal.invariant-loop-ancestor
invariant-loop-ancestor l = record {
  added : l.self.list.items ≡ fold with_ancestor l.initial.self.list.items (map (ancestor_in l.arguments) (take l.ancestor-index l.ancestor-items));
  named : AreNamed l.self;
}
