use Rattle.std.proofs.Common.{◌≡◌}
use Rattle.hack_names.specs.Inside.{AreNoted, HasOnly, KeepsOtherFiles}
use Rattle.hack_names.proofs.Filed.{LacksFirst}
use Rattle.hack_names.proofs.index.Index.leave.Given as goal

abbrev pub invariant-loop-position : goal.invariant-loop-position
invariant-loop-position l = record {
  same : l.name ≡ l.fn.file;
  lacks : LacksFirst l.self.declared l.fn.file l.units l.position;
  only : HasOnly l.self.declared l.fn.file l.units;
  others : KeepsOtherFiles l.fn.file l.fn.self.declared l.self.declared;
  noted : AreNoted l.self.declared l.self.contested;
}
