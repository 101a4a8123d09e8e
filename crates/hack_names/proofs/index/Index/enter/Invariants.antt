use Rattle.hack_names.specs.Inside.{AreNoted, HasFirst, HasOnly, KeepsOtherFiles}
use Rattle.hack_names.proofs.index.Index.enter.Given as goal

abbrev pub invariant-loop-position : goal.invariant-loop-position
invariant-loop-position l = record {
  first : HasFirst l.self.declared l.file l.units l.position;
  only : HasOnly l.self.declared l.file l.units;
  others : KeepsOtherFiles l.file l.fn.self.declared l.self.declared;
  noted : AreNoted l.self.declared l.self.contested;
}
