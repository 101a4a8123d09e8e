use Rattle.std.proofs.Common.{◌≡◌, ◌+◌, ◌-◌, ◌*◌, ◌^◌, ◌≤◌, ◌++◌, length, cond}
use Rattle.script_text.specs.Reader.{Takes}
use Rattle.script_text.specs.Reading.{SameNext}
use Rattle.script_text.proofs.reader.ScriptReader.skip_empty_lines.Given as goal

abbrev pub invariant-loop-self : goal.invariant-loop-self
invariant-loop-self g l = record {
  same : Takes (g.S.Source.left l.fn.source) (g.S.Source.left l.source) l.fn.self l.self
      (λ more. SameNext l.fn.self.line (l.fn.self.unused ++ more) l.self.line l.self.unused);
  stand : l.self.stand ≡ l.fn.self.stand;
  faults : g.S.Source.faults l.fn.source ≤ g.S.Source.faults l.source;
}

abbrev pub decreases-loop-self : goal.decreases-loop-self
decreases-loop-self g l = 2 * (2 ^ 31 - l.self.taken) + length l.self.unused + cond l.self.ended 0 1
