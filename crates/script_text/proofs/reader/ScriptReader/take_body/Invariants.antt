use Rattle.std.proofs.Common.{◌≡◌, ◌+◌, ◌-◌, ◌≤◌, ◌<◌, ◌++◌, [], length, cond, take}
use Rattle.script_text.specs.Reader.{Takes}
use Rattle.script_text.specs.Reading.{SamePlace}
use Rattle.script_text.proofs.reader.ScriptReader.take_body.Given as goal

abbrev pub invariant-loop-filled : goal.invariant-loop-filled
invariant-loop-filled g l = record {
  taken : Takes (g.S.Source.left l.fn.source) (g.S.Source.left l.source) l.fn.self l.self
      (λ more. l.fn.self.unused ++ more ≡ take l.filled l.body ++ l.self.unused);
  place : SamePlace l.fn.self l.self;
  faults : g.S.Source.faults l.fn.source ≤ g.S.Source.faults l.source;
  inside : l.filled ≤ length l.body;
  empty : l.filled < length l.body → l.self.unused ≡ [];
  most : l.self.taken ≤ 2147483647;
  lines : l.self.line + l.filled + length l.self.unused ≤ l.self.taken;
}

abbrev pub decreases-loop-filled : goal.decreases-loop-filled
decreases-loop-filled g l = (length l.body - l.filled) + cond l.self.ended 0 1
