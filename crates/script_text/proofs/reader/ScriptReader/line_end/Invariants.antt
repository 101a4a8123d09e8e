use Rattle.std.proofs.Common.{◌≡◌, ◌+◌, ◌-◌, ◌≤◌, ◌^◌, ◌++◌, length, cond}
use Rattle.memchr.specs.Find.{Nowhere, Passes, is_byte}
use Rattle.script_text.specs.Reader.{Takes}
use Rattle.script_text.specs.Reading.{IsLineStart, SamePlace}
use Rattle.script_text.proofs.reader.ScriptReader.line_end.Given as goal

abbrev pub invariant-loop-at : goal.invariant-loop-at
invariant-loop-at g l = record {
  taken : Takes (g.S.Source.left l.fn.source) (g.S.Source.left l.source) l.fn.self l.self (λ more. l.self.unused ≡ l.fn.self.unused ++ more);
  place : SamePlace l.fn.self l.self;
  faults : g.S.Source.faults l.fn.source ≤ g.S.Source.faults l.source;
  start : IsLineStart l.self.unused;
  inside : l.seen ≤ length l.self.unused;
  few : l.seen ≤ 300;
  none : Nowhere (Passes (is_byte 10) l.self.unused) 0 l.seen;
}

abbrev pub decreases-loop-at : goal.decreases-loop-at
decreases-loop-at g l = (2 ^ 31 - l.self.taken) + cond l.self.ended 0 1
