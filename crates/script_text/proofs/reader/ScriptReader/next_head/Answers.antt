use Rattle.std.proofs.Common.{◌≡◌, ◌++◌, true, false, None, refl, arith}
use Rattle.std.proofs.lemmas.Result.{err_from_is_err_and}
use Rattle.script_text.specs.Script.{Broken, Open, next_head}
use Rattle.script_text.specs.Reader.{ReadsHead}
use Rattle.script_text.specs.Reading.{SameNext}
use Rattle.script_text.proofs.Takes.{Takes-weaker, Stops-after}
use Rattle.script_text.proofs.Heads.{skipped_none, skipped_some, reads_end, read_ok, read_err, waits_skip}
use Rattle.script_text.proofs.reader.ScriptReader.next_head.Goals as goal

pub returns-then-not-branch-clause-head : goal.returns-then-not-branch-clause-head
returns-then-not-branch-clause-head g c =
    let a = c.args.self.now in
    let b = c.skip_empty_lines.new.self in
    let now = c.in_ok-skip_empty_lines.ensures in
    let none : c.in_ok-skip_empty_lines.field-0 ≡ false = grind (arith, c.if-not-branch.true) in
    let end = skipped_none c.in_ok-skip_empty_lines.field-0 b none now.skipped in
    Takes-weaker _ _ a b b (λ more. SameNext a.line (a.unused ++ more) b.line b.unused) (λ more. ReadsHead a more b None) now.same refl refl
    (λ more p. reads_end a b more p end.0 end.1)

pub returns-in_err-end-clause-stopped : goal.returns-in_err-end-clause-stopped
returns-in_err-end-clause-stopped g c =
    let a = c.args.self.now in
    let b = c.skip_empty_lines.new.self in
    let now = c.in_ok-skip_empty_lines.ensures in
    let p = err_from_is_err_and c.from_residual-in_err-end.result c.from_residual-in_err-end.ensures.1 in
    rw (p.1, p.2) (Stops-after (g.S.Source.faults c.args.source.now) (g.S.Source.faults c.skip_empty_lines.new.source) (g.S.Source.faults c.line_end.new.source)
    (g.S.Source.left c.args.source.now) (g.S.Source.left c.skip_empty_lines.new.source) (g.S.Source.left c.line_end.new.source) a b c.line_end.new.self
    (λ more. SameNext a.line (a.unused ++ more) b.line b.unused) (λ whole bytes line. ⊥) (λ whole bytes line. next_head whole a.line bytes ≡ Broken line)
    (λ bytes. next_head false b.line bytes ≡ Open) (λ bytes. next_head false a.line bytes ≡ Open) _
    now.same now.faults c.in_err-end.ensures.stopped (λ x y whole line q r. absurd r) (λ x y q r. waits_skip a.line b.line a.unused x y b.unused q r))

pub returns-clause-head : goal.returns-clause-head
returns-clause-head g c =
    let s = c.skip_empty_lines.new.self in
    let now = c.in_ok-skip_empty_lines.ensures in
    let there : c.in_ok-skip_empty_lines.field-0 ≡ true = grind (arith, c.if-not-branch.false) in
    let start = skipped_some c.in_ok-skip_empty_lines.field-0 s there now.skipped in
    let line = c.in_ok-end.ensures in
    let read = c.read_line.ensures in
    read_ok _ _ _ c.args.self.now s c.line_end.new.self c.read_line.new.self c.in_ok-end.end c.read_line.result now.same line.taken line.place start line.end
    read.head read.some read.unused read.line read.taken read.ended

pub returns-clause-stopped : goal.returns-clause-stopped
returns-clause-stopped g c =
    let s = c.skip_empty_lines.new.self in
    let now = c.in_ok-skip_empty_lines.ensures in
    let there : c.in_ok-skip_empty_lines.field-0 ≡ true = grind (arith, c.if-not-branch.false) in
    let start = skipped_some c.in_ok-skip_empty_lines.field-0 s there now.skipped in
    let line = c.in_ok-end.ensures in
    let read = c.read_line.ensures in
    read_err _ _ _ _ _ c.args.self.now s c.line_end.new.self c.read_line.new.self c.in_ok-end.end c.read_line.result now.same line.taken line.place start line.end
    read.stopped read.kept
