use Rattle.std.proofs.Common.{◌≡◌, ◌+◌, false, List, ℕ, [], ◌++◌, drop, sym, ap, ◌∙◌, subst, arith}
use Rattle.std.proofs.lemmas.Result.{err_from_is_err_and}
use Rattle.script_text.specs.Reader.{Reader}
use Rattle.script_text.specs.Reading.{SameNext}
use Rattle.script_text.specs.Script.{Open, next_head}
use Rattle.script_text.proofs.Takes.{Takes-weaker, Takes-trans, Stops-after}
use Rattle.script_text.proofs.NextHeads.{same_skip, skip_first, empty_first, skip_more, skip_open}
use Rattle.script_text.proofs.reader.ScriptReader.skip_empty_lines.Goals as goal

pub loop-self-preserved-in-Some-eq10 : goal.loop-self-preserved-in-Some-eq10
loop-self-preserved-in-Some-eq10 g c =
    let was = c.loop-self.self in
    let line : c.self.inside.line ≡ was.line = ap (λ (r : Reader). r.line) c.self.view_is in
    let unused : c.self.inside.buffer ≡ was.unused = ap (λ (r : Reader). r.unused) c.self.view_is in
    let shown : c.bytes.result.now ≡ was.unused = c.bytes.ensures ∙ unused in
    let rest : drop 1 was.unused ≡ c.use_up.new.self = ap (drop 1) (sym unused) ∙ sym c.use_up.ensures in
    let P : List ℕ → Type 0 = λ bytes. SameNext was.line bytes (was.line + 1) (drop 1 bytes) in
    let one : P was.unused = subst P shown (skip_first was.line c.bytes.result.now _ c.in-Some-eq10.ensures.value c.in-Some-eq10.field-0-test) in
    record {
      same = Takes-weaker _ _ _ _ _ _ _ c.loop-self.invariant.same (ap (λ (r : Reader). r.taken) c.self.view_is) (ap (λ (r : Reader). r.ended) c.self.view_is)
          (λ more p. same_skip _ was.line _ was.unused _ _ p (subst (λ n. SameNext was.line was.unused (n + 1) c.use_up.new.self) (sym line) (subst (SameNext was.line was.unused (was.line + 1)) rest one)));
      stand = ap (λ (r : Reader). r.stand) c.self.view_is ∙ c.loop-self.invariant.stand;
      faults = c.loop-self.invariant.faults;
    }

pub loop-self-preserved : goal.loop-self-preserved
loop-self-preserved g c =
    let was = c.loop-self.self in
    let filled = c.in_ok-fill-in-None-2.ensures in
    record {
      same = Takes-trans _ _ _ _ _ _ _ _ _ c.loop-self.invariant.same filled.filled
          (λ x y p q. skip_more _ was.line _ _ x y was.unused _ p q.unused filled.place.line);
      stand = filled.place.stand ∙ c.loop-self.invariant.stand;
      faults = omega (arith, filled.faults, c.loop-self.invariant.faults);
    }

pub returns-in_err-fill-in-None-2-clause-stopped : goal.returns-in_err-fill-in-None-2-clause-stopped
returns-in_err-fill-in-None-2-clause-stopped g c =
    let was = c.loop-self.self in
    let unused : c.self.inside.buffer ≡ was.unused = ap (λ (r : Reader). r.unused) c.self.view_is in
    let none : was.unused ≡ [] = sym (c.bytes.ensures ∙ unused) ∙ empty_first c.bytes.result.now c.in-None-2.ensures.value in
    let p = err_from_is_err_and c.from_residual.result c.from_residual.ensures.1 in
    let a = c.args.self.now in
    rw (p.1, p.2) (Stops-after (g.S.Source.faults c.args.source.now) (g.S.Source.faults c.loop-self.source) (g.S.Source.faults c.fill.new.source)
    (g.S.Source.left c.args.source.now) (g.S.Source.left c.loop-self.source) (g.S.Source.left c.fill.new.source) a was c.fill.new.self
    (λ more. SameNext a.line (a.unused ++ more) was.line was.unused) (λ whole bytes line. ⊥) (λ whole bytes line. ⊥) (λ bytes. bytes ≡ was.unused) (λ bytes. next_head false a.line bytes ≡ Open) _
    c.loop-self.invariant.same c.loop-self.invariant.faults c.in_err-fill-in-None-2.ensures.stopped (λ x y whole line q r. r) (λ x y q r. skip_open a.line was.line a.unused x y was.unused none q r))
