use Rattle.std.proofs.Common.{◌≡◌, inl, inr, ◌+◌, false, ◌≤◌, ◌++◌, length, min, sym, ap, ◌∙◌, subst, arith, append_assoc, length-append}
use Rattle.std.proofs.lemmas.Result.{err_from_is_err_and}
use Rattle.memchr.specs.Find.{Nowhere, Passes, is_byte}
use Rattle.script_text.specs.Reader.{Reader}
use Rattle.script_text.specs.Reading.{IsLineStart}
use Rattle.script_text.specs.Script.{Open, next_head}
use Rattle.script_text.proofs.Takes.{Takes-trans, Stops-after}
use Rattle.script_text.proofs.NextHeads.{start_more}
use Rattle.script_text.proofs.LineEnds.{line_end-some, line_end-none, none_more, line_waits}
use Rattle.script_text.proofs.reader.ScriptReader.line_end.Goals as goal
use Rattle.script_text.proofs.reader.ScriptReader.line_end.Goals.{then-self-via-then-self, then-self-via-else-self+then-seen-gt-MAX_LINE}

pub returns-in-Some-clause-end : goal.returns-in-Some-clause-end
returns-in-Some-clause-end g c =
    let unused = ap (λ (r : Reader). r.unused) c.self.view_is in
    line_end-some c.loop-at.self c.bytes.result.now c.in-Some.at (c.bytes.ensures ∙ unused) c.in-Some.ensures

pub returns-then-self-clause-end : goal.returns-then-self-clause-end
returns-then-self-clause-end g c =
    let unused = ap (λ (r : Reader). r.unused) c.self.view_is in
    let ended = ap (λ (r : Reader). r.ended) c.self.view_is in
    let same : length c.bytes-seen.result.now ≡ length c.bytes.result.now = ap length (c.bytes-seen.ensures ∙ sym c.bytes.ensures) in
    line_end-none c.loop-at.self c.bytes.result.now (c.bytes.ensures ∙ unused) c.in_default.ensures
    (elim c.then-self.branch [ then-self-via-then-self w ↦ inl (sym ended ∙ w.if-self.true) | then-self-via-else-self+then-seen-gt-MAX_LINE w ↦ inr (omega (arith, same, w.if-seen-gt-MAX_LINE.true)) ])

pub loop-at-preserved : goal.loop-at-preserved
loop-at-preserved g c =
    let was = c.loop-at.self in
    let inv = c.loop-at.invariant in
    let filled = c.in_ok-fill.ensures in
    let more = filled.filled.more in
    let unused : c.self.inside.buffer ≡ was.unused = ap (λ (r : Reader). r.unused) c.self.view_is in
    let grown : c.fill.new.self.unused ≡ was.unused ++ more = filled.filled.holds.unused in
    let seen : length c.bytes-seen.result.now ≡ length was.unused = ap length (c.bytes-seen.ensures ∙ unused) in
    let few : length was.unused ≤ 300 = omega (arith, seen, c.if-seen-gt-MAX_LINE.false) in
    let size : length c.fill.new.self.unused ≡ length was.unused + length more = ap length grown ∙ length-append was.unused more in
    let limit : min (length c.bytes.result.now) 301 ≡ length was.unused = grind (arith, few, ap length (c.bytes.ensures ∙ unused)) in
    let none : Nowhere (Passes (is_byte 10) was.unused) 0 (length was.unused) =
    subst (λ xs. Nowhere (Passes (is_byte 10) xs) 0 (length was.unused)) (c.bytes.ensures ∙ unused) (subst (Nowhere (Passes (is_byte 10) c.bytes.result.now) 0) limit c.in_default.ensures) in
    record {
      taken = Takes-trans _ _ _ _ _ _ _ _ _ inv.taken filled.filled (λ x y p q. q.unused ∙ ap (λ u. u ++ y) p ∙ append_assoc c.args.self.now.unused x y);
      place = record { line = filled.place.line ∙ inv.place.line; stand = filled.place.stand ∙ inv.place.stand };
      faults = omega (arith, filled.faults, inv.faults);
      start = subst IsLineStart (sym grown) (start_more was.unused more inv.start);
      inside = omega (arith, seen, size);
      few = omega (arith, seen, few);
      none = subst (λ n. Nowhere (Passes (is_byte 10) c.fill.new.self.unused) 0 n) (sym seen)
          (subst (λ xs. Nowhere (Passes (is_byte 10) xs) 0 (length was.unused)) (sym grown) (none_more was.unused more (length was.unused) (omega arith) none));
    }

pub returns-in_err-fill-clause-stopped : goal.returns-in_err-fill-clause-stopped
returns-in_err-fill-clause-stopped g c =
    let was = c.loop-at.self in
    let inv = c.loop-at.invariant in
    let unused : c.self.inside.buffer ≡ was.unused = ap (λ (r : Reader). r.unused) c.self.view_is in
    let seen : length c.bytes-seen.result.now ≡ length was.unused = ap length (c.bytes-seen.ensures ∙ unused) in
    let few : length was.unused ≤ 300 = omega (arith, seen, c.if-seen-gt-MAX_LINE.false) in
    let limit : min (length c.bytes.result.now) 301 ≡ length was.unused = grind (arith, few, ap length (c.bytes.ensures ∙ unused)) in
    let none : Nowhere (Passes (is_byte 10) was.unused) 0 (length was.unused) =
    subst (λ xs. Nowhere (Passes (is_byte 10) xs) 0 (length was.unused)) (c.bytes.ensures ∙ unused) (subst (Nowhere (Passes (is_byte 10) c.bytes.result.now) 0) limit c.in_default.ensures) in
    let p = err_from_is_err_and c.from_residual.result c.from_residual.ensures.1 in
    let a = c.args.self.now in
    rw (p.1, p.2) (Stops-after (g.S.Source.faults c.args.source.now) (g.S.Source.faults c.loop-at.source) (g.S.Source.faults c.fill.new.source)
    (g.S.Source.left c.args.source.now) (g.S.Source.left c.loop-at.source) (g.S.Source.left c.fill.new.source) a was c.fill.new.self
    (λ more. was.unused ≡ a.unused ++ more) (λ whole bytes line. ⊥) (λ whole bytes line. ⊥) (λ bytes. bytes ≡ was.unused) (λ bytes. next_head false a.line bytes ≡ Open) _
    inv.taken inv.faults c.in_err-fill.ensures.stopped (λ x y whole line q r. r) (λ x y q r. line_waits a.line a.unused x y was.unused inv.start none few q r))
