use Rattle.std.proofs.Common.{◌≡◌, ◌+◌, ◌-◌, ◌<◌, true, [], ◌++◌, length, take, ap, ◌∙◌, arith, length-take-le}
use Rattle.std.proofs.lemmas.Result.{err_from_is_err_and}
use Rattle.script_text.proofs.Takes.{Takes-trans, Stops-after}
use Rattle.script_text.proofs.Filling.{filled-inside}
use Rattle.script_text.proofs.Bodies.{fill_more, waits_more}
use Rattle.script_text.proofs.reader.ScriptReader.take_body.Goals as goal

pub returns-in_err-filled-clause-stopped : goal.returns-in_err-filled-clause-stopped
returns-in_err-filled-clause-stopped g c =
    let a = c.args.self.now in
    let was = c.loop-filled.self in
    let inv = c.loop-filled.invariant in
    let f = c.loop-filled.filled in
    let body = c.loop-filled.body in
    let size = length c.args.body.now in
    let few : f < size = omega (arith, c.loop-filled-test.true, c.loop-filled.auto.body, c.take_front-filled.auto.body) in
    let p = err_from_is_err_and c.from_residual.result c.from_residual.ensures.1 in
    rw (p.1, p.2) (Stops-after (g.S.Source.faults c.args.source.now) (g.S.Source.faults c.loop-filled.source) (g.S.Source.faults c.pull_into.new.source)
    (g.S.Source.left c.args.source.now) (g.S.Source.left c.loop-filled.source) (g.S.Source.left c.pull_into.new.source) a was c.pull_into.new.self
    (λ more. a.unused ++ more ≡ take f body ++ was.unused) (λ whole bytes line. ⊥)
    (λ whole bytes line. (whole ≡ true) × (length bytes < size) × (line + 1 ≡ a.line)) (λ bytes. bytes ≡ was.unused) (λ bytes. length bytes < size) _
    inv.taken inv.faults c.in_err-filled.ensures.stopped (λ x y whole line q r. absurd r)
    (λ x y q r. waits_more a.unused x y was.unused body f size inv.inside few q (inv.empty c.loop-filled-test.true) r))

pub loop-filled-preserved : goal.loop-filled-preserved
loop-filled-preserved g c =
    let a = c.args.self.now in
    let was = c.loop-filled.self in
    let inv = c.loop-filled.invariant in
    let f = c.loop-filled.filled in
    let body = c.loop-filled.body in
    let part = c.pull_into.new.rest in
    let n = c.in_ok-filled.field-0 in
    let now = c.in_ok-filled.ensures in
    let none : was.unused ≡ [] = inv.empty c.loop-filled-test.true in
    let got : length now.taken.more ≡ n = ap length now.taken.holds.0 ∙ length-take-le n part now.inside in
    let same : length c.pull_into.new.self.unused ≡ length was.unused = ap length now.unused in
    record {
      taken = Takes-trans _ _ _ _ _ _ _ _ _ inv.taken now.taken
          (λ x y p q. fill_more a.unused x y was.unused c.pull_into.new.self.unused body part f (length body - f) n inv.inside now.inside p none q.0 now.unused);
      place = record { line = now.place.line ∙ inv.place.line; stand = now.place.stand ∙ inv.place.stand };
      faults = omega (arith, now.faults, inv.faults);
      inside = filled-inside f (length body - f) n body part inv.inside now.inside;
      empty = λ h. now.unused ∙ none;
      most = now.most;
      lines = omega (arith, got, same, now.place.line, now.taken.count, inv.lines);
    }
