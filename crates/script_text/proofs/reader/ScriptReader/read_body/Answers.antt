use Rattle.std.proofs.Common.{◌≡◌, ◌+◌, ◌<◌, ◌++◌, List, ℕ, true, false, [], length, sym, ap, ◌∙◌, subst}
use Rattle.std.specs.Vec.{with_items}
use Rattle.std.proofs.lemmas.List.{with_items_is}
use Rattle.std.proofs.lemmas.Result.{err_from_is_err_and}
use Rattle.script_text.specs.Script.{Bad, More, next_body, newlines}
use Rattle.script_text.specs.Reader.{Takes, Stops, ReadsBody}
use Rattle.script_text.specs.declared.head.ReadStop.{ReadStop}
use Rattle.script_text.proofs.Takes.{Stops-weaker, Stops-after}
use Rattle.script_text.proofs.NextBodies.{next_short, next_bad, body_waits, body_bad, body_ok}
use Rattle.script_text.proofs.reader.ScriptReader.read_body.Goals as goal

pub returns-in_err-take_body-clause-stopped : goal.returns-in_err-take_body-clause-stopped
returns-in_err-take_body-clause-stopped g c =
    let a = c.args.self.now in
    let len = c.args.len in
    let size = length c.deref_mut.result.now in
    let same : size ≡ len = ap length c.deref_mut.ensures.value ∙ sym c.in_ok-body.body.ok.0 ∙ c.in_ok-body.ensures in
    let short : (bytes : List ℕ) → length bytes < size → length bytes < len = λ bytes h. subst (λ n. length bytes < n) same h in
    let p = err_from_is_err_and c.from_residual-in_err-take_body.result c.from_residual-in_err-take_body.ensures.1 in
    rw (p.1, p.2) (Stops-weaker (g.S.Source.faults c.args.source.now) (g.S.Source.faults c.take_body.new.source) (g.S.Source.left c.args.source.now) (g.S.Source.left c.take_body.new.source)
    a c.take_body.new.self (λ whole bytes line. (whole ≡ true) × (length bytes < size) × (line + 1 ≡ a.line)) (λ whole bytes line. (next_body whole len bytes ≡ Bad) × (line + 1 ≡ a.line))
    (λ bytes. length bytes < size) (λ bytes. next_body false len bytes ≡ More) _ c.in_err-take_body.ensures.stopped
    (λ whole bytes line r. (next_bad whole len bytes r.0 (short bytes r.1), r.2)) (λ bytes r. next_short false len bytes (short bytes r)))

pub returns-in_err-fill_empty-clause-stopped : goal.returns-in_err-fill_empty-clause-stopped
returns-in_err-fill_empty-clause-stopped g c =
    let a = c.args.self.now in
    let b = c.take_body.new.self in
    let len = c.args.len in
    let text = c.take_body.new.body in
    let size : length text ≡ len = c.take_body.auto.body ∙ ap length c.deref_mut.ensures.value ∙ sym c.in_ok-body.body.ok.0 ∙ c.in_ok-body.ensures in
    let took = c.in_ok-take_body.ensures in
    let p = err_from_is_err_and c.from_residual-in_err-fill_empty.result c.from_residual-in_err-fill_empty.ensures.1 in
    rw (p.1, p.2) (Stops-after (g.S.Source.faults c.args.source.now) (g.S.Source.faults c.take_body.new.source) (g.S.Source.faults c.fill_empty.new.source)
    (g.S.Source.left c.args.source.now) (g.S.Source.left c.take_body.new.source) (g.S.Source.left c.fill_empty.new.source) a b c.fill_empty.new.self
    (λ more. a.unused ++ more ≡ text ++ b.unused) (λ whole bytes line. ⊥) (λ whole bytes line. (next_body whole len bytes ≡ Bad) × (line + 1 ≡ a.line))
    (λ bytes. bytes ≡ []) (λ bytes. next_body false len bytes ≡ More) _ took.taken took.faults c.in_err-fill_empty.ensures.stopped
    (λ x y whole line q r. absurd r) (λ x y q r. body_waits len a.unused x y b.unused text size q r))

pub returns-in_err-end_body-clause-stopped : goal.returns-in_err-end_body-clause-stopped
returns-in_err-end_body-clause-stopped g c =
    let a = c.args.self.now in
    let e = c.end_body.new.self in
    let len = c.args.len in
    let text = c.take_body.new.body in
    let size : length text ≡ len = c.take_body.auto.body ∙ ap length c.deref_mut.ensures.value ∙ sym c.in_ok-body.body.ok.0 ∙ c.in_ok-body.ensures in
    let took = c.in_ok-take_body.ensures in
    let filled = c.in_ok-fill_empty.ensures in
    let end = c.in_err-end_body.ensures in
    let why = end.stopped in
    let P : ReadStop → Type 0 = λ s. Stops (g.S.Source.faults c.args.source.now) (g.S.Source.faults c.fill_empty.new.source) (g.S.Source.left c.args.source.now)
    (g.S.Source.left c.fill_empty.new.source) a e (λ whole bytes line. (next_body whole len bytes ≡ Bad) × (line + 1 ≡ a.line)) (λ bytes. next_body false len bytes ≡ More) s in
    let p = err_from_is_err_and c.from_residual-in_err-end_body.result c.from_residual-in_err-end_body.ensures.1 in
    rw (p.1, p.2) (subst P (sym why.1) (body_bad (g.S.Source.left c.args.source.now) (g.S.Source.left c.take_body.new.source) (g.S.Source.left c.fill_empty.new.source)
    a c.take_body.new.self c.fill_empty.new.self e len why.0 text size took.taken took.place filled.filled filled.place end.kept why.3 why.2))

pub returns-clause-body : goal.returns-clause-body
returns-clause-body g c =
    let a = c.args.self.now in
    let e = c.end_body.new.self in
    let len = c.args.len in
    let text = c.take_body.new.body in
    let body = c.in_ok-body.body in
    let size : length text ≡ len = c.take_body.auto.body ∙ ap length c.deref_mut.ensures.value ∙ sym body.ok.0 ∙ c.in_ok-body.ensures in
    let kept : (with_items body text).items ≡ text = with_items_is body text (c.take_body.auto.body ∙ ap length c.deref_mut.ensures.value ∙ sym body.ok.0) in
    let took = c.in_ok-take_body.ensures in
    let filled = c.in_ok-fill_empty.ensures in
    let end = c.in_ok-end_body.ensures in
    let count : c.count_newlines.result ≡ newlines text = c.count_newlines.ensures.count ∙ ap newlines (c.deref.ensures.value ∙ kept) in
    let P : List ℕ → Type 0 = λ l. Takes (g.S.Source.left c.args.source.now) (g.S.Source.left c.fill_empty.new.source) a e (λ more. ReadsBody a more e len l) in
    subst P (sym kept) (body_ok (g.S.Source.left c.args.source.now) (g.S.Source.left c.take_body.new.source) (g.S.Source.left c.fill_empty.new.source)
    a c.take_body.new.self c.fill_empty.new.self e len c.count_newlines.result text size took.taken took.place filled.filled filled.place
    end.ended end.taken end.end end.line count)
