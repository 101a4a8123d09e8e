use Rattle.std.proofs.Common.{◌≡◌, ◌+◌, ◌-◌, ◌≤◌, length, take, drop, slice_range, sym, ap, ◌∙◌, subst, arith}
use Rattle.std.specs.Io.KnownBytes.{Consumes}
use Rattle.std.specs.Vec.{with_items}
use Rattle.std.proofs.lemmas.List.{with_items_is}
use Rattle.std.proofs.lemmas.Result.{err_from_is_err_and}
use Rattle.script_text.proofs.Ranges.{range-drop, range-take, range-same, range-length}
use Rattle.script_text.proofs.buffer.Buffer.pull.Goals as goal

pub returns-clause-front : goal.returns-clause-front
returns-clause-front g c =
    let v = c.with_room-start.new.bytes in
    let xs = v.items in
    let ys = c.pull_behind.new.bytes in
    let s = c.with_room-start.result.0 in
    let e = c.with_room-start.result.1 in
    let n = c.in_ok-count.count in
    let order : s ≤ e = c.with_room-start.ensures.order in
    let inside : e ≤ length xs = omega (arith, v.ok.0, c.with_room-start.ensures.room) in
    let old : slice_range xs s e ≡ c.args.self.now = c.with_room-start.ensures.same ∙ c.self.view_is in
    let len : length c.args.self.now ≡ e - s = ap length (sym old) ∙ range-length xs s e order inside in
    let kept : (with_items v ys).items ≡ ys = with_items_is v ys (c.pull_behind.auto.bytes ∙ ap length c.deref_mut.ensures.value ∙ sym v.ok.0) in
    let front : take e ys ≡ take e xs = c.pull_behind.ensures.front ∙ ap (take e) c.deref_mut.ensures.value in
    ap (λ zs. take (length c.args.self.now) (slice_range zs s (e + n))) kept ∙ ap (λ m. take m (slice_range ys s (e + n))) len
    ∙ range-take ys s e (e + n) (omega arith) ∙ range-same ys xs s e order front ∙ old

pub returns-clause-taken : goal.returns-clause-taken
returns-clause-taken g c =
    let v = c.with_room-start.new.bytes in
    let xs = v.items in
    let ys = c.pull_behind.new.bytes in
    let s = c.with_room-start.result.0 in
    let e = c.with_room-start.result.1 in
    let n = c.in_ok-count.count in
    let order : s ≤ e = c.with_room-start.ensures.order in
    let inside : e ≤ length xs = omega (arith, v.ok.0, c.with_room-start.ensures.room) in
    let old : slice_range xs s e ≡ c.args.self.now = c.with_room-start.ensures.same ∙ c.self.view_is in
    let len : length c.args.self.now ≡ e - s = ap length (sym old) ∙ range-length xs s e order inside in
    let whole : s + (e - s) ≡ e = omega (arith, order) in
    let kept : (with_items v ys).items ≡ ys = with_items_is v ys (c.pull_behind.auto.bytes ∙ ap length c.deref_mut.ensures.value ∙ sym v.ok.0) in
    let new : drop (length c.args.self.now) (slice_range (with_items v ys).items s (e + n)) ≡ slice_range ys e (e + n) =
    ap (λ zs. drop (length c.args.self.now) (slice_range zs s (e + n))) kept
    ∙ ap (λ m. drop m (slice_range ys s (e + n))) len ∙ range-drop ys s (e - s) (e + n) (omega (arith, order)) ∙ ap (λ m. slice_range ys m (e + n)) whole in
    subst (Consumes _ _) (sym new) c.in_ok-count.ensures.taken

pub returns-in_err-count-clause-kept : goal.returns-in_err-count-clause-kept
returns-in_err-count-clause-kept g c =
    let v = c.with_room-start.new.bytes in
    let ys = c.pull_behind.new.bytes in
    let s = c.with_room-start.result.0 in
    let e = c.with_room-start.result.1 in
    let kept : (with_items v ys).items ≡ ys = with_items_is v ys (c.pull_behind.auto.bytes ∙ ap length c.deref_mut.ensures.value ∙ sym v.ok.0) in
    let front : take e ys ≡ take e v.items = c.pull_behind.ensures.front ∙ ap (take e) c.deref_mut.ensures.value in
    let p = err_from_is_err_and c.from_residual.result c.from_residual.ensures.1 in
    rw p.1 (ap (λ zs. slice_range zs s e) kept ∙ range-same ys v.items s e c.with_room-start.ensures.order front ∙ c.with_room-start.ensures.same ∙ c.self.view_is)
