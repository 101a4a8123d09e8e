use Rattle.std.proofs.Common.{◌≤◌, length, drop, sym, ap, ◌∙◌, arith}
use Rattle.script_text.proofs.Ranges.{range-drop, range-length}
use Rattle.script_text.proofs.buffer.Buffer.use_up.Goals as goal

pub returns : goal.returns
returns c =
    let xs = c.self.inside.bytes.items in
    let start = c.self.inside.start in
    let inside : c.self.inside.end ≤ length xs = omega (arith, c.self.inside.bytes.ok.0, c.self.invariant.inside) in
    let len = ap length (sym c.self.view_is) ∙ range-length xs start c.self.inside.end c.self.invariant.order inside in
    sym (range-drop xs start c.args.count c.self.inside.end (omega (arith, len, c.requires, c.self.invariant.order))) ∙ ap (drop c.args.count) c.self.view_is
