use Rattle.std.proofs.Common.{◌≡◌, ◌-◌, ◌≤◌, length, take, drop, ap, ◌∙◌, arith, length-append, length-drop}
use Rattle.std.proofs.lemmas.List.{take_rest}
use Rattle.hack_io.proofs.Moves.{left_by_copy, none_left}
use Rattle.hack_io.proofs.memory_source.MemorySourceSource.pull.Goals as goal

pub returns-clause-bytes : goal.returns-clause-bytes
returns-clause-bytes c =
    let self = c.args.self.now in
    let view = c.deref-2.result.now in
    let into = c.args.into.now in
    let n = c.min-count.result in
    let copied = c.copy_from_slice.new.self in
    let left_is : take (length view - self.at) (drop self.at view) ≡ drop self.at self.bytes.items = take_rest view self.at ∙ ap (drop self.at) c.deref-2.ensures.value in
    let fits : n ≤ length (take (length view - self.at) (drop self.at view)) = omega arith in (
      left_by_copy n self.at self.bytes.items _ copied into left_is fits c.copy_from_slice.ensures.after,
      λ zero some. none_left n self.at self.piece self.bytes.items _ into left_is (omega arith) (omega arith) zero (omega (arith, length-append copied (drop n into), length-drop n into)),
    )
