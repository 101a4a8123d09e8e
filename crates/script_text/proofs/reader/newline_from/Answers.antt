use Rattle.std.proofs.Common.{◌≡◌, ◌≤◌, ◌+◌, length, min, subst, arith}
use Rattle.memchr.specs.Find.{Nowhere, NoneBefore, Passes, is_byte}
use Rattle.script_text.proofs.Scanning.{scan-none, scan-some}
use Rattle.script_text.proofs.reader.newline_from.Goals as goal

pub returns-in-Some : goal.returns-in-Some
returns-in-Some c =
    let xs = c.args.bytes.now in
    let most = c.min-most.result in
    let is : most ≡ min (length xs) 301 = grind (arith, c.min-most.ensures) in
    let order : c.args.seen ≤ most = grind (arith, is, c.requires.inside, c.requires.few) in
    let inside : most ≤ length xs = grind (arith, is) in
    subst (λ m. NoneBefore (Passes (is_byte 10) xs) 0 m (c.args.seen + c.in-Some.at) × Passes (is_byte 10) xs (c.args.seen + c.in-Some.at)) is
    (scan-some xs c.args.seen most c.in-Some.at order inside c.requires.none c.in-Some.ensures)

pub returns-in-None : goal.returns-in-None
returns-in-None c =
    let xs = c.args.bytes.now in
    let most = c.min-most.result in
    let is : most ≡ min (length xs) 301 = grind (arith, c.min-most.ensures) in
    let order : c.args.seen ≤ most = grind (arith, is, c.requires.inside, c.requires.few) in
    let inside : most ≤ length xs = grind (arith, is) in
    subst (Nowhere (Passes (is_byte 10) xs) 0) is (scan-none xs c.args.seen most order inside c.requires.none c.in-None.ensures)
