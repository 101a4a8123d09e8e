use Rattle.std.proofs.Common.{◌≤◌, ◌^◌, arith, true≢false, sym}
use Rattle.hack_lexer.specs.Forms.{number_of}
use Rattle.hack_lexer.proofs.Values.{number_above}
use Rattle.hack_lexer.proofs.range.is_small.Goals as goal

pub returns-then-next-ge9223372036854775808 : goal.returns-then-next-ge9223372036854775808
returns-then-next-ge9223372036854775808 c =
    let large : 2 ^ 63 ≤ number_of c.args.base c.args.digits.now =
    number_above c.args.base c.loop-b.value c.loop-b.b-index (2 ^ 63) c.args.digits.now c.requires.low c.loop-b-test.true c.loop-b.invariant.rest (omega (arith, c.if-next-ge9223372036854775808.true, c.digit_of.ensures)) in
    (λ h. absurd (true≢false (sym h)), λ h. absurd (omega (arith, large)))
