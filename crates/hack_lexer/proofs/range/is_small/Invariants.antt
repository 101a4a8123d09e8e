use Rattle.std.proofs.Common.{◌≡◌, ◌<◌, ◌^◌, ◌+◌, ◌*◌, drop, fold}
use Rattle.hack_lexer.specs.Forms.{digit_of, number_of}
use Rattle.hack_lexer.proofs.range.is_small.Given as goal

abbrev pub invariant-loop-b : goal.invariant-loop-b
invariant-loop-b l = record {
  small : l.value < 2 ^ 63;
  rest : number_of l.base l.digits ≡ fold (λ n b. l.base * n + digit_of b) l.value (drop l.b-index l.digits);
}
