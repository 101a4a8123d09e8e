use Rattle.std.proofs.Common.{◌≡◌, ◌+◌, drop}
use Rattle.std.specs.Option.{option_map}
use Rattle.hack_lexer.specs.Tokens.{through_close}
use Rattle.hack_lexer.proofs.blank.through_close.Given as goal

abbrev pub invariant-loop-index : goal.invariant-loop-index
invariant-loop-index l = through_close l.bytes ≡ option_map (λ n. l.index + n) (through_close (drop l.index l.bytes))
