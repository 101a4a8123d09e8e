use Rattle.std.proofs.Common.{◌≡◌, ◌+◌, drop, false}
use Rattle.std.specs.Option.{option_map}
use Rattle.hack_lexer.specs.Forms.{through_quote}
use Rattle.hack_lexer.proofs.text.through_quote.Given as goal

abbrev pub invariant-loop-index : goal.invariant-loop-index
invariant-loop-index l = through_quote l.quote false l.bytes ≡ option_map (λ n. l.index + n) (through_quote l.quote l.taken (drop l.index l.bytes))
