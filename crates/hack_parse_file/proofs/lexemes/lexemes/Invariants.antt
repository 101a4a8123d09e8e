use Rattle.std.proofs.Common.{◌≡◌, ◌≤◌, ◌+◌, length}
use Rattle.hack_types.specs.Places.{place_of}
use Rattle.hack_lexer.proofs.InOrder.{IsAhead}
use Rattle.hack_parse_file.proofs.Lexed.{AreSoFar}
use Rattle.hack_parse_file.proofs.lexemes.lexemes.Given as goal

abbrev pub invariant-loop-token : goal.invariant-loop-token
invariant-loop-token l = record {
  so_far : AreSoFar l.fn.names l.names l.bytes l.tokens l.token-index l.lexemes.items;
  within : l.passed ≤ length l.bytes;
  place : l.at ≡ place_of l.bytes l.passed;
  line : l.at.line ≤ l.passed + 1;
  column : l.at.column ≤ l.passed + 1;
  ahead : IsAhead l.bytes l.tokens l.passed l.token-index;
}
