use Rattle.std.proofs.Common.{◌≡◌, ◌+◌, ◌*◌, ◌^◌, ◌≤◌, drop}
use Rattle.script_text.specs.Heads.{value_after}
use Rattle.script_text.proofs.line.number.Given as goal

abbrev pub invariant-loop-digit : goal.invariant-loop-digit
invariant-loop-digit l = record {
  value : value_after l.value (drop l.digit-index l.digits) ≡ value_after 0 l.digits;
  small : l.value + 23 ≤ 23 * 10 ^ l.digit-index;
}
