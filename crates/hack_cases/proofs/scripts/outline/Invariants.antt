use Rattle.std.proofs.Common.{◌≡◌}
use Rattle.script_text.specs.declared.stand.Stand.TheVariants.{BeforeHead}
use Rattle.hack_cases.proofs.scripts.outline.Given as goal

abbrev pub invariant-loop : goal.invariant-loop
invariant-loop l = l.reader.stand ≡ BeforeHead
