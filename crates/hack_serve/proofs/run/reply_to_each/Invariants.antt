use Rattle.std.proofs.Common.{◌≡◌, ◌+◌, ◌-◌, ◌*◌, ◌^◌, ◌≤◌, length}
use Rattle.script_text.specs.declared.stand.Stand.TheVariants.{BeforeHead}
use Rattle.check_state.specs.Stands.{name_count}
use Rattle.hack_serve.proofs.Runs.{HasRun}
use Rattle.hack_serve.proofs.run.reply_to_each.Given as goal

abbrev pub invariant-loop-command : goal.invariant-loop-command
invariant-loop-command g l = record {
  run : HasRun (g.S.Source.left l.fn.source) (g.S.Source.left l.source) (g.K.Sink.written l.fn.sink) (g.K.Sink.written l.sink) l.reader l.session;
  stand : l.reader.stand ≡ BeforeHead;
  reads : g.S.Source.faults l.fn.source ≤ g.S.Source.faults l.source;
  writes : g.K.Sink.faults l.fn.sink ≤ g.K.Sink.faults l.sink;
  most : l.reader.taken ≤ 2147483647;
  names : 1048585 * (2 * name_count l.session.state) + 1048579 * length l.reader.unused ≤ 1048579 * l.reader.taken + 524292500;
  edits : l.session.edits + length l.reader.unused ≤ l.reader.taken;
  checks : l.session.checks + length l.reader.unused ≤ l.reader.taken;
}

-- the bytes that may still be used up
abbrev pub decreases-loop-command : goal.decreases-loop-command
decreases-loop-command g l = 2 ^ 31 + length l.reader.unused - l.reader.taken
