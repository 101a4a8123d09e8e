use Rattle.std.proofs.Common.{ap, sym, ◌∙◌}
use Rattle.script_text.specs.Reader.{Stops, IsBrokenBehind, WaitsBehind}
use Rattle.script_text.proofs.Behind.{same_len, err_of_len}
use Rattle.script_text.proofs.reader.ScriptReader.read_head.Goals as goal

pub returns-in-BeforeBody-clause-stopped_behind_file : goal.returns-in-BeforeBody-clause-stopped_behind_file
returns-in-BeforeBody-clause-stopped_behind_file g c =
    let a = c.args.self.now in
    err_of_len c.next_behind.result a.stand
    (λ len. Stops (g.S.Source.faults c.args.source.now) (g.S.Source.faults c.next_behind.new.source) (g.S.Source.left c.args.source.now) (g.S.Source.left c.next_behind.new.source)
    a c.next_behind.new.self (IsBrokenBehind len a.line) (WaitsBehind len a.line)) c.in-BeforeBody.len
    (λ len here. same_len c.in-BeforeBody.len len (sym c.in-BeforeBody.is ∙ ap (λ r. r.stand) c.self.view_is ∙ here)) c.next_behind.ensures.stopped
