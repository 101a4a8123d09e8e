use Rattle.script_text.proofs.Behind.{ok_behind, err_behind}
use Rattle.script_text.proofs.reader.ScriptReader.next_behind.Goals as goal

pub returns-clause-head : goal.returns-clause-head
returns-clause-head g c =
    let passed = c.in_ok-_passed.ensures in
    ok_behind _ _ _ c.args.self.now c.read_body.new.self c.next_head.new.self c.args.len _ c.next_head.result passed.body c.next_head.ensures.head

pub returns-clause-stopped : goal.returns-clause-stopped
returns-clause-stopped g c =
    let passed = c.in_ok-_passed.ensures in
    err_behind _ _ _ _ _ _ c.args.self.now c.read_body.new.self c.next_head.new.self c.args.len _ c.next_head.result passed.body passed.faults c.next_head.ensures.stopped
