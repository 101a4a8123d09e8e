use Rattle.std.proofs.Common.{length, take, ap, ◌∙◌, subst, arith}
use Rattle.std.specs.Io.KnownBytes.{Appends}
use Rattle.std.proofs.lemmas.Result.{err_from_is_err_and}
use Rattle.script_text.specs.Reader.{Reader}
use Rattle.hack_serve.proofs.Runs.{run_start, read_one, run_done, run_stopped, next_stopped, next_ended, next_replied, next_cut, uses_up, IsEnd, end_is, stand_at, none_from}
use Rattle.hack_serve.proofs.run.reply_to_each.Goals as goal

pub loop-command-init : goal.loop-command-init
loop-command-init g c =
    let new = c.requires.reads in
    let taken = ap (λ (r : Reader). r.taken) new in
    let unused = ap (λ (r : Reader). length r.unused) new in
    let stands = c.requires.stands in
    record {
      run = run_start (g.S.Source.left c.args.source.now) (g.K.Sink.written c.args.sink.now) c.args.reader.now c.args.session.now new stands;
      stand = ap (λ (r : Reader). r.stand) new;
      reads = omega arith;
      writes = omega arith;
      most = omega (arith, taken);
      names = omega (arith, taken, unused, c.requires.names);
      edits = omega (arith, taken, unused, stands.edits);
      checks = omega (arith, taken, unused, stands.checks);
    }

pub returns-in_err-command-clause-stopped : goal.returns-in_err-command-clause-stopped
returns-in_err-command-clause-stopped g c =
    let p = err_from_is_err_and c.from_residual.result c.from_residual.ensures.1 in
    let was = c.loop-command in
    let now = c.next_command.new in
    rw (p.1, p.2) (run_stopped (g.S.Source.faults was.source) (g.S.Source.faults now.source) (g.S.Source.left c.args.source.now) (g.S.Source.left was.source) (g.S.Source.left now.source)
    (g.K.Sink.written c.args.sink.now) (g.K.Sink.written was.sink) was.reader now.reader was.session _ was.invariant.run c.in_err-command.ensures.stopped c.next_command.ensures.most)

pub reply-requires-clause-short : goal.reply-requires-clause-short
reply-requires-clause-short g c =
    let was = c.loop-command in
    let now = c.next_command.new in
    let t = rw c.in-Some.is at c.in_ok-command.ensures.command in
    let u = uses_up (g.S.Source.left was.source) (g.S.Source.left now.source) was.reader now.reader c.in-Some.command t in
    u.short

pub reply-requires-clause-room : goal.reply-requires-clause-room
reply-requires-clause-room g c =
    let was = c.loop-command in
    let now = c.next_command.new in
    let t = rw c.in-Some.is at c.in_ok-command.ensures.command in
    let u = uses_up (g.S.Source.left was.source) (g.S.Source.left now.source) was.reader now.reader c.in-Some.command t in
    omega (arith, u.names, was.invariant.names, c.in_ok-command.ensures.most)

pub returns-in_err-reply-clause-stopped : goal.returns-in_err-reply-clause-stopped
returns-in_err-reply-clause-stopped g c =
    let source = g.S.Source.left c.args.source.now in
    let before = g.K.Sink.written c.args.sink.now in
    let was = c.loop-command in
    let now = c.next_command.new in
    let mid = g.S.Source.left was.source in
    let left = g.S.Source.left now.source in
    let written = g.K.Sink.written was.sink in
    let command = c.in-Some.command in
    let t = rw c.in-Some.is at c.in_ok-command.ensures.command in
    let next = read_one source mid left before written was.reader now.reader was.session command was.invariant.run t c.next_command.ensures.most in
    let p = err_from_is_err_and c.from_residual-in_err-reply.result c.from_residual-in_err-reply.ensures.1 in
    rw (p.1, p.2) (next_ended source left before written now.reader was.session command _ next c.in_err-reply.ensures.ended)

pub returns-in_err-reply-clause-words : goal.returns-in_err-reply-clause-words
returns-in_err-reply-clause-words g c =
    let source = g.S.Source.left c.args.source.now in
    let before = g.K.Sink.written c.args.sink.now in
    let was = c.loop-command in
    let now = c.next_command.new in
    let mid = g.S.Source.left was.source in
    let left = g.S.Source.left now.source in
    let written = g.K.Sink.written was.sink in
    let command = c.in-Some.command in
    let t = rw c.in-Some.is at c.in_ok-command.ensures.command in
    let next = read_one source mid left before written was.reader now.reader was.session command was.invariant.run t c.next_command.ensures.most in
    let p = err_from_is_err_and c.from_residual-in_err-reply.result c.from_residual-in_err-reply.ensures.1 in
    let end = end_is source left before written now.reader was.session command _ next c.in_err-reply.ensures.ended in
    rw (p.1, p.2) (λ e. subst IsEnd e end)

pub returns-in_err-reply-clause-reads_failed : goal.returns-in_err-reply-clause-reads_failed
returns-in_err-reply-clause-reads_failed g c =
    let source = g.S.Source.left c.args.source.now in
    let before = g.K.Sink.written c.args.sink.now in
    let was = c.loop-command in
    let now = c.next_command.new in
    let mid = g.S.Source.left was.source in
    let left = g.S.Source.left now.source in
    let written = g.K.Sink.written was.sink in
    let command = c.in-Some.command in
    let t = rw c.in-Some.is at c.in_ok-command.ensures.command in
    let next = read_one source mid left before written was.reader now.reader was.session command was.invariant.run t c.next_command.ensures.most in
    let p = err_from_is_err_and c.from_residual-in_err-reply.result c.from_residual-in_err-reply.ensures.1 in
    let end = end_is source left before written now.reader was.session command _ next c.in_err-reply.ensures.ended in
    rw (p.1, p.2) (λ e. absurd (subst IsEnd e end))

pub returns-in_err-reply-clause-writes_failed : goal.returns-in_err-reply-clause-writes_failed
returns-in_err-reply-clause-writes_failed g c =
    let source = g.S.Source.left c.args.source.now in
    let before = g.K.Sink.written c.args.sink.now in
    let was = c.loop-command in
    let now = c.next_command.new in
    let mid = g.S.Source.left was.source in
    let left = g.S.Source.left now.source in
    let written = g.K.Sink.written was.sink in
    let command = c.in-Some.command in
    let t = rw c.in-Some.is at c.in_ok-command.ensures.command in
    let next = read_one source mid left before written was.reader now.reader was.session command was.invariant.run t c.next_command.ensures.most in
    let p = err_from_is_err_and c.from_residual-in_err-reply.result c.from_residual-in_err-reply.ensures.1 in
    let end = end_is source left before written now.reader was.session command _ next c.in_err-reply.ensures.ended in
    rw (p.1, p.2) (λ e. absurd (subst IsEnd e end))

pub returns-in_err-text-clause-stopped : goal.returns-in_err-text-clause-stopped
returns-in_err-text-clause-stopped g c =
    let source = g.S.Source.left c.args.source.now in
    let before = g.K.Sink.written c.args.sink.now in
    let was = c.loop-command in
    let now = c.next_command.new in
    let mid = g.S.Source.left was.source in
    let left = g.S.Source.left now.source in
    let written = g.K.Sink.written was.sink in
    let command = c.in-Some.command in
    let t = rw c.in-Some.is at c.in_ok-command.ensures.command in
    let next = read_one source mid left before written was.reader now.reader was.session command was.invariant.run t c.next_command.ensures.most in
    let p = err_from_is_err_and c.from_residual-in_err-text.result c.from_residual-in_err-text.ensures.1 in
    rw (p.1, p.2) (next_stopped source left before written now.reader was.session command next)

pub returns-in_err-push-clause-stopped : goal.returns-in_err-push-clause-stopped
returns-in_err-push-clause-stopped g c =
    let source = g.S.Source.left c.args.source.now in
    let before = g.K.Sink.written c.args.sink.now in
    let was = c.loop-command in
    let now = c.next_command.new in
    let mid = g.S.Source.left was.source in
    let left = g.S.Source.left now.source in
    let written = g.K.Sink.written was.sink in
    let command = c.in-Some.command in
    let t = rw c.in-Some.is at c.in_ok-command.ensures.command in
    let next = read_one source mid left before written was.reader now.reader was.session command was.invariant.run t c.next_command.ensures.most in
    let last = g.K.Sink.written c.push.new.self in
    let p = err_from_is_err_and c.from_residual-in_err-push.result c.from_residual-in_err-push.ensures.1 in
    let part = c.in_err-push.ensures.bytes in
    let wrote = subst (λ text. Appends written last (take part.0 text)) (c.deref.ensures.value ∙ c.in_ok-text.ensures) part.2 in
    rw (p.1, p.2) (next_cut source left before written last now.reader was.session c.reply.new.self command c.in_ok-reply.reply part.0 next c.in_ok-reply.ensures.replied wrote)

pub loop-command-smaller : goal.loop-command-smaller
loop-command-smaller g c =
    let was = c.loop-command in
    let now = c.next_command.new in
    let t = rw c.in-Some.is at c.in_ok-command.ensures.command in
    let u = uses_up (g.S.Source.left was.source) (g.S.Source.left now.source) was.reader now.reader c.in-Some.command t in
    omega (arith, u.some, c.in_ok-command.ensures.most)

pub loop-command-preserved : goal.loop-command-preserved
loop-command-preserved g c =
    let source = g.S.Source.left c.args.source.now in
    let before = g.K.Sink.written c.args.sink.now in
    let was = c.loop-command in
    let now = c.next_command.new in
    let mid = g.S.Source.left was.source in
    let left = g.S.Source.left now.source in
    let written = g.K.Sink.written was.sink in
    let command = c.in-Some.command in
    let t = rw c.in-Some.is at c.in_ok-command.ensures.command in
    let next = read_one source mid left before written was.reader now.reader was.session command was.invariant.run t c.next_command.ensures.most in
    let last = g.K.Sink.written c.push.new.self in
    let u = uses_up mid left was.reader now.reader command t in
    let done = c.in_ok-reply.ensures in
    let wrote = subst (Appends written last) (c.deref.ensures.value ∙ c.in_ok-text.ensures) c.in_ok-push.ensures.bytes in
    record {
      run = next_replied source left before written last now.reader was.session c.reply.new.self command c.in_ok-reply.reply next done.replied wrote;
      stand = stand_at c.in_ok-command.field-0 command now.reader c.in-Some.is c.in_ok-command.ensures.stand;
      reads = omega (arith, c.in_ok-command.ensures.faults, was.invariant.reads);
      writes = omega (arith, c.in_ok-push.ensures.cause.later, was.invariant.writes);
      most = c.in_ok-command.ensures.most;
      names = omega (arith, u.names, was.invariant.names, done.names);
      edits = omega (arith, u.some, was.invariant.edits, done.edits);
      checks = omega (arith, u.some, was.invariant.checks, done.checks);
    }

pub returns-clause-done : goal.returns-clause-done
returns-clause-done g c =
    let source = g.S.Source.left c.args.source.now in
    let before = g.K.Sink.written c.args.sink.now in
    let was = c.loop-command in
    let now = c.next_command.new in
    let none = none_from c.in_ok-command.field-0 c.in_default.not-Some in
    let t = rw none at c.in_ok-command.ensures.command in
    run_done source (g.S.Source.left was.source) (g.S.Source.left now.source) before (g.K.Sink.written was.sink) was.reader now.reader was.session was.invariant.run t c.next_command.ensures.most
