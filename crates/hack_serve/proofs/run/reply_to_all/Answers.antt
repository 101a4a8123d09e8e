use Rattle.std.proofs.lemmas.Result.{err_from_is_err_and}
use Rattle.hack_serve.proofs.Runs.{start_stopped}
use Rattle.hack_serve.proofs.run.reply_to_all.Goals as goal

pub returns-in_err-reader-clause-stopped : goal.returns-in_err-reader-clause-stopped
returns-in_err-reader-clause-stopped g c =
    let p = err_from_is_err_and c.from_residual.result c.from_residual.ensures.1 in
    rw (p.1, p.2) (start_stopped (g.S.Source.left c.args.source.now) (g.K.Sink.written c.args.sink.now))

pub returns-in_err-session-clause-stopped : goal.returns-in_err-session-clause-stopped
returns-in_err-session-clause-stopped g c =
    let p = err_from_is_err_and c.from_residual-in_err-session.result c.from_residual-in_err-session.ensures.1 in
    rw (p.1, p.2) (start_stopped (g.S.Source.left c.args.source.now) (g.K.Sink.written c.args.sink.now))
