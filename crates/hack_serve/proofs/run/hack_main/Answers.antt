use Rattle.std.proofs.Common.{refl}
use Rattle.hack_serve.specs.Outcome.{IsAnswered, IsSettled, IsBrokenOff, IsStopped, IsCutShort, IsTooLong}
use Rattle.hack_serve.specs.declared.status.Status.TheVariants.{Done, BadScript, ReadFault, WriteFault, TooLong, NotBuilt, NoMemory}
use Rattle.hack_serve.proofs.Told.{told_script}
use Rattle.hack_serve.proofs.run.hack_main.Goals as goal

pub returns-in-Ok-clause-done : goal.returns-in-Ok-clause-done
returns-in-Ok-clause-done g c = λ is.
    told_script Done Done (g.S.Source.left c.args.source.now) (g.S.Source.left c.reply_to_all.new.source) (g.K.Sink.written c.args.sink.now) (g.K.Sink.written c.reply_to_all.new.sink)
    (λ script taken left out. IsAnswered script out Done × IsSettled taken left out Done) (λ taken rest out h. (h.1, h.0)) c.in-Ok.ensures.done refl

pub returns-in-Err-clause-done : goal.returns-in-Err-clause-done
returns-in-Err-clause-done g c = λ is.
    told_script _ Done (g.S.Source.left c.args.source.now) (g.S.Source.left c.reply_to_all.new.source) (g.K.Sink.written c.args.sink.now) (g.K.Sink.written c.reply_to_all.new.sink)
    (λ script taken left out. IsAnswered script out Done × IsSettled taken left out Done) (λ taken rest out h. (h.1, h.0)) c.in-Err.ensures.stopped (cc)

pub returns-in-Err-clause-bad_script : goal.returns-in-Err-clause-bad_script
returns-in-Err-clause-bad_script g c = λ line is.
    told_script _ (BadScript line) (g.S.Source.left c.args.source.now) (g.S.Source.left c.reply_to_all.new.source) (g.K.Sink.written c.args.sink.now) (g.K.Sink.written c.reply_to_all.new.sink)
    (λ script taken left out. IsAnswered script out (BadScript line) × IsSettled taken left out (BadScript line)) (λ taken rest out h. (h.1, h.0)) c.in-Err.ensures.stopped (cc)

pub returns-in-Err-clause-not_built : goal.returns-in-Err-clause-not_built
returns-in-Err-clause-not_built g c = λ is.
    told_script _ NotBuilt (g.S.Source.left c.args.source.now) (g.S.Source.left c.reply_to_all.new.source) (g.K.Sink.written c.args.sink.now) (g.K.Sink.written c.reply_to_all.new.sink)
    (λ script taken left out. IsAnswered script out NotBuilt × IsSettled taken left out NotBuilt) (λ taken rest out h. (h.1, h.0)) c.in-Err.ensures.stopped (cc)

pub returns-in-Err-clause-read_fault : goal.returns-in-Err-clause-read_fault
returns-in-Err-clause-read_fault g c = λ is.
    told_script _ ReadFault (g.S.Source.left c.args.source.now) (g.S.Source.left c.reply_to_all.new.source) (g.K.Sink.written c.args.sink.now) (g.K.Sink.written c.reply_to_all.new.sink)
    (λ script taken left out. IsBrokenOff taken out) (λ taken rest out h. h) c.in-Err.ensures.stopped (cc)

pub returns-in-Err-clause-too_long : goal.returns-in-Err-clause-too_long
returns-in-Err-clause-too_long g c = λ is.
    told_script _ TooLong (g.S.Source.left c.args.source.now) (g.S.Source.left c.reply_to_all.new.source) (g.K.Sink.written c.args.sink.now) (g.K.Sink.written c.reply_to_all.new.sink)
    (λ script taken left out. IsTooLong taken out) (λ taken rest out h. h) c.in-Err.ensures.stopped (cc)

pub returns-in-Err-clause-write_fault : goal.returns-in-Err-clause-write_fault
returns-in-Err-clause-write_fault g c = λ is.
    told_script _ WriteFault (g.S.Source.left c.args.source.now) (g.S.Source.left c.reply_to_all.new.source) (g.K.Sink.written c.args.sink.now) (g.K.Sink.written c.reply_to_all.new.sink)
    (λ script taken left out. IsCutShort taken left out) (λ taken rest out h. h) c.in-Err.ensures.stopped (cc)

pub returns-in-Err-clause-no_memory : goal.returns-in-Err-clause-no_memory
returns-in-Err-clause-no_memory g c = λ is.
    told_script _ NoMemory (g.S.Source.left c.args.source.now) (g.S.Source.left c.reply_to_all.new.source) (g.K.Sink.written c.args.sink.now) (g.K.Sink.written c.reply_to_all.new.sink)
    (λ script taken left out. IsStopped taken left out) (λ taken rest out h. h) c.in-Err.ensures.stopped (cc)
