use Rattle.std.proofs.lemmas.Result.{IfErr-weaker}
use Rattle.hack_serve.proofs.session.Session.reply.Goals as goal

pub returns-in-File-clause-replied : goal.returns-in-File-clause-replied
returns-in-File-clause-replied c = rw c.in-File.is c.put.ensures.replied

pub returns-in-Drop-clause-replied : goal.returns-in-Drop-clause-replied
returns-in-Drop-clause-replied c = rw c.in-Drop.is c.remove.ensures.replied

pub returns-in-Check-clause-replied : goal.returns-in-Check-clause-replied
returns-in-Check-clause-replied c = rw c.in-Check.is c.check.ensures.replied

pub returns-in-Check-clause-ended : goal.returns-in-Check-clause-ended
returns-in-Check-clause-ended c = rw c.in-Check.is (IfErr-weaker c.check.result _ _ (λ status ends other s line stands noted. ends other s line stands) c.check.ensures.ended)
