use Rattle.std.proofs.Common.{◌↔◌, subst}
use Rattle.std.specs.Prelude.{IsTrue, IfOk}
use Rattle.phase_core.specs.Workers.{ShowsMention}
use Rattle.phase_core.proofs.workers.shows_mention.Goals as goal

pub returns-in-Some : goal.returns-in-Some
returns-in-Some c = subst (λ o. IfOk c.image_mentions.result (λ answer. IsTrue answer ↔ ShowsMention o c.args.symbol.now)) c.in-Some.ensures c.image_mentions.ensures
