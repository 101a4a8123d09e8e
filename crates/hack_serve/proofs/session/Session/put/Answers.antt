use Rattle.std.proofs.Common.{◌+◌, refl, ap}
use Rattle.hack_base.specs.Files.{Put, after}
use Rattle.script_text.specs.Replies.{edit_text}
use Rattle.hack_serve.proofs.session.Session.put.Goals as goal

pub returns-in-Ok-clause-replied : goal.returns-in-Ok-clause-replied
returns-in-Ok-clause-replied c = λ s stands.
    let done = c.in-Ok.ensures in
    record {
      next = record { files = after s.files (Put c.args.name.items c.args.body.items); edits = s.edits + 1; checks = s.checks };
      replied = (done.accepted s.files stands.files, (ap (λ n. edit_text (n + 1)) stands.edits, refl));
      stands = record { files = done.edited s.files stands.files; edits = ap (λ n. n + 1) stands.edits; checks = stands.checks };
    }
