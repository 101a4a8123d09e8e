use Rattle.std.proofs.Common.{◌+◌, inl, inr, refl, sym, ap, ◌∙◌}
use Rattle.hack_base.specs.Files.{Remove, after}
use Rattle.script_text.specs.Replies.{edit_text}
use Rattle.hack_serve.proofs.session.Session.remove.Goals as goal

pub returns-in-Ok-clause-replied : goal.returns-in-Ok-clause-replied
returns-in-Ok-clause-replied c = λ s stands.
    let done = c.in-Ok.ensures in
    record {
      next = record { files = after s.files (Remove c.args.name.items); edits = s.edits + 1; checks = s.checks };
      replied = inr (done.accepted s.files stands.files, (ap (λ n. edit_text (n + 1)) stands.edits, refl));
      stands = record { files = done.edited s.files stands.files; edits = ap (λ n. n + 1) stands.edits; checks = stands.checks };
    }

pub returns-in-Err-NoFile-clause-replied : goal.returns-in-Err-NoFile-clause-replied
returns-in-Err-NoFile-clause-replied c = λ s stands.
    let none = c.in-Err-NoFile.ensures in
    let is = c.in-Err-NoFile.field-0-is in
    record {
      next = s;
      replied = inl (rw is at (none.refused s.files stands.files), refl, refl);
      stands = record { files = none.kept (λ e. let p = sym is ∙ e in absurd cc) s.files stands.files; edits = stands.edits; checks = stands.checks };
    }
