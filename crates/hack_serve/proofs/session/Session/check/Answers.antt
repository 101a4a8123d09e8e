use Rattle.std.proofs.Common.{◌≡◌, ◌+◌, true, refl, ap, subst, arith}
use Rattle.std.specs.Prelude.{MatchBool}
use Rattle.hack_types.specs.Report.{report_text}
use Rattle.check_state.specs.Findings.{AreFirst}
use Rattle.hack_serve.proofs.session.Session.check.Goals as goal

pub returns-clause-replied : goal.returns-clause-replied
returns-clause-replied c = λ s stands.
    let yes : c.are_first.result ≡ true = grind (arith, c.if-not-are_first.false) in
    let first : AreFirst s.files = subst (λ t. MatchBool t (AreFirst s.files) (AreFirst s.files → ⊥)) yes (c.are_first.ensures s.files stands.files) in
    let report = c.in_ok-report.report.items in
    record {
      next = record { files = s.files; edits = s.edits; checks = s.checks + 1 };
      replied = (first, (report, c.in_ok-report.ensures s.files stands.files first, ap (λ n. report_text (n + 1) report) stands.checks, refl));
      stands = record { files = stands.files; edits = stands.edits; checks = ap (λ n. n + 1) stands.checks };
    }
