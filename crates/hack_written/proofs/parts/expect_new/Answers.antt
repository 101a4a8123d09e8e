use Rattle.std.proofs.Common.{◌≡◌, ◌∙◌, Bool, not, ap, refl}
use Rattle.std.proofs.lemmas.Result.{err_from_is_err_and}
use Rattle.hack_diag.specs.Messages.{field_twice}
use Rattle.hack_rules.specs.Walks.{State, report, unless, pure}
use Rattle.hack_written.specs.Reported.{reported}
use Rattle.hack_written.specs.inside.Rows.{setting_in}
use Rattle.hack_written.proofs.Walking.{done, no_memory, walked}
use Rattle.hack_written.proofs.parts.expect_new.Goals as goal

pub returns-then-not-is_given : goal.returns-then-not-is_given
unfolding unless pure
returns-then-not-is_given g c =
    let setting = setting_in c.args.around.now in let s = c.args.state.now in
    walked _ _ s s tt (λ m. ap (λ (b : Bool). unless (not b) c.args.at (field_twice c.args.key) setting m s) c.if-not-is_given.true) refl (λ symbols n. tt)

pub returns : goal.returns
unfolding unless report
returns g c =
    let setting = setting_in c.args.around.now in let s = c.args.state.now in let at = c.args.at in
    let last = c.report_field.new.state in
    let is : last ≡ reported setting at (field_twice c.args.key) s = c.in_ok-report_field.ensures in
    walked _ _ s last tt
    (λ m. ap (λ (b : Bool). unless (not b) at (field_twice c.args.key) setting m s) c.if-not-is_given.false ∙ done (reported setting at (field_twice c.args.key) s) last is)
    (ap (λ (t : State). t.variables) is) (λ symbols n. tt)

pub returns-in_err-report_field : goal.returns-in_err-report_field
returns-in_err-report_field g c =
    let p = err_from_is_err_and c.from_residual.result c.from_residual.ensures.1 in
    rw (p.1, p.2) (no_memory _ _ _ _)
