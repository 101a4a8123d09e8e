use Rattle.std.proofs.Common.{◌≡◌, ◌∙◌, Bool, codes, not, sym, ap, refl}
use Rattle.hack_types.specs.declared.hack_type.HackType.TheVariants as type
use Rattle.std.proofs.lemmas.Result.{err_from_is_err_and}
use Rattle.hack_diag.specs.Messages.{not_allowed}
use Rattle.hack_rules.specs.Walks.{State, ◌>>=◌, reads, report, unless, pure}
use Rattle.hack_rules.specs.WrittenTypes.{this_checks}
use Rattle.hack_written.specs.Reported.{reported}
use Rattle.hack_written.specs.inside.Rows.{setting_in}
use Rattle.hack_written.proofs.Named.{of_this}
use Rattle.hack_written.proofs.Walking.{given, no_memory, walked}
use Rattle.hack_written.proofs.parts.this.Goals as goal

pub returns-then-not-is_outside : goal.returns-then-not-is_outside
unfolding this_checks ◌>>=◌ reads unless pure
returns-then-not-is_outside g c =
    let setting = setting_in c.args.around.now in let s = c.args.state.now in
    walked _ _ s s type.This (λ m. ap (λ (b : Bool). (type.This, (unless (not b) c.args.at (not_allowed (codes "this")) setting m s).1)) (sym c.is_outside.ensures ∙ c.if-not-is_outside.true))
    refl (λ symbols n. of_this symbols)

pub returns : goal.returns
unfolding this_checks ◌>>=◌ reads unless report pure
returns g c =
    let setting = setting_in c.args.around.now in let s = c.args.state.now in let at = c.args.at in
    let last = c.report_this.new.state in
    let is : last ≡ reported setting at (not_allowed (codes "this")) s = c.in_ok-report_this.ensures in
    walked _ _ s last type.This
    (λ m. ap (λ (b : Bool). (type.This, (unless (not b) at (not_allowed (codes "this")) setting m s).1)) (sym c.is_outside.ensures ∙ c.if-not-is_outside.false)
    ∙ given type.This (reported setting at (not_allowed (codes "this")) s) last is)
    (ap (λ (t : State). t.variables) is) (λ symbols n. of_this symbols)

pub returns-in_err-report_this : goal.returns-in_err-report_this
returns-in_err-report_this g c =
    let p = err_from_is_err_and c.from_residual.result c.from_residual.ensures.1 in
    rw (p.1, p.2) (no_memory _ _ _ _)
