use Rattle.std.proofs.Common.{◌≡◌, ◌∙◌, Bool, sym, ap, refl}
use Rattle.std.proofs.lemmas.Result.{err_from_is_err_and}
use Rattle.hack_diag.specs.Messages.{trait_as_type}
use Rattle.hack_rules.specs.Walks.{State, report, unless, pure}
use Rattle.hack_written.specs.Reported.{reported}
use Rattle.hack_written.specs.inside.Rows.{setting_in}
use Rattle.hack_written.proofs.Walking.{done, no_memory, walked}
use Rattle.hack_written.proofs.parts.expect_type.Goals as goal

pub returns-then-may_stand : goal.returns-then-may_stand
unfolding unless pure
returns-then-may_stand g c =
    let setting = setting_in c.args.around.now in let s = c.args.state.now in let class = c.args.class.now in
    walked _ _ s s tt (λ m. ap (λ (b : Bool). unless b class.at (trait_as_type class.name) setting m s) (sym c.may_stand.ensures ∙ c.if-may_stand.true)) refl (λ symbols n. tt)

pub returns : goal.returns
unfolding unless report
returns g c =
    let setting = setting_in c.args.around.now in let s = c.args.state.now in let class = c.args.class.now in
    let last = c.report_trait.new.state in
    let is : last ≡ reported setting class.at (trait_as_type class.name) s = c.in_ok-report_trait.ensures in
    walked _ _ s last tt
    (λ m. ap (λ (b : Bool). unless b class.at (trait_as_type class.name) setting m s) (sym c.may_stand.ensures ∙ c.if-may_stand.false)
    ∙ done (reported setting class.at (trait_as_type class.name) s) last is)
    (ap (λ (t : State). t.variables) is) (λ symbols n. tt)

pub returns-in_err-report_trait : goal.returns-in_err-report_trait
returns-in_err-report_trait g c =
    let p = err_from_is_err_and c.from_residual.result c.from_residual.ensures.1 in
    rw (p.1, p.2) (no_memory _ _ _ _)
