use Rattle.std.proofs.Common.{◌≡◌, ◌∙◌, ℕ, Bool, List, sym, ap, refl}
use Rattle.std.proofs.lemmas.Result.{err_from_is_err_and}
use Rattle.hack_types.specs.TypeText.{name_text}
use Rattle.hack_diag.specs.Messages.{out_of_bounds}
use Rattle.hack_rules.specs.Walks.{State, ◌>>=◌, reads, report, unless, pure}
use Rattle.hack_rules.specs.WrittenTypes.{expect_within}
use Rattle.hack_walk.specs.Checks.{setting_of}
use Rattle.hack_written.specs.Reported.{reported}
use Rattle.hack_written.proofs.Walking.{asks_failed, asks_on, asks_out, done}
use Rattle.hack_written.proofs.bounds.expect_within.Goals as goal

pub returns-then-fits : goal.returns-then-fits
unfolding expect_within ◌>>=◌ reads unless pure
returns-then-fits g c =
    let setting = setting_of c.args.setting.now in let s = c.args.state.now in
    let says = out_of_bounds c.args.ty.now (λ names. name_text names c.args.param.now.name) in
    asks_on _ tt s c.in_ok-fits.ensures
    (λ m e. ap (λ (b : Bool). unless b c.args.at says setting m s) (sym e ∙ c.if-fits.true)) refl
    (λ symbols around n. record { around = around; bounds = n }) (λ symbols n w. tt)

pub returns : goal.returns
unfolding expect_within ◌>>=◌ reads unless report
returns g c =
    let setting = setting_of c.args.setting.now in let s = c.args.state.now in let at = c.args.at in
    let says = out_of_bounds c.args.ty.now (λ names. name_text names c.args.param.now.name) in
    let last = c.report_out_of_bounds.new.state in
    let is : last ≡ reported setting at says s =
    c.in_ok-report_out_of_bounds.ensures ∙ ap (λ (p : List ℕ). reported setting at (out_of_bounds c.args.ty.now (λ names. p)) s) c.name_text-param.ensures in
    asks_on _ tt last c.in_ok-fits.ensures
    (λ m e. ap (λ (b : Bool). unless b at says setting m s) (sym e ∙ c.if-fits.false) ∙ done (reported setting at says s) last is)
    (ap (λ (t : State). t.variables) is)
    (λ symbols around n. record { around = around; bounds = n }) (λ symbols n w. tt)

pub returns-in_err-fits : goal.returns-in_err-fits
returns-in_err-fits g c =
    let p = err_from_is_err_and c.from_residual.result c.from_residual.ensures.1 in
    rw (p.1, p.2) (asks_failed _ _ c.in_err-fits.ensures (λ symbols around n. record { around = around; bounds = n }))

pub returns-in_err-report_out_of_bounds : goal.returns-in_err-report_out_of_bounds
returns-in_err-report_out_of_bounds g c =
    let p = err_from_is_err_and c.from_residual-in_err-report_out_of_bounds.result c.from_residual-in_err-report_out_of_bounds.ensures.1 in
    rw (p.1, p.2) (asks_out _ _ c.in_ok-fits.ensures (λ symbols around n. record { around = around; bounds = n }))
