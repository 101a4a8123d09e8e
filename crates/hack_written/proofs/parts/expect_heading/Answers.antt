use Rattle.std.proofs.Common.{◌≡◌, ◌∙◌, Bool, List, sym, ap, subst, if◌then◌else◌}
use Rattle.std.proofs.lemmas.Result.{err_from_is_err_and}
use Rattle.hack_types.specs.declared.signature.TypeParam.{TypeParam}
use Rattle.hack_diag.specs.Messages.{unbound_type}
use Rattle.hack_rules.specs.Walks.{State, ◌>>=◌, ◌>>◌, report}
use Rattle.hack_written.specs.Reported.{reported}
use Rattle.hack_written.specs.Within.{ParamsIn}
use Rattle.hack_written.specs.inside.Rows.{count_arguments, expect_type, names_in, params_of, setting_in}
use Rattle.hack_written.proofs.Headings.{in_params}
use Rattle.hack_written.proofs.Walking.{done, no_memory, walked, walks_then}
use Rattle.hack_written.proofs.parts.expect_heading.Goals as goal

pub returns-then-is_absent : goal.returns-then-is_absent
unfolding report
returns-then-is_absent g c =
    let around = c.args.around.now in let names = names_in around in let class = c.args.class.now in let h = c.args.heading.now in
    let setting = setting_in around in let s = c.args.state.now in
    let last = c.report_unbound.new.state in
    let is : last ≡ reported setting class.at (unbound_type class.name) s = c.in_ok-report_unbound.ensures in
    walked _ _ s last tt
    (λ m. ap (λ (b : Bool). (if b then report class.at (unbound_type class.name) else (expect_type class c.args.traits h >> count_arguments names around.bounds class (params_of h))) setting m s)
    (sym c.is_absent.ensures ∙ c.if-is_absent.true) ∙ done (reported setting class.at (unbound_type class.name) s) last is)
    (ap (λ (t : State). t.variables) is) (λ symbols n. tt)

pub returns : goal.returns
unfolding ◌>>=◌ ◌>>◌
returns g c =
    let around = c.args.around.now in let names = names_in around in let class = c.args.class.now in let h = c.args.heading.now in
    let setting = setting_in around in let s = c.args.state.now in
    let ps : c.params_of.result.now ≡ params_of h = c.params_of.ensures in
    walks_then _ c.count_arguments.result c.in_ok-expect_type.ensures c.count_arguments.ensures
    (λ m is. ap (λ (b : Bool). (if b then report class.at (unbound_type class.name) else (expect_type class c.args.traits h >> count_arguments names around.bounds class (params_of h))) setting m s)
    (sym c.is_absent.ensures ∙ c.if-is_absent.false)
    ∙ ap (λ (r : Unit {0} × State). count_arguments names around.bounds class (params_of h) setting m r.1) is
    ∙ ap (λ (params : List TypeParam). count_arguments names around.bounds class params setting m c.expect_type.new.state) (sym ps))
    (λ symbols n. tt)
    (λ symbols n w. (n.0, subst (ParamsIn symbols) (sym ps) (in_params symbols h n.1)))
    (λ symbols b n w v. tt)

pub returns-in_err-report_unbound : goal.returns-in_err-report_unbound
returns-in_err-report_unbound g c =
    let p = err_from_is_err_and c.from_residual.result c.from_residual.ensures.1 in
    rw (p.1, p.2) (no_memory _ _ _ _)
