use Rattle.std.proofs.Common.{Ok, Err}
use Rattle.std.proofs.lemmas.Result.{err_from_is_err_and}
use Rattle.hack_types.specs.declared.hack_type.HackType.TheVariants.{Arraykey}
use Rattle.hack_decls.specs.DeclState.{Map}
use Rattle.hack_decls.specs.Names.{TypeIn}
use Rattle.hack_sub.specs.IsBelow.{is_below}
use Rattle.hack_sub.specs.NamesOf.{of_arraykey}
use Rattle.hack_sub.specs.Sub.{most_height}
use Rattle.hack_sub.specs.declared.scope.Scope.{Scope}
use Rattle.hack_walk.specs.WalkLaws.{of_reads, out_of_memory, refused, walks_expect}
use Rattle.hack_values.proofs.Stepping.{steps_more}
use Rattle.hack_values.proofs.containers.expect_key.Goals as goal

pub returns : goal.returns
returns g c =
    walks_expect c.args.at Arraykey c.args.ty.now c.in_ok-fits.fits c.in_ok-fits.ensures (steps_more (Ok tt) c.in_ok-report_unless.ensures (λ symbols n. tt))
    (λ symbols around n. record { around = around; lower = n; upper = of_arraykey symbols })

pub returns-in_err-fits : goal.returns-in_err-fits
returns-in_err-fits g c =
    let ty = c.args.ty.now in
    let p = err_from_is_err_and c.from_residual.result c.from_residual.ensures.1 in
    rw (p.1, p.2) (refused (of_reads {NamesB = λ symbols. TypeIn symbols ty} (λ (map : Map) (scope : Scope). is_below map scope most_height ty Arraykey) c.args.state.now (Err _) c.in_err-fits.ensures
    (λ symbols around n. record { around = around; lower = n; upper = of_arraykey symbols })) (λ symbols n. n))

pub returns-in_err-report_unless : goal.returns-in_err-report_unless
returns-in_err-report_unless g c =
    let ty = c.args.ty.now in
    let p = err_from_is_err_and c.from_residual-in_err-report_unless.result c.from_residual-in_err-report_unless.ensures.1 in
    rw (p.1, p.2) (out_of_memory (of_reads {NamesB = λ symbols. TypeIn symbols ty} (λ (map : Map) (scope : Scope). is_below map scope most_height ty Arraykey) c.args.state.now (Ok _) c.in_ok-fits.ensures
    (λ symbols around n. record { around = around; lower = n; upper = of_arraykey symbols })) (λ symbols n. n))
