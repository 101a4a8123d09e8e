use Rattle.std.proofs.Common.{Ok}
use Rattle.hack_decls.specs.Names.{TypeIn}
use Rattle.hack_walk.specs.WalkLaws.{walks_expect}
use Rattle.hack_calls.proofs.Stepping.{steps_more}
use Rattle.hack_calls.proofs.reports.expect.Goals as goal

pub returns : goal.returns
returns g c =
    let wanted = c.args.wanted.now in let found = c.args.found.now in
    walks_expect c.args.at wanted found c.in_ok-fits.fits c.in_ok-fits.ensures
    (steps_more {NamesB = λ symbols. TypeIn symbols wanted × TypeIn symbols found} (Ok tt) c.in_ok-report_unless.ensures (λ symbols n. tt))
    (λ symbols around n. record { around = around; lower = n.1; upper = n.0 })
