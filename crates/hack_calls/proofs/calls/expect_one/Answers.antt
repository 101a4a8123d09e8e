use Rattle.std.proofs.Common.{◌≡◌, ap, subst, sym}
use Rattle.hack_decls.specs.Names.{TypeIn}
use Rattle.hack_infer.specs.Filling.{filled_limited, filling_of}
use Rattle.hack_rules.specs.Walks.{expect}
use Rattle.hack_rules.specs.WrittenTypes.{Argument}
use Rattle.hack_walk.specs.WalkLaws.{weaker}
use Rattle.hack_written.specs.NamesFilled.{in_filled_limited}
use Rattle.hack_calls.specs.inside.Rows.{expect_one}
use Rattle.hack_calls.proofs.Stepping.{walks_same}
use Rattle.hack_calls.proofs.calls.expect_one.Goals as goal

pub returns : goal.returns
returns g c =
    let filling = filling_of c.args.filling.now in let param = c.args.param.now in let argument = c.args.argument.now in let inside = c.argument.inside in
    let is : c.in_ok-wanted.wanted ≡ filled_limited filling param.ty = c.in_ok-wanted.ensures in
    let at : argument.at ≡ inside.at = ap (λ (a : Argument). a.at) (sym c.argument.view_is) in
    let ty : argument.ty ≡ inside.ty = ap (λ (a : Argument). a.ty) (sym c.argument.view_is) in
    walks_same (expect_one filling param argument) c.expect-done.result (λ i. expect (at i) (sym is i) (ty i))
    (weaker c.expect-done.result c.expect-done.ensures
    (λ symbols n. (subst (TypeIn symbols) (sym is) (in_filled_limited symbols filling n.1 param.ty n.0), subst (TypeIn symbols) ty n.2)) (λ symbols a n g. g))
