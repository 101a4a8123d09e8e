use Rattle.std.proofs.Common.{◌≡◌, List, All, refl, sym, ap, subst}
use Rattle.std.proofs.lemmas.Result.{err_from_is_err_and}
use Rattle.hack_types.specs.declared.hack_type.HackType.{HackType}
use Rattle.hack_types.specs.declared.hack_type.HackType.TheVariants as type
use Rattle.hack_decls.specs.Names.{TypeIn}
use Rattle.hack_sub.specs.NamesOf.{of_class}
use Rattle.hack_written.specs.inside.Rows.{expect_declared, names_in, setting_in, types_in}
use Rattle.hack_written.proofs.Told.{told_done}
use Rattle.hack_written.proofs.Walking.{walks_failed, walks_on}
use Rattle.hack_written.proofs.parts.declared_type.Goals as goal

pub returns : goal.returns
returns g c =
    let around = c.args.around.now in let names = names_in around in let class = c.args.class.now in
    let s = c.args.state.now in let last = c.expect_declared.new.state in
    let own : c.as_slice.result.now ≡ c.args.types = c.as_slice.ensures in
    walks_on _ _ last c.in_ok-expect_declared.ensures
    (λ m is. told_done (expect_declared names around.bounds class c.args.traits) (type.Class class.name (types_in names class.arguments)) (setting_in around) m s last is
    _ (ap (type.Class class.name) c.requires))
    refl (λ symbols n. (n.0, subst (λ (ts : List HackType). All (TypeIn symbols) ts) (sym own) n.1)) (λ symbols n w. of_class symbols class.name c.args.types n.0 n.1)

pub returns-in_err-expect_declared : goal.returns-in_err-expect_declared
returns-in_err-expect_declared g c =
    let own : c.as_slice.result.now ≡ c.args.types = c.as_slice.ensures in
    let p = err_from_is_err_and c.from_residual.result c.from_residual.ensures.1 in
    rw (p.1, p.2) (walks_failed _ _ c.in_err-expect_declared.ensures (λ symbols n. (n.0, subst (λ (ts : List HackType). All (TypeIn symbols) ts) (sym own) n.1)))
