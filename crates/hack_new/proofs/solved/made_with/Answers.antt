use Rattle.std.proofs.Common.{sym, ap, subst}
use Rattle.hack_types.specs.declared.hack_type.HackType.{HackType}
use Rattle.hack_decls.specs.Names.{TypeIn}
use Rattle.hack_walk.specs.Checks.{setting_of}
use Rattle.hack_walk.specs.WalkLaws.{walks_as, weaker}
use Rattle.hack_rules.specs.News.{class_of_solved}
use Rattle.hack_new.specs.inside.Solving.{made_as}
use Rattle.hack_new.proofs.Making.{in_class_of_solved}
use Rattle.hack_new.proofs.solved.made_with.Goals as goal

pub returns : goal.returns
returns g c =
    let signature = c.args.signature.now in let solved = c.args.solved.now in let params = c.args.params.now in let name = c.args.name in
    let is = c.in_ok-class.ensures in
    walks_as (made_as c.args.at signature (class_of_solved name params solved) solved c.args.given.now) c.made_as.result
    (weaker c.made_as.result c.made_as.ensures
    (λ symbols n. (n.0, subst (TypeIn symbols) (sym is) (in_class_of_solved symbols name params solved n.1 n.2), n.2, n.3)) (λ symbols a n h. h))
    (λ m. ap (λ (class : HackType). made_as c.args.at signature class solved c.args.given.now (setting_of c.args.setting.now) m c.args.state.now) (sym is))
