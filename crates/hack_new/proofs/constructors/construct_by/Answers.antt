use Rattle.std.proofs.Common.{ap, subst}
use Rattle.hack_walk.specs.Checks.{setting_of}
use Rattle.hack_walk.specs.WalkLaws.{walks_as, weaker}
use Rattle.hack_new.specs.declared.constructors.Constructor.{Constructor}
use Rattle.hack_new.specs.inside.Rows.{ConstructorIn, construct_by}
use Rattle.hack_new.proofs.constructors.construct_by.Goals as goal

pub returns-in-Found : goal.returns-in-Found
returns-in-Found g c =
    walks_as _ c.use_constructor.result
    (weaker c.use_constructor.result c.use_constructor.ensures (λ symbols n. (subst (ConstructorIn symbols) c.in-Found.is n.0, n.1, n.2, n.3)) (λ symbols a n v. v))
    (λ m. ap (λ (k : Constructor). construct_by c.args.at c.args.arguments.now c.args.made.now c.args.given.now k (setting_of c.args.setting.now) m c.args.state.now) c.in-Found.is)

pub returns-in-Missing : goal.returns-in-Missing
returns-in-Missing g c =
    walks_as _ c.without_walk.result (weaker c.without_walk.result c.without_walk.ensures (λ symbols n. tt) (λ symbols a n v. v))
    (λ m. ap (λ (k : Constructor). construct_by c.args.at c.args.arguments.now c.args.made.now c.args.given.now k (setting_of c.args.setting.now) m c.args.state.now) c.in-Missing.is)
