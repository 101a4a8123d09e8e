use Rattle.std.proofs.Common.{Ok, All, ap, subst}
use Rattle.hack_types.specs.declared.shallow.MemberKind.{MemberKind}
use Rattle.hack_decls.specs.Names.{TypeIn, types_of_kind}
use Rattle.hack_walk.specs.Checks.{setting_of}
use Rattle.hack_walk.specs.WalkLaws.{walks_as, walks_pure, weaker}
use Rattle.hack_new.specs.inside.Rows.{call_kind}
use Rattle.hack_new.proofs.Constructing.{no_method}
use Rattle.hack_new.proofs.constructors.call_kind.Goals as goal

pub returns-in-Method : goal.returns-in-Method
returns-in-Method g c =
    walks_as _ c.call.result
    (weaker c.call.result c.call.ensures (λ symbols n. (subst (λ (k : MemberKind). All (TypeIn symbols) (types_of_kind k)) c.in-Method.is n.0, n.1, n.2, n.3)) (λ symbols a n v. v))
    (λ m. ap (λ (k : MemberKind). call_kind c.args.at c.args.arguments.now c.args.made.now c.args.given.now k (setting_of c.args.setting.now) m c.args.state.now) c.in-Method.is)

pub returns-in-Constant : goal.returns-in-Constant
returns-in-Constant g c =
    walks_as _ (Ok tt) (walks_pure _ c.args.state.now tt (λ symbols n. tt))
    (λ m. no_method c.args.at c.args.arguments.now c.args.made.now c.args.given.now (setting_of c.args.setting.now) m c.args.state.now c.args.kind.now c.in-Constant.is)

pub returns-in-Constant-2 : goal.returns-in-Constant-2
returns-in-Constant-2 g c =
    walks_as _ (Ok tt) (walks_pure _ c.args.state.now tt (λ symbols n. tt))
    (λ m. no_method c.args.at c.args.arguments.now c.args.made.now c.args.given.now (setting_of c.args.setting.now) m c.args.state.now c.args.kind.now c.in-Constant.is)
