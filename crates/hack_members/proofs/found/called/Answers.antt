use Rattle.std.proofs.Common.{All, Ok, ap, subst}
use Rattle.hack_decls.specs.Names.{TypeIn, types_of_kind}
use Rattle.hack_infer.specs.Filling.{filling_of}
use Rattle.hack_members.specs.inside.Rows.{called}
use Rattle.hack_sub.specs.NamesPut.{of_any}
use Rattle.hack_types.specs.declared.hack_type.HackType.TheVariants.{Any}
use Rattle.hack_types.specs.declared.shallow.MemberKind.{MemberKind}
use Rattle.hack_walk.specs.Checks.{setting_of}
use Rattle.hack_walk.specs.WalkLaws.{walks_as, walks_pure, weaker}
use Rattle.hack_members.proofs.found.called.Goals as goal

pub returns-in-Method : goal.returns-in-Method
returns-in-Method g c =
    let at = c.args.at in let given = c.args.given.now in let around = filling_of c.args.around.now in
    walks_as (called at given around c.args.kind.now) c.call_with.result
    (weaker c.call_with.result c.call_with.ensures (λ symbols n. (subst (λ (k : MemberKind). All (TypeIn symbols) (types_of_kind k)) c.in-Method.is n.0, n.1, n.2)) (λ symbols b n t. t))
    (λ m. ap (λ (k : MemberKind). called at given around k (setting_of c.args.setting.now) m c.args.state.now) c.in-Method.is)

pub returns-in-Property : goal.returns-in-Property
returns-in-Property g c =
    let at = c.args.at in let given = c.args.given.now in let around = filling_of c.args.around.now in
    walks_as (called at given around c.args.kind.now) (Ok Any) (walks_pure _ _ Any (λ symbols n. of_any symbols))
    (λ m. ap (λ (k : MemberKind). called at given around k (setting_of c.args.setting.now) m c.args.state.now) c.in-Property.is)

pub returns-in-Constant : goal.returns-in-Constant
returns-in-Constant g c =
    let at = c.args.at in let given = c.args.given.now in let around = filling_of c.args.around.now in
    walks_as (called at given around c.args.kind.now) (Ok Any) (walks_pure _ _ Any (λ symbols n. of_any symbols))
    (λ m. ap (λ (k : MemberKind). called at given around k (setting_of c.args.setting.now) m c.args.state.now) c.in-Constant.is)
