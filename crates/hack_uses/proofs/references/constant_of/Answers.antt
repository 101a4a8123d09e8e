use Rattle.hack_rules.specs.Uses.{constant_walk}
use Rattle.hack_walk.specs.Checks.{setting_of}
use Rattle.hack_walk.specs.WalkLaws.{walks_as, weaker}
use Rattle.hack_uses.proofs.Scoping.{constant_as}
use Rattle.hack_uses.proofs.references.constant_of.Goals as goal

pub returns : goal.returns
returns g c =
    let at = c.args.at in let class = c.args.class.now in let name = c.args.name in let ty = c.args.ty.now in
    walks_as (constant_walk at class name ty) c.member_of.result (weaker c.member_of.result c.member_of.ensures (λ symbols n. (n, tt)) (λ symbols b n t. t))
    (λ m. constant_as at class name (setting_of c.args.setting.now) m c.args.state.now ty c.shown_name-shown.result c.shown_name-shown.ensures)
