use Rattle.std.proofs.Common.{Ok, ap}
use Rattle.hack_infer.specs.Filling.{filled_limited, filling_of}
use Rattle.hack_members.specs.declared.wanted.Sought.{Sought}
use Rattle.hack_members.specs.inside.Rows.{gives}
use Rattle.hack_rules.specs.Members.{type_by}
use Rattle.hack_walk.specs.Checks.{setting_of}
use Rattle.hack_walk.specs.WalkLaws.{walks_as, walks_pure}
use Rattle.hack_members.proofs.Naming.{in_typed}
use Rattle.hack_members.proofs.found.gives.Goals as goal

pub returns-in_ok-typed-in-Property : goal.returns-in_ok-typed-in-Property
returns-in_ok-typed-in-Property g c =
    let at = c.args.at in let around = filling_of c.args.around.now in let kind = c.args.kind.now in
    rw c.in_ok-typed-in-Property.ensures (walks_as (gives at c.args.sought.now around kind) (Ok (filled_limited around (type_by kind)))
    (walks_pure _ _ (filled_limited around (type_by kind)) (λ symbols n. in_typed symbols around kind n.0 n.1))
    (λ m. ap (λ (s : Sought). gives at s around kind (setting_of c.args.setting.now) m c.args.state.now) c.in-Property.is))

pub returns-in_ok-typed-in-Constant : goal.returns-in_ok-typed-in-Constant
returns-in_ok-typed-in-Constant g c =
    let at = c.args.at in let around = filling_of c.args.around.now in let kind = c.args.kind.now in
    rw c.in_ok-typed-in-Constant.ensures (walks_as (gives at c.args.sought.now around kind) (Ok (filled_limited around (type_by kind)))
    (walks_pure _ _ (filled_limited around (type_by kind)) (λ symbols n. in_typed symbols around kind n.0 n.1))
    (λ m. ap (λ (s : Sought). gives at s around kind (setting_of c.args.setting.now) m c.args.state.now) c.in-Constant.is))
