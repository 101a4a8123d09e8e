use Rattle.std.proofs.Common.{Ok, Option, ap}
use Rattle.hack_members.specs.Wanting.{wanted_of}
use Rattle.hack_rules.specs.Members.{member_of}
use Rattle.hack_rules.specs.Uses.{through}
use Rattle.hack_sub.specs.NamesPut.{of_any}
use Rattle.hack_types.specs.declared.hack_type.HackType.{HackType}
use Rattle.hack_types.specs.declared.hack_type.HackType.TheVariants.{Any}
use Rattle.hack_walk.specs.Checks.{setting_of}
use Rattle.hack_walk.specs.WalkLaws.{walks_as, walks_pure}
use Rattle.hack_uses.proofs.references.through.Goals as goal

pub returns-in-None : goal.returns-in-None
returns-in-None g c =
    walks_as (through (member_of c.args.at (wanted_of c.args.at c.args.wanted.now)) c.args.ty.now) (Ok Any) (walks_pure _ _ Any (λ symbols n. of_any symbols))
    (λ m. ap (λ (ty : Option HackType). through (member_of c.args.at (wanted_of c.args.at c.args.wanted.now)) ty (setting_of c.args.setting.now) m c.args.state.now) c.in-None.is)
