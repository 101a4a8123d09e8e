use Rattle.std.proofs.Common.{Ok, Option, ap}
use Rattle.hack_rules.specs.Uses.{constant_walk, through}
use Rattle.hack_sub.specs.NamesPut.{of_any}
use Rattle.hack_types.specs.declared.hack_type.HackType.{HackType}
use Rattle.hack_types.specs.declared.hack_type.HackType.TheVariants.{Any}
use Rattle.hack_walk.specs.Checks.{setting_of}
use Rattle.hack_walk.specs.WalkLaws.{walks_as, walks_pure}
use Rattle.hack_uses.proofs.references.constant_through.Goals as goal

pub returns-in-None : goal.returns-in-None
returns-in-None g c =
    walks_as (through (constant_walk c.args.at c.args.class.now c.args.name) c.args.ty.now) (Ok Any) (walks_pure _ _ Any (λ symbols n. of_any symbols))
    (λ m. ap (λ (ty : Option HackType). through (constant_walk c.args.at c.args.class.now c.args.name) ty (setting_of c.args.setting.now) m c.args.state.now) c.in-None.is)
