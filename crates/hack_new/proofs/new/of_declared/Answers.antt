use Rattle.std.proofs.Common.{Bool, Ok, ap, if◌then◌else◌}
use Rattle.hack_types.specs.declared.hack_type.HackType.TheVariants.{Any}
use Rattle.hack_rules.specs.News.{new_declared}
use Rattle.hack_rules.specs.Walks.{pure}
use Rattle.hack_sub.specs.NamesPut.{of_any}
use Rattle.hack_walk.specs.Checks.{setting_of}
use Rattle.hack_walk.specs.WalkLaws.{walks_as, walks_pure}
use Rattle.hack_written.specs.Within.{arguments_of}
use Rattle.hack_new.proofs.new.of_declared.Goals as goal

pub returns-then-declared : goal.returns-then-declared
returns-then-declared g c =
    let s = c.args.state.now in
    walks_as _ (Ok Any) (walks_pure _ s Any (λ symbols n. of_any symbols))
    (λ m. ap (λ (b : Bool). (if b then pure Any else new_declared c.args.at c.args.name_at c.args.name c.args.declared.now.type_params (arguments_of c.args.types.now c.args.own) c.args.given.now)
    (setting_of c.args.setting.now) m s) c.if-declared.true)
