use Rattle.std.proofs.Common.{Option, Ok, ap}
use Rattle.hack_types.specs.declared.hack_type.HackType.TheVariants.{Any}
use Rattle.hack_sub.specs.NamesPut.{of_any}
use Rattle.hack_walk.specs.Checks.{setting_of}
use Rattle.hack_walk.specs.WalkLaws.{walks_as, walks_pure}
use Rattle.hack_written.specs.Within.{arguments_of}
use Rattle.hack_calls.specs.declared.mentions.Declared.{Declared}
use Rattle.hack_new.specs.inside.Rows.{new_by}
use Rattle.hack_new.proofs.new.new_by.Goals as goal

pub returns-in-None : goal.returns-in-None
returns-in-None g c =
    let s = c.args.state.now in
    walks_as _ (Ok Any) (walks_pure _ s Any (λ symbols n. of_any symbols))
    (λ m. ap (λ (d : Option Declared). new_by c.args.at c.args.name_at c.args.name (arguments_of c.args.types.now c.args.own) c.args.given.now d (setting_of c.args.setting.now) m s) c.in-None.is)
