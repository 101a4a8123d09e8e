use Rattle.std.proofs.Common.{Option, Ok, ap}
use Rattle.hack_types.specs.declared.hack_type.HackType.{HackType}
use Rattle.hack_types.specs.declared.hack_type.HackType.TheVariants.{Any}
use Rattle.hack_rules.specs.News.{new_word}
use Rattle.hack_sub.specs.NamesPut.{of_any}
use Rattle.hack_walk.specs.Checks.{setting_of}
use Rattle.hack_walk.specs.WalkLaws.{walks_as, walks_pure}
use Rattle.hack_new.proofs.words.new_word.Goals as goal

pub returns-in-None : goal.returns-in-None
returns-in-None g c =
    let s = c.args.state.now in
    walks_as _ (Ok Any) (walks_pure _ s Any (λ symbols n. of_any symbols))
    (λ m. ap (λ (o : Option HackType). new_word c.args.at c.args.word.now c.args.given.now o (setting_of c.args.setting.now) m s) c.in-None.is)
