use Rattle.std.proofs.Common.{Ok}
use Rattle.hack_types.specs.declared.hack_type.HackType.TheVariants.{Any}
use Rattle.hack_rules.specs.News.{solved_kind}
use Rattle.hack_rules.specs.Walks.{pure}
use Rattle.hack_sub.specs.NamesPut.{of_any}
use Rattle.hack_walk.specs.Checks.{setting_of}
use Rattle.hack_walk.specs.WalkLaws.{walks_as, walks_pure}
use Rattle.hack_new.proofs.Making.{other_law}
use Rattle.hack_new.proofs.solved.solved_kind.Goals as goal

pub returns-in-Constant : goal.returns-in-Constant
unfolding pure
returns-in-Constant g c =
    let at = c.args.at in let name = c.args.name in let params = c.args.params.now in let given = c.args.given.now in let s = c.args.state.now in
    walks_as (solved_kind at name params given c.args.kind.now) (Ok Any) (walks_pure _ s Any (λ symbols n. of_any symbols))
    (λ m. other_law at name params given (setting_of c.args.setting.now) m s c.args.kind.now c.in-Constant.is)
