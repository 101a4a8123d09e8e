use Rattle.std.proofs.Common.{Ok}
use Rattle.hack_types.specs.declared.hack_type.HackType.TheVariants.{Any}
use Rattle.hack_rules.specs.Walks.{pure, refuse}
use Rattle.hack_sub.specs.NamesPut.{of_any}
use Rattle.hack_walk.specs.WalkLaws.{of_step, walks_next, walks_pure}
use Rattle.hack_new.proofs.new.refuse_large.Goals as goal

pub returns : goal.returns
unfolding refuse
returns g c =
    walks_next (pure Any) (Ok Any) (of_step _ c.in_ok-report_large.ensures) (walks_pure {Names = λ symbols. Unit {0}} _ _ Any (λ symbols n. of_any symbols)) (λ symbols n. tt) (λ symbols n g. tt)
    (λ symbols b n g h. h)
