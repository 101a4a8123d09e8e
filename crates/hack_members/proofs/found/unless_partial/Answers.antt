use Rattle.std.proofs.Common.{Bool, Ok, ap}
use Rattle.hack_members.specs.Wanting.{wanted_of}
use Rattle.hack_members.specs.inside.Rows.{unless_partial}
use Rattle.hack_sub.specs.NamesPut.{of_any}
use Rattle.hack_types.specs.declared.hack_type.HackType.TheVariants.{Any}
use Rattle.hack_walk.specs.Checks.{setting_of}
use Rattle.hack_walk.specs.WalkLaws.{step_pure}
use Rattle.hack_members.proofs.Stepping.{steps_as}
use Rattle.hack_members.proofs.found.unless_partial.Goals as goal

pub returns-then-partial : goal.returns-then-partial
returns-then-partial c =
    let at = c.args.at in let wanted = wanted_of at c.args.wanted.now in let head = c.args.head.now in
    steps_as (unless_partial at wanted head c.args.partial) (Ok Any) (step_pure c.args.state.now Any (λ symbols n. of_any symbols))
    (λ m. ap (λ (b : Bool). unless_partial at wanted head b (setting_of c.args.setting.now) m c.args.state.now) c.if-partial.true)
