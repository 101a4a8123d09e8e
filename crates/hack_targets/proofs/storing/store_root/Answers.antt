use Rattle.std.proofs.Common.{Ok, ap, subst}
use Rattle.hack_decls.specs.Asks.{Nothing}
use Rattle.hack_decls.specs.Names.{TypeIn}
use Rattle.hack_rules.specs.Targets.{store}
use Rattle.hack_rules.specs.Walks.{assign}
use Rattle.hack_types.specs.declared.hack_type.HackType.{HackType}
use Rattle.hack_walk.specs.Checks.{Steps, setting_of}
use Rattle.hack_walk.specs.WalkLaws.{of_step, weaker}
use Rattle.hack_targets.specs.AimIn.{AimIn}
use Rattle.hack_targets.specs.declared.steps.Root.{Root}
use Rattle.hack_targets.specs.inside.Aims.{root_aim}
use Rattle.hack_targets.proofs.Stepping.{steps_more, walks_same}
use Rattle.hack_targets.proofs.storing.store_root.Goals as goal

pub returns-in_ok-assign-in-Variable : goal.returns-in_ok-assign-in-Variable
unfolding store
returns-in_ok-assign-in-Variable g c =
    let new = c.args.new.now in
    let put = subst (λ (ty : HackType). Steps (assign c.in-Variable.name ty) (setting_of c.args.setting.now) c.args.state.now (Ok tt) c.assign.new.state (λ symbols. TypeIn symbols ty) Nothing)
    c.in_ok-copy-in-Variable.ensures c.in_ok-assign-in-Variable.ensures in
    walks_same _ (Ok tt) (ap (λ (root : Root). store c.args.value_at (root_aim root) new) c.in-Variable.is) (of_step _ (steps_more (Ok tt) put (λ symbols n. n.1)))

pub returns-in-Property : goal.returns-in-Property
unfolding store
returns-in-Property g c =
    walks_same _ c.expect.result (ap (λ (root : Root). store c.args.value_at (root_aim root) c.args.new.now) c.in-Property.is)
    (weaker c.expect.result c.expect.ensures (λ symbols n. (subst (λ (root : Root). AimIn symbols (root_aim root)) c.in-Property.is n.0, n.1)) (λ symbols a n h. h))

pub returns-in_ok-report_assigned-in-Other : goal.returns-in_ok-report_assigned-in-Other
unfolding store
returns-in_ok-report_assigned-in-Other g c =
    walks_same _ (Ok tt) (ap (λ (root : Root). store c.args.value_at (root_aim root) c.args.new.now) c.in-Other.is)
    (of_step _ (steps_more (Ok tt) c.in_ok-report_assigned-in-Other.ensures (λ symbols n. tt)))
