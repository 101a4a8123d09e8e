use Rattle.std.proofs.Common.{Ok, false, ap, subst}
use Rattle.hack_decls.specs.Names.{TypeIn}
use Rattle.hack_rules.specs.Targets.{read}
use Rattle.hack_walk.specs.WalkLaws.{step_pure}
use Rattle.hack_targets.specs.AimIn.{AimIn}
use Rattle.hack_targets.specs.declared.steps.Root.{Root}
use Rattle.hack_targets.specs.inside.Aims.{root_aim}
use Rattle.hack_targets.proofs.Stepping.{steps_more, steps_same}
use Rattle.hack_targets.proofs.reading.read_root.Goals as goal

pub returns-in-Variable : goal.returns-in-Variable
unfolding read
returns-in-Variable c =
    steps_same _ c.look_up.result (ap (λ (root : Root). read false (root_aim root)) c.in-Variable.is) (steps_more c.look_up.result c.look_up.ensures (λ symbols n. tt))

pub returns-in_ok-copy-in-Property : goal.returns-in_ok-copy-in-Property
unfolding read
returns-in_ok-copy-in-Property c =
    rw c.in_ok-copy-in-Property.ensures (steps_same _ (Ok c.in-Property.ty) (ap (λ (root : Root). read false (root_aim root)) c.in-Property.is)
    (step_pure {Gives = TypeIn} c.args.state.now c.in-Property.ty (λ symbols n. subst (λ (root : Root). AimIn symbols (root_aim root)) c.in-Property.is n)))

pub returns-in_ok-copy-in-Other : goal.returns-in_ok-copy-in-Other
unfolding read
returns-in_ok-copy-in-Other c =
    rw c.in_ok-copy-in-Other.ensures (steps_same _ (Ok c.in-Other.ty) (ap (λ (root : Root). read false (root_aim root)) c.in-Other.is)
    (step_pure {Gives = TypeIn} c.args.state.now c.in-Other.ty (λ symbols n. subst (λ (root : Root). AimIn symbols (root_aim root)) c.in-Other.is n)))
