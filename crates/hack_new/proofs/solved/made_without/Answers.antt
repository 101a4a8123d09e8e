use Rattle.hack_types.specs.Substituted.{limited}
use Rattle.hack_decls.specs.Names.{TypeIn}
use Rattle.hack_rules.specs.Walks.{◌>>◌, pure}
use Rattle.hack_walk.specs.NamesKept.{in_limited}
use Rattle.hack_walk.specs.WalkLaws.{step_pure, step_step}
use Rattle.hack_new.specs.inside.Solving.{class_of_any, made_without}
use Rattle.hack_new.proofs.Making.{in_class_of_any}
use Rattle.hack_new.proofs.solved.made_without.Goals as goal

pub returns : goal.returns
unfolding made_without ◌>>◌
returns c =
    let name = c.args.name in let params = c.args.params.now in let class = class_of_any name params in
    rw (c.limited.ensures, c.in_ok-class.ensures) (step_step {GivesB = TypeIn} (λ _. pure (limited class)) c.in_ok-without_constructor.ensures
    (step_pure _ (limited class) (λ symbols n. in_limited symbols class (in_class_of_any symbols name params n.0)))
    (λ symbols n. tt) (λ symbols n g h. h))
