use Rattle.std.proofs.Common.{◌∙◌, ℕ, Option, Ok, ap, sym}
use Rattle.hack_decls.specs.Names.{TypeIn}
use Rattle.hack_rules.specs.Indices.{shape_with}
use Rattle.hack_rules.specs.Walks.{pure}
use Rattle.hack_types.specs.declared.hack_type.HackType.TheVariants.{Shape}
use Rattle.hack_types.specs.declared.hack_type.HackType.{HackType}
use Rattle.hack_walk.specs.WalkLaws.{step_pure}
use Rattle.hack_targets.specs.inside.Pieces.{shape_made}
use Rattle.hack_targets.proofs.Naming.{in_shape_made}
use Rattle.hack_targets.proofs.ShapeMade.{is_made}
use Rattle.hack_targets.proofs.Stepping.{steps_same}
use Rattle.hack_targets.proofs.made.shape_with.Goals as goal

pub returns-in_ok-shape_of-in-Some : goal.returns-in_ok-shape_of-in-Some
returns-in_ok-shape_of-in-Some c =
    let fields = c.args.fields in let rest = c.args.rest in let new = c.args.new in let key = c.in-Some.key in
    rw c.in_ok-shape_of-in-Some.ensures (steps_same _ (Ok (shape_made fields rest key new))
    (ap (λ (k : Option ℕ). shape_with c.args.at (Shape fields rest) fields rest new k) (sym c.in-Some.ensures) ∙ ap (λ (ty : HackType). pure ty) (sym (is_made fields rest key new)))
    (step_pure {Gives = TypeIn} c.args.state.now (shape_made fields rest key new) (λ symbols n. in_shape_made symbols fields rest key new n.fields n.new)))
