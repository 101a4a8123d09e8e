use Rattle.std.proofs.Common.{◌∙◌, sym, ap, subst}
use Rattle.hack_types.specs.declared.signature.Signature.{Signature}
use Rattle.hack_rules.specs.News.{solved_by}
use Rattle.hack_walk.specs.Checks.{setting_of}
use Rattle.hack_walk.specs.WalkLaws.{walks_as, weaker}
use Rattle.hack_calls.specs.Named.{SignatureIn}
use Rattle.hack_new.specs.inside.Solving.{made_by}
use Rattle.hack_new.proofs.LiftedNames.{in_lifted}
use Rattle.hack_new.proofs.Making.{solved_law}
use Rattle.hack_new.proofs.solved.solved_by.Goals as goal

pub returns : goal.returns
returns g c =
    let at = c.args.at in let signature = c.args.signature.now in let params = c.args.params.now in let name = c.args.name in let given = c.args.given.now in
    let setting = setting_of c.args.setting.now in let s = c.args.state.now in
    let is = c.in_ok-lifted.ensures in
    walks_as (solved_by at name params given signature) c.made_by-made.result
    (weaker c.made_by-made.result c.made_by-made.ensures
    (λ symbols n. (subst (SignatureIn symbols) (sym is) (in_lifted symbols params signature n.2 n.0), n.1, n.3)) (λ symbols a n h. h))
    (λ m. solved_law at name params given setting m s signature ∙ ap (λ (lifted : Signature). made_by at name params given lifted setting m s) (sym is))
