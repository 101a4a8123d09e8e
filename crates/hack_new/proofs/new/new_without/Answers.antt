use Rattle.std.proofs.Common.{◌∙◌, [], length, sym}
use Rattle.std.proofs.lemmas.Bool.{eqb-false, eqb-true}
use Rattle.hack_types.specs.declared.hack_type.HackType.TheVariants.{Class}
use Rattle.hack_rules.specs.News.{constructed, solved_class}
use Rattle.hack_walk.specs.Checks.{setting_of}
use Rattle.hack_walk.specs.WalkLaws.{walks_as, walks_next}
use Rattle.hack_new.proofs.Naming.{plain_law, some_law}
use Rattle.hack_new.proofs.new.new_without.Goals as goal

pub returns : goal.returns
returns g c =
    let at = c.args.at in let name = c.args.name in let params = c.args.params.now in let given = c.args.given.now in
    walks_as _ c.solved_class.result
    (walks_next (solved_class at name params given) c.solved_class.result c.in_ok-expect_instance.ensures c.solved_class.ensures (λ symbols n. n.0)
    (λ symbols n g. (n.0, n.2, n.1)) (λ symbols b n g h. h))
    (λ m. some_law at at name given (setting_of c.args.setting.now) m c.args.state.now params (eqb-false (length params) 0 (sym c.is_empty.ensures ∙ c.if-is_empty.false)))

pub returns-then-is_empty : goal.returns-then-is_empty
returns-then-is_empty g c =
    let at = c.args.at in let name = c.args.name in let params = c.args.params.now in let given = c.args.given.now in
    walks_as _ c.plain_class.result
    (walks_next (constructed at name [] (Class name []) given) c.plain_class.result c.in_ok-expect_instance.ensures c.plain_class.ensures (λ symbols n. n.0)
    (λ symbols n g. (n.0, n.1)) (λ symbols b n g h. h))
    (λ m. plain_law at at name given (setting_of c.args.setting.now) m c.args.state.now params (eqb-true (length params) 0 (sym c.is_empty.ensures ∙ c.if-is_empty.true)))
