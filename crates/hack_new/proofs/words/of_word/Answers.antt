use Rattle.hack_walk.specs.Checks.{setting_of}
use Rattle.hack_walk.specs.WalkLaws.{walks_as, walks_next}
use Rattle.hack_new.specs.inside.Rows.{by_class}
use Rattle.hack_new.proofs.Wording.{word_law}
use Rattle.hack_new.proofs.words.of_word.Goals as goal

pub returns : goal.returns
returns g c =
    let at = c.args.at in let word = c.args.word.now in let given = c.args.given.now in let ty = c.args.ty in
    walks_as _ c.by_class.result
    (walks_next (by_class at word given ty) c.by_class.result c.in_ok-expect_parent.ensures c.by_class.ensures (λ symbols n. n.0) (λ symbols n g. n) (λ symbols b n g h. h))
    (λ m. word_law at word given ty (setting_of c.args.setting.now) m c.args.state.now)
