use Rattle.hack_rules.specs.News.{new_word}
use Rattle.hack_walk.specs.WalkLaws.{walks_then}
use Rattle.hack_new.specs.inside.Rows.{by_word}
use Rattle.hack_new.proofs.Wording.{word_named}
use Rattle.hack_new.proofs.new.by_word.Goals as goal

pub new_word-requires : goal.new_word-requires
new_word-requires g c = word_named c.args.class_at c.args.word.now c.in_ok-ty.ty c.in_ok-ty.ensures

pub returns : goal.returns
unfolding by_word
returns g c =
    walks_then (new_word c.args.at c.args.word.now c.args.given.now) c.new_word.result c.in_ok-ty.ensures c.new_word.ensures (λ symbols n. n.0) (λ symbols n g. (g, n.1))
    (λ symbols b n g h. h)
