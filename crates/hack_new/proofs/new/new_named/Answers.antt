use Rattle.hack_walk.specs.Checks.{setting_of}
use Rattle.hack_walk.specs.WalkLaws.{walks_as, walks_then}
use Rattle.hack_new.specs.inside.Rows.{behind_mention}
use Rattle.hack_new.proofs.Naming.{named_law}
use Rattle.hack_new.proofs.new.new_named.Goals as goal

pub returns : goal.returns
returns g c =
    let at = c.args.at in let name_at = c.args.name_at in let name = c.args.name in let types = c.args.types.now in let given = c.args.given.now in
    walks_as _ c.with_mention-made.result
    (walks_then (behind_mention at name_at name types given) c.with_mention-made.result c.in_ok-declared.ensures c.with_mention-made.ensures (λ symbols n. n.0)
    (λ symbols n g. (n.0, n.1, n.2, g)) (λ symbols b n g h. h))
    (λ m. named_law at name_at name types given (setting_of c.args.setting.now) m c.args.state.now)
