use Rattle.std.proofs.Common.{All, sym}
use Rattle.hack_calls.specs.Named.{GivenIn}
use Rattle.hack_parts.specs.ExprIn.{ReferenceIn}
use Rattle.hack_rules.specs.News.{new_class, new_row}
use Rattle.hack_rules.specs.WrittenTypes.{names_of}
use Rattle.hack_walk.specs.WalkLaws.{walks_then}
use Rattle.hack_written.specs.WrittenIn.{WrittenIn}
use Rattle.hack_uses.proofs.calls.new_instance.Goals as goal

pub returns : goal.returns
unfolding new_row
returns g c =
    walks_then {NamesB = λ symbols. ReferenceIn symbols c.args.class.now × All (WrittenIn (names_of c.args.setting.now.scope.now) symbols) c.args.types.now × GivenIn symbols c.in_ok-given.given}
    (λ given. new_class c.args.at c.args.class_at c.args.class.now c.args.types.now given) c.new_class.result c.in_ok-given.ensures (rw (sym c.as_slice.ensures) c.new_class.ensures)
    (λ symbols n. n.2) (λ symbols n given. (n.0, n.1, given)) (λ symbols b n given h. h)
