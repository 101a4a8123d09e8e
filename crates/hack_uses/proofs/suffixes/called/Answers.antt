use Rattle.std.proofs.Common.{sym}
use Rattle.hack_calls.specs.Named.{GivenIn}
use Rattle.hack_decls.specs.Names.{TypeIn}
use Rattle.hack_rules.specs.Members.{instance_alone, member_of, method_of}
use Rattle.hack_walk.specs.WalkLaws.{walks_then}
use Rattle.hack_uses.specs.inside.Steps.{method_called}
use Rattle.hack_uses.proofs.suffixes.called.Goals as goal

pub returns : goal.returns
unfolding method_called
returns g c =
    walks_then {NamesB = λ symbols. TypeIn symbols c.args.base.now × GivenIn symbols c.in_ok-given.given} (λ given. member_of c.args.at (method_of c.args.at instance_alone c.args.null_safe c.args.name given) c.args.base.now) c.member_of.result c.in_ok-given.ensures
    (rw (sym c.as_slice.ensures) c.member_of.ensures) (λ symbols n. n.1) (λ symbols n given. (n.0, given)) (λ symbols b n given h. h)
