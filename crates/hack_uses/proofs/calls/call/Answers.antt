use Rattle.std.proofs.Common.{IsTrue, sym}
use Rattle.hack_calls.specs.Named.{GivenIn, function_called}
use Rattle.hack_rules.specs.Uses.{call_row}
use Rattle.hack_types.specs.declared.ids.Kind.TheVariants.{Func}
use Rattle.hack_walk.specs.WalkLaws.{walks_then}
use Rattle.hack_uses.proofs.calls.call.Goals as goal

pub returns : goal.returns
unfolding call_row function_called
returns g c =
    walks_then {NamesB = λ symbols. IsTrue (symbols (record { kind = Func; name = c.args.name })) × GivenIn symbols c.in_ok-given.given} (λ given. function_called c.args.at c.args.name given)
    c.call_function.result c.in_ok-given.ensures (rw (sym c.as_slice.ensures) c.call_function.ensures) (λ symbols n. n.1) (λ symbols n given. (n.0, given)) (λ symbols b n given h. h)
