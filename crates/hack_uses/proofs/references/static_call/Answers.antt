use Rattle.std.proofs.Common.{IfSome, false, map, sym}
use Rattle.hack_calls.specs.Named.{GivenIn}
use Rattle.hack_decls.specs.Names.{TypeIn}
use Rattle.hack_rules.specs.Calls.{arguments_of}
use Rattle.hack_rules.specs.Expressions.{meaning_of}
use Rattle.hack_rules.specs.Members.{member_of, method_of}
use Rattle.hack_rules.specs.Uses.{static_call, static_use, through}
use Rattle.hack_rules.specs.Walks.{◌>>=◌}
use Rattle.hack_walk.specs.Checks.{setting_of}
use Rattle.hack_walk.specs.WalkLaws.{walks_as, walks_on, walks_then}
use Rattle.hack_uses.proofs.Scoping.{call_as}
use Rattle.hack_uses.proofs.references.static_call.Goals as goal

pub returns : goal.returns
returns g c =
    let at = c.args.at in let class = c.args.class.now in let name = c.args.name in let arguments = map meaning_of c.args.arguments.now in
    let used = static_use class c.args.setting.now.scope.now in let ty = c.in_ok-ty.ty in
    walks_as (static_call at class name arguments) c.through.result
    (walks_on (λ t. arguments_of arguments >>= (λ given. through (member_of at (method_of at used false name given)) t)) c.through.result c.in_ok-ty.ensures
    (walks_then {NamesB = λ symbols. IfSome ty (TypeIn symbols) × GivenIn symbols c.in_ok-given.given} (λ given. through (member_of at (method_of at used false name given)) ty) c.through.result c.in_ok-given.ensures
    (rw (sym c.as_slice.ensures, sym c.static_use.ensures) c.through.ensures) (λ symbols n. n.0.1) (λ symbols n given. (n.1, given)) (λ symbols b n given h. h))
    (λ symbols n. n.0))
    (λ m. call_as at class name (setting_of c.args.setting.now) m c.args.state.now arguments)
