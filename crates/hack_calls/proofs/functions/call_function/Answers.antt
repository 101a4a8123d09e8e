use Rattle.std.proofs.Common.{ap}
use Rattle.hack_types.specs.declared.hack_type.HackType.{HackType}
use Rattle.hack_types.specs.declared.ids.Kind.TheVariants.{Func}
use Rattle.hack_decls.specs.AskLaws.{looked_names}
use Rattle.hack_decls.specs.DeclState.{Map}
use Rattle.hack_decls.specs.Picks.{heading_answer}
use Rattle.hack_rules.specs.Walks.{Walk, ◌>>=◌, reads}
use Rattle.hack_sub.specs.declared.scope.Scope.{Scope}
use Rattle.hack_walk.specs.Checks.{setting_of}
use Rattle.hack_walk.specs.WalkLaws.{reads_walks, walks_as}
use Rattle.hack_calls.specs.Named.{function_called}
use Rattle.hack_calls.specs.inside.Rows.{HeadingIn, function_in}
use Rattle.hack_calls.proofs.Heading.{function_law, in_heading}
use Rattle.hack_calls.proofs.functions.call_function.Goals as goal

pub returns : goal.returns
unfolding function_called ◌>>=◌ reads
returns g c =
    let at = c.args.at in let name = c.args.name in let given = c.args.given.now in let h = c.in_ok-heading.heading in
    walks_as (function_called at name given) c.function_in-ty.result
    (reads_walks (λ (map : Map) (scope : Scope). heading_answer (map (record { kind = Func; name = name }))) (function_in at name given) c.function_in-ty.result
    (looked_names h HeadingIn (λ symbols entry e. in_heading symbols h _ entry e) c.in_ok-heading.ensures) c.function_in-ty.ensures
    (λ symbols around n. n.0) (λ symbols n g. (g, n.1)) (λ symbols b n g h. h))
    (λ map. ap (λ (walk : Walk HackType). walk (setting_of c.args.setting.now) map c.args.state.now) (function_law at name given (map (record { kind = Func; name = name }))))
