use Rattle.std.proofs.Common.{◌≡◌, All, List, ap, subst, sym}
use Rattle.hack_types.specs.declared.hack_type.HackType.{HackType}
use Rattle.hack_decls.specs.AskLaws.{said}
use Rattle.hack_decls.specs.DeclState.{Map}
use Rattle.hack_decls.specs.Names.{TypeIn}
use Rattle.hack_infer.specs.Filling.{filling_of}
use Rattle.hack_rules.specs.Calls.{call_with, solved_types}
use Rattle.hack_sub.specs.declared.scope.Scope.{Scope}
use Rattle.hack_walk.specs.Checks.{setting_of}
use Rattle.hack_walk.specs.WalkLaws.{reads_walks, walks_as}
use Rattle.hack_calls.specs.CallLaws.{call_is_solved}
use Rattle.hack_calls.specs.Named.{callee_of}
use Rattle.hack_calls.specs.Solved.{call_solved, solved_of}
use Rattle.hack_calls.proofs.Stepping.{walks_same}
use Rattle.hack_calls.proofs.calls.call_with.Goals as goal

pub returns : goal.returns
unfolding solved_types
returns g c =
    let at = c.args.at in let signature = c.args.signature.now in let around = filling_of c.args.around.now in let given = c.args.given.now in
    let solved = c.in_ok-solved.solved.items in
    let is : c.as_slice.result.now ≡ solved = c.as_slice.ensures.value in
    walks_as (call_with at (callee_of signature around) given) c.call_solved.result
    (reads_walks {Gives = λ symbols types. All (TypeIn symbols) types} (λ (map : Map) (scope : Scope). solved_of map signature given) (λ types. call_solved at signature around.class around.this types given) c.call_solved.result
    (said solved c.in_ok-solved.ensures (λ map e. e) (λ symbols n. n) (λ symbols n g. g))
    (walks_same (call_solved at signature around.class around.this solved given) c.call_solved.result (ap (λ (types : List HackType). call_solved at signature around.class around.this types given) (sym is)) c.call_solved.ensures)
    (λ symbols around n. (around, n.0, n.2)) (λ symbols n g. (n.0, n.1, subst (λ (types : List HackType). All (TypeIn symbols) types) (sym is) g, n.2)) (λ symbols b n g h. h))
    (λ map. call_is_solved at (callee_of signature around) given (setting_of c.args.setting.now) map c.args.state.now)
