use Rattle.std.proofs.Common.{◌<◌, ◌∙◌, List, Ok, length, map, sym, ap, subst, arith}
use Rattle.std.proofs.lemmas.List.{take_all}
use Rattle.hack_decls.specs.Names.{TypeIn}
use Rattle.hack_rules.specs.Calls.{arguments_of}
use Rattle.hack_rules.specs.Expressions.{meaning_of}
use Rattle.hack_rules.specs.Walks.{Walk, each}
use Rattle.hack_rules.specs.WrittenTypes.{Argument}
use Rattle.hack_walk.specs.Checks.{setting_of}
use Rattle.hack_walk.specs.WalkLaws.{each_next, each_none, walks_as}
use Rattle.hack_parts.specs.ExprIn.{ExprIn}
use Rattle.hack_uses.proofs.TypedArguments.{all_typed, typed}
use Rattle.hack_uses.proofs.arguments.arguments_of.Goals as goal

pub loop-argument-init : goal.loop-argument-init
loop-argument-init g c = rw c.new-given.ensures (each_none typed (λ symbols (a : Argument). TypeIn symbols a.ty) _ _)

pub loop-argument-preserved : goal.loop-argument-preserved
loop-argument-preserved g c =
    let xs = c.args.arguments.now in let i = c.loop-argument.argument-index in
    let lt : i < length xs = c.loop-argument-test.true in
    rw c.in_ok-push.ensures (each_next {GivesB = λ symbols (a : Argument). TypeIn symbols a.ty} typed xs i _ lt c.argument-item.is c.loop-argument.invariant c.in_ok-typed.ensures
    (λ symbols n. subst (ExprIn c.args.setting.now.scope.now symbols) (sym c.argument-item.is) (n i _ lt)))

pub returns : goal.returns
returns g c =
    let xs = c.args.arguments.now in
    walks_as (arguments_of (map meaning_of xs)) (Ok c.loop-argument.given) c.loop-argument.invariant
    (λ m. ap (λ (w : Walk (List Argument)). w (setting_of c.args.setting.now) m c.args.state.now) (sym (all_typed xs) ∙ ap (each typed) (sym (take_all c.loop-argument.argument-index xs (omega arith)))))
