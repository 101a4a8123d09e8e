use Rattle.std.proofs.Common.{◌∙◌, ◌<◌, Ok, List, length, sym, ap, subst}
use Rattle.std.proofs.lemmas.List.{take_all}
use Rattle.hack_decls.specs.Asks.{Nothing}
use Rattle.hack_parts.specs.ExprIn.{ExprIn}
use Rattle.hack_rules.specs.Walks.{for_each, pure}
use Rattle.hack_tree.specs.declared.expression.Expr.{Expr}
use Rattle.hack_walk.specs.Checks.{setting_of}
use Rattle.hack_walk.specs.WalkLaws.{for_each_next, for_each_none, walks_as, walks_next, walks_pure}
use Rattle.hack_flow.proofs.ForTurns.{done_of, in_row}
use Rattle.hack_flow.proofs.for_turns.in_a_row.Goals as goal

pub loop-next-init : goal.loop-next-init
loop-next-init g c = for_each_none done_of _ _

pub loop-next-preserved : goal.loop-next-preserved
loop-next-preserved g c =
    let xs = c.args.expressions.now in let i = c.loop-next.next-index in let x = c.next-item.result in
    let lt : i < length xs = c.loop-next-test.true in let scope = c.args.setting.now.scope.now in
    for_each_next done_of xs i x lt c.next-item.is c.loop-next.invariant
    (walks_next {NamesB = λ symbols. ExprIn scope symbols x} {GivesB = Nothing} {NamesC = λ symbols. ExprIn scope symbols x} {GivesC = Nothing} (pure tt) (Ok tt) c.in_ok-check.ensures (walks_pure _ _ tt (λ symbols n. tt)) (λ symbols n. n) (λ symbols n t. n) (λ symbols b n t h. h))
    (λ symbols n. subst (ExprIn scope symbols) (sym c.next-item.is) (n i x lt))

pub returns : goal.returns
returns g c =
    let xs = c.args.expressions.now in let i = c.loop-next.next-index in let setting = setting_of c.args.setting.now in
    walks_as _ (Ok tt) c.loop-next.invariant
    (λ map. in_row xs setting map c.args.state.now ∙ ap (λ (ys : List Expr). for_each done_of ys setting map c.args.state.now) (sym (take_all i xs c.loop-next-test.false)))
