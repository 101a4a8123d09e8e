use Rattle.std.proofs.Common.{◌∙◌, Option, IfSome, option_map, ap, subst}
use Rattle.hack_parts.specs.ExprIn.{ExprIn}
use Rattle.hack_rules.specs.Expressions.{meaning_of}
use Rattle.hack_rules.specs.Loops.{for_turn}
use Rattle.hack_rules.specs.Statements.{doing_of, meanings_of}
use Rattle.hack_tree.specs.declared.expression.Expr.{Expr}
use Rattle.hack_walk.specs.Checks.{setting_of}
use Rattle.hack_walk.specs.WalkLaws.{walks_as, weaker}
use Rattle.hack_flow.specs.Settled.{emptied, inside_of}
use Rattle.hack_flow.proofs.ForTurns.{untested}
use Rattle.hack_flow.proofs.for_turns.for_turn.Goals as goal

pub returns-in-Some : goal.returns-in-Some
returns-in-Some g c =
    let steps = meanings_of c.args.steps.now in let body = doing_of c.args.body.now in let inside = inside_of c.args.inside in
    let setting = setting_of c.args.setting.now in let scope = c.args.setting.now.scope.now in
    walks_as _ c.for_tested.result
    (weaker c.for_tested.result c.for_tested.ensures
    (λ symbols n. ((subst (λ (e : Option Expr). IfSome e (ExprIn scope symbols)) c.in-Some.is n.0.0, n.0.1), n.1)) (λ symbols a n h. h))
    (λ map. ap (λ (e : Option Expr). emptied (for_turn (option_map meaning_of e) steps body inside) setting map c.args.state.now) c.in-Some.is)

pub returns-in-None : goal.returns-in-None
returns-in-None g c =
    let steps = meanings_of c.args.steps.now in let body = doing_of c.args.body.now in let inside = inside_of c.args.inside in
    let setting = setting_of c.args.setting.now in
    walks_as _ c.for_body.result
    (weaker c.for_body.result c.for_body.ensures (λ symbols n. ((n.0.1, n.1), tt)) (λ symbols a n h. h))
    (λ map. ap (λ (e : Option Expr). emptied (for_turn (option_map meaning_of e) steps body inside) setting map c.args.state.now) c.in-None.is
    ∙ untested steps body inside setting map c.args.state.now)
