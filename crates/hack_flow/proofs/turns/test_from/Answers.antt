use Rattle.std.proofs.Common.{◌∙◌, Ok, Option, None, IfSome, [], refl, ap, subst}
use Rattle.hack_decls.specs.DeclState.{Symbols}
use Rattle.hack_parts.specs.ExprIn.{ExprIn}
use Rattle.hack_rules.specs.Expressions.{meaning_of}
use Rattle.hack_rules.specs.Loops.{Turn}
use Rattle.hack_rules.specs.Variables.{Variables}
use Rattle.hack_walk.specs.Checks.{VariablesIn, setting_of}
use Rattle.hack_walk.specs.WalkLaws.{of_step, step_replace, walks_as, walks_next}
use Rattle.hack_flow.specs.Settled.{emptied}
use Rattle.hack_flow.specs.inside.Rows.{TurnIn, test_from, test_here}
use Rattle.hack_flow.proofs.Ending.{in_nowhere, step_emptied, test_pieces}
use Rattle.hack_flow.proofs.turns.test_from.Goals as goal

pub returns-in-Some : goal.returns-in-Some
returns-in-Some g c =
    let condition = meaning_of c.args.condition.now in let here = c.in-Some.end in let breaks = c.args.breaks in let scope = c.args.setting.now.scope.now in
    let setting = setting_of c.args.setting.now in
    let all : Symbols → Type 0 = λ symbols. ExprIn scope symbols c.args.condition.now × IfSome breaks (VariablesIn symbols) × IfSome c.args.end (VariablesIn symbols) in
    walks_as _ c.test_here.result
    (walks_next {NamesC = all} (emptied (test_here condition breaks)) c.test_here.result
    (of_step _ (step_replace {Names = λ symbols. VariablesIn symbols here} c.args.state.now c.replace.new.self here c.replace.ensures.variables c.replace.ensures.found (λ symbols n. n)))
    c.test_here.ensures (λ symbols n. subst (λ (e : Option Variables). IfSome e (VariablesIn symbols)) c.in-Some.is n.2) (λ symbols n t. (n.0, n.1)) (λ symbols b n t h. h))
    (λ map. ap (λ (e : Option Variables). emptied (test_from condition breaks e) setting map c.args.state.now) c.in-Some.is ∙ test_pieces condition breaks here setting map c.args.state.now)

pub returns-in-None : goal.returns-in-None
returns-in-None g c =
    let condition = meaning_of c.args.condition.now in let breaks = c.args.breaks in let setting = setting_of c.args.setting.now in
    let turn : Turn = record { ends = []; behind = None; breaks = breaks } in
    walks_as _ (Ok _)
    (of_step _ (step_emptied {Gives = TurnIn} c.args.state.now c.args.state.now turn _ c.nowhere.ensures c.requires refl (λ symbols types n. in_nowhere symbols breaks n.1)))
    (λ map. ap (λ (e : Option Variables). emptied (test_from condition breaks e) setting map c.args.state.now) c.in-None.is)
