use Rattle.std.proofs.Common.{◌∙◌, All, Ok, Option, IfSome, [], refl, ap, subst}
use Rattle.hack_decls.specs.DeclState.{Symbols}
use Rattle.hack_parts.specs.ExprIn.{ExprIn}
use Rattle.hack_rules.specs.Loops.{Turn, for_steps}
use Rattle.hack_rules.specs.Statements.{meanings_of}
use Rattle.hack_rules.specs.Variables.{Variables}
use Rattle.hack_walk.specs.Checks.{VariablesIn, setting_of}
use Rattle.hack_walk.specs.WalkLaws.{of_step, step_replace, walks_as, walks_next}
use Rattle.hack_flow.specs.Settled.{emptied}
use Rattle.hack_flow.specs.inside.Rows.{TurnIn, steps_here}
use Rattle.hack_flow.proofs.Ending.{step_emptied}
use Rattle.hack_flow.proofs.ForTurns.{from_pieces, in_no_step}
use Rattle.hack_flow.proofs.for_turns.steps_from.Goals as goal

pub returns-in-Some : goal.returns-in-Some
returns-in-Some g c =
    let steps = meanings_of c.args.steps.now in let here = c.in-Some.end in let behind = c.args.behind in let breaks = c.args.breaks in let scope = c.args.setting.now.scope.now in
    let setting = setting_of c.args.setting.now in
    let all : Symbols → Type 0 = λ symbols. (All (ExprIn scope symbols) c.args.steps.now × IfSome behind (VariablesIn symbols)) × IfSome breaks (VariablesIn symbols) × IfSome c.args.end (VariablesIn symbols) in
    walks_as _ c.steps_here.result
    (walks_next {NamesC = all} (emptied (steps_here steps behind breaks)) c.steps_here.result
    (of_step _ (step_replace {Names = λ symbols. VariablesIn symbols here} c.args.state.now c.replace.new.self here c.replace.ensures.variables c.replace.ensures.found (λ symbols n. n)))
    c.steps_here.ensures (λ symbols n. subst (λ (e : Option Variables). IfSome e (VariablesIn symbols)) c.in-Some.is n.2) (λ symbols n t. (n.0, n.1)) (λ symbols b n t h. h))
    (λ map. ap (λ (e : Option Variables). emptied (for_steps steps behind breaks e) setting map c.args.state.now) c.in-Some.is ∙ from_pieces steps behind breaks here setting map c.args.state.now)

pub returns-in-None : goal.returns-in-None
returns-in-None g c =
    let steps = meanings_of c.args.steps.now in let behind = c.args.behind in let breaks = c.args.breaks in let setting = setting_of c.args.setting.now in
    let turn : Turn = record { ends = []; behind = behind; breaks = breaks } in
    walks_as _ (Ok _)
    (of_step _ (step_emptied {Gives = TurnIn} c.args.state.now c.args.state.now turn _ c.no_step.ensures c.requires refl (λ symbols types n. in_no_step symbols behind breaks n.0.1 n.1)))
    (λ map. ap (λ (e : Option Variables). emptied (for_steps steps behind breaks e) setting map c.args.state.now) c.in-None.is)
