use Rattle.std.proofs.Common.{◌∙◌, Option, IfSome, sym, ap, subst}
use Rattle.hack_rules.specs.Loops.{for_steps}
use Rattle.hack_rules.specs.Statements.{meanings_of}
use Rattle.hack_rules.specs.Variables.{Variables, either}
use Rattle.hack_walk.specs.Checks.{VariablesIn, setting_of}
use Rattle.hack_walk.specs.NamesKept.{in_either}
use Rattle.hack_walk.specs.WalkLaws.{walks_as}
use Rattle.hack_flow.specs.Settled.{emptied, normal_of}
use Rattle.hack_flow.proofs.Ending.{in_normal_of, walks_forget}
use Rattle.hack_flow.proofs.ForTurns.{steps_forget}
use Rattle.hack_flow.proofs.for_turns.behind_for.Goals as goal

pub returns : goal.returns
returns g c =
    let steps = meanings_of c.args.steps.now in let behind = c.args.behind in let before = c.args.state.now in let exits = c.args.exits in
    let setting = setting_of c.args.setting.now in let here = c.take_variables-here.new.self in
    let normal = c.normal_end-normal.ensures ∙ ap (λ (vs : Variables). normal_of exits.reached vs) c.take_variables-here.ensures.taken in
    let is = c.in_ok-end.ensures ∙ ap (λ (n : Option Variables). either n exits.continues) normal in
    walks_forget _ c.steps_from.result before here (steps_forget steps behind exits.breaks (either (normal_of exits.reached before.variables) exits.continues)) c.take_variables-here.ensures.variables c.take_variables-here.ensures.found
    (walks_as _ c.steps_from.result c.steps_from.ensures
    (λ map. ap (λ (e : Option Variables). emptied (for_steps steps behind exits.breaks e) setting map here) (sym is)))
    (λ symbols n types. (
      n.0,
      n.1.breaks,
      subst (λ (e : Option Variables). IfSome e (VariablesIn symbols)) (sym is)
          (in_either symbols (normal_of exits.reached before.variables) exits.continues (in_normal_of symbols exits.reached before.variables types) n.1.continues),
    ))
