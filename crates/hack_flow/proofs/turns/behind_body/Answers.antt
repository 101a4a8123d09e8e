use Rattle.std.proofs.Common.{◌∙◌, Option, IfSome, sym, ap, subst}
use Rattle.hack_rules.specs.Expressions.{meaning_of}
use Rattle.hack_rules.specs.Variables.{Variables, either}
use Rattle.hack_walk.specs.Checks.{VariablesIn, setting_of}
use Rattle.hack_walk.specs.NamesKept.{in_either}
use Rattle.hack_walk.specs.WalkLaws.{walks_as}
use Rattle.hack_flow.specs.Settled.{emptied, ends_of, normal_of}
use Rattle.hack_flow.specs.inside.Rows.{test_from}
use Rattle.hack_flow.proofs.Ending.{in_normal_of, test_forgets, test_is, walks_forget}
use Rattle.hack_flow.proofs.turns.behind_body.Goals as goal

pub returns : goal.returns
returns g c =
    let condition = meaning_of c.args.condition.now in let before = c.args.state.now in let exits = c.args.exits in let ends = ends_of exits before.variables in
    let setting = setting_of c.args.setting.now in let end = c.in_ok-end.end in
    let normal = c.normal_end-normal.ensures ∙ ap (λ (vs : Variables). normal_of exits.reached vs) c.take_variables-here.ensures.taken in
    let is = c.in_ok-end.ensures ∙ ap (λ (n : Option Variables). either n exits.continues) normal in
    walks_forget _ c.test_from.result before c.take_variables-here.new.self (test_forgets condition ends (either ends.normal ends.continues)) c.take_variables-here.ensures.variables c.take_variables-here.ensures.found
    (walks_as _ c.test_from.result c.test_from.ensures
    (λ map. ap (λ w. emptied w setting map c.take_variables-here.new.self) (test_is condition ends (either ends.normal ends.continues) ∙ ap (λ (e : Option Variables). test_from condition exits.breaks e) (sym is))))
    (λ symbols n types. (
      n.0,
      n.1.breaks,
      subst (λ (e : Option Variables). IfSome e (VariablesIn symbols)) (sym is)
          (in_either symbols (normal_of exits.reached before.variables) exits.continues (in_normal_of symbols exits.reached before.variables types) n.1.continues),
    ))
