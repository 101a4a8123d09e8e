use Rattle.std.proofs.Common.{All, IfSome, Ok, refl, sym, ap}
use Rattle.hack_decls.specs.DeclState.{Symbols}
use Rattle.hack_parts.specs.ExprIn.{ExprIn}
use Rattle.hack_rules.specs.Ends.{Ends, Inside}
use Rattle.hack_rules.specs.Loops.{deeper}
use Rattle.hack_rules.specs.Statements.{doing_of, meanings_of}
use Rattle.hack_rules.specs.Variables.{either}
use Rattle.hack_walk.specs.Checks.{VariablesIn, setting_of}
use Rattle.hack_walk.specs.WalkLaws.{walks_as}
use Rattle.hack_flow.specs.Settled.{emptied, inside_of, settled}
use Rattle.hack_flow.specs.SettledLaws.{doing_walks, emptied_row, settled_then}
use Rattle.hack_flow.specs.StmtIn.{StmtIn}
use Rattle.hack_flow.specs.inside.Rows.{behind_for, for_body}
use Rattle.hack_flow.proofs.ForTurns.{steps_forget}
use Rattle.hack_flow.proofs.for_turns.for_body.Goals as goal

pub returns : goal.returns
unfolding for_body
returns g c =
    let doing = doing_of c.args.body.now in let steps = meanings_of c.args.steps.now in let behind = c.args.behind in let inside = inside_of c.args.inside in let exits = c.in_ok-exits.exits in
    let setting = setting_of c.args.setting.now in let scope = c.args.setting.now.scope.now in
    let all : Symbols → Type 0 = λ symbols. (All (ExprIn scope symbols) c.args.steps.now × StmtIn scope symbols c.args.body.now) × IfSome behind (VariablesIn symbols) in
    walks_as _ c.behind_for.result
    (settled_then {NamesC = all} (doing.ends (deeper inside)) (λ (ends : Ends). emptied (behind_for steps behind ends)) (λ ends. steps_forget steps behind ends.breaks (either ends.normal ends.continues)) c.behind_for.result
    (walks_as (settled (doing.ends (deeper inside))) (Ok exits) (doing_walks c.requires {result = Ok _} refl c.in_ok-exits.ensures)
    (λ map. ap (λ (i : Inside). settled (doing.ends i) setting map c.args.state.now) (sym c.in_ok-inner.ensures)))
    c.behind_for.ensures
    (λ symbols n. n.0.1) (λ symbols n t. ((n.0.0, n.1), t)) (λ symbols b n t h. h))
    (λ map. emptied_row (doing.ends (deeper inside)) (behind_for steps behind) setting map c.args.state.now)
