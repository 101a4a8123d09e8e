use Rattle.std.proofs.Common.{Ok, refl, sym, ap}
use Rattle.hack_decls.specs.DeclState.{Symbols}
use Rattle.hack_parts.specs.ExprIn.{ExprIn}
use Rattle.hack_rules.specs.Ends.{Ends, Inside}
use Rattle.hack_rules.specs.Expressions.{meaning_of}
use Rattle.hack_rules.specs.Loops.{deeper, do_turn}
use Rattle.hack_rules.specs.Statements.{doing_of}
use Rattle.hack_rules.specs.Variables.{either}
use Rattle.hack_walk.specs.Checks.{setting_of}
use Rattle.hack_walk.specs.WalkLaws.{walks_as}
use Rattle.hack_flow.specs.Settled.{emptied, inside_of, settled}
use Rattle.hack_flow.specs.SettledLaws.{doing_walks, emptied_row, settled_then}
use Rattle.hack_flow.specs.StmtIn.{StmtIn}
use Rattle.hack_flow.specs.inside.Rows.{behind_body}
use Rattle.hack_flow.proofs.Ending.{test_forgets}
use Rattle.hack_flow.proofs.turns.do_turn.Goals as goal

pub returns : goal.returns
unfolding do_turn
returns g c =
    let doing = doing_of c.args.body.now in let condition = meaning_of c.args.condition.now in let inside = inside_of c.args.inside in let exits = c.in_ok-exits.exits in
    let setting = setting_of c.args.setting.now in let scope = c.args.setting.now.scope.now in
    let all : Symbols → Type 0 = λ symbols. StmtIn scope symbols c.args.body.now × ExprIn scope symbols c.args.condition.now in
    walks_as _ c.behind_body.result
    (settled_then {NamesC = all} (doing.ends (deeper inside)) (λ (ends : Ends). emptied (behind_body condition ends)) (λ ends. test_forgets condition ends (either ends.normal ends.continues)) c.behind_body.result
    (walks_as (settled (doing.ends (deeper inside))) (Ok exits) (doing_walks c.requires {result = Ok _} refl c.in_ok-exits.ensures)
    (λ map. ap (λ (i : Inside). settled (doing.ends i) setting map c.args.state.now) (sym c.in_ok-inner.ensures)))
    c.behind_body.ensures
    (λ symbols n. n.0) (λ symbols n t. (n.1, t)) (λ symbols b n t h. h))
    (λ map. emptied_row (doing.ends (deeper inside)) (behind_body condition) setting map c.args.state.now)
