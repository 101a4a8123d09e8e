use Rattle.std.proofs.Common.{Ok, refl, sym, ap}
use Rattle.hack_decls.specs.DeclState.{Symbols}
use Rattle.hack_rules.specs.Ends.{Ends, Inside}
use Rattle.hack_rules.specs.Loops.{deeper}
use Rattle.hack_rules.specs.Statements.{doing_of}
use Rattle.hack_rules.specs.Walks.{pure}
use Rattle.hack_walk.specs.Checks.{VariablesIn, setting_of}
use Rattle.hack_walk.specs.WalkLaws.{of_step, walks_as}
use Rattle.hack_flow.specs.Settled.{ExitsIn, emptied, inside_of, settled}
use Rattle.hack_flow.specs.SettledLaws.{doing_walks, emptied_pure_forgets, emptied_row, settled_then}
use Rattle.hack_flow.specs.StmtIn.{StmtIn}
use Rattle.hack_flow.specs.inside.Rows.{TurnIn, body_turn, round}
use Rattle.hack_flow.proofs.Ending.{in_round, step_emptied}
use Rattle.hack_flow.proofs.turns.body_turn.Goals as goal

pub returns : goal.returns
unfolding body_turn
returns g c =
    let doing = doing_of c.args.body.now in let inside = inside_of c.args.inside in let exits = c.in_ok-exits.exits in let behind = c.args.behind in
    let setting = setting_of c.args.setting.now in let scope = c.args.setting.now.scope.now in
    let all : Symbols → Type 0 = λ symbols. VariablesIn symbols behind × StmtIn scope symbols c.args.body.now in
    walks_as _ _
    (settled_then {NamesB = λ symbols. all symbols × ExitsIn symbols exits} {NamesC = all} (doing.ends (deeper inside)) (λ (ends : Ends). emptied (pure (round behind ends))) (λ ends. emptied_pure_forgets (round behind ends)) _
    (walks_as (settled (doing.ends (deeper inside))) (Ok exits) (doing_walks c.requires {result = Ok _} refl c.in_ok-exits.ensures)
    (λ map. ap (λ (i : Inside). settled (doing.ends i) setting map c.args.state.now) (sym c.in_ok-inner.ensures)))
    (of_step _ (step_emptied {Gives = TurnIn} _ c.round.new.state _ _ c.in_ok-round.ensures.turn c.in_ok-round.ensures.variables c.in_ok-round.ensures.found
    (λ symbols types n. in_round symbols behind _ exits n.0.0 types n.1)))
    (λ symbols n. n.1) (λ symbols n t. (n, t)) (λ symbols b n t h. h))
    (λ map. emptied_row (doing.ends (deeper inside)) (λ (ends : Ends). pure (round behind ends)) setting map c.args.state.now)
