use Rattle.std.proofs.Common.{◌∙◌}
use Rattle.hack_decls.specs.Names.{TypeIn}
use Rattle.hack_decls.specs.DeclState.{Symbols}
use Rattle.hack_rules.specs.Loops.{assign_key}
use Rattle.hack_rules.specs.Statements.{doing_of}
use Rattle.hack_rules.specs.Variables.{Variables}
use Rattle.hack_rules.specs.Walks.{◌>>◌, assign}
use Rattle.hack_walk.specs.Checks.{VariablesIn, setting_of}
use Rattle.hack_walk.specs.WalkLaws.{of_step, step_variables, step_walks, walks_as, walks_next}
use Rattle.hack_flow.specs.Settled.{emptied, inside_of}
use Rattle.hack_flow.specs.StmtIn.{StmtIn}
use Rattle.hack_flow.specs.inside.Rows.{body_turn}
use Rattle.hack_flow.proofs.Foreaching.{turn_pieces}
use Rattle.hack_flow.proofs.foreach_turns.foreach_turn.Goals as goal

pub returns : goal.returns
returns g c =
    let key_type = c.args.key_type.now in let value_type = c.args.value_type.now in let key = c.args.key in let value = c.args.value in
    let body = doing_of c.args.body.now in let inside = inside_of c.args.inside in let entry = c.in_ok-entry.entry in let scope = c.args.setting.now.scope.now in
    let all : Symbols → Type 0 = λ symbols. (TypeIn symbols key_type × TypeIn symbols value_type) × StmtIn scope symbols c.args.body.now in
    let more : Symbols → Type 0 = λ symbols. all symbols × VariablesIn symbols entry in
    let turn = λ (vs : Variables). emptied (body_turn body inside vs) in
    walks_as _ c.body_turn.result
    (step_walks {NamesB = more} {NamesC = all} (λ (vs : Variables). assign_key key key_type >> (assign value value_type >> turn vs)) c.body_turn.result
    (step_variables {Names = all} c.args.state.now entry (c.in_ok-entry.ensures ∙ c.variables.ensures))
    (walks_next {NamesB = more} {NamesC = more} (assign value value_type >> turn entry) c.body_turn.result (of_step _ c.in_ok-assign_key.ensures)
    (walks_next {NamesC = more} (turn entry) c.body_turn.result (of_step _ c.in_ok-assign_value.ensures) c.body_turn.ensures
    (λ symbols n. n.0.0.1) (λ symbols n t. (n.1, n.0.1)) (λ symbols b n t h. h))
    (λ symbols n. n.0.0.0) (λ symbols n t. n) (λ symbols b n t h. h))
    (λ symbols n. n) (λ symbols n vs. (n, vs)) (λ symbols b n t h. h))
    (λ map. turn_pieces (key_type, value_type) key value body inside (setting_of c.args.setting.now) map c.args.state.now)
