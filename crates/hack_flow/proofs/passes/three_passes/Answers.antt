use Rattle.std.proofs.Common.{Err}
use Rattle.std.proofs.lemmas.Result.{err_from_is_err_and}
use Rattle.hack_decls.specs.DeclState.{Symbols}
use Rattle.hack_rules.specs.Statements.{doing_of}
use Rattle.hack_rules.specs.Variables.{Variables}
use Rattle.hack_rules.specs.Walks.{◌>>=◌, ◌>>◌, replace}
use Rattle.hack_walk.specs.Checks.{VariablesIn, setting_of}
use Rattle.hack_walk.specs.WalkLaws.{of_step, refused, step_replace, step_variables, step_walks, walks_as, walks_next, walks_then}
use Rattle.hack_flow.specs.Settled.{inside_of, settled}
use Rattle.hack_flow.specs.StmtIn.{StmtIn}
use Rattle.hack_flow.specs.inside.Rows.{LoopIn, last_pass, passed, third_entry, turn_of}
use Rattle.hack_flow.proofs.Passing.{in_pieces}
use Rattle.hack_flow.proofs.passes.three_passes.Goals as goal

pub returns : goal.returns
returns g c =
    let walk = turn_of c.args.around.now (doing_of c.args.body.now) (inside_of c.args.inside) in
    let here = c.args.state.now in let first = c.variables-first.result.now in let second = c.in_ok-second.second in let third = c.in_ok-third.third in
    let scope = c.args.setting.now.scope.now in
    let all : Symbols → Type 0 = λ symbols. LoopIn scope symbols c.args.around.now × StmtIn scope symbols c.args.body.now in
    let from : Variables → Symbols → Type 0 = λ vs symbols. VariablesIn symbols vs × LoopIn scope symbols c.args.around.now × StmtIn scope symbols c.args.body.now in
    let after_third = λ (third : Variables). replace third >> settled (last_pass walk) in
    let after_second = λ (second : Variables). third_entry second walk >>= after_third in
    walks_as _ c.last_pass.result
    (step_walks {NamesB = from first} {NamesC = all} (λ (entry : Variables). passed entry walk >>= after_second) c.last_pass.result
    (step_variables {Names = all} here first c.variables-first.ensures)
    (walks_then {Names = from first} {NamesB = from second} {NamesC = from first} after_second c.last_pass.result (c.in_ok-second.ensures here)
    (walks_then {Names = from second} {NamesB = λ symbols. VariablesIn symbols third × all symbols} {NamesC = from second} after_third c.last_pass.result (c.in_ok-third.ensures here)
    (walks_next {NamesC = λ symbols. VariablesIn symbols third × all symbols} (settled (last_pass walk)) c.last_pass.result
    (of_step _ (step_replace {Names = λ symbols. VariablesIn symbols third} here c.replace.new.self third c.replace.ensures.variables c.replace.ensures.found (λ symbols n. n)))
    c.last_pass.ensures (λ symbols n. n.0) (λ symbols n t. n.1) (λ symbols b n t h. h))
    (λ symbols n. n) (λ symbols n t. (t, (n.1, n.2))) (λ symbols b n t h. h))
    (λ symbols n. n) (λ symbols n t. (t, n.1, n.2)) (λ symbols b n t h. h))
    (λ symbols n. n) (λ symbols n t. (t, n.0, n.1)) (λ symbols b n t h. h))
    (λ map. in_pieces walk (setting_of c.args.setting.now) map here)

pub returns-in_err-second : goal.returns-in_err-second
returns-in_err-second g c =
    let walk = turn_of c.args.around.now (doing_of c.args.body.now) (inside_of c.args.inside) in
    let here = c.args.state.now in let first = c.variables-first.result.now in let scope = c.args.setting.now.scope.now in
    let all : Symbols → Type 0 = λ symbols. LoopIn scope symbols c.args.around.now × StmtIn scope symbols c.args.body.now in
    let from : Variables → Symbols → Type 0 = λ vs symbols. VariablesIn symbols vs × LoopIn scope symbols c.args.around.now × StmtIn scope symbols c.args.body.now in
    let p = err_from_is_err_and c.from_residual.result c.from_residual.ensures.1 in
    rw (p.1, p.2) (refused
    (step_walks {NamesB = from first} {NamesC = all} {GivesC = VariablesIn} (λ (entry : Variables). passed entry walk) (Err _)
    (step_variables {Names = all} here first c.variables-first.ensures) (c.in_err-second.ensures here)
    (λ symbols n. n) (λ symbols n t. (t, n.0, n.1)) (λ symbols b n t h. h))
    (λ symbols n. n))

pub returns-in_err-third : goal.returns-in_err-third
returns-in_err-third g c =
    let walk = turn_of c.args.around.now (doing_of c.args.body.now) (inside_of c.args.inside) in
    let here = c.args.state.now in let first = c.variables-first.result.now in let second = c.in_ok-second.second in let scope = c.args.setting.now.scope.now in
    let all : Symbols → Type 0 = λ symbols. LoopIn scope symbols c.args.around.now × StmtIn scope symbols c.args.body.now in
    let from : Variables → Symbols → Type 0 = λ vs symbols. VariablesIn symbols vs × LoopIn scope symbols c.args.around.now × StmtIn scope symbols c.args.body.now in
    let on = λ (second : Variables). third_entry second walk in
    let p = err_from_is_err_and c.from_residual-in_err-third.result c.from_residual-in_err-third.ensures.1 in
    rw (p.1, p.2) (refused
    (step_walks {NamesB = from first} {NamesC = all} {GivesC = VariablesIn} (λ (entry : Variables). passed entry walk >>= on) (Err _)
    (step_variables {Names = all} here first c.variables-first.ensures)
    (walks_then {Names = from first} {NamesB = from second} {NamesC = from first} {GivesC = VariablesIn} on (Err _) (c.in_ok-second.ensures here) (c.in_err-third.ensures here)
    (λ symbols n. n) (λ symbols n t. (t, n.1, n.2)) (λ symbols b n t h. h))
    (λ symbols n. n) (λ symbols n t. (t, n.0, n.1)) (λ symbols b n t h. h))
    (λ symbols n. n))
