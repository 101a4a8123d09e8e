use Rattle.std.proofs.Common.{◌∙◌, All, Some, sym, ap, subst}
use Rattle.hack_decls.specs.DeclState.{Symbols}
use Rattle.hack_parts.specs.ExprIn.{ExprIn}
use Rattle.hack_rules.specs.Expressions.{meaning_of}
use Rattle.hack_rules.specs.Meanings.{Branches}
use Rattle.hack_rules.specs.Statements.{doing_of, meanings_of}
use Rattle.hack_rules.specs.Variables.{Variables}
use Rattle.hack_rules.specs.Walks.{◌>>◌, replace}
use Rattle.hack_walk.specs.Checks.{BranchesIn, VariablesIn, setting_of}
use Rattle.hack_walk.specs.WalkLaws.{of_step, step_replace, walks_as, walks_next, walks_then}
use Rattle.hack_flow.specs.Settled.{emptied, inside_of}
use Rattle.hack_flow.specs.StmtIn.{StmtIn}
use Rattle.hack_flow.specs.inside.Rows.{for_body}
use Rattle.hack_flow.proofs.ForTurns.{tested_pieces}
use Rattle.hack_flow.proofs.for_turns.for_tested.Goals as goal

pub returns : goal.returns
returns g c =
    let condition = meaning_of c.args.condition.now in let steps = meanings_of c.args.steps.now in let body = doing_of c.args.body.now in let inside = inside_of c.args.inside in
    let branches = c.in_ok-branches.branches in let scope = c.args.setting.now.scope.now in
    let all : Symbols → Type 0 = λ symbols. (ExprIn scope symbols c.args.condition.now × All (ExprIn scope symbols) c.args.steps.now) × StmtIn scope symbols c.args.body.now in
    walks_as _ c.for_body.result
    (walks_then {NamesB = λ symbols. all symbols × BranchesIn symbols branches} {NamesC = all} (λ (branches : Branches). replace branches.when_true >> emptied (for_body steps body inside (Some branches.when_false))) c.for_body.result c.in_ok-branches.ensures
    (walks_next {NamesC = λ symbols. all symbols × BranchesIn symbols branches} (emptied (for_body steps body inside (Some branches.when_false))) c.for_body.result
    (of_step _ (step_replace {Names = λ symbols. BranchesIn symbols branches} c.branches_of.new.state c.replace.new.self branches.when_true (c.replace.ensures.variables ∙ c.into_parts-when_true.ensures.when_true) c.replace.ensures.found (λ symbols n. n.when_true)))
    (walks_as _ c.for_body.result c.for_body.ensures (λ map. ap (λ (vs : Variables). emptied (for_body steps body inside (Some vs)) (setting_of c.args.setting.now) map c.replace.new.self) (sym c.into_parts-when_true.ensures.when_false)))
    (λ symbols n. n.1) (λ symbols n t. ((n.0.0.1, n.0.1), subst (VariablesIn symbols) (sym c.into_parts-when_true.ensures.when_false) n.1.when_false)) (λ symbols b n t h. h))
    (λ symbols n. n.0.0) (λ symbols n t. (n, t)) (λ symbols b n t h. h))
    (λ map. tested_pieces condition steps body inside (setting_of c.args.setting.now) map c.args.state.now)
