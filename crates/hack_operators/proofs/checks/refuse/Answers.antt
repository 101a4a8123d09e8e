use Rattle.std.proofs.Common.{◌∙◌, ◌++◌, ◌∷◌, [], List, ℕ, ap}
use Rattle.hack_types.specs.declared.diag.Diag.{Diag}
use Rattle.hack_diag.specs.Messages.{diag_of, operator_refuses}
use Rattle.hack_rules.specs.Operators.{operation_text}
use Rattle.hack_operators.specs.Seen.{operation_seen}
use Rattle.hack_walk.specs.WalkLaws.{step_refuse}
use Rattle.hack_operators.proofs.checks.refuse.Goals as goal

pub returns : goal.returns
returns c = let left = c.args.left.now in let right = c.args.right.now in let names = c.args.setting.now.names.now in
    step_refuse c.args.state.now c.report.new.self c.args.at (operator_refuses (operation_text (operation_seen c.args.operation)) left right) c.in_ok-report.ensures.variables
    (c.in_ok-report.ensures.found ∙ ap (λ (diag : Diag). c.args.state.now.found ++ diag ∷ [])
    (c.in_ok-diag.ensures ∙ ap (λ (text : List ℕ). diag_of names c.args.at (operator_refuses text left right)) c.text.ensures))
