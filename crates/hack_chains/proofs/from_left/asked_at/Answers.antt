use Rattle.std.proofs.Common.{◌∙◌, sym, ap, arith}
use Rattle.hack_tree.specs.declared.expression.Operand.{Operand}
use Rattle.hack_chains.specs.inside.Chaining.{asked}
use Rattle.hack_chains.proofs.LeftGroups.{asked_behind, asked_here}
use Rattle.hack_chains.proofs.from_left.asked_at.Goals as goal

pub returns-then-i-others : goal.returns-then-i-others
returns-then-i-others c = c.asked.ensures ∙ ap (λ (other : Operand). asked other.operator) (sym c.index-others-i.is) ∙ sym (asked_here c.args.others.now c.args.i c.index-others-i.result c.args.last (omega arith) c.index-others-i.is)

pub returns : goal.returns
returns c = sym (asked_behind c.args.others.now c.args.i c.args.last (omega arith))
