use Rattle.std.proofs.Common.{◌∙◌, ◌==◌, Bool, ap}
use Rattle.case_table.specs.Grids.{cell}
use Rattle.hack_rules.specs.Operators.{given_if}
use Rattle.hack_operators.specs.inside.Tables.{place}
use Rattle.hack_operators.proofs.Tables.{orders_are}
use Rattle.hack_operators.proofs.results.order_of.Goals as goal

pub returns : goal.returns
returns c = let left = c.args.left in let right = c.args.right in
    c.given_if.ensures ∙ ap (λ (fits : Bool). given_if fits c.args.ty) (c.is_marked.ensures ∙ ap (λ rows. cell rows (place left) (place right) == 1) c.grid-table.ensures ∙ orders_are left right)
