use Rattle.std.proofs.Common.{◌∙◌, ap}
use Rattle.case_table.specs.Grids.{cell}
use Rattle.hack_operators.specs.inside.Tables.{place, type_by}
use Rattle.hack_operators.proofs.Tables.{texts_are}
use Rattle.hack_operators.proofs.results.text_of.Goals as goal

pub returns : goal.returns
returns c = let left = c.args.left in let right = c.args.right in
    c.type_at.ensures ∙ ap (λ rows. type_by (cell rows (place left) (place right))) c.grid-table.ensures ∙ texts_are left right
