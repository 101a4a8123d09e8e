use Rattle.std.proofs.Common.{◌++◌, map, ◌∙◌}
use Rattle.hack_names.specs.Declarations.{losers}
use Rattle.hack_names.specs.Inside.{table_of}
use Rattle.hack_names.proofs.Keyed.{declaration}
use Rattle.hack_names.proofs.Chosen.{losers_found}
use Rattle.hack_names.proofs.table.NamingTable.losers.Goals as goal

pub loop-spot-init : goal.loop-spot-init
loop-spot-init c =
    let found = losers_found (table_of c.self.inside.files.entries) c.self.inside.index c.in_ok-items.items c.self.invariant c.in_ok-items.ensures.only c.in_ok-items.ensures.all c.in_ok-items.ensures.ordered in
    let gives = c.into_iter-spot-iterator.ensures.into_iter_gives in
    (λ i. c.new-list.ensures.items i ++ map declaration (gives.0 i)) ∙ found ∙ (λ i. losers (c.self.view_is i))
