use Rattle.std.proofs.Common.{◌≡◌, ◌++◌, map}
use Rattle.hack_names.specs.Declarations.{losers}
use Rattle.hack_names.proofs.Keyed.{declaration}
use Rattle.hack_names.proofs.table.NamingTable.losers.Given as goal

abbrev pub invariant-loop-spot : goal.invariant-loop-spot
invariant-loop-spot l = l.list.items ++ map declaration l.spot-iterator ≡ losers l.self
