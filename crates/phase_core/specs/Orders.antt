-- The order of symbols, by which maps and sets are: by kind, then by id.
use Rattle.std.specs.Ordering.{nat_cmp, ordering_then}
use Rattle.std.specs.declared.cmp.Ordering.{Ordering}
use Rattle.hack_types.specs.declared.ids.Kind.{Kind}
use Rattle.hack_types.specs.contracts.ids.KindOrd.TheImpl as kind_ord
use Rattle.hack_types.specs.declared.ids.SymbolId.{SymbolId}

-- as `Kind` has them
abbrev pub kind_order : Kind → Kind → Ordering
kind_order = kind_ord.ghosts.cmp

-- by kind, then by id
abbrev pub symbol_order : SymbolId → SymbolId → Ordering
symbol_order a b = ordering_then (kind_order a.kind b.kind) (nat_cmp a.name b.name)
