-- A map of declarations as a function.
use Rattle.std.specs.BTreeMap as tree
use Rattle.hack_types.specs.declared.ids.SymbolId.{SymbolId}
use Rattle.hack_types.specs.declared.shallow.Shallow.{Shallow}
use Rattle.hack_decls.specs.PlainMap.{symbol_order}
use Rattle.hack_fold.specs.Parents.{Shallows}

-- what is declared under each symbol
abbrev pub shallows_of : tree.BTreeMap SymbolId Shallow → Shallows
shallows_of map s = tree.get symbol_order map s
