-- What names nothing.
use Rattle.std.proofs.Common.{List, sym}
use Rattle.hack_types.specs.declared.hack_type.HackType.TheFolds.{fold-roll-HackType}
use Rattle.hack_types.specs.declared.hack_type.HackType.TheOpen.{HackType-F}
use Rattle.hack_types.specs.declared.hack_type.HackType.TheVariants as type
use Rattle.hack_types.specs.declared.ids.SymbolId.{SymbolId}
use Rattle.hack_decls.specs.DeclState.{Symbols}
use Rattle.hack_decls.specs.Names.{TypeIn, symbols_by, symbols_in}
use Rattle.hack_sub.specs.NamesOf.{alone}

module _ (symbols : Symbols) where
  pub of_bool : TypeIn symbols type.Bool
  unfolding symbols_in
  of_bool = alone symbols HackType-F.Bool type.Bool (sym type.rolls-Bool) (fold-roll-HackType (List SymbolId) symbols_by HackType-F.Bool)

  pub of_null : TypeIn symbols type.Null
  unfolding symbols_in
  of_null = alone symbols HackType-F.Null type.Null (sym type.rolls-Null) (fold-roll-HackType (List SymbolId) symbols_by HackType-F.Null)
