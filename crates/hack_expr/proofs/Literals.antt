-- The types of literals name nothing.
use Rattle.std.proofs.Common.{List, sym}
use Rattle.hack_tree.specs.declared.expression.Literal.{Literal}
use Rattle.hack_tree.specs.declared.expression.Literal.TheVariants as literal
use Rattle.hack_types.specs.declared.hack_type.HackType.TheFolds.{fold-roll-HackType}
use Rattle.hack_types.specs.declared.hack_type.HackType.TheOpen.{HackType-F}
use Rattle.hack_types.specs.declared.hack_type.HackType.TheVariants as type
use Rattle.hack_types.specs.declared.ids.SymbolId.{SymbolId}
use Rattle.hack_decls.specs.DeclState.{Symbols}
use Rattle.hack_decls.specs.Names.{TypeIn, symbols_by, symbols_in}
use Rattle.hack_rules.specs.Values.{literal_type}
use Rattle.hack_sub.specs.NamesOf.{alone, of_int}

module _ (symbols : Symbols) where
  of_float : TypeIn symbols type.Float
  unfolding symbols_in
  of_float = alone symbols HackType-F.Float type.Float (sym type.rolls-Float) (fold-roll-HackType (List SymbolId) symbols_by HackType-F.Float)

  of_str : TypeIn symbols type.Str
  unfolding symbols_in
  of_str = alone symbols HackType-F.Str type.Str (sym type.rolls-Str) (fold-roll-HackType (List SymbolId) symbols_by HackType-F.Str)

  of_bool : TypeIn symbols type.Bool
  unfolding symbols_in
  of_bool = alone symbols HackType-F.Bool type.Bool (sym type.rolls-Bool) (fold-roll-HackType (List SymbolId) symbols_by HackType-F.Bool)

  of_null : TypeIn symbols type.Null
  unfolding symbols_in
  of_null = alone symbols HackType-F.Null type.Null (sym type.rolls-Null) (fold-roll-HackType (List SymbolId) symbols_by HackType-F.Null)

  pub of_literal : (l : Literal) → TypeIn symbols (literal_type l)
  of_literal literal.Int = of_int symbols
  of_literal literal.Float = of_float
  of_literal literal.Text = of_str
  of_literal (literal.KeyText key) = of_str
  of_literal literal.True = of_bool
  of_literal literal.False = of_bool
  of_literal literal.Null = of_null
