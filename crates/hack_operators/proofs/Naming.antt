-- Primitives name nothing, and what operators and signs give is one, or `_`.
use Rattle.std.proofs.Common.{◌&&◌, ◌||◌, Bool, true, false, List, IfSome, sym}
use Rattle.std.specs.Bool.{if◌then◌else◌}
use Rattle.hack_types.specs.declared.hack_type.HackType.{HackType}
use Rattle.hack_types.specs.declared.hack_type.HackType.TheFolds.{fold-roll-HackType}
use Rattle.hack_types.specs.declared.hack_type.HackType.TheOpen.{HackType-F}
use Rattle.hack_types.specs.declared.hack_type.HackType.TheVariants as type
use Rattle.hack_types.specs.declared.ids.SymbolId.{SymbolId}
use Rattle.hack_decls.specs.DeclState.{Symbols}
use Rattle.hack_decls.specs.Names.{TypeIn, symbols_by, symbols_in}
use Rattle.hack_rules.specs.Operators as rules
use Rattle.hack_rules.specs.Operators.{bits_of, given_if, is_float, is_int, is_number, is_string, is_text, number_type, order_of, quotient_of, result_of, sign_of, sum_of, text_of}
use Rattle.hack_sub.specs.NamesOf.{alone, of_int}

module _ (symbols : Symbols) where
  pub of_float : TypeIn symbols type.Float
  unfolding symbols_in
  of_float = alone symbols HackType-F.Float type.Float (sym type.rolls-Float) (fold-roll-HackType (List SymbolId) symbols_by HackType-F.Float)

  pub of_num : TypeIn symbols type.Num
  unfolding symbols_in
  of_num = alone symbols HackType-F.Num type.Num (sym type.rolls-Num) (fold-roll-HackType (List SymbolId) symbols_by HackType-F.Num)

  pub of_str : TypeIn symbols type.Str
  unfolding symbols_in
  of_str = alone symbols HackType-F.Str type.Str (sym type.rolls-Str) (fold-roll-HackType (List SymbolId) symbols_by HackType-F.Str)

  pub of_bool : TypeIn symbols type.Bool
  unfolding symbols_in
  of_bool = alone symbols HackType-F.Bool type.Bool (sym type.rolls-Bool) (fold-roll-HackType (List SymbolId) symbols_by HackType-F.Bool)

-- a type that names nothing
abbrev pub Plain : HackType → Type 0
Plain ty = (symbols : Symbols) → TypeIn symbols ty

either : (b : Bool) (x y : HackType) → Plain x → Plain y → Plain (if b then x else y)
either true x y p q = p
either false x y p q = q

given : (b : Bool) (ty : HackType) → Plain ty → IfSome (given_if b ty) Plain
given true ty p = p
given false ty p = tt

sums : (l r : rules.OperandClass) → IfSome (sum_of l r) Plain
sums l r = given (is_number l && is_number r) _
    (either (is_int l && is_int r) type.Int (if is_float l || is_float r then type.Float else type.Num) of_int
    (either (is_float l || is_float r) type.Float type.Num of_float of_num))

quotients : (l r : rules.OperandClass) → IfSome (quotient_of l r) Plain
quotients l r = given (is_number l && is_number r) _ (either (is_float l || is_float r) type.Float type.Num of_float of_num)

bits : (l r : rules.OperandClass) → IfSome (bits_of l r) Plain
bits l r = given (is_int l && is_int r) type.Int of_int

texts : (l r : rules.OperandClass) → IfSome (text_of l r) Plain
texts l r = given (is_text l && is_text r) type.Str of_str

orders : (ty : HackType) → Plain ty → (l r : rules.OperandClass) → IfSome (order_of ty l r) Plain
orders ty p l r = given ((is_number l && is_number r) || (is_string l && is_string r)) ty p

pub results : (operation : rules.Operation) (l r : rules.OperandClass) → IfSome (result_of operation l r) Plain
unfolding result_of
results rules.add l r = sums l r
results rules.subtract l r = sums l r
results rules.multiply l r = sums l r
results rules.divide l r = quotients l r
results rules.power l r = quotients l r
results rules.remainder l r = bits l r
results rules.bit_and l r = bits l r
results rules.bit_or l r = bits l r
results rules.bit_xor l r = bits l r
results rules.concat l r = texts l r
results rules.less l r = orders type.Bool of_bool l r
results rules.less_equal l r = orders type.Bool of_bool l r
results rules.greater l r = orders type.Bool of_bool l r
results rules.greater_equal l r = orders type.Bool of_bool l r
results rules.spaceship l r = orders type.Int of_int l r

numbers : (class : rules.OperandClass) → IfSome (number_type class) Plain
numbers rules.int = of_int
numbers rules.float = of_float
numbers rules.num = of_num
numbers _ = tt

pub signs : (sign : rules.Sign) (class : rules.OperandClass) → IfSome (sign_of sign class) Plain
unfolding sign_of
signs rules.minus class = numbers class
signs rules.plus class = numbers class
signs rules.complement class = given (is_int class) type.Int of_int
