-- The parts in a list are less deep than the expression that they stand in.
use Rattle.std.proofs.Common.{◌≡◌, ◌<◌, List, rules}
use denote.Param.Weighed.{most}
use Rattle.hack_tree.specs.declared.expression.Expr.{Expr, size-Expr, the_lemmas}
use Rattle.hack_tree.specs.declared.expression.Expr.TheVariants as e
use Rattle.hack_tree.specs.declared.expression.Operand.{Operand, size-Operand}
use Rattle.hack_tree.specs.declared.expression.Suffix.{Suffix, size-Suffix}
use Rattle.hack_types.specs.declared.place.Place.{Place}

pub operands_below : (whole first : Expr) (at : Place) (given others : List Operand) → whole ≡ e.Chain at first others → given ≡ others → most size-Operand given < size-Expr whole
operands_below whole first at given others is same = search (rules, the_lemmas)

pub suffixes_below : (whole operand : Expr) (at : Place) (given suffixes : List Suffix) → whole ≡ e.Postfix at operand suffixes → given ≡ suffixes → most size-Suffix given < size-Expr whole
suffixes_below whole operand at given suffixes is same = search (rules, the_lemmas)
