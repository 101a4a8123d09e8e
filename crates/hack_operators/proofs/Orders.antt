-- What operators give is the same in either order, and `_` where an operand is in error.
use Rattle.std.proofs.Common.{◌≡◌, ◌∙◌, ◌&&◌, ◌||◌, Bool, true, false, refl, ap}
use Rattle.std.specs.Bool.{if◌then◌else◌}
use Rattle.hack_types.specs.declared.hack_type.HackType.{HackType}
use Rattle.hack_types.specs.declared.hack_type.HackType.TheVariants as type
use Rattle.hack_types.specs.declared.place.Place.{Place}
use Rattle.hack_decls.specs.DeclState.{Map}
use Rattle.hack_rules.specs.Operators as rules
use Rattle.hack_rules.specs.Operators.{bits_of, class_of, given_if, given_or, is_error, is_float, is_int, is_number, is_string, is_text, operate, order_of, quotient_of, result_of, sum_of, text_of}
use Rattle.hack_rules.specs.Walks.{Setting, State, ◌>>=◌, pure, reads}

both : (a b : Bool) → (a && b) ≡ (b && a)
both true true = refl
both true false = refl
both false true = refl
both false false = refl

one : (a b : Bool) → (a || b) ≡ (b || a)
one true true = refl
one true false = refl
one false true = refl
one false false = refl

module _ (l r : rules.OperandClass) where
  abbrev wide : Bool → Bool → HackType
  wide ints floats = if ints then type.Int else (if floats then type.Float else type.Num)

  sums : sum_of l r ≡ sum_of r l
  sums =
      ap (λ (b : Bool). given_if b (wide (is_int l && is_int r) (is_float l || is_float r))) (both (is_number l) (is_number r))
      ∙ ap (λ (b : Bool). given_if (is_number r && is_number l) (wide b (is_float l || is_float r))) (both (is_int l) (is_int r))
      ∙ ap (λ (b : Bool). given_if (is_number r && is_number l) (wide (is_int r && is_int l) b)) (one (is_float l) (is_float r))

  quotients : quotient_of l r ≡ quotient_of r l
  quotients =
      ap (λ (b : Bool). given_if b (if is_float l || is_float r then type.Float else type.Num)) (both (is_number l) (is_number r))
      ∙ ap (λ (b : Bool). given_if (is_number r && is_number l) (if b then type.Float else type.Num)) (one (is_float l) (is_float r))

  bits : bits_of l r ≡ bits_of r l
  bits = ap (λ (b : Bool). given_if b type.Int) (both (is_int l) (is_int r))

  texts : text_of l r ≡ text_of r l
  texts = ap (λ (b : Bool). given_if b type.Str) (both (is_text l) (is_text r))

  orders : (ty : HackType) → order_of ty l r ≡ order_of ty r l
  orders ty =
      ap (λ (b : Bool). given_if (b || (is_string l && is_string r)) ty) (both (is_number l) (is_number r))
      ∙ ap (λ (b : Bool). given_if ((is_number r && is_number l) || b) ty) (both (is_string l) (is_string r))

pub same_order : (operation : rules.Operation) (l r : rules.OperandClass) → result_of operation l r ≡ result_of operation r l
unfolding result_of
same_order rules.add l r = sums l r
same_order rules.subtract l r = sums l r
same_order rules.multiply l r = sums l r
same_order rules.divide l r = quotients l r
same_order rules.power l r = quotients l r
same_order rules.remainder l r = bits l r
same_order rules.bit_and l r = bits l r
same_order rules.bit_or l r = bits l r
same_order rules.bit_xor l r = bits l r
same_order rules.concat l r = texts l r
same_order rules.less l r = orders l r type.Bool
same_order rules.less_equal l r = orders l r type.Bool
same_order rules.greater l r = orders l r type.Bool
same_order rules.greater_equal l r = orders l r type.Bool
same_order rules.spaceship l r = orders l r type.Int

module _ (at : Place) (operation : rules.Operation) (left right : HackType) (setting : Setting) (map : Map) (state : State) where
  abbrev by_classes : rules.OperandClass → rules.OperandClass → HackType × State
  by_classes first second = (if is_error first || is_error second then pure type.Any else given_or at operation left right (result_of operation first second)) setting map state

  abbrev by_test : rules.OperandClass → Bool → HackType × State
  by_test first b = (if b then pure type.Any else given_or at operation left right (result_of operation first rules.error)) setting map state

  pub silent_left : class_of map setting.scope left ≡ rules.error → operate at operation left right setting map state ≡ (type.Any, state)
  unfolding operate reads ◌>>=◌ pure
  silent_left e = ap (λ (first : rules.OperandClass). by_classes first (class_of map setting.scope right)) e

  pub silent_right : class_of map setting.scope right ≡ rules.error → operate at operation left right setting map state ≡ (type.Any, state)
  unfolding operate reads ◌>>=◌ pure
  silent_right e =
      ap (λ (second : rules.OperandClass). by_classes (class_of map setting.scope left) second) e
      ∙ ap (by_test (class_of map setting.scope left)) (one (is_error (class_of map setting.scope left)) true)
