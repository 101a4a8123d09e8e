-- The class that is told by a type's former, or asked for, is that of the definition.
use Rattle.std.proofs.Common.{◌≡◌, ◌∙◌, ◌↔◌, Bool, true, false, Some, None, IsTrue, refl, sym, ap}
use Rattle.std.specs.Bool.{if◌then◌else◌}
use Rattle.hack_types.specs.declared.hack_type.HackType.{HackType, out-HackType, roll-HackType}
use Rattle.hack_types.specs.declared.hack_type.HackType.TheOpen.{HackType-F}
use Rattle.hack_types.specs.declared.hack_type.HackType.TheVariants as type
use Rattle.hack_decls.specs.DeclState.{Map}
use Rattle.hack_rules.specs.Operators as rules
use Rattle.hack_rules.specs.Operators.{class_of, is_error_by}
use Rattle.hack_sub.specs.Derives.{Derives}
use Rattle.hack_sub.specs.IsBelow.{is_below}
use Rattle.hack_sub.specs.NamesOf.{nothing_there, rolled}
use Rattle.hack_sub.specs.Sub.{IsSmall, most_height}
use Rattle.hack_sub.specs.declared.scope.Scope.{Scope}
use Rattle.hack_operators.proofs.Apart as apart
use Rattle.hack_operators.proofs.Apart.{Never, itself, out_of, small_arraykey, small_bool, small_float, small_int, small_num, small_str}
use Rattle.hack_operators.specs.Seen.{class_seen}
use Rattle.hack_operators.specs.declared.class.OperandClass.{OperandClass}
use Rattle.hack_operators.specs.declared.class.OperandClass.TheVariants as class
use Rattle.hack_operators.specs.inside.Asked.{asked, class_by, first_of, is_of, plain_class}

refuted : (b : Bool) (P : Type 0) → (IsTrue b ↔ P) → (P → ⊥) → b ≡ false
refuted true P same never = absurd (never (same.0 refl))
refuted false P same never = refl

module _ (map : Map) (scope : Scope) where
  -- the test and the tree say the same
  abbrev pub Tested : Type 0
  Tested = (S T : HackType) → IsTrue (is_below map scope most_height S T) ↔ Derives map scope most_height S T

  -- the answers to the questions, and the class by them
  abbrev pick : Bool → Bool → Bool → Bool → Bool → Bool → Bool → rules.OperandClass
  pick bad i f n s b a =
      if bad then rules.error
      else (if i then rules.int
      else (if f then rules.float
      else (if n then rules.num
      else (if s then rules.string
      else (if b then rules.bool
      else (if a then rules.arraykey else rules.other))))))

  abbrev asks : HackType → HackType → Bool
  asks ty upper = is_below map scope most_height ty upper

  picked : (ty : HackType) → class_of map scope ty
      ≡ pick (is_error_by (out-HackType ty)) (asks ty type.Int) (asks ty type.Float) (asks ty type.Num) (asks ty type.Str) (asks ty type.Bool) (asks ty type.Arraykey)
  unfolding class_of
  picked ty = refl

  -- what is asked where no former tells it
  no_error : (layer : HackType-F HackType) → None ≡ class_by layer → is_error_by layer ≡ false
  no_error HackType-F.Any e = absurd (nothing_there class.Error (sym e))
  no_error HackType-F.Nothing e = absurd (nothing_there class.Error (sym e))
  no_error _ e = refl

  pub asked_right : (ty : HackType) → None ≡ plain_class ty → first_of (is_of map scope ty) asked ≡ class_of map scope ty
  asked_right ty e =
      sym (picked ty ∙ ap (λ bad. pick bad (asks ty type.Int) (asks ty type.Float) (asks ty type.Num) (asks ty type.Str) (asks ty type.Bool) (asks ty type.Arraykey)) (no_error (out-HackType ty) e))

  -- `_` and `nothing`
  bad_is : (ty : HackType) → is_error_by (out-HackType ty) ≡ true → rules.error ≡ class_of map scope ty
  bad_is ty e =
      sym (picked ty ∙ ap (λ bad. pick bad (asks ty type.Int) (asks ty type.Float) (asks ty type.Num) (asks ty type.Str) (asks ty type.Bool) (asks ty type.Arraykey)) e)

  -- primitives
  module _ (tested : Tested) where
    below_itself : (S : HackType) → IsSmall S → asks S S ≡ true
    below_itself S small = (tested S S).1 (itself map scope 15 S small)

    not_below : (S T : HackType) → Never map scope S T → asks S T ≡ false
    not_below S T never = refuted (asks S T) (Derives map scope most_height S T) (tested S T) (never most_height)

    fine : (ty : HackType) (layer : HackType-F HackType) → roll-HackType layer ≡ ty → is_error_by layer ≡ false → is_error_by (out-HackType ty) ≡ false
    fine ty layer rolls e = ap is_error_by (out_of ty layer rolls) ∙ e

    int_is : rules.int ≡ class_of map scope type.Int
    int_is = let ty = type.Int in
        sym (picked ty
        ∙ ap (λ bad. pick bad (asks ty type.Int) (asks ty type.Float) (asks ty type.Num) (asks ty type.Str) (asks ty type.Bool) (asks ty type.Arraykey)) (fine ty HackType-F.Int type.rolls-Int refl)
        ∙ ap (λ i. pick false i (asks ty type.Float) (asks ty type.Num) (asks ty type.Str) (asks ty type.Bool) (asks ty type.Arraykey)) (below_itself ty small_int))

    float_is : rules.float ≡ class_of map scope type.Float
    float_is = let ty = type.Float in
        sym (picked ty
        ∙ ap (λ x. pick x (asks ty type.Int) (asks ty type.Float) (asks ty type.Num) (asks ty type.Str) (asks ty type.Bool) (asks ty type.Arraykey)) (fine ty HackType-F.Float type.rolls-Float refl)
        ∙ ap (λ x. pick false x (asks ty type.Float) (asks ty type.Num) (asks ty type.Str) (asks ty type.Bool) (asks ty type.Arraykey)) (not_below ty type.Int (apart.float_int map scope))
        ∙ ap (λ x. pick false false x (asks ty type.Num) (asks ty type.Str) (asks ty type.Bool) (asks ty type.Arraykey)) (below_itself ty small_float))

    num_is : rules.num ≡ class_of map scope type.Num
    num_is = let ty = type.Num in
        sym (picked ty
        ∙ ap (λ x. pick x (asks ty type.Int) (asks ty type.Float) (asks ty type.Num) (asks ty type.Str) (asks ty type.Bool) (asks ty type.Arraykey)) (fine ty HackType-F.Num type.rolls-Num refl)
        ∙ ap (λ x. pick false x (asks ty type.Float) (asks ty type.Num) (asks ty type.Str) (asks ty type.Bool) (asks ty type.Arraykey)) (not_below ty type.Int (apart.num_int map scope))
        ∙ ap (λ x. pick false false x (asks ty type.Num) (asks ty type.Str) (asks ty type.Bool) (asks ty type.Arraykey)) (not_below ty type.Float (apart.num_float map scope))
        ∙ ap (λ x. pick false false false x (asks ty type.Str) (asks ty type.Bool) (asks ty type.Arraykey)) (below_itself ty small_num))

    str_is : rules.string ≡ class_of map scope type.Str
    str_is = let ty = type.Str in
        sym (picked ty
        ∙ ap (λ x. pick x (asks ty type.Int) (asks ty type.Float) (asks ty type.Num) (asks ty type.Str) (asks ty type.Bool) (asks ty type.Arraykey)) (fine ty HackType-F.Str type.rolls-Str refl)
        ∙ ap (λ x. pick false x (asks ty type.Float) (asks ty type.Num) (asks ty type.Str) (asks ty type.Bool) (asks ty type.Arraykey)) (not_below ty type.Int (apart.str_int map scope))
        ∙ ap (λ x. pick false false x (asks ty type.Num) (asks ty type.Str) (asks ty type.Bool) (asks ty type.Arraykey)) (not_below ty type.Float (apart.str_float map scope))
        ∙ ap (λ x. pick false false false x (asks ty type.Str) (asks ty type.Bool) (asks ty type.Arraykey)) (not_below ty type.Num (apart.str_num map scope))
        ∙ ap (λ x. pick false false false false x (asks ty type.Bool) (asks ty type.Arraykey)) (below_itself ty small_str))

    bool_is : rules.bool ≡ class_of map scope type.Bool
    bool_is = let ty = type.Bool in
        sym (picked ty
        ∙ ap (λ x. pick x (asks ty type.Int) (asks ty type.Float) (asks ty type.Num) (asks ty type.Str) (asks ty type.Bool) (asks ty type.Arraykey)) (fine ty HackType-F.Bool type.rolls-Bool refl)
        ∙ ap (λ x. pick false x (asks ty type.Float) (asks ty type.Num) (asks ty type.Str) (asks ty type.Bool) (asks ty type.Arraykey)) (not_below ty type.Int (apart.bool_int map scope))
        ∙ ap (λ x. pick false false x (asks ty type.Num) (asks ty type.Str) (asks ty type.Bool) (asks ty type.Arraykey)) (not_below ty type.Float (apart.bool_float map scope))
        ∙ ap (λ x. pick false false false x (asks ty type.Str) (asks ty type.Bool) (asks ty type.Arraykey)) (not_below ty type.Num (apart.bool_num map scope))
        ∙ ap (λ x. pick false false false false x (asks ty type.Bool) (asks ty type.Arraykey)) (not_below ty type.Str (apart.bool_str map scope))
        ∙ ap (λ x. pick false false false false false x (asks ty type.Arraykey)) (below_itself ty small_bool))

    arraykey_is : rules.arraykey ≡ class_of map scope type.Arraykey
    arraykey_is = let ty = type.Arraykey in
        sym (picked ty
        ∙ ap (λ x. pick x (asks ty type.Int) (asks ty type.Float) (asks ty type.Num) (asks ty type.Str) (asks ty type.Bool) (asks ty type.Arraykey)) (fine ty HackType-F.Arraykey type.rolls-Arraykey refl)
        ∙ ap (λ x. pick false x (asks ty type.Float) (asks ty type.Num) (asks ty type.Str) (asks ty type.Bool) (asks ty type.Arraykey)) (not_below ty type.Int (apart.arraykey_int map scope))
        ∙ ap (λ x. pick false false x (asks ty type.Num) (asks ty type.Str) (asks ty type.Bool) (asks ty type.Arraykey)) (not_below ty type.Float (apart.arraykey_float map scope))
        ∙ ap (λ x. pick false false false x (asks ty type.Str) (asks ty type.Bool) (asks ty type.Arraykey)) (not_below ty type.Num (apart.arraykey_num map scope))
        ∙ ap (λ x. pick false false false false x (asks ty type.Bool) (asks ty type.Arraykey)) (not_below ty type.Str (apart.arraykey_str map scope))
        ∙ ap (λ x. pick false false false false false x (asks ty type.Arraykey)) (not_below ty type.Bool (apart.arraykey_bool map scope))
        ∙ ap (λ x. pick false false false false false false x) (below_itself ty small_arraykey))

    told : (ty : HackType) (layer : HackType-F HackType) (c : OperandClass) → ty ≡ roll-HackType layer → Some c ≡ class_by layer
        → class_seen c ≡ class_of map scope ty
    told ty HackType-F.Any c is e = let same : class.Error ≡ c = cc in
        ap class_seen (sym same) ∙ bad_is type.Any (ap is_error_by (out_of type.Any HackType-F.Any type.rolls-Any)) ∙ ap (class_of map scope) (sym (is ∙ type.rolls-Any))
    told ty HackType-F.Nothing c is e = let same : class.Error ≡ c = cc in
        ap class_seen (sym same) ∙ bad_is type.Nothing (ap is_error_by (out_of type.Nothing HackType-F.Nothing type.rolls-Nothing)) ∙ ap (class_of map scope) (sym (is ∙ type.rolls-Nothing))
    told ty HackType-F.Int c is e = let same : class.Int ≡ c = cc in
        ap class_seen (sym same) ∙ int_is ∙ ap (class_of map scope) (sym (is ∙ type.rolls-Int))
    told ty HackType-F.Float c is e = let same : class.Float ≡ c = cc in
        ap class_seen (sym same) ∙ float_is ∙ ap (class_of map scope) (sym (is ∙ type.rolls-Float))
    told ty HackType-F.Num c is e = let same : class.Num ≡ c = cc in
        ap class_seen (sym same) ∙ num_is ∙ ap (class_of map scope) (sym (is ∙ type.rolls-Num))
    told ty HackType-F.Str c is e = let same : class.Str ≡ c = cc in
        ap class_seen (sym same) ∙ str_is ∙ ap (class_of map scope) (sym (is ∙ type.rolls-Str))
    told ty HackType-F.Bool c is e = let same : class.Bool ≡ c = cc in
        ap class_seen (sym same) ∙ bool_is ∙ ap (class_of map scope) (sym (is ∙ type.rolls-Bool))
    told ty HackType-F.Arraykey c is e = let same : class.Arraykey ≡ c = cc in
        ap class_seen (sym same) ∙ arraykey_is ∙ ap (class_of map scope) (sym (is ∙ type.rolls-Arraykey))
    told ty _ c is e = absurd (nothing_there c e)

    pub told_right : (ty : HackType) (c : OperandClass) → Some c ≡ plain_class ty → class_seen c ≡ class_of map scope ty
    told_right ty c e = told ty (out-HackType ty) c (rolled ty) e
