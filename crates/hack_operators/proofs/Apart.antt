-- Primitives by themselves: each is below itself, and none of two that don't widen is below the other.
use Rattle.std.proofs.Common.{◌≡◌, ◌∙◌, ◌&&◌, ◌||◌, ℕ, suc, Bool, true, false, not, None, length, refl, sym, ap, arith}
use Rattle.std.proofs.lemmas.Bool.{false≢true}
use Rattle.std.specs.Option.{option_and_then}
use Rattle.hack_types.specs.TypeNodes.{node_count, nodes}
use Rattle.hack_types.specs.declared.hack_type.HackType.{HackType, out-HackType, roll-HackType}
use Rattle.hack_types.specs.declared.hack_type.HackType.TheFolds.{fold-roll-HackType}
use Rattle.hack_types.specs.declared.hack_type.HackType.TheOpen.{HackType-F}
use Rattle.hack_types.specs.declared.hack_type.HackType.TheVariants as type
use Rattle.hack_types.specs.declared.hack_type.HackType.TheViews.{out-roll-HackType}
use Rattle.hack_decls.specs.DeclState.{Map}
use Rattle.hack_decls.specs.Names.{class_symbol}
use Rattle.hack_sub.specs.Derives as tree
use Rattle.hack_sub.specs.Derives.{Derives}
use Rattle.hack_sub.specs.Knowing.{enum_by, enum_of, expanded, expanded_by, is_bad, is_class_like, is_enum, is_partial, known_as}
use Rattle.hack_sub.specs.NamesOf.{nothing_there}
use Rattle.hack_sub.specs.Parts.{arguments_by, arguments_of, dict_by, fields_by, keyed_by, keyset_by, members_by, name_by, option_by, top_by, vector_by}
use Rattle.hack_sub.specs.Scopes.{param_by}
use Rattle.hack_sub.specs.Sub.{IsSmall}
use Rattle.hack_sub.specs.Tops.{is_any, is_made, is_mixed, is_nonnull, is_nothing, is_null, is_option, is_this, is_void, widens}
use Rattle.hack_sub.specs.declared.scope.Scope.{Scope}

abbrev Layer : Type 0
Layer = HackType-F HackType

pub out_of : (ty : HackType) (layer : Layer) → roll-HackType layer ≡ ty → out-HackType ty ≡ layer
out_of ty layer rolls = ap out-HackType (sym rolls) ∙ out-roll-HackType layer

small_by : (ty : HackType) (layer : Layer) → roll-HackType layer ≡ ty → nodes (roll-HackType layer) ≡ 1 → IsSmall ty
small_by ty layer rolls one = let is : nodes ty ≡ 1 = ap nodes (sym rolls) ∙ one in omega (arith, is)

pub small_int : IsSmall type.Int
small_int = small_by type.Int HackType-F.Int type.rolls-Int (fold-roll-HackType ℕ node_count HackType-F.Int)

pub small_float : IsSmall type.Float
small_float = small_by type.Float HackType-F.Float type.rolls-Float (fold-roll-HackType ℕ node_count HackType-F.Float)

pub small_num : IsSmall type.Num
small_num = small_by type.Num HackType-F.Num type.rolls-Num (fold-roll-HackType ℕ node_count HackType-F.Num)

pub small_str : IsSmall type.Str
small_str = small_by type.Str HackType-F.Str type.rolls-Str (fold-roll-HackType ℕ node_count HackType-F.Str)

pub small_bool : IsSmall type.Bool
small_bool = small_by type.Bool HackType-F.Bool type.rolls-Bool (fold-roll-HackType ℕ node_count HackType-F.Bool)

pub small_arraykey : IsSmall type.Arraykey
small_arraykey = small_by type.Arraykey HackType-F.Arraykey type.rolls-Arraykey (fold-roll-HackType ℕ node_count HackType-F.Arraykey)

-- ---- what the rules ask of the formers of two types

module _ (m : Map) where
  abbrev unknown_by : Layer → Layer → Bool
  unknown_by s t =
      is_any (top_by s) || is_any (top_by t) || is_bad (known_as m (length (arguments_by s)) (name_by s)) || is_bad (known_as m (length (arguments_by t)) (name_by t))
      || (is_partial (known_as m (length (arguments_by s)) (name_by s)) && is_class_like (known_as m (length (arguments_by t)) (name_by t)))

  abbrev not_null_by : Layer → Layer → Bool
  not_null_by s t =
      is_nonnull (top_by t)
      && (is_made (top_by s) || is_class_like (known_as m (length (arguments_by s)) (name_by s)) || is_enum (known_as m (length (arguments_by s)) (name_by s)))

abbrev extreme_by : Layer → Layer → Bool
extreme_by s t = is_nothing (top_by s) || (is_mixed (top_by t) && not (is_void (top_by s)))

abbrev primitive_by : Layer → Layer → Bool
primitive_by s t = widens (top_by s) (top_by t)

abbrev null_by : Layer → Layer → Bool
null_by s t = is_null (top_by s) && is_option (top_by t)

abbrev this_by : Layer → Bool
this_by s = is_this (top_by s)

-- nothing stands inside such a type, and it has no name
pub record Bare (layer : Layer) : Type 0 where
  pub option : option_by layer ≡ None
  pub union : members_by layer ≡ None
  pub vector : vector_by layer ≡ None
  pub dict : dict_by layer ≡ None
  pub keyset : keyset_by layer ≡ None
  pub keyed : keyed_by layer ≡ None
  pub fields : fields_by layer ≡ None
  pub name : name_by layer ≡ None
  pub param : (scope : Scope) → param_by scope layer ≡ None

-- no rule without premises tells of two of them
pub record Apart (s t : Layer) : Type 0 where
  pub other : s ≡ t → ⊥
  pub unknown : (m : Map) → unknown_by m s t ≡ false
  pub extreme : extreme_by s t ≡ false
  pub primitive : primitive_by s t ≡ false
  pub not_null : (m : Map) → not_null_by m s t ≡ false
  pub null : null_by s t ≡ false
  pub this : this_by s ≡ false

-- a test of two formers that fails for what they are
both : {x y s t : Layer} → x ≡ s → y ≡ t → (f : Layer → Layer → Bool) → f s t ≡ false → f x y ≡ true → ⊥
both {y = y} {s = s} lower upper f fails e = false≢true (sym (ap (λ x. f x y) lower ∙ ap (λ z. f s z) upper ∙ fails) ∙ e)

module _ (m : Map) (scope : Scope) where
  pub itself : (h : ℕ) (S : HackType) → IsSmall S → Derives m scope (suc h) S S
  itself h S small = tree.by_equal (small, small) refl

  module _ (ty : HackType) {layer : Layer} (is : out-HackType ty ≡ layer) (none : name_by layer ≡ None) where
    no_body : expanded m ty ≡ None
    no_body = ap (option_and_then (λ name. expanded_by (arguments_of ty) (m (class_symbol name)))) (ap name_by is ∙ none)

    no_enum : enum_of m ty ≡ None
    no_enum = ap (option_and_then (λ name. enum_by (length (arguments_of ty)) (m (class_symbol name)))) (ap name_by is ∙ none)

  pub none_below : {h : ℕ} {S T : HackType} (s t : Layer) → out-HackType S ≡ s → out-HackType T ≡ t → Bare s → Bare t → Apart s t → Derives m scope h S T → ⊥
  none_below s t lower upper low up apart (tree.by_equal few e) = apart.other (sym lower ∙ ap out-HackType e ∙ upper)
  none_below s t lower upper low up apart (tree.by_unknown few e) = both lower upper (unknown_by m) (apart.unknown m) e
  none_below s t lower upper low up apart (tree.by_extreme few e) = both lower upper extreme_by apart.extreme e
  none_below s t lower upper low up apart (tree.by_primitive few e) = both lower upper primitive_by apart.primitive e
  none_below s t lower upper low up apart (tree.by_not_null few e) = both lower upper (not_null_by m) (apart.not_null m) e
  none_below s t lower upper low up apart (tree.by_null few e) = both lower upper null_by apart.null e
  none_below s t lower upper low up apart (tree.by_into_option few U is d) = nothing_there U (is ∙ ap option_by upper ∙ up.option)
  none_below s t lower upper low up apart (tree.by_from_option few U is d e) = nothing_there U (is ∙ ap option_by lower ∙ low.option)
  none_below s t lower upper low up apart (tree.by_from_union few Us is d) = nothing_there Us (is ∙ ap members_by lower ∙ low.union)
  none_below s t lower upper low up apart (tree.by_into_union few Us is k lt d) = nothing_there Us (is ∙ ap members_by upper ∙ up.union)
  none_below s t lower upper low up apart (tree.by_vectors few U V is iv d) = nothing_there U (is ∙ ap vector_by lower ∙ low.vector)
  none_below s t lower upper low up apart (tree.by_dicts few U V is iv d e) = nothing_there U (is ∙ ap dict_by lower ∙ low.dict)
  none_below s t lower upper low up apart (tree.by_keysets few U V is iv d) = nothing_there U (is ∙ ap keyset_by lower ∙ low.keyset)
  none_below s t lower upper low up apart (tree.by_keyed few U named is d) = nothing_there U (is ∙ ap keyed_by lower ∙ low.keyed)
  none_below {S = S} s t lower upper low up apart (tree.by_from_alias few U is d) = nothing_there U (is ∙ no_body S lower low.name)
  none_below {T = T} s t lower upper low up apart (tree.by_into_alias few U is d) = nothing_there U (is ∙ no_body T upper up.name)
  none_below s t lower upper low up apart (tree.by_shape few fields others is io meet d) = nothing_there fields (is ∙ ap fields_by lower ∙ low.fields)
  none_below s t lower upper low up apart (tree.by_class_types few class name Us is it ig one two goes_up goes_down) = nothing_there class (is ∙ ap name_by lower ∙ low.name)
  none_below s t lower upper low up apart (tree.by_from_param few param is k lt d) = nothing_there param (is ∙ ap (param_by scope) lower ∙ low.param scope)
  none_below s t lower upper low up apart (tree.by_into_param few param is k lt d) = nothing_there param (is ∙ ap (param_by scope) upper ∙ up.param scope)
  none_below s t lower upper low up apart (tree.by_this few U this is d) = both lower upper (λ x y. this_by x) apart.this this
  none_below {S = S} s t lower upper low up apart (tree.by_enum_key few sig is d) = nothing_there sig (is ∙ no_enum S lower low.name)
  none_below {S = S} s t lower upper low up apart (tree.by_enum_base few sig is bounded d) = nothing_there sig (is ∙ no_enum S lower low.name)

bare_int : Bare HackType-F.Int
bare_int = record { option = refl; union = refl; vector = refl; dict = refl; keyset = refl; keyed = refl; fields = refl; name = refl; param = λ scope. refl }

bare_float : Bare HackType-F.Float
bare_float = record { option = refl; union = refl; vector = refl; dict = refl; keyset = refl; keyed = refl; fields = refl; name = refl; param = λ scope. refl }

bare_num : Bare HackType-F.Num
bare_num = record { option = refl; union = refl; vector = refl; dict = refl; keyset = refl; keyed = refl; fields = refl; name = refl; param = λ scope. refl }

bare_str : Bare HackType-F.Str
bare_str = record { option = refl; union = refl; vector = refl; dict = refl; keyset = refl; keyed = refl; fields = refl; name = refl; param = λ scope. refl }

bare_bool : Bare HackType-F.Bool
bare_bool = record { option = refl; union = refl; vector = refl; dict = refl; keyset = refl; keyed = refl; fields = refl; name = refl; param = λ scope. refl }

bare_arraykey : Bare HackType-F.Arraykey
bare_arraykey = record { option = refl; union = refl; vector = refl; dict = refl; keyset = refl; keyed = refl; fields = refl; name = refl; param = λ scope. refl }

abbrev pub Never : Map → Scope → HackType → HackType → Type 0
Never m scope S T = (h : ℕ) → Derives m scope h S T → ⊥

module _ (m : Map) (scope : Scope) where
  pub float_int : Never m scope type.Float type.Int
  float_int h =
      none_below m scope HackType-F.Float HackType-F.Int (out_of type.Float HackType-F.Float type.rolls-Float) (out_of type.Int HackType-F.Int type.rolls-Int) bare_float bare_int
      (record { other = λ e. cc; unknown = λ m. refl; extreme = refl; primitive = refl; not_null = λ m. refl; null = refl; this = refl })

  pub num_int : Never m scope type.Num type.Int
  num_int h =
      none_below m scope HackType-F.Num HackType-F.Int (out_of type.Num HackType-F.Num type.rolls-Num) (out_of type.Int HackType-F.Int type.rolls-Int) bare_num bare_int
      (record { other = λ e. cc; unknown = λ m. refl; extreme = refl; primitive = refl; not_null = λ m. refl; null = refl; this = refl })

  pub num_float : Never m scope type.Num type.Float
  num_float h =
      none_below m scope HackType-F.Num HackType-F.Float (out_of type.Num HackType-F.Num type.rolls-Num) (out_of type.Float HackType-F.Float type.rolls-Float) bare_num bare_float
      (record { other = λ e. cc; unknown = λ m. refl; extreme = refl; primitive = refl; not_null = λ m. refl; null = refl; this = refl })

  pub str_int : Never m scope type.Str type.Int
  str_int h =
      none_below m scope HackType-F.Str HackType-F.Int (out_of type.Str HackType-F.Str type.rolls-Str) (out_of type.Int HackType-F.Int type.rolls-Int) bare_str bare_int
      (record { other = λ e. cc; unknown = λ m. refl; extreme = refl; primitive = refl; not_null = λ m. refl; null = refl; this = refl })

  pub str_float : Never m scope type.Str type.Float
  str_float h =
      none_below m scope HackType-F.Str HackType-F.Float (out_of type.Str HackType-F.Str type.rolls-Str) (out_of type.Float HackType-F.Float type.rolls-Float) bare_str bare_float
      (record { other = λ e. cc; unknown = λ m. refl; extreme = refl; primitive = refl; not_null = λ m. refl; null = refl; this = refl })

  pub str_num : Never m scope type.Str type.Num
  str_num h =
      none_below m scope HackType-F.Str HackType-F.Num (out_of type.Str HackType-F.Str type.rolls-Str) (out_of type.Num HackType-F.Num type.rolls-Num) bare_str bare_num
      (record { other = λ e. cc; unknown = λ m. refl; extreme = refl; primitive = refl; not_null = λ m. refl; null = refl; this = refl })

  pub bool_int : Never m scope type.Bool type.Int
  bool_int h =
      none_below m scope HackType-F.Bool HackType-F.Int (out_of type.Bool HackType-F.Bool type.rolls-Bool) (out_of type.Int HackType-F.Int type.rolls-Int) bare_bool bare_int
      (record { other = λ e. cc; unknown = λ m. refl; extreme = refl; primitive = refl; not_null = λ m. refl; null = refl; this = refl })

  pub bool_float : Never m scope type.Bool type.Float
  bool_float h =
      none_below m scope HackType-F.Bool HackType-F.Float (out_of type.Bool HackType-F.Bool type.rolls-Bool) (out_of type.Float HackType-F.Float type.rolls-Float) bare_bool bare_float
      (record { other = λ e. cc; unknown = λ m. refl; extreme = refl; primitive = refl; not_null = λ m. refl; null = refl; this = refl })

  pub bool_num : Never m scope type.Bool type.Num
  bool_num h =
      none_below m scope HackType-F.Bool HackType-F.Num (out_of type.Bool HackType-F.Bool type.rolls-Bool) (out_of type.Num HackType-F.Num type.rolls-Num) bare_bool bare_num
      (record { other = λ e. cc; unknown = λ m. refl; extreme = refl; primitive = refl; not_null = λ m. refl; null = refl; this = refl })

  pub bool_str : Never m scope type.Bool type.Str
  bool_str h =
      none_below m scope HackType-F.Bool HackType-F.Str (out_of type.Bool HackType-F.Bool type.rolls-Bool) (out_of type.Str HackType-F.Str type.rolls-Str) bare_bool bare_str
      (record { other = λ e. cc; unknown = λ m. refl; extreme = refl; primitive = refl; not_null = λ m. refl; null = refl; this = refl })

  pub arraykey_int : Never m scope type.Arraykey type.Int
  arraykey_int h =
      none_below m scope HackType-F.Arraykey HackType-F.Int (out_of type.Arraykey HackType-F.Arraykey type.rolls-Arraykey) (out_of type.Int HackType-F.Int type.rolls-Int) bare_arraykey bare_int
      (record { other = λ e. cc; unknown = λ m. refl; extreme = refl; primitive = refl; not_null = λ m. refl; null = refl; this = refl })

  pub arraykey_float : Never m scope type.Arraykey type.Float
  arraykey_float h =
      none_below m scope HackType-F.Arraykey HackType-F.Float (out_of type.Arraykey HackType-F.Arraykey type.rolls-Arraykey) (out_of type.Float HackType-F.Float type.rolls-Float) bare_arraykey bare_float
      (record { other = λ e. cc; unknown = λ m. refl; extreme = refl; primitive = refl; not_null = λ m. refl; null = refl; this = refl })

  pub arraykey_num : Never m scope type.Arraykey type.Num
  arraykey_num h =
      none_below m scope HackType-F.Arraykey HackType-F.Num (out_of type.Arraykey HackType-F.Arraykey type.rolls-Arraykey) (out_of type.Num HackType-F.Num type.rolls-Num) bare_arraykey bare_num
      (record { other = λ e. cc; unknown = λ m. refl; extreme = refl; primitive = refl; not_null = λ m. refl; null = refl; this = refl })

  pub arraykey_str : Never m scope type.Arraykey type.Str
  arraykey_str h =
      none_below m scope HackType-F.Arraykey HackType-F.Str (out_of type.Arraykey HackType-F.Arraykey type.rolls-Arraykey) (out_of type.Str HackType-F.Str type.rolls-Str) bare_arraykey bare_str
      (record { other = λ e. cc; unknown = λ m. refl; extreme = refl; primitive = refl; not_null = λ m. refl; null = refl; this = refl })

  pub arraykey_bool : Never m scope type.Arraykey type.Bool
  arraykey_bool h =
      none_below m scope HackType-F.Arraykey HackType-F.Bool (out_of type.Arraykey HackType-F.Arraykey type.rolls-Arraykey) (out_of type.Bool HackType-F.Bool type.rolls-Bool) bare_arraykey bare_bool
      (record { other = λ e. cc; unknown = λ m. refl; extreme = refl; primitive = refl; not_null = λ m. refl; null = refl; this = refl })
