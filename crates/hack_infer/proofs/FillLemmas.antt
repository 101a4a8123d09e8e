-- What a type becomes where types are put into it: by its outermost constructor, and how many nodes that has at least.
use Rattle.std.proofs.Common.{◌≡◌, ◌+◌, ◌<◌, ◌≤◌, ℕ, Bool, Option, Some, None, List, [], ◌∷◌, length, map, take, get_or, sum, sum_by, refl, sym, ap, ◌∙◌, arith, subst, rules}
use Rattle.std.proofs.lemmas.Simd.{map-map}
use Rattle.std.proofs.lemmas.List.Sums.{sum-map, sum_by_more_le}
use Rattle.hack_types.specs.NodeLaws.{nodes_of_class, nodes_of_shape}
use Rattle.hack_types.specs.OptionOf.{option_by, option_of}
use Rattle.hack_types.specs.Rising.{FieldsRise}
use Rattle.hack_types.specs.TypeNodes.{nodes, node_count}
use Rattle.hack_types.specs.declared.fields.Field.{Field}
use Rattle.hack_types.specs.declared.hack_type.HackType.{HackType, out-HackType, roll-HackType, the_lemmas}
use Rattle.hack_types.specs.declared.hack_type.HackType.TheOpen.{HackType-F}
use Rattle.hack_types.specs.declared.hack_type.HackType.TheFolds.{fold-roll-HackType, fold_out-HackType}
use Rattle.hack_types.specs.declared.hack_type.HackType.TheVariants as v
use Rattle.hack_types.specs.formers.fields.Fields.{on_type}
use Rattle.hack_infer.specs.Filling.{Filling, at_position, filled, filled_by, this_or}

-- no type is without a node
count_positive : (layer : HackType-F ℕ) → 1 ≤ node_count layer
count_positive HackType-F.Any = omega arith
count_positive HackType-F.Mixed = omega arith
count_positive HackType-F.Nonnull = omega arith
count_positive HackType-F.Nothing = omega arith
count_positive HackType-F.Null = omega arith
count_positive HackType-F.Void = omega arith
count_positive HackType-F.Noreturn = omega arith
count_positive HackType-F.Bool = omega arith
count_positive HackType-F.Int = omega arith
count_positive HackType-F.Float = omega arith
count_positive HackType-F.Num = omega arith
count_positive HackType-F.Str = omega arith
count_positive HackType-F.Arraykey = omega arith
count_positive HackType-F.This = omega arith
count_positive (HackType-F.Option t) = omega arith
count_positive (HackType-F.Vector t) = omega arith
count_positive (HackType-F.Dict k t) = omega arith
count_positive (HackType-F.Keyset t) = omega arith
count_positive (HackType-F.Shape fields rest) = omega arith
count_positive (HackType-F.Class name types) = omega arith
count_positive (HackType-F.ClassParam position name) = omega arith
count_positive (HackType-F.FunParam position name) = omega arith
count_positive (HackType-F.Union types) = omega arith

pub nodes_positive : (type : HackType) → 1 ≤ nodes type
nodes_positive type = subst (λ n. 1 ≤ n) (sym (fold_out-HackType ℕ node_count type)) (count_positive _)

rolled : (type : HackType) → type ≡ roll-HackType (out-HackType type)
rolled type = search (rules, the_lemmas)

option_nodes : (type : HackType) → nodes type ≤ nodes (v.Option type)
option_nodes type = let e : nodes (v.Option type) ≡ 1 + nodes type = ap nodes (sym (v.rolls-Option type)) ∙ fold-roll-HackType ℕ node_count (HackType-F.Option type) in omega (arith, e)

itself : (type : HackType) → nodes type ≤ nodes type
itself type = omega arith

one_node : (type other : HackType) → nodes type ≡ 1 → nodes type ≤ nodes other
one_node type other e = omega (arith, e, nodes_positive other)

option_count : (type : HackType) (layer : HackType-F HackType) → type ≡ roll-HackType layer → nodes type ≤ nodes (option_by type layer)
option_count type HackType-F.Any is = itself type
option_count type HackType-F.Mixed is = itself type
option_count type HackType-F.Null is = itself type
option_count type (HackType-F.Option t) is = itself type
option_count type HackType-F.Nothing is = one_node type v.Null (ap nodes is ∙ fold-roll-HackType ℕ node_count HackType-F.Nothing)
option_count type HackType-F.Nonnull is = one_node type v.Mixed (ap nodes is ∙ fold-roll-HackType ℕ node_count HackType-F.Nonnull)
option_count type HackType-F.Void is = option_nodes type
option_count type HackType-F.Noreturn is = option_nodes type
option_count type HackType-F.Bool is = option_nodes type
option_count type HackType-F.Int is = option_nodes type
option_count type HackType-F.Float is = option_nodes type
option_count type HackType-F.Num is = option_nodes type
option_count type HackType-F.Str is = option_nodes type
option_count type HackType-F.Arraykey is = option_nodes type
option_count type HackType-F.This is = option_nodes type
option_count type (HackType-F.Vector t) is = option_nodes type
option_count type (HackType-F.Dict k t) is = option_nodes type
option_count type (HackType-F.Keyset t) is = option_nodes type
option_count type (HackType-F.Shape fields rest) is = option_nodes type
option_count type (HackType-F.Class name types) is = option_nodes type
option_count type (HackType-F.ClassParam position name) is = option_nodes type
option_count type (HackType-F.FunParam position name) is = option_nodes type
option_count type (HackType-F.Union types) is = option_nodes type

option_has_nodes : (type : HackType) → nodes type ≤ nodes (option_of type)
option_has_nodes type = option_count type (out-HackType type) (rolled type)

-- what stays in its place has one node, as `_` has
at_nodes : (parameter : HackType) (types : Option (List HackType)) (position : ℕ) → nodes parameter ≡ nodes v.Any
    → nodes (at_position parameter types position) ≡ nodes (at_position v.Any types position)
at_nodes parameter None position one = one
at_nodes parameter (Some types) position one = refl

this_nodes : (own : HackType) (o : Option HackType) → nodes own ≡ nodes v.Any → nodes (this_or own o) ≡ nodes (this_or v.Any o)
this_nodes own None one = one
this_nodes own (Some ty) one = refl

any_node : nodes v.Any ≡ 1
any_node = ap nodes (sym v.rolls-Any) ∙ fold-roll-HackType ℕ node_count HackType-F.Any

module _ (F : Filling) where
  abbrev put : HackType → HackType
  put = filled F

  abbrev by : HackType-F HackType → HackType
  by = filled_by F

  pub put_class : (name : ℕ) (types : List HackType) → filled F (v.Class name types) ≡ v.Class name (map (filled F) types)
  unfolding filled
  put_class name types = ap put (sym (v.rolls-Class name types)) ∙ fold-roll-HackType HackType by (HackType-F.Class name types) ∙ v.rolls-Class name (map put types)

  pub put_shape : (fields : List (Field HackType)) (rest : Bool) → filled F (v.Shape fields rest) ≡ v.Shape (map (on_type (filled F)) fields) rest
  unfolding filled
  put_shape fields rest = ap put (sym (v.rolls-Shape fields rest)) ∙ fold-roll-HackType HackType by (HackType-F.Shape fields rest) ∙ v.rolls-Shape (map (on_type put) fields) rest

  pub put_option : (type : HackType) → filled F (v.Option type) ≡ option_of (filled F type)
  unfolding filled
  put_option type = ap put (sym (v.rolls-Option type)) ∙ fold-roll-HackType HackType by (HackType-F.Option type)

  pub put_class_param : (position name : ℕ) → filled F (v.ClassParam position name) ≡ at_position (roll-HackType (HackType-F.ClassParam position name)) F.class position
  unfolding filled
  put_class_param position name = ap put (sym (v.rolls-ClassParam position name)) ∙ fold-roll-HackType HackType by (HackType-F.ClassParam position name)

  pub put_fun_param : (position name : ℕ) → filled F (v.FunParam position name) ≡ at_position (roll-HackType (HackType-F.FunParam position name)) F.function position
  unfolding filled
  put_fun_param position name = ap put (sym (v.rolls-FunParam position name)) ∙ fold-roll-HackType HackType by (HackType-F.FunParam position name)

  pub put_this : filled F v.This ≡ this_or (roll-HackType HackType-F.This) F.this
  unfolding filled
  put_this = ap put (sym v.rolls-This) ∙ fold-roll-HackType HackType by HackType-F.This

  pub put_vector : (type : HackType) → filled F (v.Vector type) ≡ v.Vector (filled F type)
  unfolding filled
  put_vector type = ap put (sym (v.rolls-Vector type)) ∙ fold-roll-HackType HackType by (HackType-F.Vector type) ∙ v.rolls-Vector (put type)

  pub put_keyset : (type : HackType) → filled F (v.Keyset type) ≡ v.Keyset (filled F type)
  unfolding filled
  put_keyset type = ap put (sym (v.rolls-Keyset type)) ∙ fold-roll-HackType HackType by (HackType-F.Keyset type) ∙ v.rolls-Keyset (put type)

  pub put_dict : (key value : HackType) → filled F (v.Dict key value) ≡ v.Dict (filled F key) (filled F value)
  unfolding filled
  put_dict key value = ap put (sym (v.rolls-Dict key value)) ∙ fold-roll-HackType HackType by (HackType-F.Dict key value) ∙ v.rolls-Dict (put key) (put value)

  -- what stands for a parameter, and for `this`
  pub class_param_is : (ty : HackType) (position name : ℕ) → ty ≡ v.ClassParam position name → at_position ty F.class position ≡ filled F ty
  class_param_is ty position name is =
      ap (λ (x : HackType). at_position x F.class position) (is ∙ sym (v.rolls-ClassParam position name)) ∙ sym (put_class_param position name) ∙ ap put (sym is)

  pub fun_param_is : (ty : HackType) (position name : ℕ) → ty ≡ v.FunParam position name → at_position ty F.function position ≡ filled F ty
  fun_param_is ty position name is =
      ap (λ (x : HackType). at_position x F.function position) (is ∙ sym (v.rolls-FunParam position name)) ∙ sym (put_fun_param position name) ∙ ap put (sym is)

  pub this_is : (ty : HackType) → ty ≡ v.This → this_or ty F.this ≡ filled F ty
  this_is ty is = ap (λ (x : HackType). this_or x F.this) (is ∙ sym v.rolls-This) ∙ sym put_this ∙ ap put (sym is)

  pub least_of_class_param : (position name : ℕ) → nodes (filled F (v.ClassParam position name)) ≡ nodes (at_position v.Any F.class position)
  least_of_class_param position name = ap nodes (put_class_param position name)
      ∙ at_nodes (roll-HackType (HackType-F.ClassParam position name)) F.class position (fold-roll-HackType ℕ node_count (HackType-F.ClassParam position name) ∙ sym any_node)

  pub least_of_fun_param : (position name : ℕ) → nodes (filled F (v.FunParam position name)) ≡ nodes (at_position v.Any F.function position)
  least_of_fun_param position name = ap nodes (put_fun_param position name)
      ∙ at_nodes (roll-HackType (HackType-F.FunParam position name)) F.function position (fold-roll-HackType ℕ node_count (HackType-F.FunParam position name) ∙ sym any_node)

  pub least_of_this : nodes (filled F v.This) ≡ nodes (this_or v.Any F.this)
  least_of_this = ap nodes put_this ∙ this_nodes (roll-HackType HackType-F.This) F.this (fold-roll-HackType ℕ node_count HackType-F.This ∙ sym any_node)

  pub least_of_vector : (type : HackType) → nodes (filled F (v.Vector type)) ≡ 1 + nodes (filled F type)
  least_of_vector type = ap nodes (put_vector type) ∙ ap nodes (sym (v.rolls-Vector (put type))) ∙ fold-roll-HackType ℕ node_count (HackType-F.Vector (put type))

  pub least_of_keyset : (type : HackType) → nodes (filled F (v.Keyset type)) ≡ 1 + nodes (filled F type)
  least_of_keyset type = ap nodes (put_keyset type) ∙ ap nodes (sym (v.rolls-Keyset (put type))) ∙ fold-roll-HackType ℕ node_count (HackType-F.Keyset (put type))

  pub least_of_dict : (key value : HackType) → nodes (filled F (v.Dict key value)) ≡ 1 + nodes (filled F key) + nodes (filled F value)
  least_of_dict key value = ap nodes (put_dict key value) ∙ ap nodes (sym (v.rolls-Dict (put key) (put value))) ∙ fold-roll-HackType ℕ node_count (HackType-F.Dict (put key) (put value))

  pub least_of_option : (type : HackType) → nodes (filled F type) ≤ nodes (filled F (v.Option type))
  least_of_option type = let e = ap nodes (put_option type) in let le = option_has_nodes (put type) in omega (arith, e, le)

  pub least_of_class : (name : ℕ) (types : List HackType) → nodes (filled F (v.Class name types)) ≡ 1 + sum_by (λ ty. nodes (filled F ty)) types
  least_of_class name types =
      ap nodes (put_class name types) ∙ nodes_of_class name (map put types)
      ∙ ap (λ n. 1 + n) (sym (sum-map nodes (map put types)) ∙ ap sum (map-map nodes put types) ∙ sum-map (λ ty. nodes (put ty)) types)

  pub least_of_shape : (fields : List (Field HackType)) (rest : Bool) → nodes (filled F (v.Shape fields rest)) ≡ 1 + sum_by (λ field. nodes (filled F field.ty)) fields
  least_of_shape fields rest =
      let of_field : Field HackType → ℕ = λ field. nodes field.ty in
      ap nodes (put_shape fields rest) ∙ nodes_of_shape (map (on_type put) fields) rest
      ∙ ap (λ n. 1 + n) (sym (sum-map of_field (map (on_type put) fields)) ∙ ap sum (map-map of_field (on_type put) fields) ∙ sum-map (λ field. nodes (put field.ty)) fields)

  pub more_of_all : (types : List HackType) (i : ℕ) (d : HackType) → i < length types
      → sum_by (λ ty. nodes (filled F ty)) (take i types) + nodes (filled F (get_or types i d)) ≤ sum_by (λ ty. nodes (filled F ty)) types
  more_of_all = sum_by_more_le (λ ty. nodes (put ty))

  pub more_of_fields : (fields : List (Field HackType)) (i : ℕ) (d : Field HackType) → i < length fields
      → sum_by (λ field. nodes (filled F field.ty)) (take i fields) + nodes (filled F (get_or fields i d).ty) ≤ sum_by (λ field. nodes (filled F field.ty)) fields
  more_of_fields = sum_by_more_le (λ field. nodes (put field.ty))

  -- putting types into fields leaves their keys
  keys_stay : (fields : List (Field HackType)) → map (λ (field : Field HackType). field.key) (map (on_type put) fields) ≡ map (λ field. field.key) fields
  keys_stay [] = refl
  keys_stay (f ∷ fs) = ap (λ keys. f.key ∷ keys) (keys_stay fs)

  pub put_rise : (fields : List (Field HackType)) → FieldsRise fields → FieldsRise (map (on_type (filled F)) fields)
  put_rise fields rise = rw (keys_stay fields) rise
