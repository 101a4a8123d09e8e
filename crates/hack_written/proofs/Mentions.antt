-- One level of a written type: what is mentioned, what it names, and its place.
use Rattle.std.proofs.Common.{◌≡◌, ◌∙◌, Bool, false, List, [], ◌++◌, map, sym, ap, rules}
use Rattle.std.specs.List.{flat_map}
use Rattle.hack_tree.specs.declared.written_type.ClassType.{ClassType}
use Rattle.hack_tree.specs.declared.written_type.Container.{Container}
use Rattle.hack_tree.specs.declared.written_type.FieldType.{FieldType}
use Rattle.hack_tree.specs.declared.written_type.Primitive.{Primitive}
use Rattle.hack_tree.specs.declared.written_type.WrittenType.{WrittenType, out-WrittenType, roll-WrittenType, the_lemmas}
use Rattle.hack_tree.specs.declared.written_type.WrittenType.TheOpen.{WrittenType-F}
use Rattle.hack_tree.specs.declared.written_type.WrittenType.TheFolds.{fold-roll-WrittenType, fold_out-ClassType, fold_out-FieldType}
use Rattle.hack_tree.specs.declared.written_type.WrittenType.TheVariants as written
use Rattle.hack_types.specs.OptionOf.{option_of}
use Rattle.hack_types.specs.declared.hack_type.HackType.TheVariants as type
use Rattle.hack_types.specs.declared.place.Place.{Place}
use Rattle.hack_shallow.specs.Resolved.{container_type, last_fields, primitive_type}
use Rattle.hack_shallow.specs.Scope.{Scope as Names, named}
use Rattle.hack_rules.specs.Walks.{pure}
use Rattle.hack_rules.specs.WrittenTypes.{ClassMention, FieldMention, Mention, class_by, class_mention, container_checks, dict_checks, field_by, field_type, fields_checks, mention, mention_by, named_checks, this_checks}
use Rattle.hack_written.specs.Within.{place_by, place_of}
use Rattle.hack_written.specs.WrittenIn.{Mentioned, class_symbols_by, class_symbols_of, field_symbols_by, field_symbols_of, name_symbols, symbols_by, symbols_of}
use Rattle.hack_written.specs.inside.Rows.{field_mention, field_mentions, mentions}

module _ (names : Names) where
  pub optional : (at : Place) (inner : WrittenType) → mention names (written.Optional at inner) ≡ record { at = at; ty = option_of (mention names inner).ty; checks = (mention names inner).checks }
  unfolding mention_by
  optional at inner = ap (mention names) (sym (written.rolls-Optional at inner)) ∙ fold-roll-WrittenType Mention ClassMention FieldMention mention_by (class_by names) field_by (WrittenType-F.Optional at inner)

  pub primitive : (at : Place) (p : Primitive) → mention names (written.Primitive at p) ≡ record { at = at; ty = primitive_type p; checks = λ bounds. pure tt }
  unfolding mention_by
  primitive at p = ap (mention names) (sym (written.rolls-Primitive at p)) ∙ fold-roll-WrittenType Mention ClassMention FieldMention mention_by (class_by names) field_by (WrittenType-F.Primitive at p)

  pub this : (at : Place) → mention names (written.This at) ≡ record { at = at; ty = type.This; checks = λ bounds. this_checks at }
  unfolding mention_by
  this at = ap (mention names) (sym (written.rolls-This at)) ∙ fold-roll-WrittenType Mention ClassMention FieldMention mention_by (class_by names) field_by (WrittenType-F.This at)

  pub container : (at : Place) (c : Container) (element : WrittenType) → mention names (written.Container at c element)
      ≡ record { at = at; ty = container_type c (mention names element).ty; checks = container_checks c (mention names element) }
  unfolding mention_by
  container at c element = ap (mention names) (sym (written.rolls-Container at c element)) ∙ fold-roll-WrittenType Mention ClassMention FieldMention mention_by (class_by names) field_by (WrittenType-F.Container at c element)

  pub dict : (at : Place) (key value : WrittenType) → mention names (written.Dict at key value)
      ≡ record { at = at; ty = type.Dict (mention names key).ty (mention names value).ty; checks = dict_checks (mention names key) (mention names value) }
  unfolding mention_by
  dict at key value = ap (mention names) (sym (written.rolls-Dict at key value)) ∙ fold-roll-WrittenType Mention ClassMention FieldMention mention_by (class_by names) field_by (WrittenType-F.Dict at key value)

  pub shape : (at : Place) (fields : List FieldType) (rest : Bool) → mention names (written.Shape at fields rest)
      ≡ record { at = at; ty = type.Shape (last_fields (map field_type (field_mentions names fields))) rest; checks = fields_checks [] (field_mentions names fields) }
  unfolding mention_by
  shape at fields rest = ap (mention names) (sym (written.rolls-Shape at fields rest)) ∙ fold-roll-WrittenType Mention ClassMention FieldMention mention_by (class_by names) field_by (WrittenType-F.Shape at fields rest)

  pub class_type : (class : ClassType) → mention names (written.Class class)
      ≡ record { at = (class_mention names class).at; ty = (class_mention names class).ty; checks = (class_mention names class).checks false }
  unfolding mention_by
  class_type class = ap (mention names) (sym (written.rolls-Class class)) ∙ fold-roll-WrittenType Mention ClassMention FieldMention mention_by (class_by names) field_by (WrittenType-F.Class class)

  pub class : (c : ClassType) → class_mention names c ≡ record {
    at = c.at;
    ty = named names c.name (map (λ m. m.ty) (mentions names c.arguments));
    checks = named_checks names c.at c.name (mentions names c.arguments);
  }
  unfolding class_by
  class c = fold_out-ClassType Mention ClassMention FieldMention mention_by (class_by names) field_by c

  pub field : (f : FieldType) → field_mention names f ≡ record { optional = f.optional; at = f.key_at; key = f.key; value = mention names f.value }
  field f = fold_out-FieldType Mention ClassMention FieldMention mention_by (class_by names) field_by f

  -- the place
  at_layer : (layer : WrittenType-F WrittenType ClassType FieldType) → (mention names (roll-WrittenType layer)).at ≡ place_by layer
  unfolding mention_by class_by
  at_layer (WrittenType-F.Optional at inner) = ap (λ (m : Mention). m.at) (fold-roll-WrittenType Mention ClassMention FieldMention mention_by (class_by names) field_by (WrittenType-F.Optional at inner))
  at_layer (WrittenType-F.Primitive at p) = ap (λ (m : Mention). m.at) (fold-roll-WrittenType Mention ClassMention FieldMention mention_by (class_by names) field_by (WrittenType-F.Primitive at p))
  at_layer (WrittenType-F.This at) = ap (λ (m : Mention). m.at) (fold-roll-WrittenType Mention ClassMention FieldMention mention_by (class_by names) field_by (WrittenType-F.This at))
  at_layer (WrittenType-F.Container at c element) = ap (λ (m : Mention). m.at) (fold-roll-WrittenType Mention ClassMention FieldMention mention_by (class_by names) field_by (WrittenType-F.Container at c element))
  at_layer (WrittenType-F.Dict at key value) = ap (λ (m : Mention). m.at) (fold-roll-WrittenType Mention ClassMention FieldMention mention_by (class_by names) field_by (WrittenType-F.Dict at key value))
  at_layer (WrittenType-F.Shape at fields rest) = ap (λ (m : Mention). m.at) (fold-roll-WrittenType Mention ClassMention FieldMention mention_by (class_by names) field_by (WrittenType-F.Shape at fields rest))
  at_layer (WrittenType-F.Class c) =
      ap (λ (m : Mention). m.at) (fold-roll-WrittenType Mention ClassMention FieldMention mention_by (class_by names) field_by (WrittenType-F.Class c))
      ∙ ap (λ (m : ClassMention). m.at) (fold_out-ClassType Mention ClassMention FieldMention mention_by (class_by names) field_by c)

  opened : (ty : WrittenType) → ty ≡ roll-WrittenType (out-WrittenType ty)
  opened ty = search (rules, the_lemmas)

  pub place : (ty : WrittenType) → (mention names ty).at ≡ place_of ty
  place ty = ap (λ t. (mention names t).at) (opened ty) ∙ at_layer (out-WrittenType ty)

  -- what is named
  pub optional_symbols : (at : Place) (inner : WrittenType) → symbols_of names (written.Optional at inner) ≡ symbols_of names inner
  optional_symbols at inner = ap (symbols_of names) (sym (written.rolls-Optional at inner)) ∙ fold-roll-WrittenType Mentioned Mentioned Mentioned symbols_by (class_symbols_by names) field_symbols_by (WrittenType-F.Optional at inner)

  pub container_symbols : (at : Place) (c : Container) (element : WrittenType) → symbols_of names (written.Container at c element) ≡ symbols_of names element
  container_symbols at c element = ap (symbols_of names) (sym (written.rolls-Container at c element)) ∙ fold-roll-WrittenType Mentioned Mentioned Mentioned symbols_by (class_symbols_by names) field_symbols_by (WrittenType-F.Container at c element)

  pub dict_symbols : (at : Place) (key value : WrittenType) → symbols_of names (written.Dict at key value) ≡ symbols_of names key ++ symbols_of names value
  dict_symbols at key value = ap (symbols_of names) (sym (written.rolls-Dict at key value)) ∙ fold-roll-WrittenType Mentioned Mentioned Mentioned symbols_by (class_symbols_by names) field_symbols_by (WrittenType-F.Dict at key value)

  pub shape_symbols : (at : Place) (fields : List FieldType) (rest : Bool) → symbols_of names (written.Shape at fields rest) ≡ flat_map (λ symbols. symbols) (map (field_symbols_of names) fields)
  shape_symbols at fields rest = ap (symbols_of names) (sym (written.rolls-Shape at fields rest)) ∙ fold-roll-WrittenType Mentioned Mentioned Mentioned symbols_by (class_symbols_by names) field_symbols_by (WrittenType-F.Shape at fields rest)

  pub class_type_symbols : (c : ClassType) → symbols_of names (written.Class c) ≡ class_symbols_of names c
  class_type_symbols c = ap (symbols_of names) (sym (written.rolls-Class c)) ∙ fold-roll-WrittenType Mentioned Mentioned Mentioned symbols_by (class_symbols_by names) field_symbols_by (WrittenType-F.Class c)

  pub class_symbols : (c : ClassType) → class_symbols_of names c ≡ name_symbols names c.name ++ flat_map (λ symbols. symbols) (map (symbols_of names) c.arguments)
  class_symbols c = fold_out-ClassType Mentioned Mentioned Mentioned symbols_by (class_symbols_by names) field_symbols_by c

  pub field_symbols : (f : FieldType) → field_symbols_of names f ≡ symbols_of names f.value
  field_symbols f = fold_out-FieldType Mentioned Mentioned Mentioned symbols_by (class_symbols_by names) field_symbols_by f
