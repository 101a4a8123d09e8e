-- Each written type goes well, along its tree.
use Rattle.std.proofs.Common.{◌≡◌, true, false, List, [], ◌∷◌, map, sym, subst}
use Rattle.std.specs.List.{AllByRecursion}
use Rattle.hack_tree.specs.declared.written_type.ClassType.{ClassType, roll-ClassType}
use Rattle.hack_tree.specs.declared.written_type.FieldType.{FieldType, roll-FieldType}
use Rattle.hack_tree.specs.declared.written_type.WrittenType.{WrittenType, roll-WrittenType}
use Rattle.hack_tree.specs.declared.written_type.WrittenType.TheOpen.{WrittenType-F, ClassType-F, FieldType-F}
use Rattle.hack_tree.specs.declared.written_type.WrittenType.TheFolds.{fold-FieldType, fold-roll-WrittenType, fold-roll-ClassType, fold-roll-FieldType, ind-WrittenType, ind-ClassType, map-WrittenType, map-ClassType, map-FieldType}
use Rattle.hack_shallow.specs.Scope.{Scope as Names}
use Rattle.hack_rules.specs.Variables.{Variables}
use Rattle.hack_rules.specs.WrittenTypes.{ClassMention, FieldMention, Mention, class_by, class_mention, field_by, mention, mention_by, written, written_class, used_trait}
use Rattle.hack_rules.proofs.Steps.{Free, Goes, free_reads, goes_pure, goes_then}
use Rattle.hack_rules.proofs.WrittenTypes.{GoodClass, GoodField, GoodMention, good_class, goes_container_checks, goes_dict_checks, goes_fields_checks, goes_this_checks, goes_whole}

module _ (base : Variables) (names : Names) where
  abbrev field_mention : FieldType → FieldMention
  field_mention = fold-FieldType Mention ClassMention FieldMention mention_by (class_by names) field_by

  abbrev OfType : WrittenType → Type 0
  OfType w = GoodMention base (mention names w)

  abbrev OfClass : ClassType → Type 0
  OfClass c = GoodClass base (class_mention names c)

  abbrev OfField : FieldType → Type 0
  OfField f = GoodField base (field_mention f)

  abbrev ToldType : Type 0
  ToldType = (w : WrittenType) × OfType w

  abbrev ToldClass : Type 0
  ToldClass = (c : ClassType) × OfClass c

  abbrev ToldField : Type 0
  ToldField = (f : FieldType) × OfField f

  all_types : (told : List ToldType) → AllByRecursion (GoodMention base) (map (mention names) (map (λ (e : ToldType). e.0) told))
  all_types [] = tt
  all_types (e ∷ told) = (e.1, all_types told)

  all_fields : (told : List ToldField) → AllByRecursion (GoodField base) (map field_mention (map (λ (e : ToldField). e.0) told))
  all_fields [] = tt
  all_fields (e ∷ told) = (e.1, all_fields told)

  abbrev bare_type : WrittenType-F ToldType ToldClass ToldField → WrittenType-F WrittenType ClassType FieldType
  bare_type = map-WrittenType ToldType ToldClass ToldField WrittenType ClassType FieldType (λ (e : ToldType). e.0) (λ (e : ToldClass). e.0) (λ (e : ToldField). e.0)

  abbrev bare_class : ClassType-F ToldType ToldClass ToldField → ClassType-F WrittenType ClassType FieldType
  bare_class = map-ClassType ToldType ToldClass ToldField WrittenType ClassType FieldType (λ (e : ToldType). e.0) (λ (e : ToldClass). e.0) (λ (e : ToldField). e.0)

  abbrev bare_field : FieldType-F ToldType ToldClass ToldField → FieldType-F WrittenType ClassType FieldType
  bare_field = map-FieldType ToldType ToldClass ToldField WrittenType ClassType FieldType (λ (e : ToldType). e.0) (λ (e : ToldClass). e.0) (λ (e : ToldField). e.0)

  good_type : (y : WrittenType-F ToldType ToldClass ToldField)
      → GoodMention base (mention_by (map-WrittenType WrittenType ClassType FieldType Mention ClassMention FieldMention (mention names) (class_mention names) field_mention (bare_type y)))
  unfolding mention_by
  good_type (WrittenType-F.Optional at inner) = record { checks = inner.1.checks }
  good_type (WrittenType-F.Primitive at primitive) = record { checks = λ bounds. goes_pure _ tt }
  good_type (WrittenType-F.This at) = record { checks = λ bounds. (goes_this_checks _) }
  good_type (WrittenType-F.Container at c element) = record { checks = goes_container_checks c element.1 }
  good_type (WrittenType-F.Dict at key value) = record { checks = goes_dict_checks key.1 value.1 }
  good_type (WrittenType-F.Shape at fields rest) =
      record { checks = goes_fields_checks [] (map field_mention (map (λ (e : ToldField). e.0) fields)) (all_fields fields) }
  good_type (WrittenType-F.Class class) = record { checks = class.1.checks false }

  of_type : (x : WrittenType-F WrittenType ClassType FieldType) (y : WrittenType-F ToldType ToldClass ToldField) → bare_type y ≡ x → OfType (roll-WrittenType x)
  of_type x y is = subst (λ z. OfType (roll-WrittenType z)) is
      (subst (GoodMention base) (sym (fold-roll-WrittenType Mention ClassMention FieldMention mention_by (class_by names) field_by (bare_type y))) (good_type y))

  of_class : (x : ClassType-F WrittenType ClassType FieldType) (y : ClassType-F ToldType ToldClass ToldField) → bare_class y ≡ x → OfClass (roll-ClassType x)
  unfolding class_by
  of_class x y is = subst (λ z. OfClass (roll-ClassType z)) is
      (subst (GoodClass base) (sym (fold-roll-ClassType Mention ClassMention FieldMention mention_by (class_by names) field_by (bare_class y)))
      (good_class names _ _ y.name (map (mention names) (map (λ (e : ToldType). e.0) y.arguments)) (all_types y.arguments)))

  of_field : (x : FieldType-F WrittenType ClassType FieldType) (y : FieldType-F ToldType ToldClass ToldField) → bare_field y ≡ x → OfField (roll-FieldType x)
  of_field x y is = subst (λ z. OfField (roll-FieldType z)) is
      (subst (GoodField base) (sym (fold-roll-FieldType Mention ClassMention FieldMention mention_by (class_by names) field_by (bare_field y)))
      (record { value = y.value.1 }))

  pub good_mention : (w : WrittenType) → GoodMention base (mention names w)
  good_mention = ind-WrittenType OfType OfClass OfField of_type of_class of_field

  pub good_class_mention : (c : ClassType) → GoodClass base (class_mention names c)
  good_class_mention = ind-ClassType OfType OfClass OfField of_type of_class of_field

module _ {base : Variables} where
  pub goes_written : (w : WrittenType) → Goes base Free (written w)
  unfolding written
  goes_written w = goes_then (free_reads _) (λ names g. goes_whole _ _ (good_mention base names w).checks)

  pub goes_written_class : (c : ClassType) → Goes base Free (written_class c)
  unfolding written_class
  goes_written_class c = goes_then (free_reads _) (λ names g. goes_whole _ _ ((good_class_mention base names c).checks false))

  pub goes_used_trait : (c : ClassType) → Goes base Free (used_trait c)
  unfolding used_trait
  goes_used_trait c = goes_then (free_reads _) (λ names g. goes_whole _ _ ((good_class_mention base names c).checks true))
