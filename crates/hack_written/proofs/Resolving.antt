-- A written type is resolved to the type that it is as a mention.
use Rattle.std.proofs.Common.{◌≡◌, ◌∙◌, List, [], ◌∷◌, map, refl, sym, ap, subst}
use Rattle.hack_tree.specs.declared.written_type.ClassType.{ClassType}
use Rattle.hack_tree.specs.declared.written_type.FieldType.{FieldType}
use Rattle.hack_tree.specs.declared.written_type.WrittenType.{WrittenType, roll-WrittenType}
use Rattle.hack_tree.specs.declared.written_type.WrittenType.TheOpen.{WrittenType-F, ClassType-F, FieldType-F}
use Rattle.hack_tree.specs.declared.written_type.WrittenType.TheViews.{roll-ClassType, roll-FieldType}
use Rattle.hack_tree.specs.declared.written_type.WrittenType.TheFolds.{fold-roll-WrittenType, fold_out-ClassType, fold_out-FieldType, ind-WrittenType, ind-ClassType, map-WrittenType, map-ClassType, map-FieldType}
use Rattle.hack_types.specs.OptionOf.{option_of}
use Rattle.hack_types.specs.declared.fields.Field.{Field}
use Rattle.hack_types.specs.declared.hack_type.HackType.{HackType}
use Rattle.hack_types.specs.declared.hack_type.HackType.TheVariants as type
use Rattle.hack_shallow.specs.Resolved as resolving
use Rattle.hack_shallow.specs.Resolved.{container_type, last_fields, resolved, resolved_class, resolved_field, type_by}
use Rattle.hack_shallow.specs.Scope.{Scope as Names, named}
use Rattle.hack_rules.specs.WrittenTypes.{ClassMention, FieldMention, Mention, class_by, class_mention, field_by, field_type, mention, mention_by}
use Rattle.hack_written.proofs.Mentions as one
use Rattle.hack_written.specs.inside.Rows.{field_mention, field_mentions, types_in}

module _ (names : Names) where
  abbrev SameType : WrittenType → Type 0
  SameType ty = resolved names ty ≡ (mention names ty).ty

  abbrev SameClass : ClassType → Type 0
  SameClass class = resolved_class names class ≡ (class_mention names class).ty

  abbrev SameField : FieldType → Type 0
  SameField field = resolved_field names field ≡ field_type (field_mention names field)

  abbrev ToldType : Type 0
  ToldType = (ty : WrittenType) × SameType ty

  abbrev ToldClass : Type 0
  ToldClass = (class : ClassType) × SameClass class

  abbrev ToldField : Type 0
  ToldField = (field : FieldType) × SameField field

  -- by both folds
  seen : (layer : WrittenType-F WrittenType ClassType FieldType) → resolved names (roll-WrittenType layer) ≡ type_by (map-WrittenType _ _ _ _ _ _ (resolved names) (resolved_class names) (resolved_field names) layer)
  seen layer = fold-roll-WrittenType HackType HackType (Field HackType) type_by (resolving.class_by names) resolving.field_by layer

  types_of_all : (told : List ToldType) → map (resolved names) (map (λ e. e.0) told) ≡ types_in names (map (λ e. e.0) told)
  types_of_all [] = refl
  types_of_all (e ∷ told) = λ i. e.1 i ∷ types_of_all told i

  fields_of_all : (told : List ToldField) → map (resolved_field names) (map (λ e. e.0) told) ≡ map field_type (field_mentions names (map (λ e. e.0) told))
  fields_of_all [] = refl
  fields_of_all (e ∷ told) = λ i. e.1 i ∷ fields_of_all told i

  mentioned : (layer : WrittenType-F WrittenType ClassType FieldType) → mention names (roll-WrittenType layer) ≡ mention_by (map-WrittenType _ _ _ _ _ _ (mention names) (class_mention names) (field_mention names) layer)
  mentioned layer = fold-roll-WrittenType Mention ClassMention FieldMention mention_by (class_by names) field_by layer

  one_type : (x : WrittenType-F WrittenType ClassType FieldType) (y : WrittenType-F ToldType ToldClass ToldField)
      → map-WrittenType _ _ _ _ _ _ (λ (e : ToldType). e.0) (λ (e : ToldClass). e.0) (λ (e : ToldField). e.0) y ≡ x → SameType (roll-WrittenType x)
  unfolding mention_by
  one_type x (WrittenType-F.Optional at e) is = subst (λ l. SameType (roll-WrittenType l)) is
      (seen (WrittenType-F.Optional at e.0) ∙ ap option_of e.1 ∙ sym (ap (λ (m : Mention). m.ty) (mentioned (WrittenType-F.Optional at e.0))))
  one_type x (WrittenType-F.Primitive at p) is = subst (λ l. SameType (roll-WrittenType l)) is
      (seen (WrittenType-F.Primitive at p) ∙ sym (ap (λ (m : Mention). m.ty) (mentioned (WrittenType-F.Primitive at p))))
  one_type x (WrittenType-F.This at) is = subst (λ l. SameType (roll-WrittenType l)) is
      (seen (WrittenType-F.This at) ∙ sym (ap (λ (m : Mention). m.ty) (mentioned (WrittenType-F.This at))))
  one_type x (WrittenType-F.Container at c e) is = subst (λ l. SameType (roll-WrittenType l)) is
      (seen (WrittenType-F.Container at c e.0) ∙ ap (container_type c) e.1 ∙ sym (ap (λ (m : Mention). m.ty) (mentioned (WrittenType-F.Container at c e.0))))
  one_type x (WrittenType-F.Dict at k v) is = subst (λ l. SameType (roll-WrittenType l)) is
      (seen (WrittenType-F.Dict at k.0 v.0) ∙ (λ i. type.Dict (k.1 i) (v.1 i)) ∙ sym (ap (λ (m : Mention). m.ty) (mentioned (WrittenType-F.Dict at k.0 v.0))))
  one_type x (WrittenType-F.Shape at told rest) is = subst (λ l. SameType (roll-WrittenType l)) is
      (seen (WrittenType-F.Shape at (map (λ e. e.0) told) rest) ∙ ap (λ fs. type.Shape (last_fields fs) rest) (fields_of_all told)
      ∙ sym (ap (λ (m : Mention). m.ty) (mentioned (WrittenType-F.Shape at (map (λ e. e.0) told) rest))))
  one_type x (WrittenType-F.Class e) is = subst (λ l. SameType (roll-WrittenType l)) is
      (seen (WrittenType-F.Class e.0) ∙ e.1 ∙ sym (ap (λ (m : Mention). m.ty) (mentioned (WrittenType-F.Class e.0))))

  one_class : (x : ClassType-F WrittenType ClassType FieldType) (y : ClassType-F ToldType ToldClass ToldField)
      → map-ClassType _ _ _ _ _ _ (λ (e : ToldType). e.0) (λ (e : ToldClass). e.0) (λ (e : ToldField). e.0) y ≡ x → SameClass (roll-ClassType x)
  one_class x y is = let c = roll-ClassType (map-ClassType ToldType ToldClass ToldField WrittenType ClassType FieldType (λ e. e.0) (λ e. e.0) (λ e. e.0) y) in
      subst (λ l. SameClass (roll-ClassType l)) is
      (fold_out-ClassType HackType HackType (Field HackType) type_by (resolving.class_by names) resolving.field_by c
      ∙ ap (λ (types : List HackType). named names y.name types) (types_of_all y.arguments) ∙ sym (ap (λ (m : ClassMention). m.ty) (one.class names c)))

  one_field : (x : FieldType-F WrittenType ClassType FieldType) (y : FieldType-F ToldType ToldClass ToldField)
      → map-FieldType _ _ _ _ _ _ (λ (e : ToldType). e.0) (λ (e : ToldClass). e.0) (λ (e : ToldField). e.0) y ≡ x → SameField (roll-FieldType x)
  one_field x y is = let f = roll-FieldType (map-FieldType ToldType ToldClass ToldField WrittenType ClassType FieldType (λ e. e.0) (λ e. e.0) (λ e. e.0) y) in
      subst (λ l. SameField (roll-FieldType l)) is
      (fold_out-FieldType HackType HackType (Field HackType) type_by (resolving.class_by names) resolving.field_by f
      ∙ (λ i. record { key = y.key; optional = y.optional; ty = y.value.1 i }) ∙ sym (ap field_type (one.field names f)))

  pub same_type : (ty : WrittenType) → resolved names ty ≡ (mention names ty).ty
  same_type = ind-WrittenType SameType SameClass SameField one_type one_class one_field

  pub same_class : (class : ClassType) → resolved_class names class ≡ (class_mention names class).ty
  same_class = ind-ClassType SameType SameClass SameField one_type one_class one_field
