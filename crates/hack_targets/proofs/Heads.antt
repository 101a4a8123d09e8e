-- What a head is by its former.
use Rattle.std.proofs.Common.{◌≡◌, ◌∙◌, ℕ, Bool, Option, List, refl, ap, sym}
use Rattle.hack_types.specs.declared.fields.Field.{Field}
use Rattle.hack_types.specs.declared.hack_type.HackType.{HackType, out-HackType, roll-HackType}
use Rattle.hack_types.specs.declared.hack_type.HackType.TheOpen.{HackType-F}
use Rattle.hack_types.specs.declared.hack_type.HackType.TheVariants as type
use Rattle.hack_types.specs.declared.hack_type.HackType.TheViews.{out-roll-HackType}
use Rattle.hack_types.specs.declared.place.Place.{Place}
use Rattle.hack_diag.specs.Messages.{not_indexed}
use Rattle.hack_rules.specs.Indices.{indexed_by, with_element_by}
use Rattle.hack_rules.specs.Meanings.{Index}
use Rattle.hack_rules.specs.Walks.{refuse}
use Rattle.hack_sub.specs.NamesOf.{rolled}

-- the former of a type that is known
pub out_of : (head variant : HackType) (layer : HackType-F HackType) → head ≡ variant → roll-HackType layer ≡ variant → out-HackType head ≡ layer
out_of head variant layer is rolls = ap out-HackType (is ∙ sym rolls) ∙ out-roll-HackType layer

-- what has no element
module _ (at : Place) (left : Bool) (head : HackType) (index : Index) where
  other_layer : (layer : HackType-F HackType) → head ≡ roll-HackType layer
      → ((x : HackType) → head ≡ type.Vector x → ⊥) → (head ≡ type.Str → ⊥) → ((x y : HackType) → head ≡ type.Dict x y → ⊥) → ((x : HackType) → head ≡ type.Keyset x → ⊥) → ((x : List (Field HackType)) (y : Bool) → head ≡ type.Shape x y → ⊥) → ((x : ℕ) (y : List HackType) → head ≡ type.Class x y → ⊥)
      → indexed_by at left head index layer ≡ refuse at (not_indexed head)
  other_layer HackType-F.Any is no_vector no_str no_dict no_keyset no_shape no_class = refl
  other_layer HackType-F.Mixed is no_vector no_str no_dict no_keyset no_shape no_class = refl
  other_layer HackType-F.Nonnull is no_vector no_str no_dict no_keyset no_shape no_class = refl
  other_layer HackType-F.Nothing is no_vector no_str no_dict no_keyset no_shape no_class = refl
  other_layer HackType-F.Null is no_vector no_str no_dict no_keyset no_shape no_class = refl
  other_layer HackType-F.Void is no_vector no_str no_dict no_keyset no_shape no_class = refl
  other_layer HackType-F.Noreturn is no_vector no_str no_dict no_keyset no_shape no_class = refl
  other_layer HackType-F.Bool is no_vector no_str no_dict no_keyset no_shape no_class = refl
  other_layer HackType-F.Int is no_vector no_str no_dict no_keyset no_shape no_class = refl
  other_layer HackType-F.Float is no_vector no_str no_dict no_keyset no_shape no_class = refl
  other_layer HackType-F.Num is no_vector no_str no_dict no_keyset no_shape no_class = refl
  other_layer HackType-F.Str is no_vector no_str no_dict no_keyset no_shape no_class = absurd (no_str (is ∙ type.rolls-Str))
  other_layer HackType-F.Arraykey is no_vector no_str no_dict no_keyset no_shape no_class = refl
  other_layer HackType-F.This is no_vector no_str no_dict no_keyset no_shape no_class = refl
  other_layer (HackType-F.Option inside) is no_vector no_str no_dict no_keyset no_shape no_class = refl
  other_layer (HackType-F.Vector item) is no_vector no_str no_dict no_keyset no_shape no_class = absurd (no_vector item (is ∙ type.rolls-Vector item))
  other_layer (HackType-F.Dict key value) is no_vector no_str no_dict no_keyset no_shape no_class = absurd (no_dict key value (is ∙ type.rolls-Dict key value))
  other_layer (HackType-F.Keyset item) is no_vector no_str no_dict no_keyset no_shape no_class = absurd (no_keyset item (is ∙ type.rolls-Keyset item))
  other_layer (HackType-F.Shape fields rest) is no_vector no_str no_dict no_keyset no_shape no_class = absurd (no_shape fields rest (is ∙ type.rolls-Shape fields rest))
  other_layer (HackType-F.Class name arguments) is no_vector no_str no_dict no_keyset no_shape no_class = absurd (no_class name arguments (is ∙ type.rolls-Class name arguments))
  other_layer (HackType-F.ClassParam position name) is no_vector no_str no_dict no_keyset no_shape no_class = refl
  other_layer (HackType-F.FunParam position name) is no_vector no_str no_dict no_keyset no_shape no_class = refl
  other_layer (HackType-F.Union members) is no_vector no_str no_dict no_keyset no_shape no_class = refl

  pub other_head : ((x : HackType) → head ≡ type.Vector x → ⊥) → (head ≡ type.Str → ⊥) → ((x y : HackType) → head ≡ type.Dict x y → ⊥) → ((x : HackType) → head ≡ type.Keyset x → ⊥) → ((x : List (Field HackType)) (y : Bool) → head ≡ type.Shape x y → ⊥) → ((x : ℕ) (y : List HackType) → head ≡ type.Class x y → ⊥)
      → indexed_by at left head index (out-HackType head) ≡ refuse at (not_indexed head)
  other_head no_vector no_str no_dict no_keyset no_shape no_class = other_layer (out-HackType head) (rolled head) no_vector no_str no_dict no_keyset no_shape no_class

-- what can't get one
module _ (at value_at : Place) (head new : HackType) (index : Option Index) where
  fixed_layer : (layer : HackType-F HackType) → head ≡ roll-HackType layer
      → (head ≡ type.Any → ⊥) → ((x : HackType) → head ≡ type.Vector x → ⊥) → ((x y : HackType) → head ≡ type.Dict x y → ⊥) → ((x : HackType) → head ≡ type.Keyset x → ⊥) → ((x : List (Field HackType)) (y : Bool) → head ≡ type.Shape x y → ⊥)
      → with_element_by at value_at head new index layer ≡ refuse at (not_indexed head)
  fixed_layer HackType-F.Any is no_any no_vector no_dict no_keyset no_shape = absurd (no_any (is ∙ type.rolls-Any))
  fixed_layer HackType-F.Mixed is no_any no_vector no_dict no_keyset no_shape = refl
  fixed_layer HackType-F.Nonnull is no_any no_vector no_dict no_keyset no_shape = refl
  fixed_layer HackType-F.Nothing is no_any no_vector no_dict no_keyset no_shape = refl
  fixed_layer HackType-F.Null is no_any no_vector no_dict no_keyset no_shape = refl
  fixed_layer HackType-F.Void is no_any no_vector no_dict no_keyset no_shape = refl
  fixed_layer HackType-F.Noreturn is no_any no_vector no_dict no_keyset no_shape = refl
  fixed_layer HackType-F.Bool is no_any no_vector no_dict no_keyset no_shape = refl
  fixed_layer HackType-F.Int is no_any no_vector no_dict no_keyset no_shape = refl
  fixed_layer HackType-F.Float is no_any no_vector no_dict no_keyset no_shape = refl
  fixed_layer HackType-F.Num is no_any no_vector no_dict no_keyset no_shape = refl
  fixed_layer HackType-F.Str is no_any no_vector no_dict no_keyset no_shape = refl
  fixed_layer HackType-F.Arraykey is no_any no_vector no_dict no_keyset no_shape = refl
  fixed_layer HackType-F.This is no_any no_vector no_dict no_keyset no_shape = refl
  fixed_layer (HackType-F.Option inside) is no_any no_vector no_dict no_keyset no_shape = refl
  fixed_layer (HackType-F.Vector item) is no_any no_vector no_dict no_keyset no_shape = absurd (no_vector item (is ∙ type.rolls-Vector item))
  fixed_layer (HackType-F.Dict key value) is no_any no_vector no_dict no_keyset no_shape = absurd (no_dict key value (is ∙ type.rolls-Dict key value))
  fixed_layer (HackType-F.Keyset item) is no_any no_vector no_dict no_keyset no_shape = absurd (no_keyset item (is ∙ type.rolls-Keyset item))
  fixed_layer (HackType-F.Shape fields rest) is no_any no_vector no_dict no_keyset no_shape = absurd (no_shape fields rest (is ∙ type.rolls-Shape fields rest))
  fixed_layer (HackType-F.Class name arguments) is no_any no_vector no_dict no_keyset no_shape = refl
  fixed_layer (HackType-F.ClassParam position name) is no_any no_vector no_dict no_keyset no_shape = refl
  fixed_layer (HackType-F.FunParam position name) is no_any no_vector no_dict no_keyset no_shape = refl
  fixed_layer (HackType-F.Union members) is no_any no_vector no_dict no_keyset no_shape = refl

  pub fixed_head : (head ≡ type.Any → ⊥) → ((x : HackType) → head ≡ type.Vector x → ⊥) → ((x y : HackType) → head ≡ type.Dict x y → ⊥) → ((x : HackType) → head ≡ type.Keyset x → ⊥) → ((x : List (Field HackType)) (y : Bool) → head ≡ type.Shape x y → ⊥)
      → with_element_by at value_at head new index (out-HackType head) ≡ refuse at (not_indexed head)
  fixed_head no_any no_vector no_dict no_keyset no_shape = fixed_layer (out-HackType head) (rolled head) no_any no_vector no_dict no_keyset no_shape
