-- Indices go well, as values and as targets.
use Rattle.std.proofs.Common.{ℕ, ◌==◌, Bool, true, false, Option, Some, None, List, [], ◌∷◌}
use Rattle.std.specs.List.{find}
use Rattle.hack_types.specs.declared.fields.Field.{Field}
use Rattle.hack_types.specs.declared.hack_type.HackType.{HackType, out-HackType}
use Rattle.hack_types.specs.declared.hack_type.HackType.TheOpen.{HackType-F}
use Rattle.hack_types.specs.declared.place.Place.{Place}
use Rattle.hack_rules.specs.Indices.{class_element, dict_with, element, element_at, element_by, element_or, expect_index, field_or, indexed_by, key_of, keyed_element, keyset_with, optional_field, shape_element, shape_with, vector_with, with_element, with_element_by}
use Rattle.hack_rules.specs.Meanings.{Index}
use Rattle.hack_rules.specs.Variables.{Variables}
use Rattle.hack_rules.proofs.Steps.{Free, Goes, free_reads, goes_expect, goes_next, goes_pure, goes_refuse, goes_report, goes_then}

module _ {base : Variables} where
  goes_element_at : (index : Index) (key value : HackType) → Goes base Free (element_at index key value)
  unfolding element_at
  goes_element_at _ _ _ = goes_next (goes_expect _ _ _) (goes_pure _ tt)

  goes_optional : (at : Place) (field : Field HackType) (left : Bool) (optional : Bool) → Goes base Free (optional_field at left field optional)
  goes_optional _ _ true false = goes_pure _ tt
  goes_optional _ _ false false = goes_pure _ tt
  goes_optional _ _ true true = goes_pure _ tt
  goes_optional _ _ false true = goes_next (goes_report _ _) (goes_pure _ tt)

  goes_field_or : (at : Place) (key : ℕ) (left : Bool) (field : Option (Field HackType)) → Goes base Free (field_or at left key field)
  goes_field_or _ _ left (Some field) = goes_optional _ _ left field.optional
  goes_field_or _ _ left None = goes_refuse _ _

  goes_shape : (at : Place) (head : HackType) (left : Bool) (fields : List (Field HackType)) (key : Option ℕ) → Goes base Free (shape_element at left head fields key)
  goes_shape _ _ left fields (Some key) = goes_field_or _ _ left (find (λ field. field.key == key) fields)
  goes_shape _ _ left fields None = goes_refuse _ _

  goes_keyed : (at : Place) (head : HackType) (index : Index) (arguments : Option (List HackType)) → Goes base Free (keyed_element at head index arguments)
  goes_keyed _ _ _ (Some (key ∷ value ∷ [])) = goes_element_at _ _ _
  goes_keyed _ _ _ _ = goes_refuse _ _

  goes_class : (at : Place) (head : HackType) (index : Index) → Goes base Free (class_element at head index)
  unfolding class_element
  goes_class _ _ _ = goes_then (free_reads _) (λ arguments g. goes_keyed _ _ _ arguments)

  goes_indexed_by : (at : Place) (head : HackType) (left : Bool) (index : Index) (layer : HackType-F HackType) → Goes base Free (indexed_by at left head index layer)
  goes_indexed_by _ _ left index (HackType-F.Vector item) = goes_element_at _ _ _
  goes_indexed_by _ _ left index HackType-F.Str = goes_element_at _ _ _
  goes_indexed_by _ _ left index (HackType-F.Dict key value) = goes_element_at _ _ _
  goes_indexed_by _ _ left index (HackType-F.Keyset item) = goes_element_at _ _ _
  goes_indexed_by _ _ left index (HackType-F.Shape fields rest) = goes_shape _ _ left fields index.key
  goes_indexed_by _ _ left index (HackType-F.Class name arguments) = goes_class _ _ _
  goes_indexed_by _ _ left index _ = goes_refuse _ _

  goes_element_or : (at : Place) (left : Bool) (head : HackType) (index : Option Index) → Goes base Free (element_or at left head index)
  goes_element_or _ left head (Some index) = goes_indexed_by _ _ left index (out-HackType head)
  goes_element_or _ left head None = goes_refuse _ _

  goes_element_by : (at : Place) (left : Bool) (head : HackType) (index : Option Index) (layer : HackType-F HackType) → Goes base Free (element_by at left head index layer)
  goes_element_by _ left head index HackType-F.Any = goes_pure _ tt
  goes_element_by _ left head index (HackType-F.Option inside) = goes_refuse _ _
  goes_element_by _ left head index HackType-F.Null = goes_refuse _ _
  goes_element_by _ left head index _ = goes_element_or _ left head index

  pub goes_element : (at : Place) (ty : HackType) (left : Bool) (index : Option Index) → Goes base Free (element at left ty index)
  unfolding element
  goes_element _ _ left index = goes_then (free_reads _) (λ head g. goes_element_by _ left head index (out-HackType head))

  -- ---- as a target

  goes_expect_index : (key : HackType) (index : Option Index) → Goes base Free (expect_index key index)
  goes_expect_index _ None = goes_pure _ tt
  goes_expect_index _ (Some index) = goes_expect _ _ _

  goes_vector_with : (item new : HackType) (index : Option Index) → Goes base Free (vector_with item new index)
  unfolding vector_with
  goes_vector_with _ _ index = goes_next (goes_expect_index _ index) (goes_pure _ tt)

  goes_dict_with : (at : Place) (head key value new : HackType) (index : Option Index) → Goes base Free (dict_with at head key value new index)
  unfolding dict_with
  goes_dict_with _ _ _ _ _ None = goes_refuse _ _
  goes_dict_with _ _ _ _ _ (Some index) = goes_next (goes_expect _ _ _) (goes_pure _ tt)

  goes_keyset_with : (at value_at : Place) (head item new : HackType) (index : Option Index) → Goes base Free (keyset_with at value_at head item new index)
  unfolding keyset_with
  goes_keyset_with _ _ _ _ _ (Some index) = goes_refuse _ _
  goes_keyset_with _ _ _ _ _ None = goes_next (goes_expect _ _ _) (goes_pure _ tt)

  goes_shape_with : (at : Place) (head : HackType) (fields : List (Field HackType)) (rest : Bool) (new : HackType) (key : Option ℕ)
      → Goes base Free (shape_with at head fields rest new key)
  goes_shape_with _ _ _ _ _ None = goes_refuse _ _
  goes_shape_with _ _ _ _ _ (Some key) = goes_pure _ tt

  goes_with_by : (at value_at : Place) (head new : HackType) (index : Option Index) (layer : HackType-F HackType) → Goes base Free (with_element_by at value_at head new index layer)
  goes_with_by _ _ _ _ index HackType-F.Any = goes_pure _ tt
  goes_with_by _ _ _ _ index (HackType-F.Vector item) = goes_vector_with _ _ index
  goes_with_by _ _ _ _ index (HackType-F.Dict key value) = goes_dict_with _ _ _ _ _ index
  goes_with_by _ _ _ _ index (HackType-F.Keyset item) = goes_keyset_with _ _ _ _ _ index
  goes_with_by _ _ head new index (HackType-F.Shape fields rest) = goes_shape_with _ head fields rest new (key_of index)
  goes_with_by _ _ _ _ index _ = goes_refuse _ _

  pub goes_with_element : (at value_at : Place) (ty new : HackType) (index : Option Index) → Goes base Free (with_element at value_at ty index new)
  unfolding with_element
  goes_with_element _ _ _ _ index = goes_then (free_reads _) (λ head g. goes_with_by _ _ _ _ index (out-HackType head))
