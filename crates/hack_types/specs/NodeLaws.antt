-- The nodes of a list of types, and of one of fields, as the layer of a type adds them.
use Rattle.std.proofs.Common.{◌≡◌, ◌+◌, ◌≤◌, ◌<◌, ℕ, Bool, List, length, map, sum, sum_by, take, get_or, sym, ap, ◌∙◌}
use Rattle.std.proofs.lemmas.Simd.{map-map}
use Rattle.std.proofs.lemmas.List.Sums.{sum-map, sum_by_more_le}
use Rattle.hack_types.specs.TypeNodes.{nodes, node_count}
use Rattle.hack_types.specs.declared.fields.Field.{Field}
use Rattle.hack_types.specs.declared.hack_type.HackType.{HackType}
use Rattle.hack_types.specs.declared.hack_type.HackType.TheOpen.{HackType-F}
use Rattle.hack_types.specs.declared.hack_type.HackType.TheFolds.{fold-roll-HackType}
use Rattle.hack_types.specs.declared.hack_type.HackType.TheVariants.{Shape, Class, Union, rolls-Shape, rolls-Class, rolls-Union}
use Rattle.hack_types.specs.formers.fields.Fields.{on_type}

abbrev field_nodes : Field HackType → ℕ
field_nodes field = nodes field.ty

pub of_all : (types : List HackType) → sum (map nodes types) ≡ sum_by nodes types
of_all = sum-map nodes

pub of_fields : (fields : List (Field HackType)) → sum_by (λ field. field.ty) (map (on_type nodes) fields) ≡ sum_by (λ field. nodes field.ty) fields
of_fields fields = sym (sum-map (λ field. field.ty) (map (on_type nodes) fields)) ∙ ap sum (map-map (λ field. field.ty) (on_type nodes) fields) ∙ sum-map field_nodes fields

pub more_of_all : (types : List HackType) (i : ℕ) (d : HackType) → i < length types → sum_by nodes (take i types) + nodes (get_or types i d) ≤ sum_by nodes types
more_of_all = sum_by_more_le nodes

pub more_of_fields : (fields : List (Field HackType)) (i : ℕ) (d : Field HackType) → i < length fields
    → sum_by (λ field. nodes field.ty) (take i fields) + nodes (get_or fields i d).ty ≤ sum_by (λ field. nodes field.ty) fields
more_of_fields = sum_by_more_le field_nodes

pub nodes_of_shape : (fields : List (Field HackType)) (rest : Bool) → nodes (Shape fields rest) ≡ 1 + sum_by (λ field. nodes field.ty) fields
nodes_of_shape fields rest = ap nodes (sym (rolls-Shape fields rest)) ∙ fold-roll-HackType ℕ node_count (HackType-F.Shape fields rest) ∙ ap (λ n. 1 + n) (of_fields fields)

pub nodes_of_class : (name : ℕ) (types : List HackType) → nodes (Class name types) ≡ 1 + sum_by nodes types
nodes_of_class name types = ap nodes (sym (rolls-Class name types)) ∙ fold-roll-HackType ℕ node_count (HackType-F.Class name types) ∙ ap (λ n. 1 + n) (of_all types)

pub nodes_of_union : (types : List HackType) → nodes (Union types) ≡ 1 + sum_by nodes types
nodes_of_union types = ap nodes (sym (rolls-Union types)) ∙ fold-roll-HackType ℕ node_count (HackType-F.Union types) ∙ ap (λ n. 1 + n) (of_all types)
