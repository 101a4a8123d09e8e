-- The tree that says that S is below T (docs/language.md, Subtyping): each node is an instance of a rule or of a half of one, and what
-- stands above it are its premises. The number bounds its height.
use Rattle.std.specs.Prelude.{◌≡◌, ◌<◌, ◌≤◌, ℕ, suc, Bool, true, false, Some, List, length, map, All, IsTrue, IsFalse, IsSome, MatchOption, slice_index_or}
use Rattle.hack_types.specs.Substituted.{most_nodes}
use Rattle.hack_types.specs.TypeNodes.{nodes}
use Rattle.hack_types.specs.declared.fields.Field.{Field}
use Rattle.hack_types.specs.declared.hack_type.HackType.{HackType}
use Rattle.hack_types.specs.declared.hack_type.HackType.TheVariants as type
use Rattle.hack_types.specs.declared.shallow.EnumSig.{EnumSig}
use Rattle.hack_types.specs.declared.signature.TypeParam.{TypeParam}
use Rattle.hack_types.specs.declared.signature.Variance.{Variance}
use Rattle.hack_types.specs.declared.signature.Variance.TheVariants as variance
use Rattle.hack_decls.specs.DeclState.{Map}
use Rattle.hack_sub.specs.Knowing.{enum_of, expanded, given, parameters}
use Rattle.hack_sub.specs.Parts.{arguments_of, as_keyed, dict_parts, is_open, keyset_item, name_of, option_inside, shape_fields, top_of, union_members, vector_item}
use Rattle.hack_sub.specs.Rules.{equal, extreme, field_at, not_null, null, primitive, unknown}
use Rattle.hack_sub.specs.Scopes.{class_type, param_of}
use Rattle.hack_sub.specs.Tops.{is_this}
use Rattle.hack_sub.specs.declared.scope.Scope.{Scope}

-- types that a tree may have at a node
abbrev pub Small : HackType → HackType → Type 0
Small S T = (nodes S ≤ most_nodes) × (nodes T ≤ most_nodes)

-- two shapes, apart from the types of their fields
abbrev pub meets_key : HackType → List (Field HackType) → Field HackType → Type 0
meets_key S fields field =
    MatchOption (field_at fields field.key) (IsTrue field.optional × IsFalse (is_open S)) (λ own. IsTrue own.optional → IsTrue field.optional)

abbrev pub Meet : HackType → HackType → List (Field HackType) → List (Field HackType) → Type 0
Meet S T fields others =
    (IsFalse (is_open T) → IsFalse (is_open S) × All (λ field. IsSome (field_at others field.key)) fields) × All (meets_key S fields) others

-- the sign of the parameter at this position
abbrev pub sign_at : List TypeParam → ℕ → Variance
sign_at params k = slice_index_or (map (λ param. param.variance) params) k variance.Invariant

abbrev pub goes_up : Variance → Bool
goes_up variance.Contravariant = false
goes_up _ = true

abbrev pub goes_down : Variance → Bool
goes_down variance.Covariant = false
goes_down _ = true

pub data Derives (m : Map) (scope : Scope) : ℕ → HackType → HackType → Type 0 where
  by_equal : {h : ℕ} {S T : HackType} → Small S T → equal S T → Derives m scope (suc h) S T
  by_unknown : {h : ℕ} {S T : HackType} → Small S T → unknown m S T → Derives m scope (suc h) S T
  by_extreme : {h : ℕ} {S T : HackType} → Small S T → extreme S T → Derives m scope (suc h) S T
  by_primitive : {h : ℕ} {S T : HackType} → Small S T → primitive S T → Derives m scope (suc h) S T
  by_not_null : {h : ℕ} {S T : HackType} → Small S T → not_null m S T → Derives m scope (suc h) S T
  by_null : {h : ℕ} {S T : HackType} → Small S T → null S T → Derives m scope (suc h) S T
  by_into_option : {h : ℕ} {S T : HackType} → Small S T → (U : HackType) → Some U ≡ option_inside T
      → Derives m scope h S U → Derives m scope (suc h) S T
  by_from_option : {h : ℕ} {S T : HackType} → Small S T → (U : HackType) → Some U ≡ option_inside S
      → Derives m scope h type.Null T → Derives m scope h U T → Derives m scope (suc h) S T
  by_from_union : {h : ℕ} {S T : HackType} → Small S T → (members : List HackType) → Some members ≡ union_members S
      → ((k : ℕ) → k < length members → Derives m scope h (slice_index_or members k type.Any) T) → Derives m scope (suc h) S T
  by_into_union : {h : ℕ} {S T : HackType} → Small S T → (members : List HackType) → Some members ≡ union_members T
      → (k : ℕ) → k < length members → Derives m scope h S (slice_index_or members k type.Any) → Derives m scope (suc h) S T
  by_vectors : {h : ℕ} {S T : HackType} → Small S T → (U V : HackType) → Some U ≡ vector_item S → Some V ≡ vector_item T
      → Derives m scope h U V → Derives m scope (suc h) S T
  by_dicts : {h : ℕ} {S T : HackType} → Small S T → (s t : HackType × HackType) → Some s ≡ dict_parts S → Some t ≡ dict_parts T
      → Derives m scope h s.0 t.0 → Derives m scope h s.1 t.1 → Derives m scope (suc h) S T
  by_keysets : {h : ℕ} {S T : HackType} → Small S T → (U V : HackType) → Some U ≡ keyset_item S → Some V ≡ keyset_item T
      → Derives m scope h U V → Derives m scope (suc h) S T
  by_keyed : {h : ℕ} {S T : HackType} → Small S T → (U : HackType) → IsSome (name_of T) → Some U ≡ as_keyed S
      → Derives m scope h U T → Derives m scope (suc h) S T
  by_from_alias : {h : ℕ} {S T : HackType} → Small S T → (U : HackType) → Some U ≡ expanded m S
      → Derives m scope h U T → Derives m scope (suc h) S T
  by_into_alias : {h : ℕ} {S T : HackType} → Small S T → (U : HackType) → Some U ≡ expanded m T
      → Derives m scope h S U → Derives m scope (suc h) S T
  by_shape : {h : ℕ} {S T : HackType} → Small S T → (fields others : List (Field HackType)) → Some fields ≡ shape_fields S
      → Some others ≡ shape_fields T → Meet S T fields others
      → ((k : ℕ) (own field : Field HackType) → k < length others → field ≡ slice_index_or others k field
      → Some own ≡ field_at fields field.key → Derives m scope h own.ty field.ty) → Derives m scope (suc h) S T
  by_class_types : {h : ℕ} {S T : HackType} → Small S T → (class name : ℕ) (arguments : List HackType) → Some class ≡ name_of S
      → Some name ≡ name_of T → Some arguments ≡ given m class (arguments_of S) name
      → length arguments ≡ length (parameters m name) → length (arguments_of T) ≡ length (parameters m name)
      → ((k : ℕ) → k < length arguments → IsTrue (goes_up (sign_at (parameters m name) k))
      → Derives m scope h (slice_index_or arguments k type.Any) (slice_index_or (arguments_of T) k type.Any))
      → ((k : ℕ) → k < length arguments → IsTrue (goes_down (sign_at (parameters m name) k))
      → Derives m scope h (slice_index_or (arguments_of T) k type.Any) (slice_index_or arguments k type.Any)) → Derives m scope (suc h) S T
  by_from_param : {h : ℕ} {S T : HackType} → Small S T → (param : TypeParam) → Some param ≡ param_of scope S
      → (k : ℕ) → k < length param.upper → Derives m scope h (slice_index_or param.upper k type.Any) T → Derives m scope (suc h) S T
  by_into_param : {h : ℕ} {S T : HackType} → Small S T → (param : TypeParam) → Some param ≡ param_of scope T
      → (k : ℕ) → k < length param.lower → Derives m scope h S (slice_index_or param.lower k type.Any) → Derives m scope (suc h) S T
  by_this : {h : ℕ} {S T : HackType} → Small S T → (U : HackType) → IsTrue (is_this (top_of S)) → Some U ≡ class_type scope
      → Derives m scope h U T → Derives m scope (suc h) S T
  by_enum_key : {h : ℕ} {S T : HackType} → Small S T → (sig : EnumSig) → Some sig ≡ enum_of m S
      → Derives m scope h type.Arraykey T → Derives m scope (suc h) S T
  by_enum_base : {h : ℕ} {S T : HackType} → Small S T → (sig : EnumSig) → Some sig ≡ enum_of m S → IsTrue sig.bounded
      → Derives m scope h sig.base T → Derives m scope (suc h) S T
