-- Written types: the types that they are, and their diagnostics (docs/language.md, Written types). The written types of an alias are looked
-- at in a scope without a class that has the alias's parameters as those of a function.
use Rattle.std.specs.Prelude.{ℕ, ◌==◌, ◌&&◌, ◌||◌, not, nat_le, Bool, true, false, if◌then◌else◌, Option, Some, None, List, [], ◌∷◌, length, map, is_none, is_some, codes}
use Rattle.std.specs.List.{list_all}
use Rattle.hack_tree.specs.declared.written_type.Container.{Container}
use Rattle.hack_tree.specs.declared.written_type.Container.TheVariants as container
use Rattle.hack_tree.specs.declared.written_type.WrittenType.{WrittenType}
use Rattle.hack_tree.specs.declared.written_type.ClassType.{ClassType}
use Rattle.hack_tree.specs.declared.written_type.WrittenType.TheOpen.{WrittenType-F, ClassType-F, FieldType-F}
use Rattle.hack_tree.specs.declared.written_type.WrittenType.TheFolds.{fold-WrittenType, fold-ClassType}
use Rattle.hack_types.specs.OptionOf.{option_of}
use Rattle.hack_types.specs.Substituted.{most_nodes, substitute}
use Rattle.hack_types.specs.TypeNodes.{nodes}
use Rattle.hack_types.specs.TypeText.{name_text}
use Rattle.hack_types.specs.declared.fields.Field.{Field}
use Rattle.hack_types.specs.declared.hack_type.HackType.{HackType}
use Rattle.hack_types.specs.declared.hack_type.HackType.TheVariants as type
use Rattle.hack_types.specs.declared.place.Place.{Place}
use Rattle.hack_types.specs.declared.signature.TypeParam.{TypeParam}
use Rattle.hack_shallow.specs.Resolved.{container_type, last_fields, primitive_type}
use Rattle.hack_types.specs.Substituted.{limited}
use Rattle.hack_shallow.specs.Scope.{Scope as Names, first_at, named}
use Rattle.hack_decls.specs.DeclState.{Map}
use Rattle.hack_decls.specs.Names.{class_symbol}
use Rattle.hack_decls.specs.declared.folded.Folded.{Folded}
use Rattle.hack_decls.specs.declared.folded.Folded.TheVariants as folded
use Rattle.hack_sub.specs.IsBelow.{is_below}
use Rattle.hack_sub.specs.Knowing.{is_trait, parameters_by}
use Rattle.hack_sub.specs.Scopes.{class_params_by}
use Rattle.hack_sub.specs.Sub.{most_height}
use Rattle.hack_sub.specs.declared.scope.Scope.{Scope}
use Rattle.hack_diag.specs.Messages.{field_twice, not_allowed, other_arguments, out_of_bounds, too_big, trait_as_type, unbound_type}
use Rattle.hack_rules.specs.Walks.{Walk, ◌>>=◌, ◌>>◌, pure, reads, report, unless, for_each, for_pairs}

-- ---- bounds

-- the type is below each bound behind `as`, and each behind `super` is below it, with what stands for parameters put into the bounds
unfoldable pub is_within : Map → Scope → (HackType → HackType) → TypeParam → HackType → Bool
is_within map scope put param ty =
    list_all (λ bound. is_below map scope most_height ty (put bound)) param.upper
    && list_all (λ bound. is_below map scope most_height (put bound) ty) param.lower

-- 3212 where a type isn't within the bounds of the parameter that it stands for
unfoldable pub expect_within : (HackType → HackType) → Place → TypeParam → HackType → Walk (Unit {0})
expect_within put at param ty = do
  fits ← reads (λ map scope. is_within map scope put param ty)
  unless fits at (out_of_bounds ty (λ names. name_text names param.name))

-- an argument that is written, and its place
pub record Argument : Type 0 where
  pub at : Place
  pub ty : HackType

-- the arguments of a declaration, each against its parameter
unfoldable pub expect_arguments : List TypeParam → List Argument → Walk (Unit {0})
expect_arguments params arguments =
    for_pairs (λ param argument. expect_within (λ bound. limited (substitute (map (λ a. a.ty) arguments) bound)) argument.at param argument.ty) params arguments

-- 3212 where the type of keys isn't below `arraykey`
unfoldable pub expect_key : Place → HackType → Walk (Unit {0})
expect_key at ty = do
  fits ← reads (λ map scope. is_below map scope most_height ty type.Arraykey)
  unless fits at (out_of_bounds ty (λ names. codes "Tk"))

-- ---- mentions

-- a written type to those around it: its place, the type that it is, and its diagnostics, with those of bounds or without
pub record Mention : Type 0 where
  pub at : Place
  pub ty : HackType
  pub checks : Bool → Walk (Unit {0})

-- a name with its arguments: besides, whether a trait may stand there
pub record ClassMention : Type 0 where
  pub at : Place
  pub ty : HackType
  pub checks : Bool → Bool → Walk (Unit {0})

-- a field of a shape
pub record FieldMention : Type 0 where
  pub optional : Bool
  pub at : Place
  pub key : ℕ
  pub value : Mention

-- the names of a scope's type parameters
abbrev pub names_of : Scope → Names
names_of scope =
    record { class = map (λ param. param.name) (class_params_by scope.class); function = map (λ param. param.name) scope.fun_params }

-- a name is a type parameter
abbrev pub is_parameter : Names → ℕ → Bool
is_parameter names name = is_some (first_at name names.function) || is_some (first_at name names.class)

-- what is declared is a trait
abbrev pub trait_by : Folded → Bool
trait_by (folded.ClassLike class) = is_trait class.sort
trait_by _ = false

-- a mention as an argument
abbrev pub argument_of : Mention → Argument
argument_of mention = record { at = mention.at; ty = limited mention.ty }

-- 3002 for another number of arguments; else each is within its bounds
unfoldable pub count_arguments : Bool → Place → ℕ → List TypeParam → List Mention → Walk (Unit {0})
count_arguments bounds at name params arguments =
    if not (length params == length arguments) then report at (other_arguments name (length params) (length arguments))
    else (if bounds then expect_arguments params (map argument_of arguments) else pure tt)

-- what a name that is no parameter must be: declared, and no trait but where one may stand
unfoldable pub declared_by : Bool → Bool → Place → ℕ → List Mention → Option Folded → Walk (Unit {0})
declared_by traits bounds at name arguments None = report at (unbound_type name)
declared_by traits bounds at name arguments (Some declaration) = do
  unless (traits || not (trait_by declaration)) at (trait_as_type name)
  count_arguments bounds at name (parameters_by (Some declaration)) arguments

-- the arguments, and then the name
unfoldable pub named_checks : Names → Place → ℕ → List Mention → Bool → Bool → Walk (Unit {0})
named_checks names at name arguments traits bounds = do
  for_each (λ argument. argument.checks bounds) arguments
  declaration ← reads (λ map scope. map (class_symbol name))
  if is_parameter names name then pure tt else declared_by traits bounds at name arguments declaration

-- 4020 for `this` outside a class
unfoldable pub this_checks : Place → Walk (Unit {0})
this_checks at = do
  outside ← reads (λ map scope. is_none scope.class)
  unless (not outside) at (not_allowed (codes "this"))

-- the type of elements of a keyset is a type of keys
abbrev pub container_checks : Container → Mention → Bool → Walk (Unit {0})
container_checks container.Vec element bounds = element.checks bounds
container_checks container.Keyset element bounds = do
  element.checks bounds
  if bounds then expect_key element.at (limited element.ty) else pure tt

-- the type of the keys is a type of keys
unfoldable pub dict_checks : Mention → Mention → Bool → Walk (Unit {0})
dict_checks key value bounds = do
  key.checks bounds
  value.checks bounds
  if bounds then expect_key key.at (limited key.ty) else pure tt

-- a key is one of these
abbrev pub is_key_of : ℕ → List ℕ → Bool
is_key_of key keys = not (list_all (λ k. not (k == key)) keys)

-- 4023 for a key that was given before
unfoldable pub fields_checks : List ℕ → List FieldMention → Bool → Walk (Unit {0})
fields_checks keys [] bounds = pure tt
fields_checks keys (field ∷ fields) bounds = do
  unless (not (is_key_of field.key keys)) field.at (field_twice field.key)
  field.value.checks bounds
  fields_checks (field.key ∷ keys) fields bounds

-- a field as a type has it
abbrev pub field_type : FieldMention → Field HackType
field_type field = record { key = field.key; optional = field.optional; ty = field.value.ty }

-- one level of a written type, one line a row of the page
unfoldable pub mention_by : WrittenType-F Mention ClassMention FieldMention → Mention
mention_by (WrittenType-F.Optional at inner) = record { at = at; ty = option_of inner.ty; checks = inner.checks }
mention_by (WrittenType-F.Primitive at primitive) = record { at = at; ty = primitive_type primitive; checks = λ bounds. pure tt }
mention_by (WrittenType-F.This at) = record { at = at; ty = type.This; checks = λ bounds. this_checks at }
mention_by (WrittenType-F.Container at c element) =
    record { at = at; ty = container_type c element.ty; checks = container_checks c element }
mention_by (WrittenType-F.Dict at key value) = record { at = at; ty = type.Dict key.ty value.ty; checks = dict_checks key value }
mention_by (WrittenType-F.Shape at fields open_) =
    record { at = at; ty = type.Shape (last_fields (map field_type fields)) open_; checks = fields_checks [] fields }
mention_by (WrittenType-F.Class class) = record { at = class.at; ty = class.ty; checks = class.checks false }

-- a name with its arguments
unfoldable pub class_by : Names → ClassType-F Mention ClassMention FieldMention → ClassMention
class_by names class = record {
  at = class.at;
  ty = named names class.name (map (λ argument. argument.ty) class.arguments);
  checks = named_checks names class.at class.name class.arguments;
}

-- a field
abbrev pub field_by : FieldType-F Mention ClassMention FieldMention → FieldMention
field_by field = record { optional = field.optional; at = field.key_at; key = field.key; value = field.value }

-- a written type to those around it
abbrev pub mention : Names → WrittenType → Mention
mention names = fold-WrittenType Mention ClassMention FieldMention mention_by (class_by names) field_by

-- a name with its arguments to those around it
abbrev pub class_mention : Names → ClassType → ClassMention
class_mention names = fold-ClassType Mention ClassMention FieldMention mention_by (class_by names) field_by

-- ---- whole written types

-- above 256 nodes it is 3006 and `_`, and no bounds are tried in it
unfoldable pub whole : Place → HackType → (Bool → Walk (Unit {0})) → Walk HackType
whole at ty checks = do
  checks (nat_le (nodes ty) most_nodes)
  unless (nat_le (nodes ty) most_nodes) at too_big
  pure (limited ty)

-- a written type from its outermost token
abbrev pub whole_mention : Mention → Walk HackType
whole_mention m = whole m.at m.ty m.checks

-- a name from its outermost token
abbrev pub whole_class : Bool → ClassMention → Walk HackType
whole_class traits m = whole m.at m.ty (m.checks traits)

-- the type that a written type is, with its diagnostics
unfoldable pub written : WrittenType → Walk HackType
written ty = do
  names ← reads (λ map scope. names_of scope)
  whole_mention (mention names ty)

-- a name with its arguments, behind `extends`, `implements` and in `catch`
unfoldable pub written_class : ClassType → Walk HackType
written_class class = do
  names ← reads (λ map scope. names_of scope)
  whole_class false (class_mention names class)

-- the same behind `use`, where a trait stands
unfoldable pub used_trait : ClassType → Walk HackType
used_trait class = do
  names ← reads (λ map scope. names_of scope)
  whole_class true (class_mention names class)
