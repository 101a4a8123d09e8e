-- What the calls of the crate say to each other: a walk for each row of the page.
use Rattle.std.specs.Prelude.{◌≡◌, ℕ, Bool, true, false, not, ◌||◌, if◌then◌else◌, cond, Option, Some, None, List, [], map, All}
use Rattle.std.specs.BTreeMap.{BTreeMap, get, insert_entry}
use Rattle.std.specs.Ordering.{is_eq, nat_cmp}
use Rattle.hack_tree.specs.declared.written_type.ClassType.{ClassType}
use Rattle.hack_tree.specs.declared.written_type.Container.{Container}
use Rattle.hack_tree.specs.declared.written_type.Container.TheVariants as container
use Rattle.hack_tree.specs.declared.written_type.FieldType.{FieldType}
use Rattle.hack_tree.specs.declared.written_type.WrittenType.{WrittenType}
use Rattle.hack_tree.specs.declared.written_type.WrittenType.TheFolds.{fold-FieldType}
use Rattle.hack_types.specs.OptionOf.{option_of}
use Rattle.hack_types.specs.Substituted.{limited}
use Rattle.hack_types.specs.declared.hack_type.HackType.{HackType}
use Rattle.hack_types.specs.declared.hack_type.HackType.TheVariants as type
use Rattle.hack_types.specs.declared.place.Place.{Place}
use Rattle.hack_types.specs.declared.shallow.Sort.{Sort}
use Rattle.hack_types.specs.declared.signature.TypeParam.{TypeParam}
use Rattle.hack_shallow.specs.Resolved.{container_type, last_fields}
use Rattle.hack_shallow.specs.Scope.{Scope as Names, first_at, named as named_type}
use Rattle.hack_shallow.specs.Scopes.{scope_of}
use Rattle.hack_decls.specs.DeclState.{Symbols}
use Rattle.hack_decls.specs.NameLaws.{types_of_heading_answer}
use Rattle.hack_decls.specs.Names.{TypeIn, class_symbol}
use Rattle.hack_decls.specs.declared.answers.HeadingAnswer.{HeadingAnswer}
use Rattle.hack_decls.specs.declared.answers.HeadingAnswer.TheVariants as heading
use Rattle.hack_sub.specs.Knowing as knowing
use Rattle.hack_diag.specs.Messages.{field_twice, trait_as_type, unbound_type}
use Rattle.hack_rules.specs.Walks.{Setting, Walk, ◌>>=◌, ◌>>◌, for_each, pure, reads, report, unless}
use Rattle.hack_rules.specs.WrittenTypes as rules
use Rattle.hack_rules.specs.WrittenTypes.{ClassMention, FieldMention, Mention, class_by, class_mention, declared_by, expect_key, field_by, fields_checks, is_parameter, mention, mention_by, this_checks}
use Rattle.hack_walk.specs.Checks.{setting_of}
use Rattle.hack_written.specs.Within.{place_of}
use Rattle.hack_written.specs.declared.around.Around.{Around}

abbrev pub setting_in : Around → Setting
setting_in around = setting_of around.setting.now

abbrev pub names_in : Around → Names
names_in around = scope_of around.parameters.now

-- the checks, and then the answer
abbrev pub told : {A : Type 0} → Walk (Unit {0}) → A → Walk A
told checks answer = checks >>= (λ done. pure answer)

-- ---- types

abbrev pub checked : Names → Bool → WrittenType → Walk HackType
checked names bounds ty = told ((mention names ty).checks bounds) (mention names ty).ty

abbrev pub optional : Names → Bool → WrittenType → Walk HackType
optional names bounds inner = told ((mention names inner).checks bounds) (option_of (mention names inner).ty)

abbrev pub this : Place → Walk HackType
this at = told (this_checks at) type.This

-- where bounds are tried, this is a type of keys
abbrev pub key_checks : Bool → Place → HackType → Walk (Unit {0})
key_checks bounds at ty = if bounds then expect_key at (limited ty) else pure tt

-- the same of the elements of a keyset
abbrev pub key_of : Bool → Place → HackType → Container → Walk (Unit {0})
key_of bounds at ty container.Vec = pure tt
key_of bounds at ty container.Keyset = key_checks bounds at ty

abbrev pub contained : Names → Bool → WrittenType → Container → Walk HackType
contained names bounds element c =
    told ((mention names element).checks bounds >> key_of bounds (place_of element) (mention names element).ty c)
    (container_type c (mention names element).ty)

-- behind the keys, which stand there and have this type
abbrev pub dict : Names → Bool → WrittenType → Place → HackType → Walk HackType
dict names bounds value key_at key =
    told ((mention names value).checks bounds >> key_checks bounds key_at key) (type.Dict key (mention names value).ty)

-- ---- fields

abbrev pub field_mention : Names → FieldType → FieldMention
field_mention names = fold-FieldType Mention ClassMention FieldMention mention_by (class_by names) field_by

abbrev pub field_mentions : Names → List FieldType → List FieldMention
field_mentions names fields = map (field_mention names) fields

abbrev pub shape : Names → Bool → List FieldType → Bool → Walk HackType
shape names bounds fields rest =
    told (fields_checks [] (field_mentions names fields) bounds)
    (type.Shape (last_fields (map rules.field_type (field_mentions names fields))) rest)

abbrev pub expect_new : Place → ℕ → Bool → Walk (Unit {0})
expect_new at key is_given = unless (not is_given) at (field_twice key)

abbrev pub field_type : Names → Bool → FieldType → Bool → Walk HackType
field_type names bounds field is_given =
    told (expect_new field.key_at field.key is_given >> (mention names field.value).checks bounds) (mention names field.value).ty

-- a field is put under its key
pub record IsPut (before : BTreeMap ℕ (Bool × HackType)) (key : ℕ) (optional : Bool) (ty : HackType) (after : BTreeMap ℕ (Bool × HackType)) : Type 0 where
  pub entries : after.entries ≡ insert_entry nat_cmp before.entries key (optional, ty)
  pub found : (query : ℕ) → get nat_cmp after query ≡ cond (is_eq (nat_cmp key query)) (Some (optional, ty)) (get nat_cmp before query)

-- ---- names

abbrev pub mentions : Names → List WrittenType → List Mention
mentions names types = map (mention names) types

abbrev pub types_in : Names → List WrittenType → List HackType
types_in names types = map (λ m. m.ty) (mentions names types)

abbrev pub arguments : Names → Bool → List WrittenType → Walk (List HackType)
arguments names bounds types = told (for_each (λ m. m.checks bounds) (mentions names types)) (types_in names types)

abbrev pub checked_class : Names → Bool → ClassType → Bool → Walk HackType
checked_class names bounds class traits = told ((class_mention names class).checks traits bounds) (class_mention names class).ty

-- the parameter of the class that a name is
abbrev pub class_parameter_by : ℕ → Option ℕ → Option HackType
class_parameter_by name (Some index) = Some (type.ClassParam index name)
class_parameter_by name None = None

abbrev pub class_parameter_of : Names → ℕ → Option HackType
class_parameter_of names name = class_parameter_by name (first_at name names.class)

-- the parameter that a name is
abbrev pub parameter_by : ℕ → Option ℕ → Option ℕ → Option HackType
parameter_by name (Some index) class = Some (type.FunParam index name)
parameter_by name None class = class_parameter_by name class

abbrev pub parameter_of : Names → ℕ → Option HackType
parameter_of names name = parameter_by name (first_at name names.function) (first_at name names.class)

-- what a name that is no parameter must be
abbrev pub expect_declared : Names → Bool → ClassType → Bool → Walk (Unit {0})
expect_declared names bounds class traits =
    reads (λ map scope. map (class_symbol class.name))
    >>= (λ declaration. declared_by traits bounds class.at class.name (mentions names class.arguments) declaration)

abbrev pub declared_type : Names → Bool → ClassType → Bool → Walk HackType
declared_type names bounds class traits =
    told (expect_declared names bounds class traits) (type.Class class.name (types_in names class.arguments))

-- behind the arguments
abbrev pub named : Names → Bool → ClassType → Bool → Walk HackType
named names bounds class traits =
    told (if is_parameter names class.name then pure tt else expect_declared names bounds class traits)
    (named_type names class.name (types_in names class.arguments))

-- ---- headings

abbrev pub is_absent : HeadingAnswer → Bool
is_absent heading.Absent = true
is_absent _ = false

abbrev pub is_trait_sort : Sort → Bool
is_trait_sort = knowing.is_trait

abbrev pub is_trait : HeadingAnswer → Bool
is_trait (heading.ClassLike class) = is_trait_sort class.sort
is_trait _ = false

abbrev pub params_of : HeadingAnswer → List TypeParam
params_of (heading.ClassLike class) = class.type_params
params_of (heading.Alias sig) = sig.type_params
params_of _ = []

abbrev pub HeadingIn : Symbols → HeadingAnswer → Type 0
HeadingIn symbols answer = All (TypeIn symbols) (types_of_heading_answer answer)

abbrev pub expect_type : ClassType → Bool → HeadingAnswer → Walk (Unit {0})
expect_type class traits answer = unless (traits || not (is_trait answer)) class.at (trait_as_type class.name)

abbrev pub count_arguments : Names → Bool → ClassType → List TypeParam → Walk (Unit {0})
count_arguments names bounds class params =
    rules.count_arguments bounds class.at class.name params (mentions names class.arguments)

abbrev pub expect_heading : Names → Bool → ClassType → Bool → HeadingAnswer → Walk (Unit {0})
expect_heading names bounds class traits answer =
    if is_absent answer then report class.at (unbound_type class.name)
    else (expect_type class traits answer >> count_arguments names bounds class (params_of answer))
