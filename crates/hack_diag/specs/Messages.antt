-- The diagnostics by the ids of the names and by the types that they speak of: the code and the text of each (docs/language.md, Diagnostics).
use Rattle.std.specs.Prelude.{ℕ, List}
use Rattle.hack_types.specs.TypeText.{name_text, type_text}
use Rattle.hack_types.specs.declared.diag.Diag.{Diag}
use Rattle.hack_types.specs.declared.hack_type.HackType.{HackType}
use Rattle.hack_types.specs.declared.place.Place.{Place}
use Rattle.hack_codes.specs.Numbers.{number}
use Rattle.hack_codes.specs.declared.code.Code.{Code}
use Rattle.hack_codes.specs.declared.code.Code.TheVariants as code
use Rattle.hack_diag.specs.Texts as text

-- the text is over the texts of names
pub record Message : Type 0 where
  pub code : ℕ
  pub text : List (List ℕ) → List ℕ

-- a diagnostic
abbrev pub diag : Place → Code → List ℕ → Diag
diag at code text = record { at = at; code = number code; text = text }

-- a message at a place, as a diagnostic
abbrev pub diag_of : List (List ℕ) → Place → Message → Diag
diag_of names at message = record { at = at; code = message.code; text = message.text names }

abbrev pub no_token : Message
no_token = record { code = number code.NoToken; text = λ names. text.no_token }

abbrev pub unexpected_token : Message
unexpected_token = record { code = number code.UnexpectedToken; text = λ names. text.unexpected_token }

abbrev pub int_too_large : Message
int_too_large = record { code = number code.IntTooLarge; text = λ names. text.int_too_large }

abbrev pub too_deep : Message
too_deep = record { code = number code.TooDeep; text = λ names. text.too_deep }

abbrev pub unexpected_end : Message
unexpected_end = record { code = number code.UnexpectedEnd; text = λ names. text.unexpected_end }

abbrev pub name_taken : ℕ → Message
name_taken name = record { code = number code.NameTaken; text = λ names. text.name_taken (name_text names name) }

abbrev pub unbound_type : ℕ → Message
unbound_type name = record { code = number code.UnboundType; text = λ names. text.unbound_type (name_text names name) }

abbrev pub other_arguments : ℕ → ℕ → ℕ → Message
other_arguments name wanted found = record { code = number code.OtherArguments; text = λ names. text.other_arguments (name_text names name) wanted found }

abbrev pub parameter_taken : ℕ → Message
parameter_taken name = record { code = number code.ParameterTaken; text = λ names. text.parameter_taken (name_text names name) }

abbrev pub trait_as_type : ℕ → Message
trait_as_type name = record { code = number code.TraitAsType; text = λ names. text.trait_as_type (name_text names name) }

abbrev pub alias_in_itself : ℕ → Message
alias_in_itself name = record { code = number code.AliasInItself; text = λ names. text.alias_in_itself (name_text names name) }

abbrev pub too_big : Message
too_big = record { code = number code.TooBig; text = λ names. text.too_big }

abbrev pub bad_hierarchy : ℕ → Message
bad_hierarchy class = record { code = number code.BadHierarchy; text = λ names. text.bad_hierarchy (name_text names class) }

abbrev pub bad_parent : ℕ → ℕ → Message
bad_parent class parent = record { code = number code.BadParent; text = λ names. text.bad_parent (name_text names class) (name_text names parent) }

abbrev pub final_parent : ℕ → Message
final_parent parent = record { code = number code.FinalParent; text = λ names. text.final_parent (name_text names parent) }

abbrev pub member_taken : ℕ → Message
member_taken member = record { code = number code.MemberTaken; text = λ names. text.member_taken (name_text names member) }

abbrev pub no_implementation : ℕ → ℕ → Message
no_implementation class member = record { code = number code.NoImplementation; text = λ names. text.no_implementation (name_text names class) (name_text names member) }

abbrev pub overrides_nothing : ℕ → Message
overrides_nothing member = record { code = number code.OverridesNothing; text = λ names. text.overrides_nothing (name_text names member) }

abbrev pub final_method : ℕ → ℕ → Message
final_method parent member = record { code = number code.FinalMethod; text = λ names. text.final_method (name_text names parent) (name_text names member) }

abbrev pub method_misfit : ℕ → ℕ → Message
method_misfit member parent = record { code = number code.MethodMisfit; text = λ names. text.method_misfit (name_text names member) (name_text names parent) }

abbrev pub property_misfit : ℕ → ℕ → Message
property_misfit member parent = record { code = number code.PropertyMisfit; text = λ names. text.property_misfit (name_text names member) (name_text names parent) }

abbrev pub less_visible : ℕ → ℕ → Message
less_visible member parent = record { code = number code.LessVisible; text = λ names. text.less_visible (name_text names member) (name_text names parent) }

abbrev pub wrong_variance : ℕ → Message
wrong_variance name = record { code = number code.WrongVariance; text = λ names. text.wrong_variance (name_text names name) }

abbrev pub out_of_bounds : HackType → (List (List ℕ) → List ℕ) → Message
out_of_bounds argument param = record { code = number code.OutOfBounds; text = λ names. text.out_of_bounds (type_text names argument) (param names) }

abbrev pub no_visibility : ℕ → Message
no_visibility member = record { code = number code.NoVisibility; text = λ names. text.no_visibility (name_text names member) }

abbrev pub body_missing : ℕ → Message
body_missing member = record { code = number code.BodyMissing; text = λ names. text.body_missing (name_text names member) }

abbrev pub body_unwanted : ℕ → Message
body_unwanted member = record { code = number code.BodyUnwanted; text = λ names. text.body_unwanted (name_text names member) }

abbrev pub no_return_type : ℕ → Message
no_return_type member = record { code = number code.NoReturnType; text = λ names. text.no_return_type (name_text names member) }

abbrev pub constant_misfit : ℕ → ℕ → Message
constant_misfit member parent = record { code = number code.ConstantMisfit; text = λ names. text.constant_misfit (name_text names member) (name_text names parent) }

abbrev pub enum_base : Message
enum_base = record { code = number code.EnumBase; text = λ names. text.enum_base }

abbrev pub enum_bound : Message
enum_bound = record { code = number code.EnumBound; text = λ names. text.enum_bound }

abbrev pub modifiers_misfit : ℕ → Message
modifiers_misfit member = record { code = number code.ModifiersMisfit; text = λ names. text.modifiers_misfit (name_text names member) }

abbrev pub expected : HackType → HackType → Message
expected wanted found = record { code = number code.Expected; text = λ names. text.expected (type_text names wanted) (type_text names found) }

abbrev pub unbound_function : ℕ → Message
unbound_function name = record { code = number code.UnboundFunction; text = λ names. text.unbound_function (name_text names name) }

abbrev pub unbound_constant : ℕ → Message
unbound_constant name = record { code = number code.UnboundConstant; text = λ names. text.unbound_constant (name_text names name) }

abbrev pub other_count : ℕ → ℕ → ℕ → Message
other_count least most found = record { code = number code.OtherCount; text = λ names. text.other_count least most found }

abbrev pub undefined_variable : ℕ → Message
undefined_variable name = record { code = number code.UndefinedVariable; text = λ names. text.undefined_variable (name_text names name) }

abbrev pub no_method : ℕ → HackType → Message
no_method name ty = record { code = number code.NoMethod; text = λ names. text.no_method (type_text names ty) (name_text names name) }

abbrev pub no_property : ℕ → HackType → Message
no_property name ty = record { code = number code.NoProperty; text = λ names. text.no_property (type_text names ty) (name_text names name) }

abbrev pub no_constant : ℕ → ℕ → Message
no_constant class name = record { code = number code.NoConstant; text = λ names. text.no_constant (name_text names class) (name_text names name) }

abbrev pub not_visible : ℕ → ℕ → Message
not_visible name origin = record { code = number code.NotVisible; text = λ names. text.not_visible (name_text names name) (name_text names origin) }

abbrev pub may_be_null : Message
may_be_null = record { code = number code.MayBeNull; text = λ names. text.may_be_null }

abbrev pub not_instantiable : ℕ → Message
not_instantiable name = record { code = number code.NotInstantiable; text = λ names. text.not_instantiable (name_text names name) }

abbrev pub operator_refuses : List ℕ → HackType → HackType → Message
operator_refuses operator left right = record { code = number code.OperatorRefuses; text = λ names. text.operator_refuses operator (type_text names left) (type_text names right) }

abbrev pub sign_refuses : List ℕ → HackType → Message
sign_refuses operator operand = record { code = number code.OperatorRefuses; text = λ names. text.sign_refuses operator (type_text names operand) }

abbrev pub not_indexed : HackType → Message
not_indexed ty = record { code = number code.NotIndexed; text = λ names. text.not_indexed (type_text names ty) }

abbrev pub no_field : ℕ → Message
no_field key = record { code = number code.NoField; text = λ names. text.no_field (name_text names key) }

abbrev pub field_may_miss : ℕ → Message
field_may_miss key = record { code = number code.FieldMayMiss; text = λ names. text.field_may_miss (name_text names key) }

abbrev pub not_assignable : Message
not_assignable = record { code = number code.NotAssignable; text = λ names. text.not_assignable }

abbrev pub no_return : Message
no_return = record { code = number code.NoReturn; text = λ names. text.no_return }

abbrev pub against_static : ℕ → Message
against_static name = record { code = number code.AgainstStatic; text = λ names. text.against_static (name_text names name) }

abbrev pub outside_loop : List ℕ → Message
outside_loop word = record { code = number code.OutsideLoop; text = λ names. text.outside_loop word }

abbrev pub not_allowed : List ℕ → Message
not_allowed word = record { code = number code.NotAllowed; text = λ names. text.not_allowed word }

abbrev pub not_iterated : HackType → Message
not_iterated ty = record { code = number code.NotIterated; text = λ names. text.not_iterated (type_text names ty) }

abbrev pub too_many_loops : Message
too_many_loops = record { code = number code.TooManyLoops; text = λ names. text.too_many_loops }

abbrev pub field_twice : ℕ → Message
field_twice key = record { code = number code.FieldTwice; text = λ names. text.field_twice (name_text names key) }
