-- What diagnostics say: the text of each over the texts of its parts, in the order of their numbers (docs/language.md, Diagnostics).
use Rattle.std.specs.Prelude.{ℕ, List, ◌++◌, codes, decimal}

abbrev pub no_token : List ℕ
no_token = codes "no token starts here"

abbrev pub unexpected_token : List ℕ
unexpected_token = codes "unexpected token"

abbrev pub int_too_large : List ℕ
int_too_large = codes "integer literal above 9223372036854775807"

abbrev pub too_deep : List ℕ
too_deep = codes "nesting above 128"

abbrev pub unexpected_end : List ℕ
unexpected_end = codes "unexpected end of file"

abbrev pub name_taken : List ℕ → List ℕ
name_taken name = codes "name " ++ name ++ codes " is already declared"

abbrev pub unbound_type : List ℕ → List ℕ
unbound_type name = codes "unbound type " ++ name

abbrev pub other_arguments : List ℕ → ℕ → ℕ → List ℕ
other_arguments name wanted found = name ++ codes " takes " ++ decimal wanted ++ codes " type arguments, found " ++ decimal found

abbrev pub parameter_taken : List ℕ → List ℕ
parameter_taken name = codes "type parameter " ++ name ++ codes " is already declared"

abbrev pub trait_as_type : List ℕ → List ℕ
trait_as_type name = codes "trait " ++ name ++ codes " is not a type"

abbrev pub alias_in_itself : List ℕ → List ℕ
alias_in_itself name = codes "alias " ++ name ++ codes " contains itself"

abbrev pub too_big : List ℕ
too_big = codes "type above 256 nodes"

abbrev pub bad_hierarchy : List ℕ → List ℕ
bad_hierarchy class = codes "hierarchy of " ++ class ++ codes " is cyclic or above 256 names"

abbrev pub bad_parent : List ℕ → List ℕ → List ℕ
bad_parent class parent = class ++ codes " cannot have " ++ parent ++ codes " as a parent here"

abbrev pub final_parent : List ℕ → List ℕ
final_parent parent = codes "final class " ++ parent ++ codes " cannot be extended"

abbrev pub member_taken : List ℕ → List ℕ
member_taken member = codes "member " ++ member ++ codes " is declared twice"

abbrev pub no_implementation : List ℕ → List ℕ → List ℕ
no_implementation class member = codes "class " ++ class ++ codes " must define " ++ member

abbrev pub overrides_nothing : List ℕ → List ℕ
overrides_nothing member = member ++ codes " overrides nothing"

abbrev pub final_method : List ℕ → List ℕ → List ℕ
final_method parent member = codes "final method " ++ parent ++ codes "::" ++ member ++ codes " cannot be overridden"

abbrev pub method_misfit : List ℕ → List ℕ → List ℕ
method_misfit member parent = codes "method " ++ member ++ codes " does not fit " ++ parent ++ codes "::" ++ member

abbrev pub property_misfit : List ℕ → List ℕ → List ℕ
property_misfit member parent = codes "property " ++ member ++ codes " does not keep the type of " ++ parent ++ codes "::" ++ member

abbrev pub less_visible : List ℕ → List ℕ → List ℕ
less_visible member parent = member ++ codes " is less visible than " ++ parent ++ codes "::" ++ member

abbrev pub wrong_variance : List ℕ → List ℕ
wrong_variance name = codes "type parameter " ++ name ++ codes " stands in a place of the wrong variance"

abbrev pub out_of_bounds : List ℕ → List ℕ → List ℕ
out_of_bounds argument param = codes "type argument " ++ argument ++ codes " is not within the bounds of " ++ param

abbrev pub no_visibility : List ℕ → List ℕ
no_visibility member = codes "member " ++ member ++ codes " states no visibility"

abbrev pub body_missing : List ℕ → List ℕ
body_missing member = codes "method " ++ member ++ codes " must have a body"

abbrev pub body_unwanted : List ℕ → List ℕ
body_unwanted member = codes "method " ++ member ++ codes " must not have a body"

abbrev pub no_return_type : List ℕ → List ℕ
no_return_type member = member ++ codes " states no return type"

abbrev pub constant_misfit : List ℕ → List ℕ → List ℕ
constant_misfit member parent = codes "constant " ++ member ++ codes " does not fit " ++ parent ++ codes "::" ++ member

abbrev pub enum_base : List ℕ
enum_base = codes "enum base must be int or string"

abbrev pub enum_bound : List ℕ
enum_bound = codes "enum bound must be its base"

abbrev pub modifiers_misfit : List ℕ → List ℕ
modifiers_misfit member = codes "modifiers of " ++ member ++ codes " do not fit"

abbrev pub expected : List ℕ → List ℕ → List ℕ
expected wanted found = codes "expected " ++ wanted ++ codes ", found " ++ found

abbrev pub unbound_function : List ℕ → List ℕ
unbound_function name = codes "unbound function " ++ name

abbrev pub unbound_constant : List ℕ → List ℕ
unbound_constant name = codes "unbound constant " ++ name

abbrev pub other_count : ℕ → ℕ → ℕ → List ℕ
other_count least most found = codes "expected " ++ decimal least ++ codes " to " ++ decimal most ++ codes " arguments, found " ++ decimal found

abbrev pub undefined_variable : List ℕ → List ℕ
undefined_variable name = codes "variable $" ++ name ++ codes " is not defined here"

abbrev pub no_method : List ℕ → List ℕ → List ℕ
no_method ty name = codes "type " ++ ty ++ codes " has no method " ++ name

abbrev pub no_property : List ℕ → List ℕ → List ℕ
no_property ty name = codes "type " ++ ty ++ codes " has no property " ++ name

abbrev pub no_constant : List ℕ → List ℕ → List ℕ
no_constant class name = class ++ codes " has no constant " ++ name

abbrev pub not_visible : List ℕ → List ℕ → List ℕ
not_visible name origin = name ++ codes " of " ++ origin ++ codes " is not visible here"

abbrev pub may_be_null : List ℕ
may_be_null = codes "value may be null"

abbrev pub not_instantiable : List ℕ → List ℕ
not_instantiable name = name ++ codes " cannot be instantiated"

abbrev pub operator_refuses : List ℕ → List ℕ → List ℕ → List ℕ
operator_refuses operator left right = codes "operator " ++ operator ++ codes " does not take " ++ left ++ codes " and " ++ right

abbrev pub sign_refuses : List ℕ → List ℕ → List ℕ
sign_refuses operator operand = codes "operator " ++ operator ++ codes " does not take " ++ operand

abbrev pub not_indexed : List ℕ → List ℕ
not_indexed ty = codes "type " ++ ty ++ codes " cannot be indexed so"

abbrev pub no_field : List ℕ → List ℕ
no_field key = codes "shape has no field '" ++ key ++ codes "'"

abbrev pub field_may_miss : List ℕ → List ℕ
field_may_miss key = codes "field '" ++ key ++ codes "' may be missing"

abbrev pub not_assignable : List ℕ
not_assignable = codes "this expression cannot be assigned to"

abbrev pub no_return : List ℕ
no_return = codes "a path ends without a return"

abbrev pub against_static : List ℕ → List ℕ
against_static name = name ++ codes " is used against its static modifier"

abbrev pub outside_loop : List ℕ → List ℕ
outside_loop word = word ++ codes " outside a loop"

abbrev pub not_allowed : List ℕ → List ℕ
not_allowed word = word ++ codes " is not allowed here"

abbrev pub not_iterated : List ℕ → List ℕ
not_iterated ty = codes "type " ++ ty ++ codes " cannot be iterated"

abbrev pub too_many_loops : List ℕ
too_many_loops = codes "loops nested above 8"

abbrev pub field_twice : List ℕ → List ℕ
field_twice key = codes "field '" ++ key ++ codes "' is given twice"
