-- What the calls of the crate say to each other.
use Rattle.std.specs.Prelude.{ℕ, Bool, true, false, not, if◌then◌else◌, Option, Some, None, List, [], All, map, find, option_map, unwrap_or}
use Rattle.hack_types.specs.declared.hack_type.HackType.{HackType, out-HackType}
use Rattle.hack_types.specs.declared.hack_type.HackType.TheOpen.{HackType-F}
use Rattle.hack_types.specs.declared.hack_type.HackType.TheVariants as type
use Rattle.hack_types.specs.declared.place.Place.{Place}
use Rattle.hack_types.specs.declared.signature.Param.{Param}
use Rattle.hack_types.specs.declared.signature.Signature.{Signature}
use Rattle.hack_types.specs.declared.signature.TypeParam.{TypeParam}
use Rattle.hack_tree.specs.declared.expression.ClassReference.{ClassReference}
use Rattle.hack_decls.specs.DeclState.{Map, Symbols}
use Rattle.hack_decls.specs.Names.{TypeIn}
use Rattle.hack_decls.specs.NameLaws.{types_of_heading_answer}
use Rattle.hack_decls.specs.declared.answers.HeadingAnswer.{HeadingAnswer}
use Rattle.hack_decls.specs.declared.answers.HeadingAnswer.TheVariants as heading
use Rattle.hack_decls.specs.declared.folded.Ancestor.{Ancestor}
use Rattle.hack_decls.specs.declared.folded.Folded.{Folded}
use Rattle.hack_decls.specs.declared.folded.Folded.TheVariants as folded
use Rattle.hack_diag.specs.Messages.{not_allowed, trait_as_type, unbound_function, unbound_type}
use Rattle.hack_infer.specs.Filling.{Filling, filled_limited}
use Rattle.hack_infer.specs.Seeing.{sight_of}
use Rattle.hack_infer.specs.declared.sight.Sight.{Sight}
use Rattle.hack_infer.specs.declared.sight.Sight.TheVariants as sight
use Rattle.hack_sub.specs.Knowing.{is_trait}
use Rattle.hack_sub.specs.Parts.{name_of}
use Rattle.hack_sub.specs.Scopes.{class_type, param_of}
use Rattle.hack_sub.specs.declared.scope.Scope.{Scope}
use Rattle.hack_rules.specs.Calls.{call_with}
use Rattle.hack_rules.specs.Classes.{allowed_by, is_class, is_class_sort, word_text, word_type}
use Rattle.hack_rules.specs.Heads.{first_bound, is_class_of}
use Rattle.hack_rules.specs.Walks.{Walk, ◌>>=◌, expect, for_pairs, pure, reads, refuse, report, unless}
use Rattle.hack_rules.specs.WrittenTypes.{Argument, expect_within}
use Rattle.hack_calls.specs.Named.{mention}
use Rattle.hack_calls.specs.declared.heads.Stage.{Stage}
use Rattle.hack_calls.specs.declared.heads.Stage.TheVariants as stage
use Rattle.hack_calls.specs.declared.mentions.Declared.{Declared}

-- ---- heads

-- a named type by what is seen of it; a bad one of the scope's class stays
abbrev pub sight_stage : Bool → Sight → Stage
sight_stage own (sight.Alias next) = stage.Next next
sight_stage own sight.Bad = if own then stage.Own else stage.Settled type.Any
sight_stage own sight.Other = stage.Own

abbrev pub named_stage : Map → Scope → HackType → ℕ → Stage
named_stage map scope ty name = sight_stage (is_class_of scope name) (sight_of map ty)

-- a type without a name
abbrev pub plain_by : Scope → HackType → HackType-F HackType → Stage
plain_by scope ty (HackType-F.ClassParam position name) = stage.Next (first_bound (param_of scope ty))
plain_by scope ty (HackType-F.FunParam position name) = stage.Next (first_bound (param_of scope ty))
plain_by scope ty HackType-F.This = stage.Settled (unwrap_or (class_type scope) type.Any)
plain_by scope ty _ = stage.Own

abbrev pub plain_stage : Scope → HackType → Stage
plain_stage scope ty = plain_by scope ty (out-HackType ty)

abbrev pub stage_by : Map → Scope → HackType → Option ℕ → Stage
stage_by map scope ty (Some name) = named_stage map scope ty name
stage_by map scope ty None = plain_stage scope ty

abbrev pub stage_of : Map → Scope → HackType → Stage
stage_of map scope ty = stage_by map scope ty (name_of ty)

-- all that the type of a stage names is among these symbols
abbrev pub StageIn : Symbols → Stage → Type 0
StageIn symbols (stage.Next next) = TypeIn symbols next
StageIn symbols (stage.Settled head) = TypeIn symbols head
StageIn symbols stage.Own = Unit {0}

-- ---- mentions

-- what has no type parameters
abbrev pub without_params : Declared
without_params = record { type_params = []; is_trait = false }

abbrev pub declared_in : HeadingAnswer → Option Declared
declared_in heading.Absent = None
declared_in (heading.ClassLike class) = Some (record { type_params = class.type_params; is_trait = is_trait class.sort })
declared_in (heading.Alias sig) = Some (record { type_params = sig.type_params; is_trait = false })
declared_in (heading.Enum sig) = Some without_params
declared_in (heading.Function sig) = Some without_params
declared_in (heading.Constant ty) = Some without_params

abbrev pub expect_no_trait : Place → ℕ → Declared → Walk (Unit {0})
expect_no_trait at name declared = unless (not declared.is_trait) at (trait_as_type name)

-- 3001 where nothing is declared, and 3004 for a trait
abbrev pub expect_declared : Place → ℕ → Option Declared → Walk (Unit {0})
expect_declared at name None = report at (unbound_type name)
expect_declared at name (Some declared) = expect_no_trait at name declared

-- the class of this name with `_` for each parameter, and nothing for a trait
abbrev pub type_of : ℕ → Declared → Option HackType
type_of name declared =
    if declared.is_trait then None else Some (type.Class name (map (λ param. type.Any) declared.type_params))

-- the type that stands before `::`, by what is declared under its name
abbrev pub type_by : ℕ → Option Declared → Option HackType
type_by name None = None
type_by name (Some declared) = type_of name declared

-- a name before `::`
abbrev pub by_name : Place → ℕ → Walk (Option HackType)
by_name at name = mention at name >>= (λ declared. pure (type_by name declared))

-- ---- words

-- the type of a word, and 4020 where it has none
abbrev pub by_word : Place → ClassReference → Walk (Option HackType)
by_word at word = reads (word_type word) >>= allowed_by at word

abbrev pub expect_allowed : Place → ClassReference → Option HackType → Walk (Unit {0})
expect_allowed at word (Some ty) = pure tt
expect_allowed at word None = report at (not_allowed (word_text word))

-- the ancestors of a class, an interface or a trait
abbrev pub ancestors_in : Folded → List Ancestor
ancestors_in (folded.ClassLike class) = class.ancestors
ancestors_in _ = []

-- the ancestors of what is declared
abbrev pub ancestors_of : Option Folded → List Ancestor
ancestors_of None = []
ancestors_of (Some found) = ancestors_in found

abbrev pub ancestor_type : Ancestor → HackType
ancestor_type ancestor = type.Class ancestor.name ancestor.arguments

-- the first class among these, with its arguments
abbrev pub first_of : Map → List Ancestor → Option HackType
first_of map ancestors =
    option_map ancestor_type (find (λ ancestor. is_class map ancestor.name) ancestors)

-- all that these ancestors name is among these symbols
abbrev pub AncestorsIn : Symbols → List Ancestor → Type 0
AncestorsIn symbols ancestors = All (λ ancestor. TypeIn symbols (ancestor_type ancestor)) ancestors

abbrev pub is_class_heading : HeadingAnswer → Bool
is_class_heading (heading.ClassLike class) = is_class_sort class.sort
is_class_heading _ = false

-- ---- calls

-- an argument against its parameter
abbrev pub expect_one : Filling → Param → Argument → Walk (Unit {0})
expect_one filling param argument = expect argument.at (filled_limited filling param.ty) argument.ty

-- the bounds of each solved type
abbrev pub expect_bounds : Filling → Place → List TypeParam → List HackType → Walk (Unit {0})
expect_bounds filling at params solved = for_pairs (λ param ty. expect_within (filled_limited filling) at param ty) params solved

abbrev pub noreturn_by : HackType-F HackType → Bool
noreturn_by HackType-F.Noreturn = true
noreturn_by _ = false

abbrev pub is_noreturn : HackType → Bool
is_noreturn ty = noreturn_by (out-HackType ty)

-- ---- functions

-- the signature of a function
abbrev pub signature_in : HeadingAnswer → Option Signature
signature_in (heading.Function signature) = Some signature
signature_in _ = None

-- a function has no class and no `this`
abbrev pub call_alone : Place → Signature → List Argument → Walk HackType
call_alone at signature given = call_with at (record { signature = signature; class = None; this = λ solved. None }) given

-- the function is called, else 4002
abbrev pub function_by : Place → ℕ → List Argument → Option Signature → Walk HackType
function_by at name given (Some signature) = call_alone at signature given
function_by at name given None = refuse at (unbound_function name)

abbrev pub function_in : Place → ℕ → List Argument → HeadingAnswer → Walk HackType
function_in at name given heading = function_by at name given (signature_in heading)

-- all that the heading names is among these symbols
abbrev pub HeadingIn : Symbols → HeadingAnswer → Type 0
HeadingIn symbols answer = All (TypeIn symbols) (types_of_heading_answer answer)
