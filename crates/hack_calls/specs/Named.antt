-- What calls, mentions and heads name, and what they are given (docs/language.md, Typing expressions, Calls).
use Rattle.std.specs.Prelude.{ℕ, Option, Some, None, List, All}
use Rattle.hack_types.specs.declared.hack_type.HackType.{HackType}
use Rattle.hack_types.specs.declared.ids.Kind.TheVariants.{Func}
use Rattle.hack_types.specs.declared.place.Place.{Place}
use Rattle.hack_types.specs.declared.signature.Signature.{Signature}
use Rattle.hack_decls.specs.DeclState.{Symbols}
use Rattle.hack_decls.specs.Names.{TypeIn, class_symbol, types_of_signature}
use Rattle.hack_decls.specs.declared.folded.Folded.{Folded}
use Rattle.hack_sub.specs.Knowing.{parameters_by}
use Rattle.hack_infer.specs.Filling.{Filling}
use Rattle.hack_rules.specs.Calls.{Callee}
use Rattle.hack_rules.specs.Classes.{mentioned}
use Rattle.hack_rules.specs.Uses.{function_or}
use Rattle.hack_rules.specs.Walks.{Walk, ◌>>=◌, ◌>>◌, reads}
use Rattle.hack_rules.specs.WrittenTypes.{Argument, trait_by}
use Rattle.hack_calls.specs.declared.mentions.Declared.{Declared}

-- all that the types of arguments name is among these symbols
abbrev pub GivenIn : Symbols → List Argument → Type 0
GivenIn symbols given = All (λ a. TypeIn symbols a.ty) given

-- the same of a signature
abbrev pub SignatureIn : Symbols → Signature → Type 0
SignatureIn symbols signature = All (TypeIn symbols) (types_of_signature signature)

-- the head of a type, where it isn't its own
abbrev pub or_self : HackType → Option HackType → HackType
or_self ty (Some head) = head
or_self ty None = ty

-- what goes on from a mention: the parameters that are declared, and whether it is a trait
abbrev pub declared_as : Option Folded → Option Declared
declared_as None = None
declared_as (Some declaration) = Some (record { type_params = parameters_by (Some declaration); is_trait = trait_by declaration })

-- a name is a mention, and this is what is declared under it, a trait too
abbrev pub mention : Place → ℕ → Walk (Option Declared)
mention at name = mentioned at name >> reads (λ map scope. declared_as (map (class_symbol name)))

-- what is called, where what stands for `this` does not depend on the solved types
abbrev pub callee_of : Signature → Filling → Callee
callee_of signature filling = record { signature = signature; class = filling.class; this = λ solved. filling.this }

-- the function of this name is called with arguments that are typed
unfoldable pub function_called : Place → ℕ → List Argument → Walk HackType
function_called at name given = do
  declaration ← reads (λ map scope. map (record { kind = Func; name = name }))
  function_or at name given declaration
