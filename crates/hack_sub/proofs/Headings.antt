-- What the narrow lookups answer, as the definitions read it off the declaration.
use Rattle.std.proofs.Common.{◌≡◌, ◌==◌, ℕ, Bool, true, false, Option, Some, None, List, [], ◌∷◌, length, map, All, IfSome, refl, option_map}
use Rattle.std.proofs.lemmas.List.Elements.{All-head}
use Rattle.std.specs.Bool.{if◌then◌else◌}
use Rattle.std.specs.List.{find, flat_map, list_all}
use Rattle.std.specs.Option.{option_and_then}
use Rattle.hack_types.specs.Substituted.{substitute}
use Rattle.hack_types.specs.declared.hack_type.HackType.{HackType}
use Rattle.hack_decls.specs.DeclState.{Symbols}
use Rattle.hack_decls.specs.NameLaws.{back, types_of_ancestor_answer, types_of_heading_answer}
use Rattle.hack_decls.specs.Names.{TypeIn, types_of_param}
use Rattle.hack_decls.specs.Picks.{ancestor_answer, ancestor_or, heading_answer}
use Rattle.hack_decls.specs.declared.answers.AncestorAnswer.{AncestorAnswer}
use Rattle.hack_decls.specs.declared.answers.AncestorAnswer.TheVariants as ancestor
use Rattle.hack_decls.specs.declared.answers.HeadingAnswer.{HeadingAnswer}
use Rattle.hack_decls.specs.declared.answers.HeadingAnswer.TheVariants as heading
use Rattle.hack_decls.specs.declared.folded.Ancestor.{Ancestor}
use Rattle.hack_decls.specs.declared.folded.Folded.{Folded}
use Rattle.hack_decls.specs.declared.folded.Folded.TheVariants as folded
use Rattle.hack_sub.specs.NamesPut.{in_put, in_put_all}
use Rattle.hack_sub.specs.inside.Calls.{body_in, given_in, known_heading, params_in}
use Rattle.hack_sub.specs.IsBelow.{all_small, is_small, small_only}
use Rattle.hack_sub.specs.Knowing.{ancestor_by, expanded_by, known_by, parameters_by}

pub known_law : (count : ℕ) (entry : Option Folded) → known_heading count (heading_answer entry) ≡ known_by count entry
known_law count None = refl
known_law count (Some (folded.ClassLike class)) = refl
known_law count (Some (folded.Enum sig)) = refl
known_law count (Some (folded.Alias sig)) = refl
known_law count (Some (folded.Function sig)) = refl
known_law count (Some (folded.Constant ty)) = refl

body_law_by : (b : Bool) (body : HackType) → (if b then small_only body else None) ≡ option_and_then small_only (if b then Some body else None)
body_law_by true body = refl
body_law_by false body = refl

pub body_law : (arguments : List HackType) (entry : Option Folded) → body_in arguments (heading_answer entry) ≡ option_and_then small_only (expanded_by arguments entry)
body_law arguments None = refl
body_law arguments (Some (folded.ClassLike class)) = refl
body_law arguments (Some (folded.Enum sig)) = refl
body_law arguments (Some (folded.Alias sig)) = body_law_by (length arguments == length sig.type_params) (substitute arguments sig.body)
body_law arguments (Some (folded.Function sig)) = refl
body_law arguments (Some (folded.Constant ty)) = refl

-- of a class, the arguments of the ancestor of this name
given_or : (arguments : List HackType) (partial : Bool) (found : Option Ancestor)
    → given_in arguments (ancestor_or partial found) ≡ option_and_then all_small (option_map (map (substitute arguments)) (option_map (λ a. a.arguments) found))
given_or arguments partial None = refl
given_or arguments partial (Some a) = refl

pub given_law : (arguments : List HackType) (name : ℕ) (entry : Option Folded)
    → given_in arguments (ancestor_answer name entry) ≡ option_and_then all_small (option_map (map (substitute arguments)) (ancestor_by name entry))
given_law arguments name None = refl
given_law arguments name (Some (folded.ClassLike class)) = given_or arguments class.partial (find (λ a. a.name == name) class.ancestors)
given_law arguments name (Some (folded.Enum sig)) = refl
given_law arguments name (Some (folded.Alias sig)) = refl
given_law arguments name (Some (folded.Function sig)) = refl
given_law arguments name (Some (folded.Constant ty)) = refl

pub params_law : (entry : Option Folded) → params_in (heading_answer entry) ≡ parameters_by entry
params_law None = refl
params_law (Some (folded.ClassLike class)) = refl
params_law (Some (folded.Enum sig)) = refl
params_law (Some (folded.Alias sig)) = refl
params_law (Some (folded.Function sig)) = refl
params_law (Some (folded.Constant ty)) = refl

module _ (symbols : Symbols) where
  small_named : (b : Bool) (body : HackType) → TypeIn symbols body → IfSome (if b then Some body else None) (TypeIn symbols)
  small_named true body here = here
  small_named false body here = tt

  chosen_named : (b : Bool) (o : Option HackType) → IfSome o (TypeIn symbols) → IfSome (if b then o else None) (TypeIn symbols)
  chosen_named true o here = here
  chosen_named false o here = tt

  -- and what is made of it
  pub body_named : (arguments : List HackType) → All (TypeIn symbols) arguments → (h : HeadingAnswer) → All (TypeIn symbols) (types_of_heading_answer h) → IfSome (body_in arguments h) (TypeIn symbols)
  body_named arguments all (heading.Alias sig) w =
      chosen_named (length arguments == length sig.type_params) (small_only (substitute arguments sig.body))
      (small_named (is_small (substitute arguments sig.body)) (substitute arguments sig.body) (in_put symbols arguments all sig.body
      (All-head (TypeIn symbols) sig.body [] (back (TypeIn symbols) (flat_map types_of_param sig.type_params) (sig.body ∷ []) w))))
  body_named arguments all (heading.ClassLike class) w = tt
  body_named arguments all (heading.Enum sig) w = tt
  body_named arguments all (heading.Function sig) w = tt
  body_named arguments all (heading.Constant ty) w = tt
  body_named arguments all heading.Absent w = tt

  all_small_named : (b : Bool) (types : List HackType) → All (TypeIn symbols) types → IfSome (if b then Some types else None) (All (TypeIn symbols))
  all_small_named true types here = here
  all_small_named false types here = tt

  pub given_named : (arguments : List HackType) → All (TypeIn symbols) arguments → (a : AncestorAnswer) → All (TypeIn symbols) (types_of_ancestor_answer a) → IfSome (given_in arguments a) (All (TypeIn symbols))
  given_named arguments all (ancestor.At types) w =
      all_small_named (list_all is_small (map (substitute arguments) types)) (map (substitute arguments) types) (in_put_all symbols arguments all types w)
  given_named arguments all ancestor.Absent w = tt
  given_named arguments all ancestor.NotClass w = tt
  given_named arguments all (ancestor.Missing partial) w = tt
