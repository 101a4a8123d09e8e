-- What a heading says of a declaration, and what it names.
use Rattle.std.proofs.Common.{◌≡◌, ◌++◌, ℕ, Option, Some, None, IfSome, List, [], ◌∷◌, All, map, refl, sym, subst}
use Rattle.std.proofs.lemmas.List.Elements.{All-cons, All-head, All-tail}
use Rattle.std.specs.List.{flat_map}
use Rattle.hack_types.specs.declared.place.Place.{Place}
use Rattle.hack_types.specs.declared.shallow.Member.{Member}
use Rattle.hack_types.specs.declared.signature.Signature.{Signature}
use Rattle.hack_types.specs.declared.hack_type.HackType.TheVariants as type
use Rattle.hack_decls.specs.DeclState.{Symbols}
use Rattle.hack_decls.specs.NameLaws.{back, front, in_heading_answer}
use Rattle.hack_decls.specs.Names.{FoldedIn, TypeIn, types_of_kind, types_of_param}
use Rattle.hack_decls.specs.Picks.{heading_answer}
use Rattle.hack_decls.specs.declared.answers.HeadingAnswer.{HeadingAnswer}
use Rattle.hack_decls.specs.declared.answers.HeadingAnswer.TheVariants as heading
use Rattle.hack_decls.specs.declared.folded.Ancestor.{Ancestor}
use Rattle.hack_decls.specs.declared.folded.Folded.{Folded}
use Rattle.hack_decls.specs.declared.folded.Folded.TheVariants as folded
use Rattle.hack_rules.specs.Classes.{ancestors_by, class_by, is_class_by}
use Rattle.hack_rules.specs.Uses.{function_or}
use Rattle.hack_rules.specs.WrittenTypes.{Argument}
use Rattle.hack_written.specs.Within.{ParamsIn}
use Rattle.hack_calls.specs.Named.{SignatureIn, declared_as}
use Rattle.hack_calls.specs.inside.Rows.{AncestorsIn, HeadingIn, ancestors_of, declared_in, function_in, is_class_heading, signature_in}
use Rattle.hack_calls.proofs.Naming.{each_param, none}

-- ---- mentions

pub declared_law : (entry : Option Folded) → declared_in (heading_answer entry) ≡ declared_as entry
declared_law None = refl
declared_law (Some (folded.ClassLike class)) = refl
declared_law (Some (folded.Enum sig)) = refl
declared_law (Some (folded.Alias sig)) = refl
declared_law (Some (folded.Function sig)) = refl
declared_law (Some (folded.Constant ty)) = refl

module _ (symbols : Symbols) where
  in_declared : (answer : HeadingAnswer) → HeadingIn symbols answer → IfSome (declared_in answer) (λ declared. ParamsIn symbols declared.type_params)
  in_declared heading.Absent all = tt
  in_declared (heading.ClassLike class) all = each_param symbols class.type_params all
  in_declared (heading.Alias sig) all = each_param symbols sig.type_params (front (TypeIn symbols) (flat_map types_of_param sig.type_params) (sig.body ∷ []) all)
  in_declared (heading.Enum sig) all = none symbols (λ param. All (TypeIn symbols) (types_of_param param))
  in_declared (heading.Function sig) all = none symbols (λ param. All (TypeIn symbols) (types_of_param param))
  in_declared (heading.Constant ty) all = none symbols (λ param. All (TypeIn symbols) (types_of_param param))

  pub in_heading : (answer : HeadingAnswer) (entry : Option Folded) → IfSome entry (FoldedIn symbols) → answer ≡ heading_answer entry → HeadingIn symbols answer
  in_heading answer entry all is = subst (HeadingIn symbols) (sym is) (in_heading_answer symbols entry all)

  pub in_mention : (answer : HeadingAnswer) (entry : Option Folded) → IfSome entry (FoldedIn symbols) → answer ≡ heading_answer entry
      → IfSome (declared_in answer) (λ declared. ParamsIn symbols declared.type_params)
  in_mention answer entry all is = in_declared answer (in_heading answer entry all is)

-- ---- parents

pub ancestors_law : (entry : Option Folded) → ancestors_by (class_by entry) ≡ ancestors_of entry
ancestors_law None = refl
ancestors_law (Some (folded.ClassLike class)) = refl
ancestors_law (Some (folded.Enum sig)) = refl
ancestors_law (Some (folded.Alias sig)) = refl
ancestors_law (Some (folded.Function sig)) = refl
ancestors_law (Some (folded.Constant ty)) = refl

pub class_law : (entry : Option Folded) → is_class_heading (heading_answer entry) ≡ is_class_by (class_by entry)
class_law None = refl
class_law (Some (folded.ClassLike class)) = refl
class_law (Some (folded.Enum sig)) = refl
class_law (Some (folded.Alias sig)) = refl
class_law (Some (folded.Function sig)) = refl
class_law (Some (folded.Constant ty)) = refl

module _ (symbols : Symbols) where
  each_above : (ancestors : List Ancestor) → All (TypeIn symbols) (map (λ a. type.Class a.name a.arguments) ancestors) → AncestorsIn symbols ancestors
  each_above [] all = none symbols (λ (a : Ancestor). TypeIn symbols (type.Class a.name a.arguments))
  each_above (a ∷ as_) all =
      let type_of = λ (a : Ancestor). type.Class a.name a.arguments in
      All-cons (λ (a : Ancestor). TypeIn symbols (type_of a)) a as_ (All-head (TypeIn symbols) (type_of a) (map type_of as_) all)
      (each_above as_ (All-tail (TypeIn symbols) (type_of a) (map type_of as_) all))

  above : (entry : Option Folded) → IfSome entry (FoldedIn symbols) → AncestorsIn symbols (ancestors_of entry)
  above None all = none symbols (λ (a : Ancestor). TypeIn symbols (type.Class a.name a.arguments))
  above (Some (folded.ClassLike class)) all =
      let type_of = λ (a : Ancestor). type.Class a.name a.arguments in
      let types = λ (m : Member). types_of_kind m.kind in
      let params = flat_map types_of_param class.type_params in
      each_above class.ancestors
      (back (TypeIn symbols) params (map type_of class.ancestors) (front (TypeIn symbols) (params ++ map type_of class.ancestors) (flat_map types class.members) all))
  above (Some (folded.Enum sig)) all = none symbols (λ (a : Ancestor). TypeIn symbols (type.Class a.name a.arguments))
  above (Some (folded.Alias sig)) all = none symbols (λ (a : Ancestor). TypeIn symbols (type.Class a.name a.arguments))
  above (Some (folded.Function sig)) all = none symbols (λ (a : Ancestor). TypeIn symbols (type.Class a.name a.arguments))
  above (Some (folded.Constant ty)) all = none symbols (λ (a : Ancestor). TypeIn symbols (type.Class a.name a.arguments))

  pub in_ancestors : (found entry : Option Folded) → IfSome entry (FoldedIn symbols) → found ≡ entry → AncestorsIn symbols (ancestors_of found)
  in_ancestors found entry all is = subst (λ (o : Option Folded). AncestorsIn symbols (ancestors_of o)) (sym is) (above entry all)

-- ---- functions

pub function_law : (at : Place) (name : ℕ) (given : List Argument) (entry : Option Folded) → function_or at name given entry ≡ function_in at name given (heading_answer entry)
function_law at name given None = refl
function_law at name given (Some (folded.ClassLike class)) = refl
function_law at name given (Some (folded.Enum sig)) = refl
function_law at name given (Some (folded.Alias sig)) = refl
function_law at name given (Some (folded.Function sig)) = refl
function_law at name given (Some (folded.Constant ty)) = refl

pub in_signature : (symbols : Symbols) (answer : HeadingAnswer) (signature : Signature) → Some signature ≡ signature_in answer → HeadingIn symbols answer → SignatureIn symbols signature
in_signature symbols (heading.Function sig) signature is all = let same : sig ≡ signature = cc in subst (SignatureIn symbols) same all
in_signature symbols _ signature is all = absurd cc
