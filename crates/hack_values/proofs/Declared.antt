-- What is declared under a constant's name.
use Rattle.std.proofs.Common.{◌≡◌, ℕ, Option, Some, None, IfSome, [], refl, subst, sym}
use Rattle.std.proofs.lemmas.List.Elements.{All-head}
use Rattle.hack_types.specs.declared.place.Place.{Place}
use Rattle.hack_decls.specs.DeclState.{Symbols}
use Rattle.hack_decls.specs.Names.{FoldedIn, TypeIn}
use Rattle.hack_decls.specs.Picks.{heading_answer}
use Rattle.hack_decls.specs.declared.answers.HeadingAnswer.{HeadingAnswer}
use Rattle.hack_decls.specs.declared.folded.Folded.{Folded}
use Rattle.hack_decls.specs.declared.folded.Folded.TheVariants as folded
use Rattle.hack_rules.specs.Values.{constant_or}
use Rattle.hack_values.specs.inside.Rows.{constant_by, constant_in, declared_or}

pub heading_law : (entry : Option Folded) → constant_in (heading_answer entry) ≡ constant_by entry
heading_law None = refl
heading_law (Some (folded.ClassLike class)) = refl
heading_law (Some (folded.Enum sig)) = refl
heading_law (Some (folded.Alias sig)) = refl
heading_law (Some (folded.Function sig)) = refl
heading_law (Some (folded.Constant ty)) = refl

pub constant_law : (at : Place) (name : ℕ) (entry : Option Folded) → constant_or at name entry ≡ declared_or at name (constant_by entry)
constant_law at name None = refl
constant_law at name (Some (folded.ClassLike class)) = refl
constant_law at name (Some (folded.Enum sig)) = refl
constant_law at name (Some (folded.Alias sig)) = refl
constant_law at name (Some (folded.Function sig)) = refl
constant_law at name (Some (folded.Constant ty)) = refl

module _ (symbols : Symbols) where
  in_constant : (entry : Option Folded) → IfSome entry (FoldedIn symbols) → IfSome (constant_in (heading_answer entry)) (TypeIn symbols)
  in_constant None all = tt
  in_constant (Some (folded.ClassLike class)) all = tt
  in_constant (Some (folded.Enum sig)) all = tt
  in_constant (Some (folded.Alias sig)) all = tt
  in_constant (Some (folded.Function sig)) all = tt
  in_constant (Some (folded.Constant ty)) all = All-head (TypeIn symbols) ty [] all

  pub in_heading : (entry : Option Folded) (h : HeadingAnswer) → IfSome entry (FoldedIn symbols) → h ≡ heading_answer entry → IfSome (constant_in h) (TypeIn symbols)
  in_heading entry h all is = subst (λ (x : HeadingAnswer). IfSome (constant_in x) (TypeIn symbols)) (sym is) (in_constant entry all)
