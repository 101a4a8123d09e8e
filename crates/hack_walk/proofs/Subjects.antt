-- A variable that is tested, by whether one is and it is there.
use Rattle.std.proofs.Common.{◌≡◌, ◌∙◌, ℕ, Option, Some, None, IfSome, option_map, refl, sym, ap, subst}
use Rattle.hack_types.specs.declared.hack_type.HackType.{HackType}
use Rattle.hack_decls.specs.DeclState.{Symbols}
use Rattle.hack_decls.specs.Names.{TypeIn}
use Rattle.hack_rules.specs.Meanings.{Branches}
use Rattle.hack_rules.specs.Variables.{Variables, refined, refined_by, type_in}
use Rattle.hack_walk.specs.Checks.{BranchesIn, VariablesIn}
use Rattle.hack_walk.specs.NamesKept.{in_type_in, in_with_variable}
use Rattle.hack_walk.specs.inside.Calls.{branches_with, put_at, subject_type}

there : (here : Variables) (name : ℕ) (f : HackType → HackType) (own : Option HackType) → put_at here (Some name) (option_map f own) ≡ refined_by here name f own
there here name f None = refl
there here name f (Some ty) = refl

whole : (here : Variables) (subject : Option ℕ) (f : HackType → HackType) → put_at here subject (option_map f (subject_type here subject)) ≡ refined here subject f
unfolding refined
whole here None f = refl
whole here (Some name) f = there here name f (type_in here name)

unchanged : (here : Variables) (subject : Option ℕ) → put_at here subject None ≡ here
unchanged here None = refl
unchanged here (Some name) = refl

pub refined_to : (here : Variables) (subject : Option ℕ) (f : HackType → HackType) (own : HackType) → Some own ≡ subject_type here subject
    → put_at here subject (Some (f own)) ≡ refined here subject f
refined_to here subject f own is = ap (λ (o : Option HackType). put_at here subject (option_map f o)) is ∙ whole here subject f

pub refined_not : (here : Variables) (subject : Option ℕ) (f : HackType → HackType) → None ≡ subject_type here subject → here ≡ refined here subject f
refined_not here subject f is = sym (unchanged here subject) ∙ ap (λ (o : Option HackType). put_at here subject (option_map f o)) is ∙ whole here subject f

module _ (symbols : Symbols) where
  subject_in : (here : Variables) (subject : Option ℕ) → VariablesIn symbols here → IfSome (subject_type here subject) (TypeIn symbols)
  subject_in here None all = tt
  subject_in here (Some name) all = in_type_in symbols here name all

  pub in_subject : (here : Variables) (subject : Option ℕ) (own : HackType) → Some own ≡ subject_type here subject → VariablesIn symbols here → TypeIn symbols own
  in_subject here subject own is all = subst (λ (o : Option HackType). IfSome o (TypeIn symbols)) (sym is) (subject_in here subject all)

  pub in_put_at : (here : Variables) (subject : Option ℕ) (ty : HackType) → VariablesIn symbols here → TypeIn symbols ty → VariablesIn symbols (put_at here subject (Some ty))
  in_put_at here None ty all own = all
  in_put_at here (Some name) ty all own = in_with_variable symbols here name ty all own

  -- both branches
  pub both_in : (made : Branches) (holding other : Variables) → made.when_true ≡ holding → made.when_false ≡ other
      → VariablesIn symbols holding → VariablesIn symbols other → BranchesIn symbols made
  both_in made holding other one two all others = record {
    when_true = subst (VariablesIn symbols) (sym one) all;
    when_false = subst (VariablesIn symbols) (sym two) others;
  }

pub branches_are : (made : Branches) (holding other : Variables) → made.when_true ≡ holding → made.when_false ≡ other → made ≡ branches_with holding other
branches_are made holding other one two = λ i. record { when_true = one i; when_false = two i }
