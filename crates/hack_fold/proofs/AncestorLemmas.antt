-- The set of names beside a list of ancestors.
use Rattle.std.proofs.Common.{◌≡◌, not, ℕ, Bool, true, false, cond, List, [], ◌∷◌, ◌++◌, refl, sym, ap, ◌∙◌}
use Rattle.hack_types.specs.declared.hack_type.HackType.{HackType}
use Rattle.hack_decls.specs.declared.folded.Ancestor.{Ancestor}
use Rattle.hack_fold.specs.Walked.{with_ancestor}
use Rattle.hack_fold.proofs.Firsts.{has}

abbrev pub ancestor : ℕ → List HackType → Ancestor
ancestor name arguments = record { name = name; arguments = arguments }

not_false : (b : Bool) → not b ≡ false → b ≡ true
not_false true e = refl
not_false false e = absurd cc

not_true : (b : Bool) → not b ≡ true → b ≡ false
not_true true e = absurd cc
not_true false e = refl

module _ (list : List Ancestor) (one : Ancestor) (was added : Bool) (told : added ≡ not was) (here : was ≡ has list one.name) where
  pub add_known : added ≡ false → list ≡ with_ancestor list one
  add_known not_added = sym (ap (λ b. cond b list (list ++ one ∷ [])) (sym here ∙ not_false was (sym told ∙ not_added)))

  pub add_new : added ≡ true → list ++ one ∷ [] ≡ with_ancestor list one
  add_new is_added = sym (ap (λ b. cond b list (list ++ one ∷ [])) (sym here ∙ not_true was (sym told ∙ is_added)))

-- the one that is pushed has the arguments that were made
pub pushed : (list new : List Ancestor) (name : ℕ) (made given : List HackType) → new ≡ list ++ ancestor name made ∷ [] → made ≡ given
    → list ++ ancestor name given ∷ [] ≡ with_ancestor list (ancestor name given) → new ≡ with_ancestor list (ancestor name given)
pushed list new name made given is same put = is ∙ ap (λ a. list ++ ancestor name a ∷ []) same ∙ put
