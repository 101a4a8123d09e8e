-- All declarations are first units where each one is.
use Rattle.std.proofs.Common.{◌≡◌, ◌&&◌, List, [], ◌∷◌, Option, None, Some, is_some, refl, sym, ap, ◌∙◌}
use Rattle.std.specs.List.{list_all}
use Rattle.hack_tree.specs.declared.declaration.Unit.{Unit as UnitOf}
use Rattle.hack_first.specs.FirstTrees.{first_in, first_units, and_more}

one_and_others : {A : Type 0} (first : Option A) (others : Option (List A)) → is_some (and_more first others) ≡ (is_some first && is_some others)
one_and_others (Some x) (Some xs) = refl
one_and_others (Some x) None = refl
one_and_others None others = refl

pub all_first : (units : List UnitOf) → list_all (λ u. is_some (first_in u.start u.tree)) units ≡ is_some (first_units units)
all_first [] = refl
all_first (u ∷ units) = ap (λ b. is_some (first_in u.start u.tree) && b) (all_first units) ∙ sym (one_and_others (first_in u.start u.tree) (first_units units))
