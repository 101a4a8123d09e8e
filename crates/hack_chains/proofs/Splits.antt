-- All but the last of a list, and the last.
use Rattle.std.proofs.Common.{◌++◌, ◌∷◌, [], List, All}
use Rattle.std.proofs.lemmas.List.Elements.{All-head}
use Rattle.hack_decls.specs.NameLaws.{back, front}

module _ {X : Type 0} where
  pub in_front : (P : X → Type 0) (xs : List X) (x : X) → All P (xs ++ x ∷ []) → All P xs
  in_front P xs x all = front P xs (x ∷ []) all

  pub in_last : (P : X → Type 0) (xs : List X) (x : X) → All P (xs ++ x ∷ []) → P x
  in_last P xs x all = All-head P x [] (back P xs (x ∷ []) all)
