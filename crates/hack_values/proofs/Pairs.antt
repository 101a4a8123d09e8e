-- Loops over two lists of one length.
use Rattle.std.proofs.Common.{◌≡◌, ◌∙◌, ◌<◌, ◌≤◌, ◌+◌, ◌++◌, ◌∷◌, ℕ, Ok, List, [], length, take, get_or, refl, sym, ap, arith}
use Rattle.std.proofs.lemmas.List.{length-take-le, take_all, take_more}
use Rattle.hack_decls.specs.Asks.{Nothing}
use Rattle.hack_decls.specs.DeclState.{DeclState, Map, Symbols}
use Rattle.hack_rules.specs.Walks.{Setting, State, Walk, ◌>>=◌, ◌>>◌, for_pairs, pure}
use Rattle.hack_walk.specs.Checks.{Walks}
use Rattle.hack_walk.specs.WalkLaws.{walks_as, walks_next}

module _ {A B : Type 0} (f : A → B → Walk (Unit {0})) (setting : Setting) where
  pairs_more : (xs : List A) (ys : List B) (x : A) (y : B) (m : Map) (s : State) → length xs ≡ length ys
      → for_pairs f (xs ++ x ∷ []) (ys ++ y ∷ []) setting m s ≡ f x y setting m (for_pairs f xs ys setting m s).1
  unfolding for_pairs ◌>>◌ ◌>>=◌ pure
  pairs_more [] [] x y m s e = refl
  pairs_more [] (b ∷ ys) x y m s e = absurd (omega (arith, e))
  pairs_more (a ∷ xs) [] x y m s e = absurd (omega (arith, e))
  pairs_more (a ∷ xs) (b ∷ ys) x y m s e = pairs_more xs ys x y m (f a b setting m s).1 (omega (arith, e))

  pairs_taken : (xs : List A) (ys : List B) (i : ℕ) (x : A) (y : B) → i < length xs → i < length ys → x ≡ get_or xs i x → y ≡ get_or ys i y → (m : Map) (s : State)
      → for_pairs f (take (i + 1) xs) (take (i + 1) ys) setting m s ≡ (for_pairs f (take i xs) (take i ys) >> f x y) setting m s
  unfolding ◌>>◌ ◌>>=◌
  pairs_taken xs ys i x y lx ly ax ay m s =
      let mx : take (i + 1) xs ≡ take i xs ++ x ∷ [] = take_more xs i x lx ∙ ap (λ (z : A). take i xs ++ z ∷ []) (sym ax) in
      let my : take (i + 1) ys ≡ take i ys ++ y ∷ [] = take_more ys i y ly ∙ ap (λ (z : B). take i ys ++ z ∷ []) (sym ay) in
      let count : length (take i xs) ≡ length (take i ys) = length-take-le i xs (omega (arith, lx)) ∙ sym (length-take-le i ys (omega (arith, ly))) in
      (λ k. for_pairs f (mx k) (my k) setting m s) ∙ pairs_more (take i xs) (take i ys) x y m s count

  module _ {Base Held : Type 0} {Names : Symbols → Type 0} {old new : DeclState Base Held} {before behind : State} where
    pub pairs_all : (xs : List A) (ys : List B) (i : ℕ) → length xs ≤ i → length ys ≤ i → Walks (for_pairs f (take i xs) (take i ys)) setting old before (Ok tt) new behind Names Nothing
        → Walks (for_pairs f xs ys) setting old before (Ok tt) new behind Names Nothing
    pairs_all xs ys i lx ly walks =
        walks_as _ (Ok tt) walks (λ m. sym (λ k. for_pairs f (take_all i xs lx k) (take_all i ys ly k) setting m before))

  module _ {Base Held : Type 0} {Names NamesB : Symbols → Type 0} {old mid new : DeclState Base Held} {before between behind : State} where
    pub pairs_next : (xs : List A) (ys : List B) (i : ℕ) (x : A) (y : B) → i < length xs → i < length ys → x ≡ get_or xs i x → y ≡ get_or ys i y
        → Walks (for_pairs f (take i xs) (take i ys)) setting old before (Ok tt) mid between Names Nothing → Walks (f x y) setting mid between (Ok tt) new behind NamesB Nothing
        → ((symbols : Symbols) → Names symbols → NamesB symbols) → Walks (for_pairs f (take (i + 1) xs) (take (i + 1) ys)) setting old before (Ok tt) new behind Names Nothing
    pairs_next xs ys i x y lx ly ax ay first second onward =
        walks_as _ (Ok tt) (walks_next (f x y) (Ok tt) first second (λ symbols n. n) (λ symbols n g. onward symbols n) (λ symbols b n g h. tt))
        (λ m. pairs_taken xs ys i x y lx ly ax ay m before)
