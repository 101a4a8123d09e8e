-- Checks of pairs, as far as both lists go.
use Rattle.std.proofs.Common.{◌≡◌, ◌∙◌, ◌<◌, ◌≤◌, ◌⊎◌, ◌+◌, ◌++◌, ℕ, zero, suc, Ok, List, [], ◌∷◌, length, min, take, get_or, refl, sym, ap, arith, inl, inr}
use Rattle.std.proofs.lemmas.Bool.{cases_lt}
use Rattle.std.proofs.lemmas.List.{length-take-le, take_more}
use Rattle.hack_decls.specs.Asks.{Nothing}
use Rattle.hack_decls.specs.DeclState.{DeclState, Map, Symbols}
use Rattle.hack_rules.specs.Walks.{Setting, State, Walk, ◌>>=◌, ◌>>◌, for_pairs, pure}
use Rattle.hack_walk.specs.Checks.{Walks}
use Rattle.hack_walk.specs.WalkLaws.{walks_as, walks_next, walks_pure}
use Rattle.hack_calls.proofs.Stepping.{walks_same}

module _ {A B : Type 0} (f : A → B → Walk (Unit {0})) where
  pairs_more : (setting : Setting) (m : Map) (xs : List A) (ys : List B) (x : A) (y : B) (s : State) → length xs ≡ length ys
      → for_pairs f (xs ++ x ∷ []) (ys ++ y ∷ []) setting m s ≡ (for_pairs f xs ys >> f x y) setting m s
  unfolding for_pairs ◌>>◌ ◌>>=◌ pure
  pairs_more setting m [] [] x y s e = refl
  pairs_more setting m [] (b ∷ ys) x y s e = absurd (omega (arith, e))
  pairs_more setting m (a ∷ xs) [] x y s e = absurd (omega (arith, e))
  pairs_more setting m (a ∷ xs) (b ∷ ys) x y s e = pairs_more setting m xs ys x y (f a b setting m s).1 (omega (arith, e))

  pairs_end : (xs : List A) (ys : List B) (n : ℕ) → n ≤ length xs → n ≤ length ys → (length xs ≤ n) ⊎ (length ys ≤ n)
      → for_pairs f (take n xs) (take n ys) ≡ for_pairs f xs ys
  unfolding for_pairs
  pairs_end [] ys zero lx ly e = refl
  pairs_end [] ys (suc n) lx ly e = absurd (omega (arith, lx))
  pairs_end (x ∷ xs) [] zero lx ly e = refl
  pairs_end (x ∷ xs) [] (suc n) lx ly e = absurd (omega (arith, ly))
  pairs_end (x ∷ xs) (y ∷ ys) zero lx ly (inl e) = absurd (omega (arith, e))
  pairs_end (x ∷ xs) (y ∷ ys) zero lx ly (inr e) = absurd (omega (arith, e))
  pairs_end (x ∷ xs) (y ∷ ys) (suc n) lx ly (inl e) = ap (λ (w : Walk (Unit {0})). f x y >> w) (pairs_end xs ys n (omega (arith, lx)) (omega (arith, ly)) (inl (omega (arith, e))))
  pairs_end (x ∷ xs) (y ∷ ys) (suc n) lx ly (inr e) = ap (λ (w : Walk (Unit {0})). f x y >> w) (pairs_end xs ys n (omega (arith, lx)) (omega (arith, ly)) (inr (omega (arith, e))))

  shorter : (a b i : ℕ) → min a b ≤ i → (a ≤ i) ⊎ (b ≤ i)
  shorter a b i le = by (cases_lt i a)
    where
      by : (i < a) ⊎ (a ≤ i) → (a ≤ i) ⊎ (b ≤ i)
      by (inr here) = inl here
      by (inl other) = inr (omega (arith, le, other))

  module _ {Base Held : Type 0} {setting : Setting} {Names : Symbols → Type 0} (xs : List A) (ys : List B) where
    pub no_pair : (state : DeclState Base Held) (here : State) → Walks (for_pairs f (take 0 xs) (take 0 ys)) setting state here (Ok tt) state here Names Nothing
    unfolding for_pairs
    no_pair state here = walks_pure state here tt (λ symbols n. tt)

    pub next_pair : {old mid new : DeclState Base Held} {before between behind : State} {NamesB : Symbols → Type 0} (i : ℕ) (x : A) (y : B)
        → i < length xs → i < length ys → x ≡ get_or xs i x → y ≡ get_or ys i y
        → Walks (for_pairs f (take i xs) (take i ys)) setting old before (Ok tt) mid between Names Nothing
        → Walks (f x y) setting mid between (Ok tt) new behind NamesB Nothing → ((symbols : Symbols) → Names symbols → NamesB symbols)
        → Walks (for_pairs f (take (i + 1) xs) (take (i + 1) ys)) setting old before (Ok tt) new behind Names Nothing
    next_pair {before = before} i x y lx ly atx aty first second more =
        let px : take (i + 1) xs ≡ take i xs ++ x ∷ [] = take_more xs i x lx ∙ ap (λ (e : A). take i xs ++ e ∷ []) (sym atx) in
        let py : take (i + 1) ys ≡ take i ys ++ y ∷ [] = take_more ys i y ly ∙ ap (λ (e : B). take i ys ++ e ∷ []) (sym aty) in
        let count : length (take i xs) ≡ length (take i ys) = length-take-le i xs (omega (arith, lx)) ∙ sym (length-take-le i ys (omega (arith, ly))) in
        walks_as (for_pairs f (take (i + 1) xs) (take (i + 1) ys)) (Ok tt)
        (walks_next (f x y) (Ok tt) first second (λ symbols n. n) (λ symbols n g. more symbols n) (λ symbols b n g h. tt))
        (λ map. (λ k. for_pairs f (px k) (py k) setting map before) ∙ pairs_more setting map (take i xs) (take i ys) x y before count)

    pub all_pairs : {old new : DeclState Base Held} {before behind : State} (i : ℕ) → i ≤ length xs → i ≤ length ys → min (length xs) (length ys) ≤ i
        → Walks (for_pairs f (take i xs) (take i ys)) setting old before (Ok tt) new behind Names Nothing
        → Walks (for_pairs f xs ys) setting old before (Ok tt) new behind Names Nothing
    all_pairs i lx ly end walks = walks_same (for_pairs f xs ys) (Ok tt) (sym (pairs_end xs ys i lx ly (shorter (length xs) (length ys) i end))) walks
