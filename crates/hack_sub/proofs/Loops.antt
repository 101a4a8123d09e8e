-- Loops that ask one question at each step, and their lists.
use Rattle.std.proofs.Common.{◌≡◌, ◌&&◌, ◌||◌, ◌∙◌, ◌<◌, ◌≤◌, ◌+◌, ℕ, zero, suc, Bool, true, false, cond, Some, None, Ok, Err, List, [], ◌∷◌, length, get_or, drop, refl, sym, ap, arith}
use Rattle.std.proofs.lemmas.List.{at_drop_more, at_drop_all}
use Rattle.std.specs.List.{find, list_all, list_any}
use Rattle.hack_decls.specs.AskLaws.{failed, said, then, unasked}
use Rattle.hack_decls.specs.Asks.{Nothing}
use Rattle.hack_decls.specs.DeclState.{DeclState, Map, Symbols}
use Rattle.hack_decls.specs.declared.stop.DeclStop.{DeclStop}
use Rattle.hack_sub.specs.inside.Calls.{SoFar, Tells}

module _ {Base Held : Type 0} where
  pub begun : (state : DeclState Base Held) (whole : Map → Bool) {Names : Symbols → Type 0} → SoFar state state whole whole Names
  begun state whole = unasked state tt (λ map. refl) (λ symbols n. tt)

  -- nothing is left to ask
  pub ended : {old new : DeclState Base Held} {whole rest : Map → Bool} {Names : Symbols → Type 0} → SoFar old new whole rest Names
      → (b : Bool) → ((map : Map) → rest map ≡ b) → Tells old (Ok b) new whole Names
  ended so_far b is = said b so_far (λ map w. sym (w ∙ is map)) (λ symbols n. n) (λ symbols n g. tt)

  module _ {old mid new : DeclState Base Held} {whole rest test : Map → Bool} {Names NamesB : Symbols → Type 0} where
    -- the answer leaves the rest
    pub went_on : (next : Map → Bool) → SoFar old mid whole rest Names → (b : Bool) → Tells mid (Ok b) new test NamesB
        → ((map : Map) → b ≡ test map → rest map ≡ next map) → ((symbols : Symbols) → Names symbols → NamesB symbols) → SoFar old new whole next Names
    went_on next so_far b tells step names =
        said tt (then {MeansC = λ map (answer : Bool). (whole map ≡ rest map) × (answer ≡ test map)} {NamesC = Names} {GivesC = Nothing} (Ok b) so_far tells
        (λ map answer w e. (w, e)) (λ symbols n. n) (λ symbols n g. names symbols n) (λ symbols answer n g h. tt))
        (λ map w. w.0 ∙ step map w.1) (λ symbols n. n) (λ symbols n g. tt)

    -- the answer settles the whole
    pub stopped : SoFar old mid whole rest Names → (b : Bool) → Tells mid (Ok b) new test NamesB → (answer : Bool)
        → ((map : Map) → b ≡ test map → rest map ≡ answer) → ((symbols : Symbols) → Names symbols → NamesB symbols) → Tells old (Ok answer) new whole Names
    stopped so_far b tells answer step names =
        said answer (then {MeansC = λ map (given : Bool). (whole map ≡ rest map) × (given ≡ test map)} {NamesC = Names} {GivesC = Nothing} (Ok b) so_far tells
        (λ map given w e. (w, e)) (λ symbols n. n) (λ symbols n g. names symbols n) (λ symbols given n g h. tt))
        (λ map w. sym (w.0 ∙ step map w.1)) (λ symbols n. n) (λ symbols n g. tt)

    pub broken : SoFar old mid whole rest Names → (e : DeclStop) → Tells mid (Err e) new test NamesB
        → ((symbols : Symbols) → Names symbols → NamesB symbols) → Tells old (Err e) new whole Names
    broken so_far e tells names =
        failed (then {MeansC = λ map (answer : Bool). answer ≡ test map} {NamesC = Names} {GivesC = Nothing} (Err e) so_far tells
        (λ map answer w is. is) (λ symbols n. n) (λ symbols n g. names symbols n) (λ symbols answer n g h. tt))
        (λ symbols n. n)

-- an element by its place, whatever stands past the end
pub by_place : {X : Type 0} (xs : List X) (i : ℕ) (d e : X) → i < length xs → get_or xs i d ≡ get_or xs i e
by_place [] i d e lt = absurd (omega (arith, lt))
by_place (x ∷ xs) zero d e lt = refl
by_place (x ∷ xs) (suc i) d e lt = by_place xs i d e (omega (arith, lt))

-- lists from one place on
module _ {X : Type 0} (p : X → Bool) (xs : List X) (i : ℕ) where
  pub all_left : length xs ≤ i → list_all p (drop i xs) ≡ true
  all_left le = at_drop_all (list_all p) xs i le

  pub none_left : length xs ≤ i → list_any p (drop i xs) ≡ false
  none_left le = at_drop_all (list_any p) xs i le

  pub find_left : length xs ≤ i → find p (drop i xs) ≡ None
  find_left le = at_drop_all (find p) xs i le

  module _ (x : X) (lt : i < length xs) (at : x ≡ get_or xs i x) where
    find_next : find p (drop i xs) ≡ cond (p x) (Some x) (find p (drop (i + 1) xs))
    find_next = at_drop_more (find p) xs i x lt ∙ ap (λ y. cond (p y) (Some y) (find p (drop (i + 1) xs))) (sym at)

    pub find_passed : p x ≡ false → find p (drop i xs) ≡ find p (drop (i + 1) xs)
    find_passed e = find_next ∙ ap (λ b. cond b (Some x) (find p (drop (i + 1) xs))) e

    pub find_here : p x ≡ true → find p (drop i xs) ≡ Some x
    find_here e = find_next ∙ ap (λ b. cond b (Some x) (find p (drop (i + 1) xs))) e

    all_next : list_all p (drop i xs) ≡ (p x && list_all p (drop (i + 1) xs))
    all_next = at_drop_more (list_all p) xs i x lt ∙ ap (λ y. p y && list_all p (drop (i + 1) xs)) (sym at)

    any_next : list_any p (drop i xs) ≡ (p x || list_any p (drop (i + 1) xs))
    any_next = at_drop_more (list_any p) xs i x lt ∙ ap (λ y. p y || list_any p (drop (i + 1) xs)) (sym at)

    pub all_passed : p x ≡ true → list_all p (drop i xs) ≡ list_all p (drop (i + 1) xs)
    all_passed e = all_next ∙ ap (λ b. b && list_all p (drop (i + 1) xs)) e

    pub all_failed : p x ≡ false → list_all p (drop i xs) ≡ false
    all_failed e = all_next ∙ ap (λ b. b && list_all p (drop (i + 1) xs)) e

    pub any_failed : p x ≡ false → list_any p (drop i xs) ≡ list_any p (drop (i + 1) xs)
    any_failed e = any_next ∙ ap (λ b. b || list_any p (drop (i + 1) xs)) e

    pub any_passed : p x ≡ true → list_any p (drop i xs) ≡ true
    any_passed e = any_next ∙ ap (λ b. b || list_any p (drop (i + 1) xs)) e
