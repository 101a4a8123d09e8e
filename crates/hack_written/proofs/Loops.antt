-- Questions one after another, each with a truth value for its answer.
use Rattle.std.proofs.Common.{◌≡◌, ◌&&◌, ◌∙◌, ◌<◌, ◌≤◌, ◌+◌, ℕ, Bool, true, false, Result, Ok, Err, List, length, get_or, drop, All, refl, sym, ap, subst}
use Rattle.std.proofs.lemmas.List.{at_drop_more, at_drop_all}
use Rattle.std.specs.List.{list_all}
use Rattle.hack_types.specs.declared.hack_type.HackType.{HackType}
use Rattle.hack_decls.specs.AskLaws.{failed, said, then, unasked}
use Rattle.hack_decls.specs.Asks.{Asks, Nothing}
use Rattle.hack_decls.specs.DeclState.{DeclState, Map, Symbols}
use Rattle.hack_decls.specs.Names.{TypeIn}
use Rattle.hack_decls.specs.declared.stop.DeclStop.{DeclStop}

-- a question with this answer over every map
abbrev pub Tells : {Base Held : Type 0} → DeclState Base Held → Result Bool DeclStop → DeclState Base Held → (Map → Bool) → (Symbols → Type 0) → Type 0
Tells {Base} {Held} old result new whole Names = Asks old result new (λ map answer. answer ≡ whole map) Names Nothing

-- a loop so far: the whole is what is left of it
abbrev pub SoFar : {Base Held : Type 0} → DeclState Base Held → DeclState Base Held → (Map → Bool) → (Map → Bool) → (Symbols → Type 0) → Type 0
SoFar {Base} {Held} old new whole rest Names = Asks old (Ok tt) new (λ map (done : Unit {0}). whole map ≡ rest map) Names Nothing

module _ {Base Held : Type 0} where
  pub restated : {A : Type 0} {Means MeansB : Map → A → Type 0} {Names NamesB : Symbols → Type 0} {Gives GivesB : Symbols → A → Type 0} {old new : DeclState Base Held}
      (result : Result A DeclStop) → Asks old result new Means Names Gives → ((map : Map) (a : A) → Means map a → MeansB map a)
      → ((symbols : Symbols) → NamesB symbols → Names symbols) → ((symbols : Symbols) (a : A) → NamesB symbols → Gives symbols a → GivesB symbols a)
      → Asks old result new MeansB NamesB GivesB
  restated (Ok a) asks means more gives = said a asks (λ map m. means map a m) more (λ symbols n g. gives symbols a n g)
  restated (Err e) asks means more gives = failed asks more

  pub begun : (state : DeclState Base Held) (whole : Map → Bool) {Names : Symbols → Type 0} → SoFar state state whole whole Names
  begun state whole = unasked state tt (λ map. refl) (λ symbols n. tt)

  pub ended : {old new : DeclState Base Held} {whole rest : Map → Bool} {Names : Symbols → Type 0} → SoFar old new whole rest Names
      → (b : Bool) → ((map : Map) → rest map ≡ b) → Tells old (Ok b) new whole Names
  ended so_far b is = said b so_far (λ map w. sym (w ∙ is map)) (λ symbols n. n) (λ symbols n g. tt)

  module _ {old mid new : DeclState Base Held} {whole rest test : Map → Bool} {Names NamesB : Symbols → Type 0} where
    -- the answer leaves the rest
    pub went_on : (next : Map → Bool) → SoFar old mid whole rest Names → (b : Bool) → Tells mid (Ok b) new test NamesB
        → ((map : Map) → b ≡ test map → rest map ≡ next map) → ((symbols : Symbols) → Names symbols → NamesB symbols) → SoFar old new whole next Names
    went_on next so_far b tells step names =
        said tt (then {MeansC = λ map (answer : Bool). (whole map ≡ rest map) × (answer ≡ test map)} {NamesC = Names} {GivesC = Nothing} (Ok b) so_far tells
        (λ map answer w e. (w, e)) (λ symbols n. n) (λ symbols n g. names symbols n) (λ symbols answer n g h. tt))
        (λ map w. w.0 ∙ step map w.1) (λ symbols n. n) (λ symbols n g. tt)

    -- the answer settles the whole
    pub stopped : SoFar old mid whole rest Names → (b : Bool) → Tells mid (Ok b) new test NamesB → (answer : Bool)
        → ((map : Map) → b ≡ test map → rest map ≡ answer) → ((symbols : Symbols) → Names symbols → NamesB symbols) → Tells old (Ok answer) new whole Names
    stopped so_far b tells answer step names =
        said answer (then {MeansC = λ map (given : Bool). (whole map ≡ rest map) × (given ≡ test map)} {NamesC = Names} {GivesC = Nothing} (Ok b) so_far tells
        (λ map given w e. (w, e)) (λ symbols n. n) (λ symbols n g. names symbols n) (λ symbols given n g h. tt))
        (λ map w. sym (w.0 ∙ step map w.1)) (λ symbols n. n) (λ symbols n g. tt)

    pub broken : SoFar old mid whole rest Names → (e : DeclStop) → Tells mid (Err e) new test NamesB
        → ((symbols : Symbols) → Names symbols → NamesB symbols) → Tells old (Err e) new whole Names
    broken so_far e tells names =
        failed (then {MeansC = λ map (answer : Bool). answer ≡ test map} {NamesC = Names} {GivesC = Nothing} (Err e) so_far tells
        (λ map answer w is. is) (λ symbols n. n) (λ symbols n g. names symbols n) (λ symbols answer n g h. tt))
        (λ symbols n. n)

-- lists from one place on
module _ {X : Type 0} (p : X → Bool) (xs : List X) (i : ℕ) where
  pub all_left : length xs ≤ i → list_all p (drop i xs) ≡ true
  all_left le = at_drop_all (list_all p) xs i le

  module _ (x : X) (lt : i < length xs) (at : x ≡ get_or xs i x) where
    all_next : list_all p (drop i xs) ≡ (p x && list_all p (drop (i + 1) xs))
    all_next = at_drop_more (list_all p) xs i x lt ∙ ap (λ y. p y && list_all p (drop (i + 1) xs)) (sym at)

    pub all_passed : p x ≡ true → list_all p (drop i xs) ≡ list_all p (drop (i + 1) xs)
    all_passed e = all_next ∙ ap (λ b. b && list_all p (drop (i + 1) xs)) e

    pub all_failed : p x ≡ false → list_all p (drop i xs) ≡ false
    all_failed e = all_next ∙ ap (λ b. b && list_all p (drop (i + 1) xs)) e

-- an element of a list whose images name only these symbols
pub in_all : (symbols : Symbols) (put : HackType → HackType) (types : List HackType) (i : ℕ) (x : HackType) → i < length types → x ≡ get_or types i x
    → All (λ t. TypeIn symbols (put t)) types → TypeIn symbols (put x)
in_all symbols put types i x lt at all = subst (λ t. TypeIn symbols (put t)) (sym at) (all i x lt)
