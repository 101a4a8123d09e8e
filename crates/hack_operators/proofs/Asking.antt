-- How the clauses of calls that ask for a class are put together.
use Rattle.std.proofs.Common.{◌≡◌, ◌∙◌, ◌<◌, ◌≤◌, ◌+◌, ℕ, zero, suc, Bool, true, false, cond, Result, Ok, Err, List, [], ◌∷◌, length, get_or, drop, refl, sym, ap, arith}
use Rattle.std.proofs.lemmas.List.{at_drop_more, at_drop_all}
use Rattle.hack_decls.specs.AskLaws.{said, then}
use Rattle.hack_decls.specs.Asks.{Asks, Nothing}
use Rattle.hack_decls.specs.DeclState.{DeclState, Map, Symbols}
use Rattle.hack_decls.specs.declared.stop.DeclStop.{DeclStop}
use Rattle.hack_rules.specs.Operators as rules
use Rattle.hack_walk.specs.WalkLaws.{asked_refused}
use Rattle.hack_operators.specs.Seen.{class_seen}
use Rattle.hack_operators.specs.declared.class.OperandClass.{OperandClass}
use Rattle.hack_operators.specs.inside.Asked.{first_of}

-- ---- the loop over the classes

-- so far, the whole is what is left of it
abbrev pub SoFar : {Base Held : Type 0} → DeclState Base Held → DeclState Base Held → (Map → rules.OperandClass) → (Map → rules.OperandClass) → (Symbols → Type 0) → Type 0
SoFar {Base} {Held} old new whole rest Names = Asks old (Ok tt) new (λ map (done : Unit {0}). whole map ≡ rest map) Names Nothing

-- a call that answers a class
abbrev pub Finds : {Base Held : Type 0} → DeclState Base Held → Result OperandClass DeclStop → DeclState Base Held → (Map → rules.OperandClass) → (Symbols → Type 0) → Type 0
Finds old result new whole Names = Asks old result new (λ map class. class_seen class ≡ whole map) Names Nothing

-- a call that answers a test
abbrev pub Tells : {Base Held : Type 0} → DeclState Base Held → Result Bool DeclStop → DeclState Base Held → (Map → Bool) → (Symbols → Type 0) → Type 0
Tells old result new test Names = Asks old result new (λ map answer. answer ≡ test map) Names Nothing

module _ {Base Held : Type 0} where
  -- nothing is left to ask
  pub ended : {old new : DeclState Base Held} {whole rest : Map → rules.OperandClass} {Names : Symbols → Type 0} → SoFar old new whole rest Names
      → (class : OperandClass) → ((map : Map) → rest map ≡ class_seen class) → Finds old (Ok class) new whole Names
  ended so_far class is = said class so_far (λ map w. sym (w ∙ is map)) (λ symbols n. n) (λ symbols n g. tt)

  module _ {old mid new : DeclState Base Held} {whole rest : Map → rules.OperandClass} {test : Map → Bool} {Names : Symbols → Type 0} where
    -- the answer leaves the rest
    pub went_on : (next : Map → rules.OperandClass) → SoFar old mid whole rest Names → (b : Bool) → Tells mid (Ok b) new test Names
        → ((map : Map) → b ≡ test map → rest map ≡ next map) → SoFar old new whole next Names
    went_on next so_far b tells step =
        said tt (then {MeansC = λ map (answer : Bool). (whole map ≡ rest map) × (answer ≡ test map)} {NamesC = Names} {GivesC = Nothing} (Ok b) so_far tells
        (λ map answer w e. (w, e)) (λ symbols n. n) (λ symbols n g. n) (λ symbols answer n g h. tt))
        (λ map w. w.0 ∙ step map w.1) (λ symbols n. n) (λ symbols n g. tt)

    -- the answer settles the whole
    pub stopped : SoFar old mid whole rest Names → (b : Bool) → Tells mid (Ok b) new test Names → (class : OperandClass)
        → ((map : Map) → b ≡ test map → rest map ≡ class_seen class) → Finds old (Ok class) new whole Names
    stopped so_far b tells class step =
        said class (then {MeansC = λ map (given : Bool). (whole map ≡ rest map) × (given ≡ test map)} {NamesC = Names} {GivesC = Nothing} (Ok b) so_far tells
        (λ map given w e. (w, e)) (λ symbols n. n) (λ symbols n g. n) (λ symbols given n g h. tt))
        (λ map w. sym (w.0 ∙ step map w.1)) (λ symbols n. n) (λ symbols n g. tt)

    pub given_up : SoFar old mid whole rest Names → (e : DeclStop) → Tells mid (Err e) new test Names → Finds old (Err e) new whole Names
    given_up so_far e tells = asked_refused so_far tells (λ symbols n g. n)

-- an element by its place, whatever stands past the end
pub by_place : {X : Type 0} (xs : List X) (i : ℕ) (d e : X) → i < length xs → get_or xs i d ≡ get_or xs i e
by_place [] i d e lt = absurd (omega (arith, lt))
by_place (x ∷ xs) zero d e lt = refl
by_place (x ∷ xs) (suc i) d e lt = by_place xs i d e (omega (arith, lt))

-- the classes from one place on
module _ (test : OperandClass → Bool) (xs : List OperandClass) (i : ℕ) where
  pub none_left : length xs ≤ i → first_of test (drop i xs) ≡ rules.other
  none_left le = at_drop_all (first_of test) xs i le

  module _ (x : OperandClass) (lt : i < length xs) (at : x ≡ get_or xs i x) where
    next : first_of test (drop i xs) ≡ cond (test x) (class_seen x) (first_of test (drop (i + 1) xs))
    next = at_drop_more (first_of test) xs i x lt ∙ ap (λ y. cond (test y) (class_seen y) (first_of test (drop (i + 1) xs))) (sym at)

    pub passed_by : test x ≡ false → first_of test (drop i xs) ≡ first_of test (drop (i + 1) xs)
    passed_by e = next ∙ ap (λ b. cond b (class_seen x) (first_of test (drop (i + 1) xs))) e

    pub met : test x ≡ true → first_of test (drop i xs) ≡ class_seen x
    met e = next ∙ ap (λ b. cond b (class_seen x) (first_of test (drop (i + 1) xs))) e
