-- Questions one after another, until one settles the whole.
use Rattle.std.proofs.Common.{◌≡◌, ◌∙◌, ◌<◌, ◌≤◌, ◌+◌, ℕ, Bool, true, false, Option, Some, None, Ok, List, length, get_or, drop, cond, option_map, refl, sym, ap}
use Rattle.std.proofs.lemmas.List.{at_drop_more, at_drop_all}
use Rattle.std.specs.List.{find}
use Rattle.hack_types.specs.declared.hack_type.HackType.{HackType}
use Rattle.hack_decls.specs.AskLaws.{said, then, unasked}
use Rattle.hack_decls.specs.Asks.{Asks, Nothing}
use Rattle.hack_decls.specs.DeclState.{DeclState, Map, Symbols}
use Rattle.hack_decls.specs.declared.folded.Ancestor.{Ancestor}
use Rattle.hack_rules.specs.Classes.{is_class}
use Rattle.hack_calls.specs.inside.Rows.{ancestor_type, first_of}

-- a loop so far: the whole is what is left of it
abbrev pub SoFar : {Base Held X : Type 0} → DeclState Base Held → DeclState Base Held → (Map → X) → (Map → X) → (Symbols → Type 0) → Type 0
SoFar {Base} {Held} {X} old new whole rest Names = Asks old (Ok tt) new (λ map (done : Unit {0}). whole map ≡ rest map) Names Nothing

module _ {Base Held X : Type 0} where
  pub begun : (state : DeclState Base Held) (whole : Map → X) {Names : Symbols → Type 0} → SoFar state state whole whole Names
  begun state whole = unasked state tt (λ map. refl) (λ symbols n. tt)

  module _ {old mid new : DeclState Base Held} {whole rest : Map → X} {test : Map → Bool} {Names NamesB : Symbols → Type 0} where
    -- the answer leaves the rest
    pub went_on : (next : Map → X) → SoFar old mid whole rest Names → (b : Bool) → Asks mid (Ok b) new (λ map answer. answer ≡ test map) NamesB Nothing
        → ((map : Map) → b ≡ test map → rest map ≡ next map) → ((symbols : Symbols) → Names symbols → NamesB symbols) → SoFar old new whole next Names
    went_on next so_far b tells step names =
        said tt (then {MeansC = λ map (answer : Bool). (whole map ≡ rest map) × (answer ≡ test map)} {NamesC = Names} {GivesC = Nothing} (Ok b) so_far tells
        (λ map answer w e. (w, e)) (λ symbols n. n) (λ symbols n g. names symbols n) (λ symbols answer n g h. tt))
        (λ map w. w.0 ∙ step map w.1) (λ symbols n. n) (λ symbols n g. tt)

-- the first class among those that are left
module _ (map : Map) (xs : List Ancestor) (i : ℕ) where
  pub none_left : length xs ≤ i → None ≡ first_of map (drop i xs)
  none_left le = sym (at_drop_all (first_of map) xs i le)

  module _ (x : Ancestor) (lt : i < length xs) (at : x ≡ get_or xs i x) where
    abbrev by_first : Bool → Option HackType
    by_first b = option_map ancestor_type (cond b (Some x) (find (λ (ancestor : Ancestor). is_class map ancestor.name) (drop (i + 1) xs)))

    here : first_of map (drop i xs) ≡ by_first (is_class map x.name)
    here = at_drop_more (first_of map) xs i x lt
        ∙ ap (λ (y : Ancestor). option_map ancestor_type (cond (is_class map y.name) (Some y) (find (λ (ancestor : Ancestor). is_class map ancestor.name) (drop (i + 1) xs)))) (sym at)

    pub passed : (b : Bool) → b ≡ is_class map x.name → b ≡ false → first_of map (drop i xs) ≡ first_of map (drop (i + 1) xs)
    passed b is fails = here ∙ ap by_first (sym is ∙ fails)

    pub found : (b : Bool) → b ≡ is_class map x.name → b ≡ true → first_of map (drop i xs) ≡ Some (ancestor_type x)
    found b is holds = here ∙ ap by_first (sym is ∙ holds)
