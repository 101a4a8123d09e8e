-- How the clauses of checks are put together.
use Rattle.std.proofs.Common.{◌≡◌, ◌∙◌, Result, Ok, Err, sym, ap, subst}
use Rattle.hack_decls.specs.AskLaws.{failed, said, then, unasked, without_memory}
use Rattle.hack_decls.specs.Asks.{Asks}
use Rattle.hack_decls.specs.DeclState.{DeclState, Map, Symbols}
use Rattle.hack_decls.specs.declared.stop.DeclStop.{DeclStop}
use Rattle.hack_decls.specs.declared.stop.DeclStop.TheVariants as stop
use Rattle.hack_rules.specs.Variables.{Variables}
use Rattle.hack_rules.specs.Walks.{Setting, State, Walk}
use Rattle.hack_sub.specs.Named.{Around}
use Rattle.hack_walk.specs.Checks.{BodyIn, VariablesIn, Walks}

same_types : (symbols : Symbols) (before behind : Variables) → behind ≡ before → VariablesIn symbols before → VariablesIn symbols behind
same_types symbols before behind same here = subst (λ (v : Variables). VariablesIn symbols v) (sym same) here

-- an answer with the state behind it
pub given : {A : Type 0} (a : A) (behind other : State) → other ≡ behind → ◌≡◌ {A = A × State} (a, behind) (a, other)
given a behind other is = ap (λ (s : State). (a, s)) (sym is)

pub done : (behind other : State) → other ≡ behind → ◌≡◌ {A = Unit {0} × State} (tt, behind) (tt, other)
done = given tt

module _ {Base Held : Type 0} {setting : Setting} where
  -- no question is asked
  pub walked : {A : Type 0} {Names : Symbols → Type 0} {Gives : Symbols → A → Type 0} (walk : Walk A) (old : DeclState Base Held) (before behind : State) (answer : A)
      → ((map : Map) → walk setting map before ≡ (answer, behind)) → behind.variables ≡ before.variables
      → ((symbols : Symbols) → Names symbols → Gives symbols answer) → Walks walk setting old before (Ok answer) old behind Names Gives
  walked walk old before behind answer is same gives = record {
    asks = unasked old answer is (λ symbols n. (same_types symbols before.variables behind.variables same n.0.types, gives symbols n.1));
  }

  -- memory runs out before any question
  pub no_memory : {A : Type 0} {Names : Symbols → Type 0} {Gives : Symbols → A → Type 0} (walk : Walk A) (old : DeclState Base Held) (before behind : State)
      → Walks walk setting old before (Err stop.NoMemory) old behind Names Gives
  no_memory walk old before behind = record {
    asks = without_memory (unasked {Means = λ map (done : Unit {0}). Unit {0}} {Names = λ symbols. Unit {0}} {Gives = λ symbols done. Unit {0}} old tt (λ map. tt) (λ symbols n. tt)) (λ symbols n. tt);
  }

  module _ {A : Type 0} {walk : Walk A} {NamesA : Symbols → Type 0} {GivesA : Symbols → A → Type 0} {Names : Symbols → Type 0} {old : DeclState Base Held} {before : State} where
    -- the same call, otherwise said
    pub walks_as : {Gives : Symbols → A → Type 0} {new : DeclState Base Held} {behind : State} (whole : Walk A) (result : Result A DeclStop)
        → Walks walk setting old before result new behind NamesA GivesA → ((map : Map) → whole setting map before ≡ walk setting map before)
        → ((symbols : Symbols) → Names symbols → NamesA symbols)
        → ((symbols : Symbols) (a : A) → Names symbols → GivesA symbols a → Gives symbols a) → Walks whole setting old before result new behind Names Gives
    walks_as whole (Ok a) walks same more gives = record {
      asks = said a walks.asks (λ map is. same map ∙ is) (λ symbols n. (n.0, more symbols n.1)) (λ symbols n g. (g.0, gives symbols a n.1 g.1));
    }
    walks_as whole (Err e) walks same more gives = record { asks = failed walks.asks (λ symbols n. (n.0, more symbols n.1)) }

    module _ {B : Type 0} {Gives : Symbols → B → Type 0} where
      -- a refusal is handed on
      pub walks_failed : {new : DeclState Base Held} {behind : State} {e : DeclStop} (whole : Walk B) (last : State)
          → Walks walk setting old before (Err e) new behind NamesA GivesA → ((symbols : Symbols) → Names symbols → NamesA symbols)
          → Walks whole setting old before (Err e) new last Names Gives
      walks_failed whole last walks more = record { asks = failed walks.asks (λ symbols n. (n.0, more symbols n.1)) }

      module _ {mid : DeclState Base Held} {between : State} {a : A} where
        -- memory runs out behind an answer
        pub walks_out : (whole : Walk B) (last : State) → Walks walk setting old before (Ok a) mid between NamesA GivesA
            → ((symbols : Symbols) → Names symbols → NamesA symbols) → Walks whole setting old before (Err stop.NoMemory) mid last Names Gives
        walks_out whole last walks more = record { asks = without_memory walks.asks (λ symbols n. (n.0, more symbols n.1)) }

        -- what goes on from the answer asks nothing
        pub walks_on : (whole : Walk B) (b : B) (last : State) → Walks walk setting old before (Ok a) mid between NamesA GivesA
            → ((map : Map) → walk setting map before ≡ (a, between) → whole setting map before ≡ (b, last)) → last.variables ≡ between.variables
            → ((symbols : Symbols) → Names symbols → NamesA symbols)
            → ((symbols : Symbols) → Names symbols → GivesA symbols a → Gives symbols b) → Walks whole setting old before (Ok b) mid last Names Gives
        walks_on whole b last walks same stays more gives = record {
          asks = said b walks.asks (λ map is. same map is) (λ symbols n. (n.0, more symbols n.1))
              (λ symbols n g. (same_types symbols between.variables last.variables stays g.0, gives symbols n.1 g.1));
        }

        -- what goes on from the answer asks
        pub walks_then : {next : Walk B} {NamesB : Symbols → Type 0} {GivesB : Symbols → B → Type 0} {new : DeclState Base Held} {behind : State}
            (whole : Walk B) (result : Result B DeclStop)
            → Walks walk setting old before (Ok a) mid between NamesA GivesA → Walks next setting mid between result new behind NamesB GivesB
            → ((map : Map) → walk setting map before ≡ (a, between) → whole setting map before ≡ next setting map between)
            → ((symbols : Symbols) → Names symbols → NamesA symbols)
            → ((symbols : Symbols) → Names symbols → GivesA symbols a → NamesB symbols)
            → ((symbols : Symbols) (b : B) → Names symbols → GivesA symbols a → GivesB symbols b → Gives symbols b)
            → Walks whole setting old before result new behind Names Gives
        walks_then whole result first second same more onward gives = record {
          asks = then result first.asks second.asks (λ map b is there. same map is ∙ there) (λ symbols n. (n.0, more symbols n.1))
              (λ symbols n g. (record { around = n.0.around; types = g.0 }, onward symbols n.1 g.1))
              (λ symbols b n g h. (h.0, gives symbols b n.1 g.1 h.1));
        }

        module _ {C : Type 0} {next : Walk C} {NamesB : Symbols → Type 0} {GivesB : Symbols → C → Type 0} {new : DeclState Base Held} {behind : State} where
          -- one call and another, which is refused
          pub broken : {e : DeclStop} (whole : Walk B) (last : State) → Walks walk setting old before (Ok a) mid between NamesA GivesA
              → Walks next setting mid between (Err e) new behind NamesB GivesB → ((symbols : Symbols) → Names symbols → NamesA symbols)
              → ((symbols : Symbols) → Names symbols → GivesA symbols a → NamesB symbols) → Walks whole setting old before (Err e) new last Names Gives
          broken {e = e} whole last first second more onward = record {
            asks = failed (then {MeansC = λ map (c : C). next setting map between ≡ (c, behind)} {NamesC = λ symbols. BodyIn symbols setting.scope before.variables × Names symbols}
                {GivesC = λ symbols (c : C). VariablesIn symbols behind.variables × GivesB symbols c} (Err e) first.asks second.asks (λ map c is there. there) (λ symbols n. (n.0, more symbols n.1))
                (λ symbols n g. (record { around = n.0.around; types = g.0 }, onward symbols n.1 g.1)) (λ symbols c n g h. h)) (λ symbols n. n);
          }

          -- and behind the second memory runs out
          pub broken_out : {c : C} (whole : Walk B) (last : State) → Walks walk setting old before (Ok a) mid between NamesA GivesA
              → Walks next setting mid between (Ok c) new behind NamesB GivesB → ((symbols : Symbols) → Names symbols → NamesA symbols)
              → ((symbols : Symbols) → Names symbols → GivesA symbols a → NamesB symbols) → Walks whole setting old before (Err stop.NoMemory) new last Names Gives
          broken_out {c = c} whole last first second more onward = record {
            asks = without_memory (then {MeansC = λ map (c : C). next setting map between ≡ (c, behind)} {NamesC = λ symbols. BodyIn symbols setting.scope before.variables × Names symbols}
                {GivesC = λ symbols (c : C). VariablesIn symbols behind.variables × GivesB symbols c} (Ok c) first.asks second.asks (λ map c is there. there) (λ symbols n. (n.0, more symbols n.1))
                (λ symbols n g. (record { around = n.0.around; types = g.0 }, onward symbols n.1 g.1)) (λ symbols c n g h. h)) (λ symbols n. n);
          }

  -- from a question
  module _ {A B : Type 0} {Means : Map → A → Type 0} {NamesA : Symbols → Type 0} {GivesA : Symbols → A → Type 0} {Names : Symbols → Type 0} {Gives : Symbols → B → Type 0}
      {old : DeclState Base Held} {before : State} where
    pub asks_failed : {new : DeclState Base Held} {e : DeclStop} (whole : Walk B) (last : State) → Asks old (Err e) new Means NamesA GivesA
        → ((symbols : Symbols) → Around symbols setting.scope → Names symbols → NamesA symbols) → Walks whole setting old before (Err e) new last Names Gives
    asks_failed whole last asks more = record { asks = failed asks (λ symbols n. more symbols n.0.around n.1) }

    module _ {mid : DeclState Base Held} {a : A} where
      pub asks_out : (whole : Walk B) (last : State) → Asks old (Ok a) mid Means NamesA GivesA
          → ((symbols : Symbols) → Around symbols setting.scope → Names symbols → NamesA symbols) → Walks whole setting old before (Err stop.NoMemory) mid last Names Gives
      asks_out whole last asks more = record { asks = without_memory asks (λ symbols n. more symbols n.0.around n.1) }

      pub asks_on : (whole : Walk B) (b : B) (last : State) → Asks old (Ok a) mid Means NamesA GivesA → ((map : Map) → Means map a → whole setting map before ≡ (b, last))
          → last.variables ≡ before.variables → ((symbols : Symbols) → Around symbols setting.scope → Names symbols → NamesA symbols)
          → ((symbols : Symbols) → Names symbols → GivesA symbols a → Gives symbols b) → Walks whole setting old before (Ok b) mid last Names Gives
      asks_on whole b last asks same stays more gives = record {
        asks = said b asks (λ map m. same map m) (λ symbols n. more symbols n.0.around n.1)
            (λ symbols n g. (same_types symbols before.variables last.variables stays n.0.types, gives symbols n.1 g));
      }

      pub asks_then : {next : Walk B} {NamesB : Symbols → Type 0} {GivesB : Symbols → B → Type 0} {new : DeclState Base Held} {behind : State}
          (whole : Walk B) (result : Result B DeclStop) → Asks old (Ok a) mid Means NamesA GivesA → Walks next setting mid before result new behind NamesB GivesB
          → ((map : Map) → Means map a → whole setting map before ≡ next setting map before)
          → ((symbols : Symbols) → Around symbols setting.scope → Names symbols → NamesA symbols)
          → ((symbols : Symbols) → Names symbols → GivesA symbols a → NamesB symbols)
          → ((symbols : Symbols) (b : B) → Names symbols → GivesA symbols a → GivesB symbols b → Gives symbols b)
          → Walks whole setting old before result new behind Names Gives
      asks_then whole result asks walks same more onward gives = record {
        asks = then result asks walks.asks (λ map b m there. same map m ∙ there) (λ symbols n. more symbols n.0.around n.1)
            (λ symbols n g. (n.0, onward symbols n.1 g)) (λ symbols b n g h. (h.0, gives symbols b n.1 g h.1));
      }
