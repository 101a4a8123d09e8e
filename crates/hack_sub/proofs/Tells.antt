-- How the clauses of calls that tell of two types are put together.
use Rattle.std.proofs.Common.{◌≡◌, ◌∙◌, Bool, false, Option, Some, None, Result, Ok, Err, ap}
use Rattle.hack_decls.specs.AskLaws.{failed, said, then, unasked}
use Rattle.hack_decls.specs.Asks.{Asks}
use Rattle.hack_decls.specs.DeclState.{DeclState, Map, Symbols}
use Rattle.hack_decls.specs.declared.stop.DeclStop.{DeclStop}
use Rattle.hack_sub.specs.inside.Calls.{Tells}
use Rattle.hack_sub.specs.IsBelow.{some_and}

module _ {Base Held : Type 0} {old new : DeclState Base Held} where
  -- the same call, otherwise said
  pub restated : {A : Type 0} {Means MeansB : Map → A → Type 0} {Names NamesB : Symbols → Type 0} {Gives GivesB : Symbols → A → Type 0}
      (result : Result A DeclStop) → Asks old result new Means Names Gives → ((map : Map) (a : A) → Means map a → MeansB map a)
      → ((symbols : Symbols) → NamesB symbols → Names symbols) → ((symbols : Symbols) (a : A) → NamesB symbols → Gives symbols a → GivesB symbols a)
      → Asks old result new MeansB NamesB GivesB
  restated (Ok a) asks means more gives = said a asks (λ map m. means map a m) more (λ symbols n g. gives symbols a n g)
  restated (Err e) asks means more gives = failed asks more

  pub told : {test : Map → Bool} (whole : Map → Bool) {Names NamesB : Symbols → Type 0} (result : Result Bool DeclStop) → Tells old result new test Names
      → ((map : Map) → test map ≡ whole map) → ((symbols : Symbols) → NamesB symbols → Names symbols) → Tells old result new whole NamesB
  told whole result tells same more = restated result tells (λ map b e. e ∙ same map) more (λ symbols b n g. tt)

  -- under what a view finds
  pub told_under : {A : Type 0} (test : Map → A → Bool) (o : Option A) (a : A) → Some a ≡ o → {Names NamesB : Symbols → Type 0} (result : Result Bool DeclStop)
      → Tells old result new (λ map. test map a) Names → ((symbols : Symbols) → NamesB symbols → Names symbols)
      → Tells old result new (λ map. some_and o (test map)) NamesB
  told_under test o a is result tells more = told (λ map. some_and o (test map)) result tells (λ map. ap (λ x. some_and x (test map)) is) more

  -- the answer to one question settles it
  pub settled : {A : Type 0} {Means : Map → A → Type 0} {Names NamesB : Symbols → Type 0} {Gives : Symbols → A → Type 0} {answer : A} (whole : Map → Bool)
      → Asks old (Ok answer) new Means Names Gives → (b : Bool) → ((map : Map) → Means map answer → b ≡ whole map)
      → ((symbols : Symbols) → NamesB symbols → Names symbols) → Tells old (Ok b) new whole NamesB
  settled whole asks b means more = said b asks means more (λ symbols n g. tt)

module _ {Base Held : Type 0} where
  -- no question is asked
  pub answered : (state : DeclState Base Held) (answer : Bool) (whole : Map → Bool) {Names : Symbols → Type 0} → ((map : Map) → answer ≡ whole map)
      → Tells state (Ok answer) state whole Names
  answered state answer whole same = unasked state answer same (λ symbols n. tt)

  pub answered_none : {A : Type 0} (state : DeclState Base Held) (test : Map → A → Bool) (o : Option A) → None ≡ o → {Names : Symbols → Type 0}
      → Tells state (Ok false) state (λ map. some_and o (test map)) Names
  answered_none state test o is = answered state false (λ map. some_and o (test map)) (λ map. ap (λ x. some_and x (test map)) is)

  -- one question, and then another that goes on with its answer
  pub gone_on : {A : Type 0} {Means : Map → A → Type 0} {Names NamesB NamesC : Symbols → Type 0} {Gives : Symbols → A → Type 0} {answer : A}
      {old mid new : DeclState Base Held} {test : Map → Bool} (whole : Map → Bool) (result : Result Bool DeclStop)
      → Asks old (Ok answer) mid Means Names Gives → Tells mid result new test NamesB
      → ((map : Map) → Means map answer → test map ≡ whole map) → ((symbols : Symbols) → NamesC symbols → Names symbols)
      → ((symbols : Symbols) → NamesC symbols → Gives symbols answer → NamesB symbols) → Tells old result new whole NamesC
  gone_on whole result first second means more onward = then result first second (λ map b m e. e ∙ means map m) more onward (λ symbols b n g h. tt)
