-- Clauses of calls that ask, otherwise said.
use Rattle.std.proofs.Common.{Result, Ok, Err}
use Rattle.hack_decls.specs.AskLaws.{failed, said, then, unasked, without_memory}
use Rattle.hack_decls.specs.Asks.{Asks}
use Rattle.hack_decls.specs.DeclState.{DeclState, Map, Symbols}
use Rattle.hack_decls.specs.declared.stop.DeclStop.{DeclStop}
use Rattle.hack_decls.specs.declared.stop.DeclStop.TheVariants as stop

module _ {Base Held : Type 0} {A : Type 0} {MeansB : Map → A → Type 0} {NamesB : Symbols → Type 0} {GivesB : Symbols → A → Type 0} where
  pub restated : {old new : DeclState Base Held} {Means : Map → A → Type 0} {Names : Symbols → Type 0} {Gives : Symbols → A → Type 0}
      (result : Result A DeclStop) → Asks old result new Means Names Gives → ((map : Map) (a : A) → Means map a → MeansB map a)
      → ((symbols : Symbols) → NamesB symbols → Names symbols) → ((symbols : Symbols) (a : A) → NamesB symbols → Gives symbols a → GivesB symbols a)
      → Asks old result new MeansB NamesB GivesB
  restated (Ok a) asks means more gives = said a asks (λ map m. means map a m) more (λ symbols n g. gives symbols a n g)
  restated (Err e) asks means more gives = failed asks more

  -- memory runs out before any question
  pub no_memory : (state : DeclState Base Held) → Asks state (Err stop.NoMemory) state MeansB NamesB GivesB
  no_memory state = without_memory (unasked {Means = λ map (done : Unit {0}). Unit {0}} {Names = λ symbols. Unit {0}} {Gives = λ symbols done. Unit {0}} state tt (λ map. tt) (λ symbols n. tt)) (λ symbols n. tt)

-- one call, and then one that is refused
module _ {Base Held : Type 0} {A B C : Type 0} {Means : Map → A → Type 0} {Names : Symbols → Type 0} {Gives : Symbols → A → Type 0}
    {MeansB : Map → B → Type 0} {NamesB : Symbols → Type 0} {GivesB : Symbols → B → Type 0} {MeansC : Map → C → Type 0} {GivesC : Symbols → C → Type 0}
    {old mid new : DeclState Base Held} {a : A} where
  pub broken : {e : DeclStop} → Asks old (Ok a) mid Means Names Gives → Asks mid (Err e) new MeansB NamesB GivesB
      → ((symbols : Symbols) → Names symbols → Gives symbols a → NamesB symbols) → Asks old (Err e) new MeansC Names GivesC
  broken {e = e} one two onward =
      failed (then {MeansC = MeansB} {NamesC = Names} {GivesC = GivesB} (Err e) one two (λ map b m is. is) (λ symbols n. n) onward (λ symbols b n given there. there)) (λ symbols n. n)

  -- and one behind which memory runs out
  pub broken_off : {b : B} → Asks old (Ok a) mid Means Names Gives → Asks mid (Ok b) new MeansB NamesB GivesB
      → ((symbols : Symbols) → Names symbols → Gives symbols a → NamesB symbols) → Asks old (Err stop.NoMemory) new MeansC Names GivesC
  broken_off {b = b} one two onward =
      without_memory (then {MeansC = MeansB} {NamesC = Names} {GivesC = GivesB} (Ok b) one two (λ map b m is. is) (λ symbols n. n) onward (λ symbols b n given there. there)) (λ symbols n. n)
