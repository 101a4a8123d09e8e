-- How the clauses of calls that take are put together.
use Rattle.std.proofs.Common.{◌≡◌, ◌∙◌, Result, Ok, Err, sym}
use Rattle.hack_decls.specs.AskLaws.{failed, said, then, unasked, without_memory}
use Rattle.hack_decls.specs.Asks.{Asks}
use Rattle.hack_decls.specs.DeclState.{DeclState, Map, Symbols}
use Rattle.hack_decls.specs.declared.stop.DeclStop.{DeclStop}
use Rattle.hack_decls.specs.declared.stop.DeclStop.TheVariants as stop
use Rattle.hack_infer.specs.inside.Calls.{Left, TakenIn, Takes}
use Rattle.hack_infer.specs.declared.taken.Taken.{Taken}

module _ {Base Held : Type 0} where
  -- no question is asked, and nothing is taken
  pub takes_none : (state : DeclState Base Held) (taken : Taken) (says : Map → Taken) {Names : Symbols → Type 0} → ((map : Map) → taken ≡ says map)
      → Takes state (Ok tt) state taken taken says Names
  takes_none state taken says same = unasked state tt same (λ symbols n. n.1)

  -- no question is asked
  pub takes_alone : (state : DeclState Base Held) (before after : Taken) (says : Map → Taken) {Names : Symbols → Type 0} → ((map : Map) → after ≡ says map)
      → ((symbols : Symbols) → Names symbols → TakenIn symbols before → TakenIn symbols after) → Takes state (Ok tt) state before after says Names
  takes_alone state before after says same names = unasked state tt same (λ symbols n. names symbols n.0 n.1)

  -- memory runs out before any question
  pub takes_no_memory : (state : DeclState Base Held) (before after : Taken) (says : Map → Taken) {Names : Symbols → Type 0}
      → Takes state (Err stop.NoMemory) state before after says Names
  takes_no_memory state before after says =
      without_memory (unasked {Means = λ map (done : Unit {0}). Unit {0}} {Names = λ symbols. Unit {0}} {Gives = λ symbols done. Unit {0}} state tt (λ map. tt) (λ symbols n. tt)) (λ symbols n. tt)

  module _ {old new : DeclState Base Held} {before after : Taken} {says : Map → Taken} {Names NamesB : Symbols → Type 0} where
    -- the same call, otherwise said
    pub takes_as : (whole : Map → Taken) (result : Result (Unit {0}) DeclStop) → Takes old result new before after says Names
        → ((map : Map) → says map ≡ whole map) → ((symbols : Symbols) → NamesB symbols → Names symbols) → Takes old result new before after whole NamesB
    takes_as whole (Ok done) takes same more = said done takes (λ map is. is ∙ same map) (λ symbols n. (more symbols n.0, n.1)) (λ symbols n given. given)
    takes_as whole (Err e) takes same more = failed takes (λ symbols n. (more symbols n.0, n.1))

    -- a refusal is handed on
    pub takes_failed : (last : Taken) (whole : Map → Taken) {e : DeclStop} → Takes old (Err e) new before after says Names
        → ((symbols : Symbols) → NamesB symbols → Names symbols) → Takes old (Err e) new before last whole NamesB
    takes_failed last whole takes more = failed takes (λ symbols n. (more symbols n.0, n.1))

  -- one call, and then another
  pub takes_then : {old mid new : DeclState Base Held} {before between after : Taken} {first second : Map → Taken} {Names NamesB NamesC : Symbols → Type 0} {done : Unit {0}}
      (whole : Map → Taken) (result : Result (Unit {0}) DeclStop) → Takes old (Ok done) mid before between first Names → Takes mid result new between after second NamesB
      → ((map : Map) → between ≡ first map → second map ≡ whole map) → ((symbols : Symbols) → NamesC symbols → Names symbols)
      → ((symbols : Symbols) → NamesC symbols → NamesB symbols) → Takes old result new before after whole NamesC
  takes_then whole result one two same more onward =
      then result one two (λ map done is there. there ∙ same map is) (λ symbols n. (more symbols n.0, n.1)) (λ symbols n there. (onward symbols n.0, there)) (λ symbols done n there given. given)

  module _ {A : Type 0} {Means : Map → A → Type 0} {Names NamesC : Symbols → Type 0} {Gives : Symbols → A → Type 0} where
    -- one question, and then a call that goes on with its answer
    pub asks_then : {old mid new : DeclState Base Held} {answer : A} {before after : Taken} {says : Map → Taken} {NamesB : Symbols → Type 0}
        (whole : Map → Taken) (result : Result (Unit {0}) DeclStop) → Asks old (Ok answer) mid Means Names Gives → Takes mid result new before after says NamesB
        → ((map : Map) → Means map answer → says map ≡ whole map) → ((symbols : Symbols) → NamesC symbols → Names symbols)
        → ((symbols : Symbols) → NamesC symbols → Gives symbols answer → NamesB symbols) → Takes old result new before after whole NamesC
    asks_then whole result asks takes same more onward =
        then result asks takes (λ map done m there. there ∙ same map m) (λ symbols n. more symbols n.0) (λ symbols n given. (onward symbols n.0 given, n.1)) (λ symbols done n given there. there)

    -- one question, and nothing is taken
    pub asks_none : {old new : DeclState Base Held} {answer : A} (taken : Taken) (whole : Map → Taken) → Asks old (Ok answer) new Means Names Gives
        → ((map : Map) → Means map answer → taken ≡ whole map) → ((symbols : Symbols) → NamesC symbols → Names symbols) → Takes old (Ok tt) new taken taken whole NamesC
    asks_none taken whole asks same more = said tt asks same (λ symbols n. more symbols n.0) (λ symbols n given. n.1)

    pub asks_failed : {old new : DeclState Base Held} {e : DeclStop} (before after : Taken) (whole : Map → Taken) → Asks old (Err e) new Means Names Gives
        → ((symbols : Symbols) → NamesC symbols → Names symbols) → Takes old (Err e) new before after whole NamesC
    asks_failed before after whole asks more = failed asks (λ symbols n. more symbols n.0)

  -- loops
  pub left_all : (state : DeclState Base Held) (taken : Taken) (whole rest : Map → Taken) {Names : Symbols → Type 0} → ((map : Map) → whole map ≡ rest map)
      → Left state state taken taken whole rest Names
  left_all state taken whole rest same = unasked state tt same (λ symbols n. n.1)

  module _ {old mid new : DeclState Base Held} {before between after : Taken} {whole rest says : Map → Taken} {Names NamesB : Symbols → Type 0} where
    pub left_next : {done : Unit {0}} (next : Map → Taken) → Left old mid before between whole rest Names → Takes mid (Ok done) new between after says NamesB
        → ((map : Map) → after ≡ says map → rest map ≡ next map) → ((symbols : Symbols) → Names symbols → NamesB symbols) → Left old new before after whole next Names
    left_next {done = done} next left takes same names =
        said tt (then {MeansC = λ map (d : Unit {0}). (whole map ≡ rest map) × (after ≡ says map)} {NamesC = λ symbols. Names symbols × TakenIn symbols before} {GivesC = λ symbols d. TakenIn symbols after}
        (Ok done) left takes (λ map d w is. (w, is)) (λ symbols n. n) (λ symbols n there. (names symbols n.0, there)) (λ symbols d n there given. given))
        (λ map w. w.0 ∙ same map w.1) (λ symbols n. n) (λ symbols n given. given)

    pub left_failed : {e : DeclStop} → Left old mid before between whole rest Names → Takes mid (Err e) new between after says NamesB
        → ((symbols : Symbols) → Names symbols → NamesB symbols) → Takes old (Err e) new before after whole Names
    left_failed {e = e} left takes names =
        failed (then {MeansC = λ map (d : Unit {0}). after ≡ says map} {NamesC = λ symbols. Names symbols × TakenIn symbols before} {GivesC = λ symbols d. TakenIn symbols after}
        (Err e) left takes (λ map d w is. is) (λ symbols n. n) (λ symbols n there. (names symbols n.0, there)) (λ symbols d n there given. given)) (λ symbols n. n)

  pub left_none : {old new : DeclState Base Held} {before after : Taken} {whole rest : Map → Taken} {Names : Symbols → Type 0} → Left old new before after whole rest Names
      → ((map : Map) → rest map ≡ after) → Takes old (Ok tt) new before after whole Names
  left_none left same = said tt left (λ map w. sym (w ∙ same map)) (λ symbols n. n) (λ symbols n given. given)

  -- from what was taken with another number of steps
  pub takes_from : {old new : DeclState Base Held} {before between after : Taken} {says : Map → Taken} {Names NamesB : Symbols → Type 0}
      (whole : Map → Taken) (result : Result (Unit {0}) DeclStop) → Takes old result new between after says Names → ((map : Map) → says map ≡ whole map)
      → ((symbols : Symbols) → NamesB symbols → Names symbols) → ((symbols : Symbols) → TakenIn symbols before → TakenIn symbols between) → Takes old result new before after whole NamesB
  takes_from whole (Ok done) takes same more was = said done takes (λ map is. is ∙ same map) (λ symbols n. (more symbols n.0, was symbols n.1)) (λ symbols n given. given)
  takes_from whole (Err e) takes same more was = failed takes (λ symbols n. (more symbols n.0, was symbols n.1))
