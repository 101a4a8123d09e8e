-- How clauses of checks are put together: one that goes on with another's answer, one that is refused, and the steps of a walk.
use Rattle.std.proofs.Common.{◌≡◌, ◌+◌, ◌<◌, ◌++◌, ◌∙◌, ℕ, Bool, true, false, Option, Result, Ok, Err, IfSome, List, [], ◌∷◌, All, length, take, get_or, refl, sym, ap, subst, arith}
use Rattle.std.proofs.lemmas.List.{take_more}
use Rattle.std.proofs.lemmas.List.Elements.{All-cons, All-head, All-tail}
use Rattle.hack_types.specs.declared.hack_type.HackType.{HackType}
use Rattle.hack_types.specs.declared.hack_type.HackType.TheVariants.{Any}
use Rattle.hack_types.specs.declared.place.Place.{Place}
use Rattle.hack_decls.specs.AskLaws.{failed, said, then, unasked, without_memory}
use Rattle.hack_decls.specs.Asks.{Asks, Nothing}
use Rattle.hack_decls.specs.DeclState.{DeclState, Map, Symbols}
use Rattle.hack_decls.specs.Names.{TypeIn}
use Rattle.hack_decls.specs.declared.stop.DeclStop.{DeclStop}
use Rattle.hack_decls.specs.declared.stop.DeclStop.TheVariants as stop
use Rattle.hack_sub.specs.IsBelow.{is_below}
use Rattle.hack_sub.specs.Named.{Around}
use Rattle.hack_sub.specs.NamesPut.{of_any}
use Rattle.hack_sub.specs.Sub.{most_height}
use Rattle.hack_sub.specs.declared.scope.Scope.{Scope}
use Rattle.hack_diag.specs.Messages.{Message, diag_of, expected}
use Rattle.hack_rules.specs.Variables.{Variables, type_in, with_variable}
use Rattle.hack_rules.specs.Walks.{Setting, State, Walk, ◌>>=◌, ◌>>◌, assign, each, expect, for_each, is_sub, pure, quietly, reads, refuse, replace, report, unless, variable_here, variables}
use Rattle.hack_walk.specs.Checks.{BodyIn, Reads, Steps, VariablesIn, Walks}
use Rattle.hack_walk.specs.NamesKept.{in_type_in, in_with_variable}

-- ---- inside

-- states with the same variables and diagnostics
states : (s t : State) → s.variables ≡ t.variables → s.found ≡ t.found → s ≡ t
states s t same_variables same_found = λ i. record { variables = same_variables i; found = same_found i }

-- the same answer in the same state
ends : {A : Type 0} (a : A) (s t : State) → s ≡ t → ◌≡◌ {A = A × State} (a, s) (a, t)
ends a s t same = ap (λ (end : State). (a, end)) same

-- the body around, with other variables
with_types : {symbols : Symbols} {scope : Scope} {before behind : Variables} → BodyIn symbols scope before → VariablesIn symbols behind → BodyIn symbols scope behind
with_types body types = record { around = body.around; types = types }

-- one more at the end
one_more : {X : Type 0} (P : X → Type 0) (xs : List X) (x : X) → All P xs → P x → All P (xs ++ x ∷ [])
one_more P [] x all here = All-cons P x [] here all
one_more P (y ∷ ys) x all here = All-cons P y (ys ++ x ∷ []) (All-head P y ys all) (one_more P ys x (All-tail P y ys all) here)

next_taken : {X : Type 0} (xs : List X) (i : ℕ) (x : X) → i < length xs → x ≡ get_or xs i x → take (i + 1) xs ≡ take i xs ++ x ∷ []
next_taken xs i x inside at = take_more xs i x inside ∙ ap (λ y. take i xs ++ y ∷ []) (sym at)

module _ {A B : Type 0} where
  in_row : (p : Walk A) (f : A → Walk B) (setting : Setting) (map : Map) (s t u : State) (a : A) (b : B)
      → p setting map s ≡ (a, t) → f a setting map t ≡ (b, u) → (p >>= f) setting map s ≡ (b, u)
  unfolding ◌>>=◌
  in_row p f setting map s t u a b first second = ap (λ (end : A × State). f end.0 setting map end.1) first ∙ second

  each_more : (f : A → Walk B) (xs : List A) (x : A) (setting : Setting) (map : Map) (s : State)
      → each f (xs ++ x ∷ []) setting map s
      ≡ ((each f xs setting map s).0 ++ (f x setting map (each f xs setting map s).1).0 ∷ [], (f x setting map (each f xs setting map s).1).1)
  unfolding each ◌>>=◌ pure
  each_more f [] x setting map s = refl
  each_more f (a ∷ as_) x setting map s =
      let first = f a setting map s in
      ap (λ (end : List B × State). (first.0 ∷ end.0, end.1)) (each_more f as_ x setting map first.1)

  each_ends : (f : A → Walk B) (xs : List A) (x : A) (setting : Setting) (map : Map) (s t u : State) (bs : List B) (b : B)
      → each f xs setting map s ≡ (bs, t) → f x setting map t ≡ (b, u) → each f (xs ++ x ∷ []) setting map s ≡ (bs ++ b ∷ [], u)
  each_ends f xs x setting map s t u bs b first second =
      each_more f xs x setting map s
      ∙ ap (λ (end : List B × State). (end.0 ++ (f x setting map end.1).0 ∷ [], (f x setting map end.1).1)) first
      ∙ ap (λ (end : B × State). (bs ++ end.0 ∷ [], end.1)) second

module _ {A : Type 0} where
  for_each_more : (f : A → Walk (Unit {0})) (xs : List A) (x : A) (setting : Setting) (map : Map) (s : State)
      → for_each f (xs ++ x ∷ []) setting map s ≡ (tt, (f x setting map (for_each f xs setting map s).1).1)
  unfolding for_each ◌>>=◌ ◌>>◌ pure
  for_each_more f [] x setting map s = refl
  for_each_more f (a ∷ as_) x setting map s = for_each_more f as_ x setting map (f a setting map s).1

  for_each_ends : (f : A → Walk (Unit {0})) (xs : List A) (x : A) (setting : Setting) (map : Map) (s t u : State)
      → for_each f xs setting map s ≡ (tt, t) → f x setting map t ≡ (tt, u) → for_each f (xs ++ x ∷ []) setting map s ≡ (tt, u)
  for_each_ends f xs x setting map s t u first second =
      for_each_more f xs x setting map s
      ∙ ap (λ (end : Unit {0} × State). (tt, (f x setting map end.1).1)) first
      ∙ ap (λ (end : Unit {0} × State). (tt, end.1)) second

-- ---- steps

module _ {setting : Setting} {Names : Symbols → Type 0} where
  pub step_pure : {A : Type 0} {Gives : Symbols → A → Type 0} (here : State) (a : A) → ((symbols : Symbols) → Names symbols → Gives symbols a)
      → Steps (pure a) setting here (Ok a) here Names Gives
  unfolding pure
  step_pure here a gives = record { is = λ map. refl; named = λ symbols body n. (body.types, gives symbols n) }

  -- the variables here
  pub step_variables : (here : State) (all : Variables) → all ≡ here.variables → Steps variables setting here (Ok all) here Names VariablesIn
  unfolding variables
  step_variables here all same = record {
    is = λ map. ap (λ (vs : Variables). (vs, here)) (sym same);
    named = λ symbols body n. (body.types, subst (VariablesIn symbols) (sym same) body.types);
  }

  -- the type that a variable has here
  pub step_variable : (here : State) (name : ℕ) (found : Option HackType) → found ≡ type_in here.variables name
      → Steps (variable_here name) setting here (Ok found) here Names (λ symbols ty. IfSome ty (TypeIn symbols))
  unfolding variable_here
  step_variable here name found is = record {
    is = λ map. ap (λ (ty : Option HackType). (ty, here)) (sym is);
    named = λ symbols body n. (body.types, subst (λ (ty : Option HackType). IfSome ty (TypeIn symbols)) (sym is) (in_type_in symbols here.variables name body.types));
  }

  -- these are the variables from here on
  pub step_replace : (before behind : State) (new : Variables) → behind.variables ≡ new → behind.found ≡ before.found
      → ((symbols : Symbols) → Names symbols → VariablesIn symbols new) → Steps (replace new) setting before (Ok tt) behind Names Nothing
  unfolding replace
  step_replace before behind new is same gives = record {
    is = λ map. ends tt _ behind (states _ behind (sym is) (sym same));
    named = λ symbols body n. (subst (VariablesIn symbols) (sym is) (gives symbols n), tt);
  }

  -- a variable gets a type
  pub step_assign : (before behind : State) (name : ℕ) (ty : HackType) → behind.variables ≡ with_variable before.variables name ty → behind.found ≡ before.found
      → ((symbols : Symbols) → Names symbols → TypeIn symbols ty) → Steps (assign name ty) setting before (Ok tt) behind Names Nothing
  unfolding assign
  step_assign before behind name ty is same gives = record {
    is = λ map. ends tt _ behind (states _ behind (sym is) (sym same));
    named = λ symbols body n. (subst (VariablesIn symbols) (sym is) (in_with_variable symbols before.variables name ty body.types (gives symbols n)), tt);
  }

  -- a diagnostic goes behind those that stood
  pub step_report : (before behind : State) (at : Place) (message : Message) → behind.variables ≡ before.variables
      → behind.found ≡ before.found ++ diag_of setting.names at message ∷ [] → Steps (report at message) setting before (Ok tt) behind Names Nothing
  unfolding report
  step_report before behind at message same is = record {
    is = λ map. ends tt _ behind (states _ behind (sym same) (sym is));
    named = λ symbols body n. (subst (VariablesIn symbols) (sym same) body.types, tt);
  }

-- no diagnostic where this holds, and else the one
module _ {setting : Setting} {Names : Symbols → Type 0} where
  pub step_unless_so : (here : State) (holds : Bool) (at : Place) (message : Message) → holds ≡ true
      → Steps (unless holds at message) setting here (Ok tt) here Names Nothing
  unfolding unless
  step_unless_so here true at message is = step_pure here tt (λ symbols n. tt)
  step_unless_so here false at message is = absurd cc

  pub step_unless_not : (before behind : State) (holds : Bool) (at : Place) (message : Message) → holds ≡ false → behind.variables ≡ before.variables
      → behind.found ≡ before.found ++ diag_of setting.names at message ∷ [] → Steps (unless holds at message) setting before (Ok tt) behind Names Nothing
  unfolding unless
  step_unless_not before behind false at message is same added = step_report before behind at message same added
  step_unless_not before behind true at message is same added = absurd cc

-- a step, and then a step
module _ {setting : Setting} {A B : Type 0} {Names : Symbols → Type 0} {Gives : Symbols → A → Type 0} {GivesB : Symbols → B → Type 0}
    {NamesC : Symbols → Type 0} {GivesC : Symbols → B → Type 0} {p : Walk A} {before between behind : State} {a : A} where
  pub step_step : (f : A → Walk B) {b : B} → Steps p setting before (Ok a) between Names Gives
      → Steps (f a) setting between (Ok b) behind (λ symbols. NamesC symbols × Gives symbols a) GivesB → ((symbols : Symbols) → NamesC symbols → Names symbols)
      → ((symbols : Symbols) → NamesC symbols → Gives symbols a → GivesB symbols b → GivesC symbols b) → Steps (p >>= f) setting before (Ok b) behind NamesC GivesC
  step_step f {b = b} first second more gives = record {
    is = λ map. in_row p f setting map before between behind a b (first.is map) (second.is map);
    named = λ symbols body n.
        let one = first.named symbols body (more symbols n) in
        let two = second.named symbols (with_types body one.0) (n, one.1) in
        (two.0, gives symbols n one.1 two.1);
  }

-- a step, and then steps that go on from it
module _ {setting : Setting} {A B : Type 0} {Names : Symbols → Type 0} {Gives : Symbols → A → Type 0} {NamesC : Symbols → Type 0} {GivesC : Symbols → B → Type 0}
    {p : Walk A} {before between behind : State} {a : A} where
  pub steps_on : (f : A → Walk B) {b : B} → Steps p setting before (Ok a) between Names Gives
      → Steps (f a) setting between (Ok b) behind (λ symbols. NamesC symbols × Gives symbols a) GivesC → ((symbols : Symbols) → NamesC symbols → Names symbols)
      → Steps (p >>= f) setting before (Ok b) behind NamesC GivesC
  steps_on f first second more = step_step f first second more (λ symbols n g h. h)

-- ---- questions

-- a question, otherwise said
module _ {Base Held : Type 0} {A : Type 0} {MeansB : Map → A → Type 0} {NamesB : Symbols → Type 0} {GivesB : Symbols → A → Type 0} where
  pub restated : {old new : DeclState Base Held} {Means : Map → A → Type 0} {Names : Symbols → Type 0} {Gives : Symbols → A → Type 0}
      (result : Result A DeclStop) → Asks old result new Means Names Gives → ((map : Map) (a : A) → Means map a → MeansB map a)
      → ((symbols : Symbols) → NamesB symbols → Names symbols) → ((symbols : Symbols) (a : A) → NamesB symbols → Gives symbols a → GivesB symbols a)
      → Asks old result new MeansB NamesB GivesB
  restated (Ok a) asks means more gives = said a asks (λ map m. means map a m) more (λ symbols n g. gives symbols a n g)
  restated (Err e) asks means more gives = failed asks more

-- one question, and then one that is refused, or behind which memory runs out
module _ {Base Held : Type 0} {A B C : Type 0} {Means : Map → A → Type 0} {Names : Symbols → Type 0} {Gives : Symbols → A → Type 0}
    {MeansB : Map → B → Type 0} {NamesB : Symbols → Type 0} {GivesB : Symbols → B → Type 0} {MeansC : Map → C → Type 0} {GivesC : Symbols → C → Type 0}
    {old mid new : DeclState Base Held} {a : A} where
  pub asked_refused : {e : DeclStop} → Asks old (Ok a) mid Means Names Gives → Asks mid (Err e) new MeansB NamesB GivesB
      → ((symbols : Symbols) → Names symbols → Gives symbols a → NamesB symbols) → Asks old (Err e) new MeansC Names GivesC
  asked_refused {e = e} one two onward =
      failed (then {MeansC = MeansB} {NamesC = Names} {GivesC = GivesB} (Err e) one two (λ map b m is. is) (λ symbols n. n) onward (λ symbols b n given there. there)) (λ symbols n. n)

  pub asked_out_of_memory : {b : B} → Asks old (Ok a) mid Means Names Gives → Asks mid (Ok b) new MeansB NamesB GivesB
      → ((symbols : Symbols) → Names symbols → Gives symbols a → NamesB symbols) → Asks old (Err stop.NoMemory) new MeansC Names GivesC
  asked_out_of_memory {b = b} one two onward =
      without_memory (then {MeansC = MeansB} {NamesC = Names} {GivesC = GivesB} (Ok b) one two (λ map b m is. is) (λ symbols n. n) onward (λ symbols b n given there. there)) (λ symbols n. n)

-- ---- checks

module _ {Base Held : Type 0} {setting : Setting} where
  module _ {A : Type 0} {Names : Symbols → Type 0} {Gives : Symbols → A → Type 0} where
    -- an answer, and nothing else
    pub walks_pure : (state : DeclState Base Held) (here : State) (a : A) → ((symbols : Symbols) → Names symbols → Gives symbols a)
        → Walks (pure a) setting state here (Ok a) state here Names Gives
    unfolding pure
    walks_pure state here a gives = record { asks = unasked state a (λ map. refl) (λ symbols n. (n.0.types, gives symbols n.1)) }

    -- a step asks for nothing
    pub of_step : {walk : Walk A} {before behind : State} {a : A} (state : DeclState Base Held) → Steps walk setting before (Ok a) behind Names Gives
        → Walks walk setting state before (Ok a) state behind Names Gives
    of_step {a = a} state step = record { asks = unasked state a step.is (λ symbols n. step.named symbols n.0 n.1) }

    -- a question leaves the state alone
    pub of_reads : {NamesB : Symbols → Type 0} {old new : DeclState Base Held} (f : Map → Scope → A) (here : State) (result : Result A DeclStop)
        → Reads f setting.scope old result new Names Gives → ((symbols : Symbols) → Around symbols setting.scope → NamesB symbols → Names symbols)
        → Walks (reads f) setting old here result new here NamesB Gives
    unfolding reads
    of_reads f here (Ok a) asks more = record {
      asks = said a asks (λ map is. ap (λ (b : A). (b, here)) (sym is)) (λ symbols n. more symbols n.0.around n.1) (λ symbols n g. (n.0.types, g));
    }
    of_reads f here (Err e) asks more = record { asks = failed asks (λ symbols n. more symbols n.0.around n.1) }

    -- a check that is given more, and of which less is said
    pub weaker : {NamesB : Symbols → Type 0} {GivesB : Symbols → A → Type 0} {walk : Walk A} {old new : DeclState Base Held} {before behind : State} (result : Result A DeclStop)
        → Walks walk setting old before result new behind Names Gives → ((symbols : Symbols) → NamesB symbols → Names symbols)
        → ((symbols : Symbols) (a : A) → NamesB symbols → Gives symbols a → GivesB symbols a) → Walks walk setting old before result new behind NamesB GivesB
    weaker (Ok a) check more gives = record {
      asks = said a check.asks (λ map is. is) (λ symbols n. (n.0, more symbols n.1)) (λ symbols n g. (g.0, gives symbols a n.1 g.1));
    }
    weaker (Err e) check more gives = record { asks = failed check.asks (λ symbols n. (n.0, more symbols n.1)) }

    -- a check of a walk is one of each walk that is the same from there
    pub walks_as : {walk : Walk A} {old new : DeclState Base Held} {before behind : State} (other : Walk A) (result : Result A DeclStop)
        → Walks walk setting old before result new behind Names Gives → ((map : Map) → other setting map before ≡ walk setting map before)
        → Walks other setting old before result new behind Names Gives
    walks_as other (Ok a) check same = record { asks = said a check.asks (λ map is. same map ∙ is) (λ symbols n. n) (λ symbols n g. g) }
    walks_as other (Err e) check same = record { asks = failed check.asks (λ symbols n. n) }

    -- a check from other variables, of which only the answer is kept
    pub walks_quietly : {NamesB : Symbols → Type 0} {walk : Walk A} {old new : DeclState Base Held} {scratch behind : State} (from : Variables) (here : State) (result : Result A DeclStop)
        → Walks walk setting old scratch result new behind Names Gives → scratch.variables ≡ from → scratch.found ≡ []
        → ((symbols : Symbols) → NamesB symbols → VariablesIn symbols from × Names symbols) → Walks (quietly from walk) setting old here result new here NamesB Gives
    unfolding quietly
    walks_quietly {walk = walk} {scratch = scratch} from here (Ok a) check is none more = record {
      asks = said a check.asks
          (λ map so.
          ap (λ (s : State). ((walk setting map s).0, here)) (states (record { variables = from; found = [] }) scratch (sym is) (sym none))
          ∙ ap (λ (end : A × State). (end.0, here)) so)
          (λ symbols n. let m = more symbols n.1 in (with_types n.0 (subst (VariablesIn symbols) (sym is) m.0), m.1)) (λ symbols n g. (n.0.types, g.1));
    }
    walks_quietly from here (Err e) check is none more = record {
      asks = failed check.asks (λ symbols n. let m = more symbols n.1 in (with_types n.0 (subst (VariablesIn symbols) (sym is) m.0), m.1));
    }

  -- one check, and another that goes on with its answer
  module _ {A B : Type 0} {Names : Symbols → Type 0} {Gives : Symbols → A → Type 0} {NamesB : Symbols → Type 0} {GivesB : Symbols → B → Type 0}
      {NamesC : Symbols → Type 0} {GivesC : Symbols → B → Type 0} {p : Walk A} {before between behind : State} {a : A} where
    pub walks_then : {old mid new : DeclState Base Held} (f : A → Walk B) (result : Result B DeclStop)
        → Walks p setting old before (Ok a) mid between Names Gives → Walks (f a) setting mid between result new behind NamesB GivesB
        → ((symbols : Symbols) → NamesC symbols → Names symbols) → ((symbols : Symbols) → NamesC symbols → Gives symbols a → NamesB symbols)
        → ((symbols : Symbols) (b : B) → NamesC symbols → Gives symbols a → GivesB symbols b → GivesC symbols b)
        → Walks (p >>= f) setting old before result new behind NamesC GivesC
    walks_then f result first second more onward gives = record {
      asks = then result first.asks second.asks (λ map b one two. in_row p f setting map before between behind a b one two)
          (λ symbols n. (n.0, more symbols n.1)) (λ symbols n g. (with_types n.0 g.0, onward symbols n.1 g.1)) (λ symbols b n g h. (h.0, gives symbols b n.1 g.1 h.1));
    }

    -- where the first has no answer that the second could use
    pub walks_next : {old mid new : DeclState Base Held} (q : Walk B) (result : Result B DeclStop)
        → Walks p setting old before (Ok a) mid between Names Gives → Walks q setting mid between result new behind NamesB GivesB
        → ((symbols : Symbols) → NamesC symbols → Names symbols) → ((symbols : Symbols) → NamesC symbols → Gives symbols a → NamesB symbols)
        → ((symbols : Symbols) (b : B) → NamesC symbols → Gives symbols a → GivesB symbols b → GivesC symbols b)
        → Walks (p >> q) setting old before result new behind NamesC GivesC
    unfolding ◌>>◌
    walks_next q result first second more onward gives = walks_then (λ _. q) result first second more onward gives

    -- a step, and then a check
    pub step_walks : {old new : DeclState Base Held} (f : A → Walk B) (result : Result B DeclStop)
        → Steps p setting before (Ok a) between Names Gives → Walks (f a) setting old between result new behind NamesB GivesB
        → ((symbols : Symbols) → NamesC symbols → Names symbols) → ((symbols : Symbols) → NamesC symbols → Gives symbols a → NamesB symbols)
        → ((symbols : Symbols) (b : B) → NamesC symbols → Gives symbols a → GivesB symbols b → GivesC symbols b)
        → Walks (p >>= f) setting old before result new behind NamesC GivesC
    step_walks f result first second more onward gives = walks_then f result (of_step _ first) second more onward gives

  -- a check or a step, and then a check that goes on from it: it is given what the whole is given and what the first gave, and the whole
  -- gives what it gives; so rows of many lines are put together from the first line on
  module _ {A B : Type 0} {Names : Symbols → Type 0} {Gives : Symbols → A → Type 0} {NamesC : Symbols → Type 0} {GivesC : Symbols → B → Type 0}
      {p : Walk A} {before between behind : State} {a : A} where
    pub walks_on : {old mid new : DeclState Base Held} (f : A → Walk B) (result : Result B DeclStop) → Walks p setting old before (Ok a) mid between Names Gives
        → Walks (f a) setting mid between result new behind (λ symbols. NamesC symbols × Gives symbols a) GivesC → ((symbols : Symbols) → NamesC symbols → Names symbols)
        → Walks (p >>= f) setting old before result new behind NamesC GivesC
    walks_on f result first second more = walks_then f result first second more (λ symbols n g. (n, g)) (λ symbols b n g h. h)

    pub step_on : {old new : DeclState Base Held} (f : A → Walk B) (result : Result B DeclStop) → Steps p setting before (Ok a) between Names Gives
        → Walks (f a) setting old between result new behind (λ symbols. NamesC symbols × Gives symbols a) GivesC → ((symbols : Symbols) → NamesC symbols → Names symbols)
        → Walks (p >>= f) setting old before result new behind NamesC GivesC
    step_on f result first second more = walks_on f result (of_step _ first) second more

  -- a check, and last a step
  module _ {A B : Type 0} {Names : Symbols → Type 0} {Gives : Symbols → A → Type 0} {GivesB : Symbols → B → Type 0}
      {NamesC : Symbols → Type 0} {GivesC : Symbols → B → Type 0} {p : Walk A} {before between behind : State} {a : A} where
    pub walks_step : {old new : DeclState Base Held} (f : A → Walk B) {b : B} → Walks p setting old before (Ok a) new between Names Gives
        → Steps (f a) setting between (Ok b) behind (λ symbols. NamesC symbols × Gives symbols a) GivesB → ((symbols : Symbols) → NamesC symbols → Names symbols)
        → ((symbols : Symbols) (b : B) → NamesC symbols → Gives symbols a → GivesB symbols b → GivesC symbols b)
        → Walks (p >>= f) setting old before (Ok b) new behind NamesC GivesC
    walks_step f {b = b} first second more gives =
        walks_then {NamesB = λ symbols. NamesC symbols × Gives symbols a} f (Ok b) first (of_step _ second) more (λ symbols n g. (n, g)) gives

  -- a check or a step, and last a question
  module _ {A B : Type 0} {Names : Symbols → Type 0} {Gives : Symbols → A → Type 0} {NamesB : Symbols → Type 0} {GivesB : Symbols → B → Type 0}
      {NamesC : Symbols → Type 0} {GivesC : Symbols → B → Type 0} {p : Walk A} {before between : State} {a : A} where
    pub walks_reads : {old mid new : DeclState Base Held} (f : A → Map → Scope → B) (result : Result B DeclStop)
        → Walks p setting old before (Ok a) mid between Names Gives → Reads (f a) setting.scope mid result new NamesB GivesB
        → ((symbols : Symbols) → NamesC symbols → Names symbols) → ((symbols : Symbols) → Around symbols setting.scope → NamesC symbols → Gives symbols a → NamesB symbols)
        → ((symbols : Symbols) (b : B) → NamesC symbols → Gives symbols a → GivesB symbols b → GivesC symbols b)
        → Walks (p >>= (λ c. reads (f c))) setting old before result new between NamesC GivesC
    walks_reads f result first second more onward gives =
        walks_then {NamesB = λ symbols. NamesC symbols × Gives symbols a} (λ c. reads (f c)) result first
        (of_reads (f a) between result second (λ symbols around n. onward symbols around n.0 n.1)) more (λ symbols n g. (n, g)) gives

    pub step_reads : {old new : DeclState Base Held} (f : A → Map → Scope → B) (result : Result B DeclStop)
        → Steps p setting before (Ok a) between Names Gives → Reads (f a) setting.scope old result new NamesB GivesB
        → ((symbols : Symbols) → NamesC symbols → Names symbols) → ((symbols : Symbols) → Around symbols setting.scope → NamesC symbols → Gives symbols a → NamesB symbols)
        → ((symbols : Symbols) (b : B) → NamesC symbols → Gives symbols a → GivesB symbols b → GivesC symbols b)
        → Walks (p >>= (λ c. reads (f c))) setting old before result new between NamesC GivesC
    step_reads f result first second more onward gives = walks_reads f result (of_step _ first) second more onward gives

  -- a question, and then a check
  module _ {A B : Type 0} {Names : Symbols → Type 0} {Gives : Symbols → A → Type 0} {NamesB : Symbols → Type 0} {GivesB : Symbols → B → Type 0}
      {NamesC : Symbols → Type 0} {GivesC : Symbols → B → Type 0} {here behind : State} {a : A} where
    pub reads_walks : {old mid new : DeclState Base Held} (g : Map → Scope → A) (f : A → Walk B) (result : Result B DeclStop)
        → Reads g setting.scope old (Ok a) mid Names Gives → Walks (f a) setting mid here result new behind NamesB GivesB
        → ((symbols : Symbols) → Around symbols setting.scope → NamesC symbols → Names symbols) → ((symbols : Symbols) → NamesC symbols → Gives symbols a → NamesB symbols)
        → ((symbols : Symbols) (b : B) → NamesC symbols → Gives symbols a → GivesB symbols b → GivesC symbols b)
        → Walks (reads g >>= f) setting old here result new behind NamesC GivesC
    reads_walks g f result first second more onward gives = walks_then f result (of_reads g here (Ok a) first more) second (λ symbols n. n) onward gives

  -- ---- refusals

  module _ {B : Type 0} {NamesB : Symbols → Type 0} {GivesB : Symbols → B → Type 0} {next : Walk B} {behind : State} where
    -- memory runs out before anything is asked
    pub no_memory : (state : DeclState Base Held) (here : State) → Walks next setting state here (Err stop.NoMemory) state behind NamesB GivesB
    no_memory state here = record {
      asks = without_memory (unasked {Means = λ map (done : Unit {0}). Unit {0}} {Names = λ symbols. Unit {0}} {Gives = λ symbols done. Unit {0}} state tt (λ map. tt) (λ symbols n. tt)) (λ symbols n. tt);
    }

    module _ {A : Type 0} {Names : Symbols → Type 0} {Gives : Symbols → A → Type 0} {walk : Walk A} {old new : DeclState Base Held} {before between : State} where
      -- a refusal is handed on
      pub refused : {e : DeclStop} → Walks walk setting old before (Err e) new between Names Gives → ((symbols : Symbols) → NamesB symbols → Names symbols)
          → Walks next setting old before (Err e) new behind NamesB GivesB
      refused check more = record { asks = failed check.asks (λ symbols n. (n.0, more symbols n.1)) }

      -- memory runs out behind an answer
      pub out_of_memory : {a : A} → Walks walk setting old before (Ok a) new between Names Gives → ((symbols : Symbols) → NamesB symbols → Names symbols)
          → Walks next setting old before (Err stop.NoMemory) new behind NamesB GivesB
      out_of_memory check more = record { asks = without_memory check.asks (λ symbols n. (n.0, more symbols n.1)) }

  -- a check, and then one that is refused, or behind which memory runs out
  module _ {A B C : Type 0} {Names : Symbols → Type 0} {Gives : Symbols → A → Type 0} {NamesB : Symbols → Type 0} {GivesB : Symbols → B → Type 0}
      {NamesC : Symbols → Type 0} {GivesC : Symbols → C → Type 0} {p : Walk A} {q : Walk B} {next : Walk C} {before between behind last : State} {a : A}
      {old mid new : DeclState Base Held} where
    pub then_refused : {e : DeclStop} → Walks p setting old before (Ok a) mid between Names Gives → Walks q setting mid between (Err e) new last NamesB GivesB
        → ((symbols : Symbols) → NamesC symbols → Names symbols) → ((symbols : Symbols) → NamesC symbols → Gives symbols a → NamesB symbols)
        → Walks next setting old before (Err e) new behind NamesC GivesC
    then_refused {e = e} first second more onward =
        refused (walks_then {NamesC = NamesC} {GivesC = GivesB} (λ _. q) (Err e) first second more onward (λ symbols b n g h. h)) (λ symbols n. n)

    pub then_out_of_memory : {b : B} → Walks p setting old before (Ok a) mid between Names Gives → Walks q setting mid between (Ok b) new last NamesB GivesB
        → ((symbols : Symbols) → NamesC symbols → Names symbols) → ((symbols : Symbols) → NamesC symbols → Gives symbols a → NamesB symbols)
        → Walks next setting old before (Err stop.NoMemory) new behind NamesC GivesC
    then_out_of_memory {b = b} first second more onward =
        out_of_memory (walks_then {NamesC = NamesC} {GivesC = GivesB} (λ _. q) (Ok b) first second more onward (λ symbols c n g h. h)) (λ symbols n. n)

  -- ---- loops: one walk for each of a list so far, and for the next

  module _ {A B : Type 0} {Names : Symbols → Type 0} (f : A → Walk B) where
    pub each_none : (GivesB : Symbols → B → Type 0) (state : DeclState Base Held) (here : State)
        → Walks (each f []) setting state here (Ok []) state here Names (λ symbols bs. All (GivesB symbols) bs)
    unfolding each
    each_none GivesB state here = walks_pure state here [] (λ symbols n k d lt. absurd (omega (arith, lt)))

  module _ {A : Type 0} {Names : Symbols → Type 0} (f : A → Walk (Unit {0})) where
    pub for_each_none : (state : DeclState Base Held) (here : State) → Walks (for_each f []) setting state here (Ok tt) state here Names Nothing
    unfolding for_each
    for_each_none state here = walks_pure state here tt (λ symbols n. tt)

  module _ {A B : Type 0} {Names : Symbols → Type 0} {NamesB : Symbols → Type 0} {GivesB : Symbols → B → Type 0} (f : A → Walk B) where
    pub each_next : {old mid new : DeclState Base Held} {before between behind : State} {bs : List B} {b : B} (xs : List A) (i : ℕ) (x : A)
        → i < length xs → x ≡ get_or xs i x
        → Walks (each f (take i xs)) setting old before (Ok bs) mid between Names (λ symbols cs. All (GivesB symbols) cs)
        → Walks (f x) setting mid between (Ok b) new behind NamesB GivesB → ((symbols : Symbols) → Names symbols → NamesB symbols)
        → Walks (each f (take (i + 1) xs)) setting old before (Ok (bs ++ b ∷ [])) new behind Names (λ symbols cs. All (GivesB symbols) cs)
    each_next {before = before} {between = between} {behind = behind} {bs = bs} {b = b} xs i x inside at first second onward = record {
      asks = said (bs ++ b ∷ []) (then
          {MeansC = λ map (c : B). each f (take (i + 1) xs) setting map before ≡ (bs ++ c ∷ [], behind)}
          {NamesC = λ symbols. BodyIn symbols setting.scope before.variables × Names symbols}
          {GivesC = λ symbols (c : B). VariablesIn symbols behind.variables × All (GivesB symbols) bs × GivesB symbols c}
          (Ok b) first.asks second.asks
          (λ map c one two. ap (λ ys. each f ys setting map before) (next_taken xs i x inside at) ∙ each_ends f (take i xs) x setting map before between behind bs c one two)
          (λ symbols n. n) (λ symbols n g. (with_types n.0 g.0, onward symbols n.1)) (λ symbols c n g h. (h.0, g.1, h.1)))
          (λ map is. is) (λ symbols n. n) (λ symbols n g. (g.0, one_more (GivesB symbols) bs b g.1 g.2));
    }

  module _ {A : Type 0} {Names : Symbols → Type 0} {NamesB : Symbols → Type 0} (f : A → Walk (Unit {0})) where
    pub for_each_next : {old mid new : DeclState Base Held} {before between behind : State} (xs : List A) (i : ℕ) (x : A) → i < length xs → x ≡ get_or xs i x
        → Walks (for_each f (take i xs)) setting old before (Ok tt) mid between Names Nothing → Walks (f x) setting mid between (Ok tt) new behind NamesB Nothing
        → ((symbols : Symbols) → Names symbols → NamesB symbols) → Walks (for_each f (take (i + 1) xs)) setting old before (Ok tt) new behind Names Nothing
    for_each_next {before = before} {between = between} {behind = behind} xs i x inside at first second onward = record {
      asks = then (Ok tt) first.asks second.asks
          (λ map c one two. ap (λ ys. for_each f ys setting map before) (next_taken xs i x inside at) ∙ for_each_ends f (take i xs) x setting map before between behind one two)
          (λ symbols n. n) (λ symbols n g. (with_types n.0 g.0, onward symbols n.1)) (λ symbols c n g h. (h.0, tt));
    }

  -- ---- rows that are shared

  -- whether a type is below another, and a diagnostic where it isn't
  pub walks_expect : {Names NamesC : Symbols → Type 0} {old new : DeclState Base Held} {before behind : State} (at : Place) (wanted found : HackType) (fits : Bool)
      → Reads (λ map scope. is_below map scope most_height found wanted) setting.scope old (Ok fits) new Names Nothing
      → Steps (unless fits at (expected wanted found)) setting before (Ok tt) behind NamesC Nothing
      → ((symbols : Symbols) → Around symbols setting.scope → NamesC symbols → Names symbols) → Walks (expect at wanted found) setting old before (Ok tt) new behind NamesC Nothing
  unfolding expect is_sub
  walks_expect {NamesC = NamesC} {new = new} {before = before} at wanted found fits asks step more =
      reads_walks {NamesB = NamesC} {here = before} (λ map scope. is_below map scope most_height found wanted) (λ b. unless b at (expected wanted found)) (Ok tt) asks (of_step new step) more
      (λ symbols n g. n) (λ symbols b n g h. tt)

-- a diagnostic, and the type of what can't be known
module _ {setting : Setting} {Names : Symbols → Type 0} where
  pub step_refuse : (before behind : State) (at : Place) (message : Message) → behind.variables ≡ before.variables
      → behind.found ≡ before.found ++ diag_of setting.names at message ∷ [] → Steps (refuse at message) setting before (Ok Any) behind Names TypeIn
  unfolding refuse ◌>>◌ ◌>>=◌ report pure
  step_refuse before behind at message same is = record {
    is = λ map. ends Any _ behind (states _ behind (sym same) (sym is));
    named = λ symbols body n. (subst (VariablesIn symbols) (sym same) body.types, of_any symbols);
  }
