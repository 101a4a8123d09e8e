-- How clauses of calls that ask are put together.
use Rattle.std.proofs.Common.{◌≡◌, ◌⊎◌, ℕ, Bool, Result, Ok, Err, IsTrue, IfSome, Option, refl, sym, ap, subst, ◌∙◌, arith, inl, inr}
use Rattle.hack_types.specs.declared.ids.SymbolId.{SymbolId}
use Rattle.hack_decls.specs.declared.folded.Folded.{Folded}
use Rattle.hack_decls.specs.declared.stop.DeclStop.{DeclStop}
use Rattle.hack_decls.specs.declared.stop.DeclStop.TheVariants as stop
use Rattle.hack_decls.specs.DeclState.{DeclState, Map, Symbols}
use Rattle.hack_decls.specs.Looks.{HasCause, Keeps, Looks}
use Rattle.hack_decls.specs.Names.{FoldedIn}
use Rattle.hack_decls.specs.Asks.{Asks, Within}

-- ---- inside

later : (old mid new : ℕ) → mid ≡ old → (e : DeclStop) → HasCause mid new e → HasCause old new e
later old mid new same e cause = subst (λ n. HasCause n new e) same cause

noted_after : (symbols : Symbols) (s t : SymbolId) (before : Bool) → IsTrue (symbols s) → (IsTrue before → IsTrue (symbols t)) → IsTrue before ⊎ (t ≡ s) → IsTrue (symbols t)
noted_after symbols s t before here within (inl was) = within was
noted_after symbols s t before here within (inr same) = subst (λ x. IsTrue (symbols x)) (sym same) here

within_after : (symbols old new : Symbols) (s : SymbolId) → IsTrue (symbols s) → Within old symbols → ((t : SymbolId) → IsTrue (new t) → IsTrue (old t) ⊎ (t ≡ s)) → Within new symbols
within_after symbols old new s here within only = λ t h. noted_after symbols s t (old t) here (within t) (only t h)

-- ---- laws

module _ {Base Held : Type 0} where
  -- a call that asks for nothing and answers
  pub kept : {A : Type 0} (state : DeclState Base Held) (answer : A) → Keeps state (Ok answer) state
  kept state answer = record {
    map = refl;
    base = refl;
    noted = λ t h. h;
    held = λ x h. h;
    fulls = omega arith;
    clean = λ h. h;
    steady = (refl, refl);
    cause = tt;
  }

  pub unasked : {A : Type 0} {Means : Map → A → Type 0} {Names : Symbols → Type 0} {Gives : Symbols → A → Type 0} (state : DeclState Base Held) (answer : A)
      → ((map : Map) → Means map answer) → ((symbols : Symbols) → Names symbols → Gives symbols answer) → Asks state (Ok answer) state Means Names Gives
  unasked state answer means gives = record {
    keeps = kept state answer;
    means = λ map agree. means map;
    named = λ symbols names within only. (within, gives symbols names);
  }

  -- what two calls in a row keep, of which the first answered
  pub kept_then : {A B : Type 0} {old mid new : DeclState Base Held} {answer : A} {result : Result B DeclStop}
      → Keeps old (Ok answer) mid → Keeps mid result new → Keeps old result new
  kept_then {old = old} {mid = mid} {new = new} {result = Ok b} first second = record {
    map = second.map ∙ first.map;
    base = second.base ∙ first.base;
    noted = λ t h. second.noted t (first.noted t h);
    held = λ x h. second.held x (first.held x h);
    fulls = omega (arith, first.fulls, second.fulls);
    clean = λ h. first.clean (second.clean h);
    steady = (second.steady.0 ∙ first.steady.0, second.steady.1 ∙ first.steady.1);
    cause = tt;
  }
  kept_then {old = old} {mid = mid} {new = new} {result = Err e} first second = record {
    map = second.map ∙ first.map;
    base = second.base ∙ first.base;
    noted = λ t h. second.noted t (first.noted t h);
    held = λ x h. second.held x (first.held x h);
    fulls = omega (arith, first.fulls, second.fulls);
    clean = λ h. first.clean (second.clean h);
    steady = tt;
    cause = later old.fulls mid.fulls new.fulls first.steady.0 e second.cause;
  }

  -- a refusal is handed on
  pub kept_failed : {A B : Type 0} {old new : DeclState Base Held} {e : DeclStop} → Keeps {A = A} old (Err e) new → Keeps {A = B} old (Err e) new
  kept_failed keeps = record {
    map = keeps.map;
    base = keeps.base;
    noted = keeps.noted;
    held = keeps.held;
    fulls = keeps.fulls;
    clean = keeps.clean;
    steady = tt;
    cause = keeps.cause;
  }

  -- memory runs out behind an answer
  pub kept_without_memory : {A B : Type 0} {old new : DeclState Base Held} {answer : A} → Keeps old (Ok answer) new → Keeps {A = B} old (Err stop.NoMemory) new
  kept_without_memory keeps = record {
    map = keeps.map;
    base = keeps.base;
    noted = keeps.noted;
    held = keeps.held;
    fulls = keeps.fulls;
    clean = keeps.clean;
    steady = tt;
    cause = tt;
  }

  -- another answer is made of the first
  pub kept_said : {A B : Type 0} {old new : DeclState Base Held} {answer : A} (other : B) → Keeps old (Ok answer) new → Keeps old (Ok other) new
  kept_said other keeps = record {
    map = keeps.map;
    base = keeps.base;
    noted = keeps.noted;
    held = keeps.held;
    fulls = keeps.fulls;
    clean = keeps.clean;
    steady = keeps.steady;
    cause = tt;
  }

  module _ {A B : Type 0} {Means : Map → A → Type 0} {Names : Symbols → Type 0} {Gives : Symbols → A → Type 0}
      {MeansB : Map → B → Type 0} {NamesB : Symbols → Type 0} {GivesB : Symbols → B → Type 0} where
    pub failed : {old new : DeclState Base Held} {e : DeclStop} → Asks old (Err e) new Means Names Gives → ((symbols : Symbols) → NamesB symbols → Names symbols)
        → Asks old (Err e) new MeansB NamesB GivesB
    failed asks more = record {
      keeps = kept_failed asks.keeps;
      means = tt;
      named = λ symbols names within only. ((asks.named symbols (more symbols names) within only).0, tt);
    }

    pub without_memory : {old new : DeclState Base Held} {answer : A} → Asks old (Ok answer) new Means Names Gives → ((symbols : Symbols) → NamesB symbols → Names symbols)
        → Asks old (Err stop.NoMemory) new MeansB NamesB GivesB
    without_memory asks more = record {
      keeps = kept_without_memory asks.keeps;
      means = tt;
      named = λ symbols names within only. ((asks.named symbols (more symbols names) within only).0, tt);
    }

    -- the same answer, otherwise said
    pub said : {old new : DeclState Base Held} {answer : A} (other : B) → Asks old (Ok answer) new Means Names Gives
        → ((map : Map) → Means map answer → MeansB map other) → ((symbols : Symbols) → NamesB symbols → Names symbols)
        → ((symbols : Symbols) → NamesB symbols → Gives symbols answer → GivesB symbols other) → Asks old (Ok other) new MeansB NamesB GivesB
    said other asks means more gives = record {
      keeps = kept_said other asks.keeps;
      means = λ map agree. means map (asks.means map agree);
      named = λ symbols names within only. let was = asks.named symbols (more symbols names) within only in (was.0, gives symbols names was.1);
    }

  -- one call, and then another that goes on with its answer
  module _ {A B : Type 0} {Means : Map → A → Type 0} {Names : Symbols → Type 0} {Gives : Symbols → A → Type 0}
      {MeansB : Map → B → Type 0} {NamesB : Symbols → Type 0} {GivesB : Symbols → B → Type 0}
      {MeansC : Map → B → Type 0} {NamesC : Symbols → Type 0} {GivesC : Symbols → B → Type 0} where
    pub then : {old mid new : DeclState Base Held} {answer : A} (result : Result B DeclStop)
        → Asks old (Ok answer) mid Means Names Gives → Asks mid result new MeansB NamesB GivesB
        → ((map : Map) (b : B) → Means map answer → MeansB map b → MeansC map b)
        → ((symbols : Symbols) → NamesC symbols → Names symbols)
        → ((symbols : Symbols) → NamesC symbols → Gives symbols answer → NamesB symbols)
        → ((symbols : Symbols) (b : B) → NamesC symbols → Gives symbols answer → GivesB symbols b → GivesC symbols b)
        → Asks old result new MeansC NamesC GivesC
    then {old = old} {mid = mid} {new = new} (Ok b) first second means more onward gives = record {
      keeps = kept_then first.keeps second.keeps;
      means = λ map agree. means map b
          (first.means map (λ s h. agree s (second.keeps.noted s h)))
          (second.means map (λ s h. agree s h ∙ ap (λ (m : Map). m s) (sym first.keeps.map)));
      named = λ symbols names within only.
          let here = first.named symbols (more symbols names) within (λ s h i. only s (second.keeps.noted s h) i) in
          let there = second.named symbols (onward symbols names here.1) here.0 (λ s h i. subst (λ (m : Map). IfSome (m s) (FoldedIn symbols)) (sym first.keeps.map) (only s h i)) in
          (there.0, gives symbols b names here.1 there.1);
    }
    then {old = old} {mid = mid} {new = new} (Err e) first second means more onward gives = record {
      keeps = kept_then first.keeps second.keeps;
      means = tt;
      named = λ symbols names within only.
          let here = first.named symbols (more symbols names) within (λ s h i. only s (second.keeps.noted s h) i) in
          let there = second.named symbols (onward symbols names here.1) here.0 (λ s h i. subst (λ (m : Map). IfSome (m s) (FoldedIn symbols)) (sym first.keeps.map) (only s h i)) in
          (there.0, tt);
    }

  -- what one lookup answers serves another of the same symbol
  module _ {A B : Type 0} {Is : Option Folded → A → Type 0} {IsB : Option Folded → B → Type 0} {old new : DeclState Base Held} {s : SymbolId} where
    pub picked : {answer : A} (other : B) → Looks old s (Ok answer) new Is → (Is (old.map s) answer → IsB (old.map s) other) → Looks old s (Ok other) new IsB
    picked other looks is = record { keeps = kept_said other looks.keeps; noted = looks.noted; only = looks.only; answer = is looks.answer }

    pub look_failed : {e : DeclStop} → Looks old s (Err e) new Is → Looks old s (Err e) new IsB
    look_failed {e = stop.EdgesFull full} looks = record { keeps = kept_failed looks.keeps; noted = looks.noted; only = looks.only; answer = tt }
    look_failed {e = stop.NoMemory} looks = record { keeps = kept_failed looks.keeps; noted = tt; only = looks.only; answer = tt }

    pub look_without_memory : {answer : A} → Looks old s (Ok answer) new Is → Looks old s (Err stop.NoMemory) new IsB
    look_without_memory looks = record { keeps = kept_without_memory looks.keeps; noted = tt; only = looks.only; answer = tt }

  -- one lookup asks
  module _ {A : Type 0} {Is : Option Folded → A → Type 0} {old new : DeclState Base Held} {s : SymbolId} where
    pub looked : (result : Result A DeclStop) → Looks old s result new Is → Asks old result new (λ map answer. Is (map s) answer) (λ symbols. IsTrue (symbols s)) (λ symbols answer. Unit {0})
    looked (Ok answer) looks = record {
      keeps = looks.keeps;
      means = λ map agree. subst (λ entry. Is entry answer) (sym (agree s looks.noted)) looks.answer;
      named = λ symbols here within only. (within_after symbols old.noted new.noted s here within looks.only, tt);
    }
    looked (Err e) looks = record {
      keeps = looks.keeps;
      means = tt;
      named = λ symbols here within only. (within_after symbols old.noted new.noted s here within looks.only, tt);
    }

    -- what a lookup answers names what its declaration names
    pub looked_names : (answer : A) (Gives : Symbols → A → Type 0) → ((symbols : Symbols) → IfSome (old.map s) (FoldedIn symbols) → Is (old.map s) answer → Gives symbols answer)
        → Looks old s (Ok answer) new Is → Asks old (Ok answer) new (λ map a. Is (map s) a) (λ symbols. IsTrue (symbols s)) Gives
    looked_names answer Gives gives looks = record {
      keeps = looks.keeps;
      means = λ map agree. subst (λ entry. Is entry answer) (sym (agree s looks.noted)) looks.answer;
      named = λ symbols here within only. (within_after symbols old.noted new.noted s here within looks.only, gives symbols (only s looks.noted here) looks.answer);
    }
