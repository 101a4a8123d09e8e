-- Walks that add diagnostics behind those that stood, and lead from environments that follow one to those that follow it; how they are put together.
use Rattle.std.proofs.Common.{◌≡◌, ℕ, Bool, true, false, List, [], ◌∷◌, ◌++◌, refl, sym, ap, ◌∙◌, subst, append_assoc, append-nil}
use Rattle.std.specs.Bool.{if◌then◌else◌}
use Rattle.std.specs.List.{AllByRecursion}
use Rattle.hack_types.specs.declared.diag.Diag.{Diag}
use Rattle.hack_types.specs.declared.hack_type.HackType.{HackType}
use Rattle.hack_types.specs.declared.place.Place.{Place}
use Rattle.hack_decls.specs.DeclState.{Map}
use Rattle.hack_sub.specs.declared.scope.Scope.{Scope}
use Rattle.hack_rules.specs.Behind.{Adds, Behind, added, state_of}
use Rattle.hack_diag.specs.Messages.{Message, diag_of}
use Rattle.hack_rules.specs.Variables.{Variables, type_in, with_variable}
use Rattle.hack_rules.specs.Walks.{Setting, State, Walk, ◌>>=◌, ◌>>◌, after, assign, each, expect, for_each, for_pairs, is_sub, pure, quietly, reads, refuse, replace, report, unless, variable_here, variables}
use Rattle.hack_rules.proofs.Environments.{Follows, follows_self, follows_with}

-- what a walk answers, which variables stand behind it, and what it adds, whatever was found before
pub record Run {A : Type 0} (base : Variables) (Gives : A → Type 0) (run : List Diag → A × State) : Type 0 where
  pub answer : A
  pub behind : Variables
  pub adds : List Diag
  pub is : (found : List Diag) → ◌≡◌ {A = A × State} (run found) (answer, state_of behind (found ++ adds))
  pub follows : Follows base behind
  pub gives : Gives answer

-- the same from each environment that follows the first
pub record Goes {A : Type 0} (base : Variables) (Gives : A → Type 0) (walk : Walk A) : Type 0 where
  pub runs : (setting : Setting) (map : Map) (here : Variables) → Follows base here → Run base Gives (λ found. walk setting map (state_of here found))

-- nothing is said of an answer
abbrev pub Free : {A : Type 0} → A → Type 0
Free a = Unit {0}

-- nothing is added
nothing_added : {A : Type 0} (a : A) (here : Variables) (found : List Diag) → ◌≡◌ {A = A × State} (a, state_of here found) (a, state_of here (found ++ []))
nothing_added a here found = ap (λ ds. (a, state_of here ds)) (sym (append-nil found))

still : {A : Type 0} {base : Variables} {Gives : A → Type 0} (a : A) (here : Variables) → Follows base here → Gives a → Run base Gives (λ found. (a, state_of here found))
still a here f g = record { answer = a; behind = here; adds = []; is = λ found. nothing_added a here found; follows = f; gives = g }

module _ {base : Variables} where
  pub goes_pure : {A : Type 0} {Gives : A → Type 0} (a : A) → Gives a → Goes base Gives (pure a)
  unfolding pure
  goes_pure a g = record { runs = λ s m v f. still a v f g }

  pub goes_reads : {A : Type 0} {Gives : A → Type 0} (f : Map → Scope → A) → ((map : Map) (scope : Scope) → Gives (f map scope)) → Goes base Gives (reads f)
  unfolding reads
  goes_reads f g = record { runs = λ s m v w. still (f m s.scope) v w (g m s.scope) }

  pub free_reads : {A : Type 0} (f : Map → Scope → A) → Goes base Free (reads f)
  free_reads f = goes_reads f (λ map scope. tt)

  pub goes_variables : Goes base (Follows base) variables
  unfolding variables
  goes_variables = record { runs = λ s m v f. still v v f f }

  pub goes_replace : {new : Variables} → Follows base new → Goes base Free (replace new)
  unfolding replace
  goes_replace {new = new} f = record { runs = λ s m v w. still tt new f tt }

  pub goes_assign : (name : ℕ) (ty : HackType) → Goes base Free (assign name ty)
  unfolding assign
  goes_assign name ty = record { runs = λ s m v f. still tt (with_variable v name ty) (follows_with name ty f) tt }

  pub goes_variable_here : (name : ℕ) → Goes base Free (variable_here name)
  unfolding variable_here
  goes_variable_here name = record { runs = λ s m v f. still (type_in v name) v f tt }

  pub goes_report : (at : Place) (message : Message) → Goes base Free (report at message)
  unfolding report
  goes_report at message = record {
    runs = λ s m v f. record {
      answer = tt;
      behind = v;
      adds = diag_of s.names at message ∷ [];
      is = λ found. refl;
      follows = f;
      gives = tt;
    };
  }

  pub goes_then : {A B : Type 0} {G : A → Type 0} {H : B → Type 0} {walk : Walk A} {f : A → Walk B}
      → Goes base G walk → ((a : A) → G a → Goes base H (f a)) → Goes base H (walk >>= f)
  unfolding ◌>>=◌
  goes_then {f = f} p q = record {
    runs = λ s m v w.
        let first = p.runs s m v w in
        let second = (q first.answer first.gives).runs s m first.behind first.follows in
        record {
          answer = second.answer;
          behind = second.behind;
          adds = first.adds ++ second.adds;
          is = λ found. ap (λ r. after r f s m) (first.is found) ∙ second.is (found ++ first.adds)
              ∙ ap (λ ds. (second.answer, state_of second.behind ds)) (append_assoc found first.adds second.adds);
          follows = second.follows;
          gives = second.gives;
        };
  }

  pub goes_next : {A B : Type 0} {G : A → Type 0} {H : B → Type 0} {walk : Walk A} {next : Walk B} → Goes base G walk → Goes base H next → Goes base H (walk >> next)
  unfolding ◌>>◌
  goes_next p q = goes_then p (λ a g. q)

  pub goes_refuse : (at : Place) (message : Message) → Goes base Free (refuse at message)
  unfolding refuse
  goes_refuse at message = goes_next (goes_report _ _) (goes_pure _ tt)

  pub goes_either : {A : Type 0} {G : A → Type 0} {walk other : Walk A} (holds : Bool) → Goes base G walk → Goes base G other → Goes base G (if holds then walk else other)
  goes_either true p q = p
  goes_either false p q = q

  pub goes_unless : (holds : Bool) (at : Place) (message : Message) → Goes base Free (unless holds at message)
  unfolding unless
  goes_unless holds at message = goes_either holds (goes_pure _ tt) (goes_report _ _)

  pub goes_is_sub : (lower upper : HackType) → Goes base Free (is_sub lower upper)
  unfolding is_sub
  goes_is_sub lower upper = free_reads _

  pub goes_expect : (at : Place) (wanted found : HackType) → Goes base Free (expect at wanted found)
  unfolding expect
  goes_expect at wanted found = goes_then (goes_is_sub _ _) (λ fits g. goes_unless _ _ _)

  -- ---- over lists

  pub goes_each : {A B : Type 0} {f : A → Walk B} (P : A → Type 0) → ((a : A) → P a → Goes base Free (f a))
      → (as_ : List A) → AllByRecursion P as_ → Goes base Free (each f as_)
  unfolding each
  goes_each P p [] all = goes_pure _ tt
  goes_each P p (a ∷ as_) all = goes_then (p a all.0) (λ b g. goes_then (goes_each P p as_ all.1) (λ bs h. goes_pure _ tt))

  pub free_each : {A B : Type 0} {f : A → Walk B} → ((a : A) → Goes base Free (f a)) → (as_ : List A) → Goes base Free (each f as_)
  unfolding each
  free_each p [] = goes_pure _ tt
  free_each p (a ∷ as_) = goes_then (p a) (λ b g. goes_then (free_each p as_) (λ bs h. goes_pure _ tt))

  pub goes_for_each : {A : Type 0} {f : A → Walk (Unit {0})} (P : A → Type 0) → ((a : A) → P a → Goes base Free (f a))
      → (as_ : List A) → AllByRecursion P as_ → Goes base Free (for_each f as_)
  unfolding for_each
  goes_for_each P p [] all = goes_pure _ tt
  goes_for_each P p (a ∷ as_) all = goes_next (p a all.0) (goes_for_each P p as_ all.1)

  pub free_for_each : {A : Type 0} {f : A → Walk (Unit {0})} → ((a : A) → Goes base Free (f a)) → (as_ : List A) → Goes base Free (for_each f as_)
  unfolding for_each
  free_for_each p [] = goes_pure _ tt
  free_for_each p (a ∷ as_) = goes_next (p a) (free_for_each p as_)

  pub free_pairs : {A B : Type 0} {f : A → B → Walk (Unit {0})} → ((a : A) (b : B) → Goes base Free (f a b)) → (as_ : List A) (bs : List B) → Goes base Free (for_pairs f as_ bs)
  unfolding for_pairs
  free_pairs p [] bs = goes_pure _ tt
  free_pairs p (a ∷ as_) [] = goes_pure _ tt
  free_pairs p (a ∷ as_) (b ∷ bs) = goes_next (p a b) (free_pairs p as_ bs)

  -- from other variables, of which nothing is kept, nothing is added
  pub goes_quietly : {A : Type 0} {G : A → Type 0} {from : Variables} {walk : Walk A} → Follows base from → Goes base G walk → Goes base G (quietly from walk)
  unfolding quietly
  goes_quietly {from = from} w p = record {
    runs = λ s m v f.
        let inner = p.runs s m from w in
        record {
          answer = inner.answer;
          behind = v;
          adds = [];
          is = λ found. ap (λ r. (r.0, state_of v found)) (inner.is []) ∙ nothing_added inner.answer v found;
          follows = f;
          gives = inner.gives;
        };
  }

-- ---- in the words of the laws

pub run_adds : {A : Type 0} {base : Variables} {G : A → Type 0} {run : List Diag → A × State} → Run base G run → (found : List Diag)
    → ◌≡◌ {A = A × State} (run found) (added found (run []))
run_adds r found = r.is found ∙ ap (added found) (sym (r.is []))

-- a walk that goes from each environment to one that follows it adds
pub adds_of : {A : Type 0} {walk : Walk A} (G : Variables → A → Type 0) → ((base : Variables) → Goes base (G base) walk) → Adds walk
adds_of G p setting map here found = run_adds ((p here).runs setting map here follows_self) found

pub behind_of : {A : Type 0} {walk : Walk A} (G : Variables → A → Type 0) (R : Variables → Variables → Type 0)
    → ((base behind : Variables) → Follows base behind → R base behind) → ((base : Variables) → Goes base (G base) walk) → Behind R walk
behind_of {A = A} G R says p setting map state =
    let run = (p state.variables).runs setting map state.variables follows_self in
    subst (λ (r : A × State). R state.variables r.1.variables) (sym (run.is state.found)) (says state.variables run.behind run.follows)

pub answer_of : {A : Type 0} {walk : Walk A} (G : Variables → A → Type 0) → ((base : Variables) → Goes base (G base) walk)
    → (setting : Setting) (map : Map) (state : State) → G state.variables (walk setting map state).0
answer_of {A = A} G p setting map state =
    let run = (p state.variables).runs setting map state.variables follows_self in
    subst (λ (r : A × State). G state.variables r.0) (sym (run.is state.found)) run.gives
