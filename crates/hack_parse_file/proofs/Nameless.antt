-- How a run ends doesn't depend on the names that its tokens spell.
use Rattle.std.proofs.Common.{◌≡◌, ℕ, zero, suc, Bool, true, false, List, [], ◌∷◌, map, Option, None, Some, refl, sym, ap, subst, ◌&&◌, nat_le, if◌then◌else◌}
use Rattle.hack_codes.specs.Numbers.{number}
use Rattle.hack_codes.specs.declared.code.Code.TheVariants as code
use Rattle.hack_types.specs.declared.place.Place.{Place}
use Rattle.hack_lexer.specs.declared.kind.Mark.TheVariants as mark
use Rattle.hack_parse_expr.specs.declared.lexeme.Lexeme.{Lexeme}
use Rattle.hack_parse_expr.specs.declared.stop.ParseStop.{ParseStop}
use Rattle.hack_parse_expr.specs.Input.{Input, fault_at, refusal, too_deep, shown, past}
use Rattle.hack_parse_expr.specs.Symbols.{Terminal, Mark_, Keyword_, Name, Variable, Word, KeyText, Decided, Rule, Symbol, one, here, close, start, finish, optional, many, list, list1, more, rule, Of, Awaits, Row, Type_}
use Rattle.hack_parse_expr.specs.Rows.{fits, sees, reads, begins, begins_rule, row, row_of}
use Rattle.hack_parse_expr.specs.Run.{State, Next, Goes, Ends, Stops, step, go_on, run, only, Stands, Fails, by_row, takes, marks, starts, opened, nesting, deepest}

-- a token without the name that it spells
abbrev pub nameless : Lexeme → Lexeme
nameless t = record t { name = 0 }

abbrev pub nameless_input : Input → Input
nameless_input i = record i { left = map nameless i.left }

-- ---- rows

fits_same : (terminal : Terminal) (t : Lexeme) → fits terminal (nameless t) ≡ fits terminal t
fits_same (Mark_ m) t = refl
fits_same (Keyword_ k) t = refl
fits_same Name t = refl
fits_same Variable t = refl
fits_same Word t = refl
fits_same KeyText t = refl
fits_same Decided t = refl

sees_same : (terminal : Terminal) (ts : List Lexeme) → sees terminal (map nameless ts) ≡ sees terminal ts
sees_same terminal [] = refl
sees_same terminal (t ∷ ts) = fits_same terminal t

-- the row of a name of the grammar
row_of_same : (name : Rule) (ts : List Lexeme) → row_of name (map nameless ts) ≡ row_of name ts
row_of_same Type_ [] = refl
row_of_same Type_ (t ∷ []) = refl
row_of_same Type_ (t ∷ u ∷ ts) = refl
row_of_same name [] = refl
row_of_same name (t ∷ []) = refl
row_of_same name (t ∷ u ∷ ts) = refl

begins_rule_same : (name : Rule) (ts : List Lexeme) → begins_rule name (map nameless ts) ≡ begins_rule name ts
begins_rule_same Type_ [] = refl
begins_rule_same Type_ (t ∷ []) = refl
begins_rule_same Type_ (t ∷ u ∷ ts) = refl
begins_rule_same name [] = refl
begins_rule_same name (t ∷ []) = refl
begins_rule_same name (t ∷ u ∷ ts) = refl

begins_same : (x : Symbol) (ts : List Lexeme) → begins x (map nameless ts) ≡ begins x ts
begins_same (one terminal) ts = sees_same terminal ts
begins_same (rule name) ts = begins_rule_same name ts
begins_same x ts = refl

row_same : (x : Symbol) (ts : List Lexeme) → row x (map nameless ts) ≡ row x ts
row_same (optional x) ts = ap (λ (b : Bool). if b then reads {x = optional x} (x ∷ []) (λ v. Some v) else reads [] None) (begins_same x ts)
row_same (many x) ts = ap (λ (b : Bool). if b then reads {x = many x} (x ∷ many x ∷ []) (λ v vs. v ∷ vs) else reads [] []) (begins_same x ts)
row_same (list x) ts = ap (λ (b : Bool). if b then reads {x = list x} (x ∷ more x ∷ []) (λ v vs. v ∷ vs) else reads [] []) (begins_same x ts)
row_same (more x) ts = ap (λ (b : Bool). if b then reads {x = more x} (one Decided ∷ list x ∷ []) (λ _ vs. vs) else reads [] []) (sees_same (Mark_ mark.Comma) ts)
row_same (rule name) ts = row_of_same name ts
row_same x ts = refl

-- ---- steps

-- the second is the first, but for its tree, and without names
abbrev pub Alike : {R : Type 0} → Next R → Next R → Type 0
Alike (Goes s) (Goes t) = (s.pending ≡ t.pending) × (nameless_input s.input ≡ t.input)
Alike (Ends v i) (Ends w j) = nameless_input i ≡ j
Alike (Stops stop) (Stops other) = stop ≡ other
Alike _ _ = ⊥

fault_same : (end : Place) (found : ℕ) (ts : List Lexeme) → fault_at end found ts ≡ fault_at end found (map nameless ts)
fault_same end found [] = refl
fault_same end found (t ∷ ts) = refl

pub refusal_same : (i : Input) → refusal i ≡ refusal (nameless_input i)
refusal_same i = fault_same i.end (number code.UnexpectedToken) i.left

too_deep_same : (i : Input) → too_deep i ≡ too_deep (nameless_input i)
too_deep_same i = fault_same i.end (number code.TooDeep) i.left

-- either side of a test
alike_test : {R : Type 0} (b : Bool) (x y z w : Next R) → Alike x z → Alike y w → Alike (if b then x else y) (if b then z else w)
alike_test true x y z w h k = h
alike_test false x y z w h k = k

-- a row
by_row_alike : (R : Type 0) (x : Symbol) (pending : List Symbol) (tree other : Of x → Awaits pending R) (i : Input) (r : Option (Row x)) →
    Alike (by_row x pending tree i r) (by_row x pending other (nameless_input i) r)
by_row_alike R x pending tree other i None = refusal_same i
by_row_alike R x pending tree other i (Some r) =
    alike_test (r.counts && nat_le deepest (nesting pending)) (Stops (too_deep i)) (opened x pending tree i r) (Stops (too_deep (nameless_input i))) (opened x pending other (nameless_input i) r) (too_deep_same i) (refl, refl)

row_alike : (R : Type 0) (x : Symbol) (pending : List Symbol) (tree other : Of x → Awaits pending R) (i : Input) →
    Alike (by_row x pending tree i (row x i.left)) (by_row x pending other (nameless_input i) (row x (map nameless i.left)))
row_alike R x pending tree other i =
    subst (λ r. Alike (by_row x pending tree i (row x i.left)) (by_row x pending other (nameless_input i) r)) (sym (row_same x i.left))
    (by_row_alike R x pending tree other i (row x i.left))

-- a token that is taken
takes_alike : (R : Type 0) (terminal : Terminal) (pending : List Symbol) (tree other : Lexeme → Awaits pending R) (i : Input) (left : List Lexeme) →
    Alike (takes terminal pending tree i left) (takes terminal pending other (nameless_input i) (map nameless left))
takes_alike R terminal pending tree other i [] = refusal_same i
takes_alike R terminal pending tree other i (t ∷ left) =
    subst (λ (b : Bool). Alike (takes terminal pending tree i (t ∷ left)) (if b then Goes (record { pending = pending; tree = other (shown (nameless_input i) (nameless t)); input = past (nameless_input i) (nameless t) (map nameless left) }) else Stops (refusal (nameless_input i))))
    (sym (fits_same terminal t))
    (alike_test (fits terminal t) (Goes (record { pending = pending; tree = tree (shown i t); input = past i t left })) (Stops (refusal i))
    (Goes (record { pending = pending; tree = other (shown (nameless_input i) (nameless t)); input = past (nameless_input i) (nameless t) (map nameless left) })) (Stops (refusal (nameless_input i)))
    (refl, refl) (refusal_same i))

-- a place
marks_alike : (R : Type 0) (pending : List Symbol) (tree other : Place → Awaits pending R) (i : Input) (left : List Lexeme) →
    Alike (marks pending tree i left) (marks pending other (nameless_input i) (map nameless left))
marks_alike R pending tree other i [] = refusal_same i
marks_alike R pending tree other i (t ∷ left) = (refl, refl)

-- the beginning of a declaration
starts_alike : (R : Type 0) (pending : List Symbol) (tree other : Lexeme → Awaits pending R) (i : Input) (left : List Lexeme) →
    Alike (starts pending tree i left) (starts pending other (nameless_input i) (map nameless left))
starts_alike R pending tree other i [] = refusal_same i
starts_alike R pending tree other i (t ∷ left) = (refl, refl)

step_alike : (R : Type 0) (pending : List Symbol) (tree other : Awaits pending R) (i : Input) → Alike (step pending tree i) (step pending other (nameless_input i))
step_alike R [] tree other i = refl
step_alike R (one terminal ∷ pending) tree other i = takes_alike R terminal pending tree other i i.left
step_alike R (here ∷ pending) tree other i = marks_alike R pending tree other i i.left
step_alike R (close ∷ pending) tree other i = (refl, refl)
step_alike R (start ∷ pending) tree other i = starts_alike R pending tree other i i.left
step_alike R (finish ∷ pending) tree other i = (refl, refl)
step_alike R (optional x ∷ pending) tree other i = row_alike R (optional x) pending tree other i
step_alike R (many x ∷ pending) tree other i = row_alike R (many x) pending tree other i
step_alike R (list x ∷ pending) tree other i = row_alike R (list x) pending tree other i
step_alike R (list1 x ∷ pending) tree other i = row_alike R (list1 x) pending tree other i
step_alike R (more x ∷ pending) tree other i = row_alike R (more x) pending tree other i
step_alike R (rule name ∷ pending) tree other i = row_alike R (rule name) pending tree other i

-- ---- runs

-- a step of states that are alike
states_alike : {R : Type 0} (s t : State R) → s.pending ≡ t.pending → nameless_input s.input ≡ t.input → Alike (step s.pending s.tree s.input) (step t.pending t.tree t.input)
states_alike {R = R} s t e f =
    subst (λ pending. (tree : Awaits pending R) → Alike (step s.pending s.tree s.input) (step pending tree t.input)) e
    (λ tree. subst (λ i. Alike (step s.pending s.tree s.input) (step s.pending tree i)) f (step_alike R s.pending s.tree tree s.input)) t.tree

-- so many steps
runs_alike : {R : Type 0} (n : ℕ) (a b : Next R) → Alike a b → Alike (go_on (run n) a) (go_on (run n) b)
runs_alike zero (Goes s) (Goes t) h = h
runs_alike (suc n) (Goes s) (Goes t) h = runs_alike n (step s.pending s.tree s.input) (step t.pending t.tree t.input) (states_alike s t h.0 h.1)
runs_alike n (Ends v i) (Ends w j) h = h
runs_alike n (Stops stop) (Stops other) h = h
runs_alike n (Goes s) (Ends w j) h = absurd h
runs_alike n (Goes s) (Stops other) h = absurd h
runs_alike n (Ends v i) (Goes t) h = absurd h
runs_alike n (Ends v i) (Stops other) h = absurd h
runs_alike n (Stops stop) (Goes t) h = absurd h
runs_alike n (Stops stop) (Ends w j) h = absurd h

-- what is alike a run that has ended
ended_alike : {R : Type 0} (v : R) (i : Input) (b : Next R) → Alike (Ends v i) b → (w : R) × (b ≡ Ends w (nameless_input i))
ended_alike v i (Ends w j) h = (w, ap (λ k. Ends w k) (sym h))
ended_alike v i (Goes t) h = absurd h
ended_alike v i (Stops other) h = absurd h

stopped_alike : {R : Type 0} (stop : ParseStop) (b : Next R) → Alike (Stops stop) b → b ≡ Stops stop
stopped_alike stop (Stops other) h = ap (λ s. Stops s) (sym h)
stopped_alike stop (Goes t) h = absurd h
stopped_alike stop (Ends w j) h = absurd h

-- what can be read can be read without names, and as much is left
pub stands_nameless : (x : Symbol) (i : Input) (v : Of x) (rest : Input) → Stands x i v rest → (w : Of x) × Stands x (nameless_input i) w (nameless_input rest)
stands_nameless x i v rest h =
    let e = ended_alike v rest (run h.0 (only x (nameless_input i))) (subst (λ a. Alike a (run h.0 (only x (nameless_input i)))) h.1 (runs_alike h.0 (Goes (only x i)) (Goes (only x (nameless_input i))) (refl, refl))) in
    (e.0, (h.0, e.1))

-- and what can't be read can't be read without names, for the same fault
pub fails_nameless : (x : Symbol) (i : Input) (stop : ParseStop) → Fails x i stop → Fails x (nameless_input i) stop
fails_nameless x i stop h =
    (h.0, stopped_alike stop (run h.0 (only x (nameless_input i))) (subst (λ a. Alike a (run h.0 (only x (nameless_input i)))) h.1 (runs_alike h.0 (Goes (only x i)) (Goes (only x (nameless_input i))) (refl, refl))))
