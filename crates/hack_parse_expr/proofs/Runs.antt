-- Runs of the grammar: how they are joined, that they end in one way only, and that they never lengthen the input.
use Rattle.std.proofs.Common.{◌≡◌, ℕ, zero, suc, ◌≤◌, Bool, true, false, List, [], ◌∷◌, length, Option, None, Some, refl, ◌∙◌, sym, subst, arith, ◌&&◌, nat_le, if◌then◌else◌}
use Rattle.hack_types.specs.declared.place.Place.{Place}
use Rattle.hack_parse_expr.specs.declared.lexeme.Lexeme.{Lexeme}
use Rattle.hack_parse_expr.specs.declared.stop.ParseStop.{ParseStop}
use Rattle.hack_parse_expr.specs.Input.{Input, refusal, too_deep, shown, past}
use Rattle.hack_parse_expr.specs.Symbols.{Terminal, Symbol, one, here, close, start, finish, optional, many, list, list1, more, rule, Of, Awaits, Row}
use Rattle.hack_parse_expr.specs.Rows.{row, fits}
use Rattle.hack_parse_expr.specs.Run.{State, Next, Goes, Ends, Stops, step, go_on, run, only, Stands, Fails, by_row, takes, marks, starts, opened, nesting, deepest}

-- what comes of a in so many steps is b
pub record Reaches {R : Type 0} (a b : Next R) : Type 0 where
  pub steps : ℕ
  pub comes : go_on (run steps) a ≡ b

-- a state reaches itself
pub reached : {R : Type 0} {a : Next R} → Reaches a a
reached {a = Goes s} = record { steps = 0; comes = refl }
reached {a = Ends r i} = record { steps = 0; comes = refl }
reached {a = Stops stop} = record { steps = 0; comes = refl }

-- what is reached behind a step is reached
pub stepped : {R : Type 0} (s : State R) {b : Next R} → Reaches (step s.pending s.tree s.input) b → Reaches (Goes s) b
stepped s r = record { steps = suc r.steps; comes = r.comes }

-- what is reached behind so many steps is reached
further : {R : Type 0} (n : ℕ) (a : Next R) {b c : Next R} → go_on (run n) a ≡ b → Reaches b c → Reaches a c
further zero (Goes s) {c = c} e r = subst (λ x. Reaches x c) (sym e) r
further (suc n) (Goes s) e r = stepped s (further n (step s.pending s.tree s.input) e r)
further zero (Ends v i) {c = c} e r = subst (λ x. Reaches x c) (sym e) r
further (suc n) (Ends v i) {c = c} e r = subst (λ x. Reaches x c) (sym e) r
further zero (Stops stop) {c = c} e r = subst (λ x. Reaches x c) (sym e) r
further (suc n) (Stops stop) {c = c} e r = subst (λ x. Reaches x c) (sym e) r

-- what is reached from what is reached is reached
pub then_reached : {R : Type 0} {a b c : Next R} → Reaches a b → Reaches b c → Reaches a c
then_reached {a = a} first second = further first.steps a first.comes second

-- ---- a run ends in one way

-- a run that has ended
abbrev pub IsEnd : {R : Type 0} → Next R → Type 0
IsEnd (Goes s) = ⊥
IsEnd (Ends v i) = Unit {0}
IsEnd (Stops stop) = Unit {0}

-- two runs of one state that have ended have ended alike
pub agree : {R : Type 0} (n m : ℕ) (a : Next R) {b c : Next R} → go_on (run n) a ≡ b → go_on (run m) a ≡ c →
    IsEnd b → IsEnd c → b ≡ c
agree zero m (Goes s) e f is_end was_end = absurd (subst IsEnd (sym e) is_end)
agree (suc n) zero (Goes s) e f is_end was_end = absurd (subst IsEnd (sym f) was_end)
agree (suc n) (suc m) (Goes s) e f is_end was_end = agree n m (step s.pending s.tree s.input) e f is_end was_end
agree n m (Ends v i) e f is_end was_end = sym e ∙ f
agree n m (Stops stop) e f is_end was_end = sym e ∙ f

-- two ends that one state reaches are one
pub one_end : {R : Type 0} {a b c : Next R} → Reaches a b → Reaches a c → IsEnd b → IsEnd c → b ≡ c
one_end {a = a} r q is_end was_end = agree r.steps q.steps a r.comes q.comes is_end was_end

-- what a symbol that is read alone stands for, and what is left behind it, is fixed by the input
pub stands_once : (x : Symbol) (i : Input) (v w : Of x) (left rest : Input) → Stands x i v left →
    Stands x i w rest → (v ≡ w) × (left ≡ rest)
stands_once x i v w left rest r q =
    let e : Ends v left ≡ Ends w rest = agree r.0 q.0 (Goes (only x i)) r.1 q.1 tt tt in (cc, cc)

-- and so is the fault for which it can't be read
pub fails_once : (x : Symbol) (i : Input) (stop other : ParseStop) → Fails x i stop → Fails x i other → stop ≡ other
fails_once x i stop other r q =
    let e : ◌≡◌ {A = Next (Of x)} (Stops stop) (Stops other) = agree r.0 q.0 (Goes (only x i)) r.1 q.1 tt tt in cc

-- what can be read has no fault
pub stands_or_fails : (x : Symbol) (i : Input) (v : Of x) (rest : Input) (stop : ParseStop) → Stands x i v rest →
    Fails x i stop → ⊥
stands_or_fails x i v rest stop r q =
    let e : Ends v rest ≡ Stops stop = agree r.0 q.0 (Goes (only x i)) r.1 q.1 tt tt in cc

-- ---- a run never lengthens the input

-- at most so many tokens are left
abbrev pub Within : {R : Type 0} → ℕ → Next R → Type 0
Within n (Goes s) = length s.input.left ≤ n
Within n (Ends v i) = Unit {0}
Within n (Stops stop) = Unit {0}

-- either side of a test
within_test : {R : Type 0} (n : ℕ) (b : Bool) (x y : Next R) → Within n x → Within n y → Within n (if b then x else y)
within_test n true x y h k = h
within_test n false x y h k = k

-- a row
within_row : (R : Type 0) (x : Symbol) (pending : List Symbol) (tree : Of x → Awaits pending R) (i : Input) (r : Option (Row x)) →
    Within (length i.left) (by_row x pending tree i r)
within_row R x pending tree i None = tt
within_row R x pending tree i (Some r) =
    let k : length i.left ≤ length i.left = omega arith in
    within_test (length i.left) (r.counts && nat_le deepest (nesting pending)) (Stops (too_deep i)) (opened x pending tree i r) tt k

-- a token that is taken
within_taken : (R : Type 0) (terminal : Terminal) (pending : List Symbol) (tree : Lexeme → Awaits pending R) (i : Input) (left : List Lexeme) →
    Within (length left) (takes terminal pending tree i left)
within_taken R terminal pending tree i [] = tt
within_taken R terminal pending tree i (t ∷ left) =
    let k : length left ≤ length (t ∷ left) = omega arith in
    within_test (length (t ∷ left)) (fits terminal t) (Goes (record { pending = pending; tree = tree (shown i t); input = past i t left })) (Stops (refusal i)) k tt

-- a place
within_marked : (R : Type 0) (pending : List Symbol) (tree : Place → Awaits pending R) (i : Input) (left : List Lexeme) →
    Within (length i.left) (marks pending tree i left)
within_marked R pending tree i [] = tt
within_marked R pending tree i (t ∷ left) = let k : length i.left ≤ length i.left = omega arith in k

-- the beginning of a declaration
within_started : (R : Type 0) (pending : List Symbol) (tree : Lexeme → Awaits pending R) (i : Input) (left : List Lexeme) →
    Within (length i.left) (starts pending tree i left)
within_started R pending tree i [] = tt
within_started R pending tree i (t ∷ left) = let k : length i.left ≤ length i.left = omega arith in k

-- no step lengthens the input
pub step_within : (R : Type 0) (pending : List Symbol) (tree : Awaits pending R) (i : Input) →
    Within (length i.left) (step pending tree i)
step_within R [] tree i = tt
step_within R (one terminal ∷ pending) tree i = within_taken R terminal pending tree i i.left
step_within R (here ∷ pending) tree i = within_marked R pending tree i i.left
step_within R (close ∷ pending) tree i = let k : length i.left ≤ length i.left = omega arith in k
step_within R (start ∷ pending) tree i = within_started R pending tree i i.left
step_within R (finish ∷ pending) tree i = let k : length i.left ≤ length i.left = omega arith in k
step_within R (optional x ∷ pending) tree i = within_row R (optional x) pending tree i (row (optional x) i.left)
step_within R (many x ∷ pending) tree i = within_row R (many x) pending tree i (row (many x) i.left)
step_within R (list x ∷ pending) tree i = within_row R (list x) pending tree i (row (list x) i.left)
step_within R (list1 x ∷ pending) tree i = within_row R (list1 x) pending tree i (row (list1 x) i.left)
step_within R (more x ∷ pending) tree i = within_row R (more x) pending tree i (row (more x) i.left)
step_within R (rule name ∷ pending) tree i = within_row R (rule name) pending tree i (row (rule name) i.left)

-- a larger bound
within_more : {R : Type 0} (n m : ℕ) (a : Next R) → n ≤ m → Within n a → Within m a
within_more n m (Goes s) h k = omega arith
within_more n m (Ends v i) h k = tt
within_more n m (Stops stop) h k = tt

-- so many steps
within_steps : {R : Type 0} (n k : ℕ) (a : Next R) → Within k a → Within k (go_on (run n) a)
within_steps zero k (Goes s) h = h
within_steps (suc n) k (Goes s) h =
    within_steps n k (step s.pending s.tree s.input)
    (within_more (length s.input.left) k (step s.pending s.tree s.input) h (step_within _ s.pending s.tree s.input))
within_steps n k (Ends v i) h = tt
within_steps n k (Stops stop) h = tt

-- what a state reaches has no more tokens left
pub shorter : {R : Type 0} (s t : State R) → Reaches (Goes s) (Goes t) → length t.input.left ≤ length s.input.left
shorter s t r =
    let k : length s.input.left ≤ length s.input.left = omega arith in
    subst (λ a. Within (length s.input.left) a) r.comes (within_steps r.steps (length s.input.left) (Goes s) k)
