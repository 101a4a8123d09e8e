-- Runs of the grammar: open symbols and the tokens that are left, step by step (docs/language.md, Grammar).
use Rattle.std.specs.Prelude.{◌≡◌, ◌+◌, ◌&&◌, if◌then◌else◌, nat_le, ℕ, zero, suc, Bool, true, false, List, [], ◌∷◌, ◌++◌, Option, None, Some}
use Rattle.hack_types.specs.declared.place.Place.{Place}
use Rattle.hack_parse_expr.specs.declared.lexeme.Lexeme.{Lexeme}
use Rattle.hack_parse_expr.specs.declared.stop.ParseStop.{ParseStop}
use Rattle.hack_parse_expr.specs.Input.{Input, relative, refusal, too_deep, shown, past}
use Rattle.hack_parse_expr.specs.Symbols.{Terminal, Symbol, one, here, close, start, finish, Of, Awaits, Row}
use Rattle.hack_parse_expr.specs.Rows.{row, fits}

-- what is open, what the tree is once that stands for something, and what is left of the text
pub record State (R : Type 0) : Type 0 where
  pub pending : List Symbol
  pub tree : Awaits pending R
  pub input : Input

pub data Next (R : Type 0) : Type 0 where
  Goes : State R → Next R
  Ends : R → Input → Next R
  Stops : ParseStop → Next R

-- how many rows that count as nesting are open
abbrev pub nesting : List Symbol → ℕ
nesting [] = 0
nesting (close ∷ pending) = nesting pending + 1
nesting (x ∷ pending) = nesting pending

-- the parts of a row in the place of its symbol
abbrev pub in_place : {A : Type 0} (R : Type 0) (parts pending : List Symbol) → Awaits parts A → (A → Awaits pending R) → Awaits (parts ++ pending) R
in_place R [] pending makes tree = tree makes
in_place R (x ∷ parts) pending makes tree = λ value. in_place R parts pending (makes value) tree

-- behind a row that counts as nesting its end stays pending
abbrev pub closing : Bool → List Symbol → List Symbol
closing true pending = close ∷ pending
closing false pending = pending

abbrev pub behind : {A : Type 0} (R : Type 0) (counts : Bool) (pending : List Symbol) → (A → Awaits pending R) → A → Awaits (closing counts pending) R
behind R true pending tree = λ a _. tree a
behind R false pending tree = tree

-- at most so many rows that count as nesting are open
abbrev pub deepest : ℕ
deepest = 128

-- a row is opened in the place of its symbol
abbrev pub opened : {R : Type 0} (x : Symbol) (pending : List Symbol) → (Of x → Awaits pending R) → Input → Row x → Next R
opened x pending tree i r = Goes (record {
  pending = r.parts ++ closing r.counts pending;
  tree = in_place _ r.parts (closing r.counts pending) r.makes (behind _ r.counts pending tree);
  input = i;
})

abbrev pub by_row : {R : Type 0} (x : Symbol) (pending : List Symbol) → (Of x → Awaits pending R) → Input → Option (Row x) → Next R
by_row x pending tree i None = Stops (refusal i)
by_row x pending tree i (Some r) = if r.counts && nat_le deepest (nesting pending) then Stops (too_deep i) else opened x pending tree i r

-- a token is taken
abbrev pub takes : {R : Type 0} (terminal : Terminal) (pending : List Symbol) → (Lexeme → Awaits pending R) → Input → List Lexeme → Next R
takes terminal pending tree i [] = Stops (refusal i)
takes terminal pending tree i (t ∷ left) =
    if fits terminal t then Goes (record { pending = pending; tree = tree (shown i t); input = past i t left }) else Stops (refusal i)

-- the place of the next token
abbrev pub marks : {R : Type 0} (pending : List Symbol) → (Place → Awaits pending R) → Input → List Lexeme → Next R
marks pending tree i [] = Stops (refusal i)
marks pending tree i (t ∷ left) = Goes (record { pending = pending; tree = tree (relative i.start t.at); input = i })

-- a declaration begins at the next token
abbrev pub starts : {R : Type 0} (pending : List Symbol) → (Lexeme → Awaits pending R) → Input → List Lexeme → Next R
starts pending tree i [] = Stops (refusal i)
starts pending tree i (t ∷ left) = Goes (record { pending = pending; tree = tree t; input = record i { start = t.at } })

abbrev pub step : {R : Type 0} (pending : List Symbol) → Awaits pending R → Input → Next R
step [] tree i = Ends tree i
step (one terminal ∷ pending) tree i = takes terminal pending tree i i.left
step (here ∷ pending) tree i = marks pending tree i i.left
step (close ∷ pending) tree i = Goes (record { pending = pending; tree = tree tt; input = i })
step (start ∷ pending) tree i = starts pending tree i i.left
step (finish ∷ pending) tree i = Goes (record { pending = pending; tree = tree i.behind; input = i })
step (x ∷ pending) tree i = by_row x pending tree i (row x i.left)

abbrev pub go_on : {R : Type 0} → (State R → Next R) → Next R → Next R
go_on further (Goes s) = further s
go_on further (Ends r i) = Ends r i
go_on further (Stops stop) = Stops stop

-- what has come of a state after so many steps
abbrev pub run : {R : Type 0} → ℕ → State R → Next R
run zero s = Goes s
run (suc n) s = go_on (run n) (step s.pending s.tree s.input)

abbrev pub only : (x : Symbol) → Input → State (Of x)
only x i = record { pending = x ∷ []; tree = λ v. v; input = i }

-- a symbol alone, read from here, stands for this, and this is left behind it
abbrev pub Stands : (x : Symbol) → Input → Of x → Input → Type 0
Stands x i v rest = (n : ℕ) × (run n (only x i) ≡ Ends v rest)

-- it can't be read, for this fault
abbrev pub Fails : Symbol → Input → ParseStop → Type 0
Fails x i stop = (n : ℕ) × (run n (only x i) ≡ Stops stop)
