-- A run takes its tokens from the front of those that are left.
use Rattle.std.proofs.Common.{◌≡◌, ℕ, zero, suc, Bool, true, false, cond, List, [], ◌∷◌, ◌++◌, ◌&&◌, Option, None, Some, Ok, refl, sym, ap, ◌∙◌, append_assoc, subst}
use Rattle.std.specs.Prelude.{nat_le}
use Rattle.hack_types.specs.declared.place.Place.{Place}
use Rattle.hack_parse_expr.specs.declared.lexeme.Lexeme.{Lexeme}
use Rattle.hack_parse_expr.specs.Input.{Input, refusal, too_deep, shown, past}
use Rattle.hack_parse_expr.specs.Symbols.{Terminal, Symbol, one, here, close, start, finish, optional, many, list, list1, more, rule, Declaration, Declared, Of, Awaits, Row}
use Rattle.hack_parse_expr.specs.Rows.{fits, row}
use Rattle.hack_parse_expr.specs.Run.{State, Next, Goes, Ends, Stops, nesting, deepest, opened, by_row, takes, marks, starts, step, go_on, run, only, Stands}
use Rattle.hack_parse_expr.proofs.Alone.{stands_law}
use Rattle.hack_parse_decl.specs.Declarations.{declaration}
use Rattle.hack_parse_decl.proofs.DeclarationsFollow.{declaration_follows}

-- the tokens of the second input are the last of the first's
abbrev pub Leaves : Input → Input → Type 0
Leaves i j = (taken : List Lexeme) × (i.left ≡ taken ++ j.left)

pub leaves_all : (i : Input) → Leaves i i
leaves_all i = ([], refl)

pub leaves_less : (i j k : Input) → Leaves i j → Leaves j k → Leaves i k
leaves_less i j k h m = (h.0 ++ m.0, h.1 ∙ ap (λ ls. h.0 ++ ls) m.1 ∙ sym (append_assoc h.0 m.0 k.left))

-- the same of what has come of a state
abbrev LeavesIn : {R : Type 0} → Input → Next R → Type 0
LeavesIn i (Goes s) = Leaves i s.input
LeavesIn i (Ends r j) = Leaves i j
LeavesIn i (Stops stop) = Unit {0}

leaves_in : {R : Type 0} (i j : Input) (o : Next R) → Leaves i j → LeavesIn j o → LeavesIn i o
leaves_in i j (Goes s) h k = leaves_less i j s.input h k
leaves_in i j (Ends r m) h k = leaves_less i j m h k
leaves_in i j (Stops stop) h k = tt

-- a token is taken from the front
token_leaves : (R : Type 0) (terminal : Terminal) (pending : List Symbol) (tree : Lexeme → Awaits pending R) (i : Input) (left : List Lexeme) → i.left ≡ left → LeavesIn i (takes terminal pending tree i left)
token_leaves R terminal pending tree i [] e = tt
token_leaves R terminal pending tree i (t ∷ left) e = by (fits terminal t)
  where
    by : (b : Bool) → LeavesIn i (cond b (Goes (record { pending = pending; tree = tree (shown i t); input = past i t left })) (Stops (refusal i)))
    by true = (t ∷ [], e)
    by false = tt

-- a row takes none by itself
row_leaves : (R : Type 0) (x : Symbol) (pending : List Symbol) (tree : Of x → Awaits pending R) (i : Input) (r : Option (Row x)) → LeavesIn i (by_row x pending tree i r)
row_leaves R x pending tree i None = tt
row_leaves R x pending tree i (Some r) = by (r.counts && nat_le deepest (nesting pending))
  where
    by : (b : Bool) → LeavesIn i (cond b (Stops (too_deep i)) (opened x pending tree i r))
    by true = tt
    by false = leaves_all i

place_leaves : (R : Type 0) (pending : List Symbol) (tree : Place → Awaits pending R) (i : Input) (left : List Lexeme) → LeavesIn i (marks pending tree i left)
place_leaves R pending tree i [] = tt
place_leaves R pending tree i (t ∷ left) = leaves_all i

start_leaves : (R : Type 0) (pending : List Symbol) (tree : Lexeme → Awaits pending R) (i : Input) (left : List Lexeme) → LeavesIn i (starts pending tree i left)
start_leaves R pending tree i [] = tt
start_leaves R pending tree i (t ∷ left) = leaves_all i

-- one step
step_leaves : (R : Type 0) (pending : List Symbol) (tree : Awaits pending R) (i : Input) → LeavesIn i (step pending tree i)
step_leaves R [] tree i = leaves_all i
step_leaves R (one terminal ∷ pending) tree i = token_leaves R terminal pending tree i i.left refl
step_leaves R (here ∷ pending) tree i = place_leaves R pending tree i i.left
step_leaves R (close ∷ pending) tree i = leaves_all i
step_leaves R (start ∷ pending) tree i = start_leaves R pending tree i i.left
step_leaves R (finish ∷ pending) tree i = leaves_all i
step_leaves R (optional x ∷ pending) tree i = row_leaves R (optional x) pending tree i (row (optional x) i.left)
step_leaves R (many x ∷ pending) tree i = row_leaves R (many x) pending tree i (row (many x) i.left)
step_leaves R (list x ∷ pending) tree i = row_leaves R (list x) pending tree i (row (list x) i.left)
step_leaves R (list1 x ∷ pending) tree i = row_leaves R (list1 x) pending tree i (row (list1 x) i.left)
step_leaves R (more x ∷ pending) tree i = row_leaves R (more x) pending tree i (row (more x) i.left)
step_leaves R (rule r ∷ pending) tree i = row_leaves R (rule r) pending tree i (row (rule r) i.left)

-- so many steps
run_leaves : {R : Type 0} (n : ℕ) (s : State R) → LeavesIn s.input (run n s)
run_leaves zero s = leaves_all s.input
run_leaves {R = R} (suc n) s = by (step s.pending s.tree s.input) (run_leaves n) (step_leaves R s.pending s.tree s.input)
  where
    by : (o : Next R) → ((t : State R) → LeavesIn t.input (run n t)) → LeavesIn s.input o → LeavesIn s.input (go_on (run n) o)
    by (Goes t) further h = leaves_in s.input t.input (run n t) h (further t)
    by (Ends r j) further h = h
    by (Stops stop) further h = tt

-- what a symbol stands for was read from the front
pub stands_leaves : (x : Symbol) (i : Input) (v : Of x) (rest : Input) → Stands x i v rest → Leaves i rest
stands_leaves x i v rest h = subst (LeavesIn i) h.1 (run_leaves h.0 (only x i))

-- so is a declaration
pub declaration_leaves : (i : Input) (d : Declared) (rest : Input) → declaration i ≡ Ok (d, rest) → Leaves i rest
declaration_leaves i d rest reads = stands_leaves (rule Declaration) i d rest ((stands_law (rule Declaration) declaration declaration_follows i d rest).1 reads)
