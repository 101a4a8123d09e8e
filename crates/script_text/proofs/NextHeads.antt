-- What stands next, as lines are skipped and bytes come.
use Rattle.std.proofs.Common.{◌≡◌, ◌≢◌, ℕ, ◌+◌, ◌==◌, ◌≤◌, Bool, true, false, cond, List, [], ◌∷◌, ◌++◌, Some, None, drop, refl, sym, ap, ◌∙◌, arith, append_assoc, append-nil}
use Rattle.std.specs.Prelude.{Option, slice_get}
use Rattle.std.proofs.lemmas.Bool.Decides.{nat_tests}
use Rattle.script_text.specs.Heads as heads
use Rattle.script_text.specs.Heads.{Head, File, Drop, Check, Begin, Wait, Quit, split_first, head_of_line, may_be_last}
use Rattle.script_text.specs.Script.{Ended, Open, last_head, line_head, next_head}
use Rattle.script_text.specs.Reading.{SameNext, IsLineStart, head_bytes}
use Rattle.script_text.specs.Reader.{stand_behind}

pub newline_is : (b : ℕ) → b ≡ 10 → (b == 10) ≡ true
newline_is b e = grind (arith, nat_tests)

pub newline_not : (b : ℕ) → b ≢ 10 → (b == 10) ≡ false
newline_not b h = grind (arith, nat_tests)

-- an empty line is skipped
pub skip_one : (line b : ℕ) (bytes : List ℕ) → b ≡ 10 → SameNext line (b ∷ bytes) (line + 1) bytes
unfolding next_head
skip_one line b bytes e whole more =
    ap (λ t. cond t (next_head whole (line + 1) (bytes ++ more)) (line_head whole line (b ∷ (bytes ++ more)) (split_first 10 (b ∷ (bytes ++ more))))) (newline_is b e)

pub same_skip : (line later : ℕ) (bytes rest after : List ℕ) (last : ℕ) → SameNext line bytes later rest → SameNext later rest last after → SameNext line bytes last after
same_skip line later bytes rest after last p q whole more = p whole more ∙ q whole more

-- bytes come behind
pub same_more : (line later : ℕ) (bytes rest more : List ℕ) → SameNext line bytes later rest → SameNext line (bytes ++ more) later (rest ++ more)
same_more line later bytes rest more p whole x =
    ap (next_head whole line) (append_assoc bytes more x) ∙ p whole (more ++ x) ∙ ap (next_head whole later) (sym (append_assoc rest more x))

pub same_now : (line later : ℕ) (bytes rest : List ℕ) (whole : Bool) → SameNext line bytes later rest → next_head whole line bytes ≡ next_head whole later rest
same_now line later bytes rest whole p = ap (next_head whole line) (sym (append-nil bytes)) ∙ p whole [] ∙ ap (next_head whole later) (append-nil rest)

pub nothing_left : (line : ℕ) → next_head false line [] ≡ Open
unfolding next_head
nothing_left line = refl

pub at_end : (line : ℕ) → next_head true line [] ≡ Ended
unfolding next_head
at_end line = refl

-- at a line that isn't empty
pub line_next : (whole : Bool) (line : ℕ) (bytes : List ℕ) → IsLineStart bytes → next_head whole line bytes ≡ line_head whole line bytes (split_first 10 bytes)
unfolding next_head
line_next whole line [] start = absurd start
line_next whole line (b ∷ bytes) start =
    ap (λ t. cond t (next_head whole (line + 1) bytes) (line_head whole line (b ∷ bytes) (split_first 10 (b ∷ bytes)))) (newline_not b start)

pub start_more : (bytes more : List ℕ) → IsLineStart bytes → IsLineStart (bytes ++ more)
start_more [] more start = absurd start
start_more (b ∷ bytes) more start = start

-- a line without LF is that of no `file`
last_small : (head : Head) (o : Option Head) → heads.◌>>=◌ o (λ h. cond (may_be_last h) (Some h) None) ≡ Some head → head_bytes (stand_behind head) ≡ 0
last_small head None e = absurd cc
last_small head (Some (File name len)) e = absurd cc
last_small (File name len) (Some (Drop n)) e = absurd cc
last_small (File name len) (Some Check) e = absurd cc
last_small (File name len) (Some Begin) e = absurd cc
last_small (File name len) (Some Wait) e = absurd cc
last_small (File name len) (Some Quit) e = absurd cc
last_small (Drop name) (Some h) e = refl
last_small Check (Some h) e = refl
last_small Begin (Some h) e = refl
last_small Wait (Some h) e = refl
last_small Quit (Some h) e = refl

pub last_head-small : (bytes : List ℕ) (head : Head) → last_head bytes ≡ Some head → head_bytes (stand_behind head) ≡ 0
last_head-small bytes head e = last_small head (head_of_line bytes) e

pub head_small : (head : Head) → head_bytes (stand_behind head) ≤ 1
head_small (File name len) = omega arith
head_small (Drop name) = omega arith
head_small Check = omega arith
head_small Begin = omega arith
head_small Wait = omega arith
head_small Quit = omega arith

-- ---- the first byte, as the code asks for it

pub skip_first : (line : ℕ) (bytes : List ℕ) (b : ℕ) → Some b ≡ slice_get bytes 0 → b ≡ 10 → SameNext line bytes (line + 1) (drop 1 bytes)
skip_first line [] b e is = absurd cc
skip_first line (x ∷ bytes) b e is = let first : x ≡ 10 = cc in skip_one line x bytes first

pub empty_first : (bytes : List ℕ) → None ≡ slice_get bytes 0 → bytes ≡ []
empty_first [] e = refl
empty_first (x ∷ bytes) e = absurd cc

-- ---- a call after a call

pub skip_more : (line later last : ℕ) (old x y u v : List ℕ) → SameNext line (old ++ x) later u → v ≡ u ++ y → last ≡ later → SameNext line (old ++ (x ++ y)) last v
skip_more line later last old x y u v p e f whole more =
    ap (λ b. next_head whole line (b ++ more)) (sym (append_assoc old x y)) ∙ same_more line later (old ++ x) u y p whole more
    ∙ ap (λ b. next_head whole later (b ++ more)) (sym e) ∙ ap (λ n. next_head whole n (v ++ more)) (sym f)

pub skip_open : (line later : ℕ) (old x y u : List ℕ) → u ≡ [] → SameNext line (old ++ x) later u → u ++ y ≡ u → next_head false line (old ++ (x ++ y)) ≡ Open
skip_open line later old x y u e p q =
    ap (next_head false line) (sym (append_assoc old x y)) ∙ p false y ∙ ap (next_head false later) (q ∙ e) ∙ nothing_left later
