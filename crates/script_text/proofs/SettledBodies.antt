-- What is settled of a body and of a command while more bytes may come holds whatever comes.
use Rattle.std.proofs.Common.{◌≡◌, ℕ, ◌==◌, ◌≤◌, Bool, true, false, cond, List, [], ◌∷◌, ◌++◌, length, take, drop, nat_lt, refl, sym, ap, subst, ◌∙◌, arith, length-append}
use Rattle.std.proofs.lemmas.List.{take-append-le}
use Rattle.std.proofs.lemmas.Bool.Decides.{nat_tests}
use lib.Seq.{drop-append-le}
use Rattle.script_text.specs.Heads as heads
use Rattle.script_text.specs.Script.{NextHead, Found, Broken, Ended, Open, next_head, NextBody, Body, Bad, More, behind_body, next_body, Command, End, Next, One, No, Later, with_body, with_head, next_command}
use Rattle.script_text.proofs.Settled.{head_found-settled, head_broken-settled, head_never-ended}

-- what a body becomes where more bytes come
abbrev grown_body : List ℕ → NextBody → NextBody
grown_body more (Body body rest) = Body body (rest ++ more)
grown_body more Bad = Bad
grown_body more More = More

abbrev IsSettledBody : NextBody → Type 0
IsSettledBody (Body body rest) = Unit {0}
IsSettledBody Bad = Unit {0}
IsSettledBody More = ⊥

behind_settled : (whole : Bool) (body xs more : List ℕ) → IsSettledBody (behind_body false body xs) → behind_body whole body (xs ++ more) ≡ grown_body more (behind_body false body xs)
behind_settled whole body [] more s = absurd s
behind_settled whole body (b ∷ xs) more s = cases (b == 10)
  where
    cases : (t : Bool) → cond t (Body body (xs ++ more)) Bad ≡ grown_body more (cond t (Body body xs) Bad)
    cases true = refl
    cases false = refl

long_enough : (m n : ℕ) → nat_lt m n ≡ false → n ≤ m
long_enough m n h = grind (arith, nat_tests)

not_less : (m n : ℕ) → n ≤ m → nat_lt m n ≡ false
not_less m n h = grind (arith, nat_tests)

pub body-settled : (whole : Bool) (len : ℕ) (bytes more : List ℕ) → IsSettledBody (next_body false len bytes) → next_body whole len (bytes ++ more) ≡ grown_body more (next_body false len bytes)
unfolding next_body
body-settled whole len bytes more s = cases (nat_lt (length bytes) len) refl s
  where
    cases : (t : Bool) → nat_lt (length bytes) len ≡ t → IsSettledBody (cond t More (behind_body false (take len bytes) (drop len bytes)))
        → cond (nat_lt (length (bytes ++ more)) len) (cond whole Bad More) (behind_body whole (take len (bytes ++ more)) (drop len (bytes ++ more)))
        ≡ grown_body more (cond t More (behind_body false (take len bytes) (drop len bytes)))
    cases true test s = absurd s
    cases false test s =
        let fits : len ≤ length bytes = long_enough (length bytes) len test in
        let far : nat_lt (length (bytes ++ more)) len ≡ false = not_less (length (bytes ++ more)) len (omega (arith, fits, length-append bytes more)) in
        ap (λ t. cond t (cond whole Bad More) (behind_body whole (take len (bytes ++ more)) (drop len (bytes ++ more)))) far
        ∙ ap (λ l. behind_body whole l (drop len (bytes ++ more))) (take-append-le len bytes more fits)
        ∙ ap (behind_body whole (take len bytes)) (drop-append-le len bytes more fits)
        ∙ behind_settled whole (take len bytes) (drop len bytes) more s

pub body_found-settled : (whole : Bool) (len : ℕ) (bytes more body rest : List ℕ) → next_body false len bytes ≡ Body body rest → next_body whole len (bytes ++ more) ≡ Body body (rest ++ more)
body_found-settled whole len bytes more body rest e = body-settled whole len bytes more (subst IsSettledBody (sym e) tt) ∙ ap (grown_body more) e

pub body_bad-settled : (whole : Bool) (len : ℕ) (bytes more : List ℕ) → next_body false len bytes ≡ Bad → next_body whole len (bytes ++ more) ≡ Bad
body_bad-settled whole len bytes more e = body-settled whole len bytes more (subst IsSettledBody (sym e) tt) ∙ ap (grown_body more) e

-- ---- commands

abbrev grown : List ℕ → Next → Next
grown more (One command line after rest) = One command line after (rest ++ more)
grown more (No end) = No end
grown more Later = Later

abbrev IsSettled : Next → Type 0
IsSettled (One command line after rest) = Unit {0}
IsSettled (No end) = Unit {0}
IsSettled Later = ⊥

with_body-settled : (whole : Bool) (name : List ℕ) (len line : ℕ) (rest more : List ℕ) (n : NextBody) → next_body false len rest ≡ n → IsSettled (with_body name line n)
    → with_body name line (next_body whole len (rest ++ more)) ≡ grown more (with_body name line n)
with_body-settled whole name len line rest more (Body body after) e s = ap (with_body name line) (body_found-settled whole len rest more body after e)
with_body-settled whole name len line rest more Bad e s = ap (with_body name line) (body_bad-settled whole len rest more e)
with_body-settled whole name len line rest more More e s = absurd s

with_head-settled : (whole : Bool) (line : ℕ) (bytes more : List ℕ) (n : NextHead) → next_head false line bytes ≡ n → IsSettled (with_head false n)
    → with_head whole (next_head whole line (bytes ++ more)) ≡ grown more (with_head false n)
with_head-settled whole line bytes more (Found (heads.File name len) at rest) e s =
    ap (with_head whole) (head_found-settled whole line at bytes more rest (heads.File name len) e) ∙ with_body-settled whole name len at rest more (next_body false len rest) refl s
with_head-settled whole line bytes more (Found (heads.Drop name) at rest) e s = ap (with_head whole) (head_found-settled whole line at bytes more rest (heads.Drop name) e)
with_head-settled whole line bytes more (Found heads.Check at rest) e s = ap (with_head whole) (head_found-settled whole line at bytes more rest heads.Check e)
with_head-settled whole line bytes more (Found heads.Begin at rest) e s = ap (with_head whole) (head_found-settled whole line at bytes more rest heads.Begin e)
with_head-settled whole line bytes more (Found heads.Wait at rest) e s = ap (with_head whole) (head_found-settled whole line at bytes more rest heads.Wait e)
with_head-settled whole line bytes more (Found heads.Quit at rest) e s = ap (with_head whole) (head_found-settled whole line at bytes more rest heads.Quit e)
with_head-settled whole line bytes more (Broken at) e s = ap (with_head whole) (head_broken-settled whole line at bytes more e)
with_head-settled whole line bytes more Ended e s = absurd (head_never-ended line bytes e)
with_head-settled whole line bytes more Open e s = absurd s

command-settled : (whole : Bool) (line : ℕ) (bytes more : List ℕ) → IsSettled (next_command false line bytes)
    → next_command whole line (bytes ++ more) ≡ grown more (next_command false line bytes)
command-settled whole line bytes more s = with_head-settled whole line bytes more (next_head false line bytes) refl s

pub command_found-settled : (whole : Bool) (line at after : ℕ) (bytes more rest : List ℕ) (command : Command) → next_command false line bytes ≡ One command at after rest
    → next_command whole line (bytes ++ more) ≡ One command at after (rest ++ more)
command_found-settled whole line at after bytes more rest command e = command-settled whole line bytes more (subst IsSettled (sym e) tt) ∙ ap (grown more) e

pub command_end-settled : (whole : Bool) (line : ℕ) (bytes more : List ℕ) (end : End) → next_command false line bytes ≡ No end → next_command whole line (bytes ++ more) ≡ No end
command_end-settled whole line bytes more end e = command-settled whole line bytes more (subst IsSettled (sym e) tt) ∙ ap (grown more) e
