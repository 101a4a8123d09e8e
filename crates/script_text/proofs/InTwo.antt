-- A `file` command that is read in two: its head, and then its body.
use Rattle.std.proofs.Common.{◌≡◌, ℕ, ◌+◌, ◌==◌, Bool, true, false, cond, List, [], ◌∷◌, ◌++◌, Some, None, length, nat_lt, refl, sym, ap, ◌∙◌, append-nil}
use Rattle.std.specs.Prelude.{Option}
use Rattle.script_text.specs.Heads as heads
use Rattle.script_text.specs.Heads.{Head, split_first, head_of_line, may_be_last}
use Rattle.script_text.specs.Script.{Found, Broken, Open, found, last_head, line_head, next_head, Body, Bad, More, next_body, File, AtBad, One, No, Later, newlines, with_body, with_head, next_command}
use Rattle.script_text.proofs.Settled.{head_found-settled}

-- a head, as more comes, or nothing more once the bytes have ended
head_later : (whole last : Bool) (line at : ℕ) (bytes more rest : List ℕ) (head : Head) → next_head whole line bytes ≡ Found head at rest
    → (whole ≡ true → more ≡ []) → (whole ≡ true → last ≡ true) → next_head last line (bytes ++ more) ≡ Found head at (rest ++ more)
head_later false last line at bytes more rest head e none stays = head_found-settled last line at bytes more rest head e
head_later true last line at bytes more rest head e none stays =
    let empty : more ≡ [] = none refl in
    ap (λ w. next_head w line (bytes ++ more)) (stays refl) ∙ ap (λ l. next_head true line (bytes ++ l)) empty ∙ ap (next_head true line) (append-nil bytes) ∙ e
    ∙ ap (Found head at) (sym (append-nil rest) ∙ ap (λ l. rest ++ l) (sym empty))

pub file_in_two : (whole last : Bool) (line at len : ℕ) (bytes more name body rest left : List ℕ) → next_head whole line bytes ≡ Found (heads.File name len) at rest
    → (whole ≡ true → more ≡ []) → (whole ≡ true → last ≡ true) → next_body last len (rest ++ more) ≡ Body body left
    → next_command last line (bytes ++ more) ≡ One (File name body) at (at + 2 + newlines body) left
file_in_two whole last line at len bytes more name body rest left e none stays b =
    ap (with_head last) (head_later whole last line at bytes more rest (heads.File name len) e none stays) ∙ ap (with_body name at) b

pub bad_in_two : (whole last : Bool) (line at len : ℕ) (bytes more name rest : List ℕ) → next_head whole line bytes ≡ Found (heads.File name len) at rest
    → (whole ≡ true → more ≡ []) → (whole ≡ true → last ≡ true) → next_body last len (rest ++ more) ≡ Bad
    → next_command last line (bytes ++ more) ≡ No (AtBad at)
bad_in_two whole last line at len bytes more name rest e none stays b =
    ap (with_head last) (head_later whole last line at bytes more rest (heads.File name len) e none stays) ∙ ap (with_body name at) b

-- ---- the head of a `file` has its LF

abbrev last_of : Option Head → Option Head
last_of o = heads.◌>>=◌ o (λ head. cond (may_be_last head) (Some head) None)

no_last_file : (o : Option Head) (line at len : ℕ) (rest name : List ℕ) → found (last_of o) line [] ≡ Found (heads.File name len) at rest → ⊥
no_last_file None line at len rest name e = absurd cc
no_last_file (Some (heads.File n l)) line at len rest name e = absurd cc
no_last_file (Some (heads.Drop n)) line at len rest name e = absurd cc
no_last_file (Some heads.Check) line at len rest name e = absurd cc
no_last_file (Some heads.Begin) line at len rest name e = absurd cc
no_last_file (Some heads.Wait) line at len rest name e = absurd cc
no_last_file (Some heads.Quit) line at len rest name e = absurd cc

line_file : (line at len : ℕ) (xs rest name : List ℕ) (o : Option (List ℕ × List ℕ)) → line_head true line xs o ≡ Found (heads.File name len) at rest
    → line_head false line xs o ≡ Found (heads.File name len) at rest
line_file line at len xs rest name (Some cut) e = e
line_file line at len xs rest name None e = cases (nat_lt 300 (length xs)) e
  where
    cases : (t : Bool) → cond t (Broken line) (found (last_head xs) line []) ≡ Found (heads.File name len) at rest
        → cond t (Broken line) Open ≡ Found (heads.File name len) at rest
    cases true e = absurd cc
    cases false e = absurd (no_last_file (head_of_line xs) line at len rest name e)

step_file : (line at len b : ℕ) (bytes rest name : List ℕ) (t : Bool)
    → (next_head true (line + 1) bytes ≡ Found (heads.File name len) at rest → next_head false (line + 1) bytes ≡ Found (heads.File name len) at rest)
    → cond t (next_head true (line + 1) bytes) (line_head true line (b ∷ bytes) (split_first 10 (b ∷ bytes))) ≡ Found (heads.File name len) at rest
    → cond t (next_head false (line + 1) bytes) (line_head false line (b ∷ bytes) (split_first 10 (b ∷ bytes))) ≡ Found (heads.File name len) at rest
step_file line at len b bytes rest name true later e = later e
step_file line at len b bytes rest name false later e = line_file line at len (b ∷ bytes) rest name (split_first 10 (b ∷ bytes)) e

last_file : (line at len : ℕ) (bytes rest name : List ℕ) → next_head true line bytes ≡ Found (heads.File name len) at rest → next_head false line bytes ≡ Found (heads.File name len) at rest
unfolding next_head
last_file line at len [] rest name e = absurd cc
last_file line at len (b ∷ bytes) rest name e = step_file line at len b bytes rest name (b == 10) (last_file (line + 1) at len bytes rest name) e

file_settled : (whole : Bool) (line at len : ℕ) (bytes rest name : List ℕ) → next_head whole line bytes ≡ Found (heads.File name len) at rest
    → next_head false line bytes ≡ Found (heads.File name len) at rest
file_settled true line at len bytes rest name e = last_file line at len bytes rest name e
file_settled false line at len bytes rest name e = e

pub waits_in_two : (whole : Bool) (line at len : ℕ) (bytes more name rest : List ℕ) → next_head whole line bytes ≡ Found (heads.File name len) at rest
    → next_body false len (rest ++ more) ≡ More → next_command false line (bytes ++ more) ≡ Later
waits_in_two whole line at len bytes more name rest e b =
    ap (with_head false) (head_found-settled false line at bytes more rest (heads.File name len) (file_settled whole line at len bytes rest name e)) ∙ ap (with_body name at) b
