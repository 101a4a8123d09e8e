-- A command that is spelled out is the command that stands next.
use Rattle.std.proofs.Common.{◌≡◌, ◌≢◌, inl, inr, ℕ, ◌+◌, ◌<◌, ◌≤◌, ◌^◌, ◌&&◌, ◌==◌, Bool, true, false, true≢false, cond, not, List, [], ◌∷◌, ◌++◌, Some, length, take, drop, nat_lt, refl, sym, ap, ◌∙◌, subst, arith, append_assoc, length-append}
use Rattle.std.specs.Prelude.{codes}
use Rattle.std.specs.List.{list_all, AllByRecursion}
use Rattle.std.specs.Fmt.{decimal}
use Rattle.std.proofs.lemmas.Bool.Decides.{nat_tests, eqb_tells}
use Rattle.std.proofs.lemmas.List.{take_at, drop_at}
use Rattle.hack_base.specs.Script.{IsNameByte, newline, space}
use Rattle.script_text.specs.Heads as heads
use Rattle.script_text.specs.Heads.{Head, split_first, is_digit, head_of_line}
use Rattle.script_text.specs.Script.{Found, found, line_head, next_head, Body, Bad, More, behind_body, next_body, newlines, Command, File, Drop, Check, Begin, Wait, One, with_body, with_head, next_command}
use Rattle.script_text.specs.Spelling.{IsWithinLimits, spelling, IsWithin, command_spelling, lines_of}
use Rattle.script_text.proofs.Numbers.{decimal-digits}
use Rattle.script_text.proofs.Splits.{split_first-found}
use Rattle.script_text.proofs.Spelling.{head-found}

-- ---- lines without LF

-- none of the bytes is LF
abbrev pub IsFree : List ℕ → Type 0
IsFree = AllByRecursion (λ b. b ≢ 10)

free_append : (xs ys : List ℕ) → IsFree xs → IsFree ys → IsFree (xs ++ ys)
free_append [] ys h k = k
free_append (x ∷ xs) ys h k = (h.0, free_append xs ys h.1 k)

both : (a b : Bool) → (a && b) ≡ true → (a ≡ true) × (b ≡ true)
both true true e = (refl, refl)
both true false e = absurd cc
both false b e = absurd cc

-- as a test of letters finds
letters : (xs : List ℕ) → list_all (λ b. not (b == 10)) xs ≡ true → IsFree xs
letters [] e = tt
letters (x ∷ xs) e = (apart (both (not (x == 10)) _ e).0, letters xs (both (not (x == 10)) _ e).1)
  where
    apart : not (x == 10) ≡ true → x ≢ 10
    apart h same = let p : not (10 == 10) ≡ true = subst (λ y. not (y == 10) ≡ true) same h in true≢false (sym p)

free_name : (xs : List ℕ) → AllByRecursion IsNameByte xs → IsFree xs
free_name [] h = tt
free_name (x ∷ xs) h = ((λ e. grind arith), free_name xs h.1)

free_digits : (xs : List ℕ) → list_all is_digit xs ≡ true → IsFree xs
free_digits [] e = tt
free_digits (x ∷ xs) e = let digit = (both (is_digit x) _ e).0 in ((λ same. grind (arith, nat_tests)), free_digits xs (both (is_digit x) _ e).1)

free : (head : Head) → IsWithinLimits head → IsFree (spelling head)
free (heads.File name len) limits =
    let fits : len < 2 ^ 64 = omega (arith, limits.1) in
    free_append (codes "file " ++ name ++ space) (decimal len) (free_append (codes "file " ++ name) space (free_append (codes "file ") name (letters (codes "file ") refl) (free_name name limits.0.each)) (letters space refl))
    (free_digits (decimal len) (decimal-digits len fits))
free (heads.Drop name) limits = free_append (codes "drop ") name (letters (codes "drop ") refl) (free_name name limits.each)
free heads.Check limits = letters (codes "check") refl
free heads.Begin limits = letters (codes "begin") refl
free heads.Wait limits = letters (codes "wait") refl
free heads.Quit limits = letters (codes "quit") refl

-- ---- heads

-- a line in form, and its LF
line_read : (whole : Bool) (line : ℕ) (text rest : List ℕ) (head : Head) → IsFree text → text ≢ [] → head_of_line text ≡ Some head → next_head whole line (text ++ 10 ∷ rest) ≡ Found head line rest
unfolding next_head
line_read whole line [] rest head free_so some e = absurd (some refl)
line_read whole line (b ∷ bs) rest head free_so some e =
    let first : (b == 10) ≡ false = elim (eqb_tells b 10) [ inl h ↦ absurd (free_so.0 h.1) | inr h ↦ h.0 ] in
    let bytes : List ℕ = (b ∷ bs) ++ 10 ∷ rest in
    ap (λ t. cond t (next_head whole (line + 1) (bs ++ 10 ∷ rest)) (line_head whole line bytes (split_first 10 bytes))) first
    ∙ ap (line_head whole line bytes) (split_first-found 10 (b ∷ bs) rest free_so) ∙ ap (λ o. found o line rest) e

some_bytes : (head : Head) → spelling head ≢ []
some_bytes (heads.File name len) e = absurd cc
some_bytes (heads.Drop name) e = absurd cc
some_bytes heads.Check e = absurd cc
some_bytes heads.Begin e = absurd cc
some_bytes heads.Wait e = absurd cc
some_bytes heads.Quit e = absurd cc

head_read : (whole : Bool) (line : ℕ) (head : Head) (rest : List ℕ) → IsWithinLimits head → next_head whole line (spelling head ++ 10 ∷ rest) ≡ Found head line rest
head_read whole line head rest limits = line_read whole line (spelling head) rest head (free head limits) (some_bytes head) (head-found head limits)

-- ---- bodies

body_read : (whole : Bool) (body rest : List ℕ) → next_body whole (length body) (body ++ 10 ∷ rest) ≡ Body body rest
unfolding next_body
body_read whole body rest =
    let bytes : List ℕ = body ++ 10 ∷ rest in
    let size : length body ≤ length bytes = omega (arith, length-append body (10 ∷ rest)) in
    let there : nat_lt (length bytes) (length body) ≡ false = grind (arith, nat_tests) in
    ap (λ t. cond t (cond whole Bad More) (behind_body whole (take (length body) bytes) (drop (length body) bytes))) there
    ∙ (λ i. behind_body whole (take_at body (10 ∷ rest) (length body) refl i) (drop_at body (10 ∷ rest) (length body) refl i))

-- ---- commands

-- the bytes of a `file` in two parts
file_parts : (name body rest : List ℕ) → command_spelling (File name body) ++ rest ≡ spelling (heads.File name (length body)) ++ 10 ∷ (body ++ 10 ∷ rest)
file_parts name body rest =
    let head : List ℕ = spelling (heads.File name (length body)) in
    append_assoc (head ++ newline ++ body) newline rest ∙ append_assoc (head ++ newline) body (10 ∷ rest) ∙ append_assoc head newline (body ++ 10 ∷ rest)

pub command_read : (whole : Bool) (line : ℕ) (command : Command) (rest : List ℕ) → IsWithin command → next_command whole line (command_spelling command ++ rest) ≡ One command line (line + lines_of command) rest
command_read whole line (File name body) rest limits =
    let lines : line + 2 + newlines body ≡ line + (2 + newlines body) = omega arith in
    ap (next_command whole line) (file_parts name body rest) ∙ ap (with_head whole) (head_read whole line (heads.File name (length body)) (body ++ 10 ∷ rest) limits)
    ∙ ap (with_body name line) (body_read whole body rest) ∙ ap (λ after. One (File name body) line after rest) lines
command_read whole line (Drop name) rest limits =
    ap (next_command whole line) (append_assoc (spelling (heads.Drop name)) newline rest) ∙ ap (with_head whole) (head_read whole line (heads.Drop name) rest limits)
command_read whole line Check rest limits = ap (next_command whole line) (append_assoc (spelling heads.Check) newline rest) ∙ ap (with_head whole) (head_read whole line heads.Check rest tt)
command_read whole line Begin rest limits = ap (next_command whole line) (append_assoc (spelling heads.Begin) newline rest) ∙ ap (with_head whole) (head_read whole line heads.Begin rest tt)
command_read whole line Wait rest limits = ap (next_command whole line) (append_assoc (spelling heads.Wait) newline rest) ∙ ap (with_head whole) (head_read whole line heads.Wait rest tt)
