-- Commands that stand whole are the first of the script, whatever comes; and all bytes are those of a script.
use Rattle.std.proofs.Common.{◌≡◌, ℕ, zero, suc, ◌+◌, ◌<◌, ◌≤◌, ◌==◌, Bool, true, false, cond, List, [], ◌∷◌, ◌++◌, Some, None, length, take, drop, nat_lt, refl, sym, ap, ◌∙◌, subst, arith, length-append, length-drop}
use Rattle.std.specs.Prelude.{Option}
use Rattle.script_text.specs.Heads as heads
use Rattle.script_text.specs.Heads.{Head, split_first, head_of_line}
use Rattle.script_text.specs.Script.{NextHead, Found, Broken, Ended, Open, found, last_head, line_head, next_head, NextBody, Body, Bad, More, behind_body, next_body, Command, File, Drop, Check, Begin, Wait, End, Next, One, No, Later, newlines, with_body, with_head, next_command, IsScript}
use Rattle.script_text.specs.Whole.{StandWhole}
use Rattle.script_text.proofs.Splits.{split_first-parts}
use Rattle.script_text.proofs.SettledBodies.{command_found-settled}
use Rattle.script_text.proofs.OneScript.{apart, parts}

-- ---- the first commands

pub whole_first : (line : ℕ) (bytes more : List ℕ) (commands all : List (ℕ × Command)) (end : End) → StandWhole line bytes commands → IsScript line (bytes ++ more) all end
    → (later : List (ℕ × Command)) × (all ≡ commands ++ later)
whole_first line bytes more [] all end w p = (all, refl)
whole_first line bytes more (c ∷ commands) [] end w p =
    absurd (apart end c.1 c.0 w.0 (w.1 ++ more) (sym p ∙ command_found-settled true line c.0 w.0 bytes more w.1 c.1 w.2))
whole_first line bytes more (c ∷ commands) (d ∷ all) end w p =
    let same = parts d.1 c.1 d.0 c.0 p.0 w.0 p.1 (w.1 ++ more) (sym p.2 ∙ command_found-settled true line c.0 w.0 bytes more w.1 c.1 w.2) in
    let moved : IsScript w.0 (w.1 ++ more) all end = subst (λ l. IsScript w.0 l all end) same.3 (subst (λ n. IsScript n p.1 all end) same.2 p.3) in
    let next = whole_first w.0 w.1 more commands all end w.3 moved in
    let first : d ≡ c = ap (λ (n : ℕ). (n, d.1)) same.1 ∙ ap (λ (x : Command). (c.0, x)) same.0 in
    (next.0, ap (λ (x : ℕ × Command). x ∷ all) first ∙ ap (λ (l : List (ℕ × Command)). c ∷ l) next.1)

-- ---- each step uses bytes up

found_rest : (o : Option Head) (line at : ℕ) (rest left : List ℕ) (head : Head) → found o line rest ≡ Found head at left → rest ≡ left
found_rest None line at rest left head e = absurd cc
found_rest (Some h) line at rest left head e = second h head line at rest left e
  where
    second : (h k : Head) (line at : ℕ) (rest left : List ℕ) → Found h line rest ≡ Found k at left → rest ≡ left
    second h k line at rest left e = cc

line_uses : (line at : ℕ) (xs left : List ℕ) (head : Head) (o : Option (List ℕ × List ℕ)) → 0 < length xs → split_first 10 xs ≡ o → line_head true line xs o ≡ Found head at left
    → length left < length xs
line_uses line at xs left head (Some cut) some_ is e =
    let rest : cut.1 ≡ left = found_rest (head_of_line cut.0) line at cut.1 left head e in
    let whole = ap length (split_first-parts 10 xs cut is) ∙ length-append cut.0 (10 ∷ cut.1) in
    omega (arith, whole, ap length rest)
line_uses line at xs left head None some_ is e = cases (nat_lt 300 (length xs)) e
  where
    cases : (t : Bool) → cond t (Broken line) (found (last_head xs) line []) ≡ Found head at left → length left < length xs
    cases true e = absurd cc
    cases false e = let none : [] ≡ left = found_rest (last_head xs) line at [] left head e in omega (arith, ap length none, some_)

step_uses : (line at b : ℕ) (bytes left : List ℕ) (head : Head) (t : Bool) → (next_head true (line + 1) bytes ≡ Found head at left → length left < length bytes)
    → cond t (next_head true (line + 1) bytes) (line_head true line (b ∷ bytes) (split_first 10 (b ∷ bytes))) ≡ Found head at left → length left < suc (length bytes)
step_uses line at b bytes left head true later e = omega (arith, later e)
step_uses line at b bytes left head false later e = line_uses line at (b ∷ bytes) left head (split_first 10 (b ∷ bytes)) (omega arith) refl e

head_uses : (line at : ℕ) (bytes left : List ℕ) (head : Head) → next_head true line bytes ≡ Found head at left → length left < length bytes
unfolding next_head
head_uses line at [] left head e = absurd cc
head_uses line at (b ∷ bytes) left head e = step_uses line at b bytes left head (b == 10) (head_uses (line + 1) at bytes left head) e

behind_uses : (body text xs left : List ℕ) → behind_body true body xs ≡ Body text left → length left ≤ length xs
behind_uses body text [] left e = let none : [] ≡ left = second body text [] left e in omega (arith, ap length none)
  where
    second : (a b x y : List ℕ) → Body a x ≡ Body b y → x ≡ y
    second a b x y e = cc
behind_uses body text (b ∷ xs) left e = cases (b == 10) e
  where
    second : (a b x y : List ℕ) → Body a x ≡ Body b y → x ≡ y
    second a b x y e = cc

    cases : (t : Bool) → cond t (Body body xs) Bad ≡ Body text left → length left ≤ suc (length xs)
    cases true e = let rest : xs ≡ left = second body text xs left e in omega (arith, ap length rest)
    cases false e = absurd cc

body_uses : (len : ℕ) (bytes text left : List ℕ) → next_body true len bytes ≡ Body text left → length left ≤ length bytes
unfolding next_body
body_uses len bytes text left e = cases (nat_lt (length bytes) len) e
  where
    cases : (t : Bool) → cond t Bad (behind_body true (take len bytes) (drop len bytes)) ≡ Body text left → length left ≤ length bytes
    cases true e = absurd cc
    cases false e = let fewer = behind_uses (take len bytes) text (drop len bytes) left e in omega (arith, fewer, length-drop len bytes)

one_rest : (c d : Command) (line at after later : ℕ) (rest left : List ℕ) → One c line after rest ≡ One d at later left → rest ≡ left
one_rest c d line at after later rest left e = cc

with_body-uses : (name : List ℕ) (len line at after : ℕ) (bytes left : List ℕ) (c : Command) (n : NextBody) → next_body true len bytes ≡ n → with_body name line n ≡ One c at after left
    → length left ≤ length bytes
with_body-uses name len line at after bytes left c (Body text rest) is e =
    let same = one_rest (File name text) c line at (line + 2 + newlines text) after rest left e in
    omega (arith, body_uses len bytes text rest is, ap length same)
with_body-uses name len line at after bytes left c Bad is e = absurd cc
with_body-uses name len line at after bytes left c More is e = absurd cc

with_head-uses : (line at after : ℕ) (bytes left : List ℕ) (c : Command) (n : NextHead) → next_head true line bytes ≡ n → with_head true n ≡ One c at after left → length left < length bytes
with_head-uses line at after bytes left c (Found (heads.File name len) l rest) is e =
    omega (arith, head_uses line l bytes rest (heads.File name len) is, with_body-uses name len l at after rest left c (next_body true len rest) refl e)
with_head-uses line at after bytes left c (Found (heads.Drop name) l rest) is e =
    omega (arith, head_uses line l bytes rest (heads.Drop name) is, ap length (one_rest (Drop name) c l at (l + 1) after rest left e))
with_head-uses line at after bytes left c (Found heads.Check l rest) is e =
    omega (arith, head_uses line l bytes rest heads.Check is, ap length (one_rest Check c l at (l + 1) after rest left e))
with_head-uses line at after bytes left c (Found heads.Begin l rest) is e =
    omega (arith, head_uses line l bytes rest heads.Begin is, ap length (one_rest Begin c l at (l + 1) after rest left e))
with_head-uses line at after bytes left c (Found heads.Wait l rest) is e =
    omega (arith, head_uses line l bytes rest heads.Wait is, ap length (one_rest Wait c l at (l + 1) after rest left e))
with_head-uses line at after bytes left c (Found heads.Quit l rest) is e = absurd cc
with_head-uses line at after bytes left c (Broken l) is e = absurd cc
with_head-uses line at after bytes left c Ended is e = absurd cc
with_head-uses line at after bytes left c Open is e = absurd cc

-- ---- with all the bytes there, nothing more has to come

found_not-open : (o : Option Head) (line : ℕ) (rest : List ℕ) → found o line rest ≡ Open → ⊥
found_not-open None line rest e = absurd cc
found_not-open (Some h) line rest e = absurd cc

line_not-open : (line : ℕ) (xs : List ℕ) (o : Option (List ℕ × List ℕ)) → line_head true line xs o ≡ Open → ⊥
line_not-open line xs (Some cut) e = found_not-open (head_of_line cut.0) line cut.1 e
line_not-open line xs None e = cases (nat_lt 300 (length xs)) e
  where
    cases : (t : Bool) → cond t (Broken line) (found (last_head xs) line []) ≡ Open → ⊥
    cases true e = absurd cc
    cases false e = found_not-open (last_head xs) line [] e

step_not-open : (line b : ℕ) (bytes : List ℕ) (t : Bool) → (next_head true (line + 1) bytes ≡ Open → ⊥)
    → cond t (next_head true (line + 1) bytes) (line_head true line (b ∷ bytes) (split_first 10 (b ∷ bytes))) ≡ Open → ⊥
step_not-open line b bytes true later e = later e
step_not-open line b bytes false later e = line_not-open line (b ∷ bytes) (split_first 10 (b ∷ bytes)) e

head_not-open : (line : ℕ) (bytes : List ℕ) → next_head true line bytes ≡ Open → ⊥
unfolding next_head
head_not-open line [] e = absurd cc
head_not-open line (b ∷ bytes) e = step_not-open line b bytes (b == 10) (head_not-open (line + 1) bytes) e

body_not-more : (len : ℕ) (bytes : List ℕ) → next_body true len bytes ≡ More → ⊥
unfolding next_body
body_not-more len bytes e = cases (nat_lt (length bytes) len) (take len bytes) (drop len bytes) e
  where
    last : (t : Bool) (body xs : List ℕ) → cond t (Body body xs) Bad ≡ More → ⊥
    last true body xs e = absurd cc
    last false body xs e = absurd cc

    cases : (t : Bool) (body xs : List ℕ) → cond t Bad (behind_body true body xs) ≡ More → ⊥
    cases true body xs e = absurd cc
    cases false body [] e = absurd cc
    cases false body (b ∷ xs) e = last (b == 10) body xs e

with_body-not-later : (name : List ℕ) (line len : ℕ) (bytes : List ℕ) (n : NextBody) → next_body true len bytes ≡ n → with_body name line n ≡ Later → ⊥
with_body-not-later name line len bytes (Body text rest) is e = absurd cc
with_body-not-later name line len bytes Bad is e = absurd cc
with_body-not-later name line len bytes More is e = body_not-more len bytes is

with_head-not-later : (line : ℕ) (bytes : List ℕ) (n : NextHead) → next_head true line bytes ≡ n → with_head true n ≡ Later → ⊥
with_head-not-later line bytes (Found (heads.File name len) l rest) is e = with_body-not-later name l len rest (next_body true len rest) refl e
with_head-not-later line bytes (Found (heads.Drop name) l rest) is e = absurd cc
with_head-not-later line bytes (Found heads.Check l rest) is e = absurd cc
with_head-not-later line bytes (Found heads.Begin l rest) is e = absurd cc
with_head-not-later line bytes (Found heads.Wait l rest) is e = absurd cc
with_head-not-later line bytes (Found heads.Quit l rest) is e = absurd cc
with_head-not-later line bytes (Broken l) is e = absurd cc
with_head-not-later line bytes Ended is e = absurd cc
with_head-not-later line bytes Open is e = head_not-open line bytes is

-- ---- all bytes are those of a script

abbrev pub HasScript : ℕ → List ℕ → Type 0
HasScript line bytes = (commands : List (ℕ × Command)) × (end : End) × IsScript line bytes commands end

begun : (line : ℕ) (bytes : List ℕ) (n : Next) → next_command true line bytes ≡ n
    → ((c : Command) (at after : ℕ) (rest : List ℕ) → n ≡ One c at after rest → HasScript after rest) → HasScript line bytes
begun line bytes (One c at after rest) is later =
    let tail = later c at after rest refl in
    ((at, c) ∷ tail.0, tail.1, (after, rest, is, tail.2))
begun line bytes (No end) is later = ([], end, is)
begun line bytes Later is later = absurd (with_head-not-later line bytes (next_head true line bytes) refl is)

bounded : (n line : ℕ) (bytes : List ℕ) → length bytes < n → HasScript line bytes
bounded zero line bytes h = absurd (omega (arith, h))
bounded (suc n) line bytes h =
    begun line bytes (next_command true line bytes) refl
    (λ c at after rest is. bounded n after rest (omega (arith, h, with_head-uses line at after bytes rest c (next_head true line bytes) refl is)))

pub has_script : (line : ℕ) (bytes : List ℕ) → (commands : List (ℕ × Command)) × (end : End) × IsScript line bytes commands end
has_script line bytes = bounded (suc (length bytes)) line bytes (omega arith)
