-- Each command that is read is within the limits, and uses up bytes: for a file at least nine more than its text has.
use Rattle.std.proofs.Common.{◌≡◌, ℕ, suc, ◌+◌, ◌*◌, ◌^◌, ◌<◌, ◌≤◌, ◌==◌, Bool, true, false, cond, List, [], ◌∷◌, ◌++◌, Some, None, length, take, drop, nat_lt, refl, sym, ap, ◌∙◌, subst, arith, length-append, length-drop, length-take-le}
use Rattle.std.specs.Prelude.{Option, codes}
use Rattle.std.specs.Fmt.{decimal}
use Rattle.std.proofs.lemmas.Bool.Decides.{nat_tests}
use Rattle.std.proofs.lemmas.Fmt.{decimal_nonempty}
use Rattle.hack_base.specs.Script.{space}
use Rattle.script_text.specs.Heads as heads
use Rattle.script_text.specs.Heads.{Head, split_first, head_of_line, may_be_last}
use Rattle.script_text.specs.Spelling.{IsWithinLimits, spelling}
use Rattle.script_text.specs.Script.{NextHead, Found, Broken, Ended, Open, found, last_head, line_head, next_head, NextBody, Body, Bad, More, behind_body, next_body, Command, File, Drop, Check, Begin, Wait, One, newlines, with_body, with_head, next_command}
use Rattle.script_text.proofs.Splits.{split_first-parts}
use Rattle.script_text.proofs.Spelling.{head-parts}
use Rattle.script_text.proofs.OneScript.{parts}
use Rattle.hack_serve.specs.Running.{IsShort, twice_names}

-- ---- lines

-- how many LFs stand behind its line for sure
abbrev needed : Head → ℕ
needed (heads.File name len) = 1
needed (heads.Drop name) = 0
needed heads.Check = 0
needed heads.Begin = 0
needed heads.Wait = 0
needed heads.Quit = 0

few_needed : (head : Head) → needed head ≤ 1
few_needed (heads.File name len) = omega arith
few_needed (heads.Drop name) = omega arith
few_needed heads.Check = omega arith
few_needed heads.Begin = omega arith
few_needed heads.Wait = omega arith
few_needed heads.Quit = omega arith

-- of a head that stands next: its line, and how much is left behind it
record IsSpan (head : Head) (bytes rest : List ℕ) : Type 0 where
  text : List ℕ
  read : head_of_line text ≡ Some head
  uses : length text + needed head + length rest ≤ length bytes

found_parts : (o : Option Head) (line at : ℕ) (rest left : List ℕ) (head : Head) → found o line rest ≡ Found head at left → (o ≡ Some head) × (rest ≡ left)
found_parts None line at rest left head e = absurd cc
found_parts (Some h) line at rest left head e = second h head line at rest left e
  where
    second : (h k : Head) (line at : ℕ) (rest left : List ℕ) → Found h line rest ≡ Found k at left → (Some h ≡ Some k) × (rest ≡ left)
    second h k line at rest left e = let p : h ≡ k = cc in (ap Some p, cc)

last_parts : (o : Option Head) (head : Head) → heads.◌>>=◌ o (λ h. cond (may_be_last h) (Some h) None) ≡ Some head → (o ≡ Some head) × (needed head ≡ 0)
last_parts None head e = absurd cc
last_parts (Some (heads.File name len)) head e = absurd cc
last_parts (Some (heads.Drop name)) head e = let p : heads.Drop name ≡ head = cc in (e, sym (ap needed p))
last_parts (Some heads.Check) head e = let p : heads.Check ≡ head = cc in (e, sym (ap needed p))
last_parts (Some heads.Begin) head e = let p : heads.Begin ≡ head = cc in (e, sym (ap needed p))
last_parts (Some heads.Wait) head e = let p : heads.Wait ≡ head = cc in (e, sym (ap needed p))
last_parts (Some heads.Quit) head e = let p : heads.Quit ≡ head = cc in (e, sym (ap needed p))

line_span : (whole : Bool) (line at : ℕ) (xs left : List ℕ) (head : Head) (o : Option (List ℕ × List ℕ)) → split_first 10 xs ≡ o → line_head whole line xs o ≡ Found head at left → IsSpan head xs left
line_span whole line at xs left head (Some cut) is e =
    let p = found_parts (head_of_line cut.0) line at cut.1 left head e in
    let size = ap length (split_first-parts 10 xs cut is) ∙ length-append cut.0 (10 ∷ cut.1) in
    record { text = cut.0; read = p.0; uses = omega (arith, size, few_needed head, ap length p.1) }
line_span whole line at xs left head None is e = cases (nat_lt 300 (length xs)) whole e
  where
    cases : (t w : Bool) → cond t (Broken line) (cond w (found (last_head xs) line []) Open) ≡ Found head at left → IsSpan head xs left
    cases true w e = absurd cc
    cases false false e = absurd cc
    cases false true e =
        let p = found_parts (last_head xs) line at [] left head e in
        let q = last_parts (head_of_line xs) head p.0 in
        record { text = xs; read = q.0; uses = omega (arith, q.1, ap length p.1) }

step_span : (whole : Bool) (line at b : ℕ) (bytes left : List ℕ) (head : Head) (t : Bool) → (next_head whole (line + 1) bytes ≡ Found head at left → IsSpan head bytes left)
    → cond t (next_head whole (line + 1) bytes) (line_head whole line (b ∷ bytes) (split_first 10 (b ∷ bytes))) ≡ Found head at left → IsSpan head (b ∷ bytes) left
step_span whole line at b bytes left head true later e = let s = later e in record { text = s.text; read = s.read; uses = omega (arith, s.uses) }
step_span whole line at b bytes left head false later e = line_span whole line at (b ∷ bytes) left head (split_first 10 (b ∷ bytes)) refl e

head_span : (whole : Bool) (line at : ℕ) (bytes left : List ℕ) (head : Head) → next_head whole line bytes ≡ Found head at left → IsSpan head bytes left
unfolding next_head
head_span whole line at [] left head e = cases whole e
  where
    cases : (w : Bool) → cond w Ended Open ≡ Found head at left → IsSpan head [] left
    cases true e = absurd cc
    cases false e = absurd cc
head_span whole line at (b ∷ bytes) left head e = step_span whole line at b bytes left head (b == 10) (head_span whole (line + 1) at bytes left head) e

-- ---- the least length of a line

file_size : (name : List ℕ) (len : ℕ) → IsWithinLimits (heads.File name len) → 8 ≤ length (spelling (heads.File name len))
file_size name len limits =
    let digits : 0 < length (decimal len) = decimal_nonempty len (omega (arith, limits.1)) in
    let whole = length-append (codes "file " ++ name ++ space) (decimal len) in
    let front = length-append (codes "file " ++ name) space in
    let word = length-append (codes "file ") name in
    let five : length (codes "file ") ≡ 5 = refl in
    let one : length space ≡ 1 = refl in
    omega (arith, digits, whole, front, word, five, one, limits.0.not_empty)

some_size : (head : Head) → 1 ≤ length (spelling head)
some_size (heads.File name len) = omega arith
some_size (heads.Drop name) = omega arith
some_size heads.Check = omega arith
some_size heads.Begin = omega arith
some_size heads.Wait = omega arith
some_size heads.Quit = omega arith

-- ---- bodies

long_enough : (m n : ℕ) → nat_lt m n ≡ false → n ≤ m
long_enough m n h = grind (arith, nat_tests)

behind_parts : (whole : Bool) (body xs text left : List ℕ) → behind_body whole body xs ≡ Body text left → (body ≡ text) × (length left ≤ length xs)
behind_parts true body [] text left e = let p = second body text [] left e in (p.0, omega (arith, ap length p.1))
  where
    second : (a b x y : List ℕ) → Body a x ≡ Body b y → (a ≡ b) × (x ≡ y)
    second a b x y e = (cc, cc)
behind_parts false body [] text left e = absurd cc
behind_parts whole body (b ∷ xs) text left e = cases (b == 10) e
  where
    second : (a b x y : List ℕ) → Body a x ≡ Body b y → (a ≡ b) × (x ≡ y)
    second a b x y e = (cc, cc)

    cases : (t : Bool) → cond t (Body body xs) Bad ≡ Body text left → (body ≡ text) × (length left ≤ suc (length xs))
    cases true e = let p = second body text xs left e in (p.0, omega (arith, ap length p.1))
    cases false e = absurd cc

body_parts : (whole : Bool) (len : ℕ) (bytes text left : List ℕ) → next_body whole len bytes ≡ Body text left → (length text ≡ len) × (length left + len ≤ length bytes)
unfolding next_body
body_parts whole len bytes text left e = cases (nat_lt (length bytes) len) whole refl e
  where
    cases : (t w : Bool) → nat_lt (length bytes) len ≡ t → cond t (cond w Bad More) (behind_body whole (take len bytes) (drop len bytes)) ≡ Body text left
        → (length text ≡ len) × (length left + len ≤ length bytes)
    cases true true test e = absurd cc
    cases true false test e = absurd cc
    cases false w test e =
        let fits : len ≤ length bytes = long_enough (length bytes) len test in
        let p = behind_parts whole (take len bytes) (drop len bytes) text left e in
        (sym (ap length p.0) ∙ length-take-le len bytes fits, omega (arith, fits, p.1, length-drop len bytes))

-- ---- commands

-- the command is within the limits, uses up bytes, and adds few names for the bytes that it uses up
pub record Uses (command : Command) (bytes rest : List ℕ) : Type 0 where
  pub short : IsShort command
  pub some : length rest < length bytes
  pub names : 1048585 * twice_names command + 1048579 * length rest ≤ 1048579 * length bytes

same_uses : (c d : Command) (bytes rest left : List ℕ) → c ≡ d → rest ≡ left → Uses c bytes rest → Uses d bytes left
same_uses c d bytes rest left p q u = subst (λ x. Uses x bytes left) p (subst (Uses c bytes) q u)

-- a command of one line
line_uses : (c : Command) (head : Head) (bytes rest : List ℕ) → IsSpan head bytes rest → (IsWithinLimits head → IsShort c) → twice_names c ≡ 0 → Uses c bytes rest
line_uses c head bytes rest s limits none =
    let spelled = head-parts s.text head s.read in
    let some_ : 1 ≤ length s.text = omega (arith, some_size head, ap length spelled.1) in
    record { short = limits spelled.0; some = omega (arith, some_, s.uses); names = omega (arith, none, s.uses) }

file_uses : (name body bytes behind rest : List ℕ) (len : ℕ) → IsSpan (heads.File name len) bytes behind → length body ≡ len → length rest + len ≤ length behind
    → Uses (File name body) bytes rest
file_uses name body bytes behind rest len s size fits =
    let spelled = head-parts s.text (heads.File name len) s.read in
    let line : 8 ≤ length s.text = omega (arith, file_size name len spelled.0, ap length spelled.1) in
    let small : length body ≤ 2 ^ 20 = omega (arith, size, spelled.0.1) in
    let all : length rest + length body + 9 ≤ length bytes = omega (arith, line, fits, size, s.uses) in
    record { short = (spelled.0.0, small); some = omega (arith, all); names = omega (arith, all, small) }

with_body-uses : (whole : Bool) (name : List ℕ) (len line at after : ℕ) (bytes behind rest : List ℕ) (c : Command) (n : NextBody) → IsSpan (heads.File name len) bytes behind
    → next_body whole len behind ≡ n → with_body name line n ≡ One c at after rest → Uses c bytes rest
with_body-uses whole name len line at after bytes behind rest c (Body text left) s is e =
    let b = body_parts whole len behind text left is in
    let p = parts (File name text) c line at (line + 2 + newlines text) after left rest e in
    same_uses (File name text) c bytes left rest p.0 p.3 (file_uses name text bytes behind left len s b.0 b.1)
with_body-uses whole name len line at after bytes behind rest c Bad s is e = absurd cc
with_body-uses whole name len line at after bytes behind rest c More s is e = absurd cc

word_uses : (head : Head) (this c : Command) (l at after : ℕ) (bytes left rest : List ℕ) → IsSpan head bytes left → (IsWithinLimits head → IsShort this) → twice_names this ≡ 0
    → One this l (l + 1) left ≡ One c at after rest → Uses c bytes rest
word_uses head this c l at after bytes left rest s limits none e =
    let p = parts this c l at (l + 1) after left rest e in
    same_uses this c bytes left rest p.0 p.3 (line_uses this head bytes left s limits none)

with_head-uses : (whole : Bool) (line at after : ℕ) (bytes rest : List ℕ) (c : Command) (n : NextHead) → next_head whole line bytes ≡ n → with_head whole n ≡ One c at after rest → Uses c bytes rest
with_head-uses whole line at after bytes rest c (Found (heads.File name len) l left) is e =
    with_body-uses whole name len l at after bytes left rest c (next_body whole len left) (head_span whole line l bytes left (heads.File name len) is) refl e
with_head-uses whole line at after bytes rest c (Found (heads.Drop name) l left) is e =
    word_uses (heads.Drop name) (Drop name) c l at after bytes left rest (head_span whole line l bytes left (heads.Drop name) is) (λ h. h) refl e
with_head-uses whole line at after bytes rest c (Found heads.Check l left) is e =
    word_uses heads.Check Check c l at after bytes left rest (head_span whole line l bytes left heads.Check is) (λ h. tt) refl e
with_head-uses whole line at after bytes rest c (Found heads.Begin l left) is e =
    word_uses heads.Begin Begin c l at after bytes left rest (head_span whole line l bytes left heads.Begin is) (λ h. tt) refl e
with_head-uses whole line at after bytes rest c (Found heads.Wait l left) is e =
    word_uses heads.Wait Wait c l at after bytes left rest (head_span whole line l bytes left heads.Wait is) (λ h. tt) refl e
with_head-uses whole line at after bytes rest c (Found heads.Quit l left) is e = absurd cc
with_head-uses whole line at after bytes rest c (Broken l) is e = absurd cc
with_head-uses whole line at after bytes rest c Ended is e = absurd cc
with_head-uses whole line at after bytes rest c Open is e = absurd cc

pub command_uses : (whole : Bool) (line at after : ℕ) (bytes rest : List ℕ) (c : Command) → next_command whole line bytes ≡ One c at after rest → Uses c bytes rest
command_uses whole line at after bytes rest c e = with_head-uses whole line at after bytes rest c (next_head whole line bytes) refl e
