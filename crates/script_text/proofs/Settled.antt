-- What is settled while more bytes may come holds whatever comes.
use Rattle.std.proofs.Common.{◌≡◌, ℕ, suc, zero, ◌+◌, ◌==◌, ◌<◌, Bool, true, false, cond, List, [], ◌∷◌, ◌++◌, Some, None, length, nat_lt, refl, ap, ◌∙◌, arith, length-append}
use Rattle.std.specs.Prelude.{Option}
use Rattle.std.proofs.lemmas.Bool.Decides.{nat_tests}
use Rattle.memchr.specs.Find.{Nowhere, Passes, is_byte}
use Rattle.script_text.specs.Heads as heads
use Rattle.script_text.specs.Heads.{Head, split_first, head_of_line}
use Rattle.script_text.specs.Script.{Found, Broken, Ended, Open, found, line_head, next_head}
use Rattle.script_text.proofs.LineEnds.{long_cut, none_more}

-- ---- a cut stays where it is

cut_step : (x : ℕ) (xs more : List ℕ) (parts : List ℕ × List ℕ) (b : Bool) (o : Option (List ℕ × List ℕ)) → (x == 10) ≡ b
    → ((inner : List ℕ × List ℕ) → o ≡ Some inner → split_first 10 (xs ++ more) ≡ Some (inner.0, inner.1 ++ more))
    → cond b (Some ([], xs)) (heads.◌>>=◌ o (λ p. Some (x ∷ p.0, p.1))) ≡ Some parts → split_first 10 (x ∷ (xs ++ more)) ≡ Some (parts.0, parts.1 ++ more)
cut_step x xs more parts true o test inner e =
    let p : ([], xs) ≡ parts = cc in
    ap (λ t. cond t (Some ([], xs ++ more)) (heads.◌>>=◌ (split_first 10 (xs ++ more)) (λ q. Some (x ∷ q.0, q.1)))) test ∙ ap (λ (q : List ℕ × List ℕ). Some (q.0, q.1 ++ more)) p
cut_step x xs more parts false None test inner e = absurd cc
cut_step x xs more parts false (Some found_) test inner e =
    let p : (x ∷ found_.0, found_.1) ≡ parts = cc in
    ap (λ t. cond t (Some ([], xs ++ more)) (heads.◌>>=◌ (split_first 10 (xs ++ more)) (λ q. Some (x ∷ q.0, q.1)))) test
    ∙ ap (λ o. heads.◌>>=◌ o (λ q. Some (x ∷ q.0, q.1))) (inner found_ refl) ∙ ap (λ (q : List ℕ × List ℕ). Some (q.0, q.1 ++ more)) p

pub cut_more : (xs more : List ℕ) (parts : List ℕ × List ℕ) → split_first 10 xs ≡ Some parts → split_first 10 (xs ++ more) ≡ Some (parts.0, parts.1 ++ more)
cut_more [] more parts e = absurd cc
cut_more (x ∷ xs) more parts e = cut_step x xs more parts (x == 10) (split_first 10 xs) refl (λ inner is. cut_more xs more inner is) e

-- without a cut there is no LF
none_step : (x : ℕ) (xs : List ℕ) (b : Bool) (o : Option (List ℕ × List ℕ)) → (x == 10) ≡ b → cond {A = Option (List ℕ × List ℕ)} b (Some ([], xs)) (heads.◌>>=◌ o (λ p. Some (x ∷ p.0, p.1))) ≡ None
    → (o ≡ None → Nowhere (Passes (is_byte 10) xs) 0 (length xs)) → Nowhere (Passes (is_byte 10) (x ∷ xs)) 0 (suc (length xs))
none_step x xs true o test e inner k low high p = absurd cc
none_step x xs false (Some found_) test e inner k low high p = absurd cc
none_step x xs false None test e inner zero low high p = absurd (apart (x == 10) test p)
  where
    apart : (b : Bool) → b ≡ false → b ≡ true → ⊥
    apart b p q = absurd cc
none_step x xs false None test e inner (suc k) low high p = inner refl k (omega arith) (omega (arith, high)) p

pub no_newline : (xs : List ℕ) → split_first 10 xs ≡ None → Nowhere (Passes (is_byte 10) xs) 0 (length xs)
no_newline [] e = λ k low high p. absurd (omega (arith, high))
no_newline (x ∷ xs) e = none_step x xs (x == 10) (split_first 10 xs) refl e (λ is. no_newline xs is)

-- ---- lines

same_found : (o : Option Head) (line at : ℕ) (rest wanted more : List ℕ) (head : Head) → found o line rest ≡ Found head at wanted → found o line (rest ++ more) ≡ Found head at (wanted ++ more)
same_found None line at rest wanted more head e = absurd cc
same_found (Some h) line at rest wanted more head e =
    let p : (h ≡ head) × (line ≡ at) × (rest ≡ wanted) = parts h head line at rest wanted e in
    ap (λ x. Found x line (rest ++ more)) p.0 ∙ ap (λ n. Found head n (rest ++ more)) p.1 ∙ ap (λ l. Found head at (l ++ more)) p.2
  where
    parts : (h head : Head) (line at : ℕ) (rest wanted : List ℕ) → Found h line rest ≡ Found head at wanted → (h ≡ head) × (line ≡ at) × (rest ≡ wanted)
    parts h head line at rest wanted e = (cc, cc, cc)

same_broken : (o : Option Head) (line at : ℕ) (rest more : List ℕ) → found o line rest ≡ Broken at → found o line (rest ++ more) ≡ Broken at
same_broken None line at rest more e = e
same_broken (Some h) line at rest more e = absurd cc

line_found : (whole : Bool) (line at : ℕ) (xs more rest : List ℕ) (head : Head) (o : Option (List ℕ × List ℕ)) → split_first 10 xs ≡ o → line_head false line xs o ≡ Found head at rest
    → line_head whole line (xs ++ more) (split_first 10 (xs ++ more)) ≡ Found head at (rest ++ more)
line_found whole line at xs more rest head (Some parts) is e =
    ap (line_head whole line (xs ++ more)) (cut_more xs more parts is) ∙ same_found (head_of_line parts.0) line at parts.1 rest more head e
line_found whole line at xs more rest head None is e = absurd (never (nat_lt 300 (length xs)) e)
  where
    never : (t : Bool) → cond t (Broken line) Open ≡ Found head at rest → ⊥
    never true e = absurd cc
    never false e = absurd cc

long_from : (n : ℕ) → nat_lt 300 n ≡ true → 300 < n
long_from n h = grind (arith, nat_tests)

line_broken : (whole : Bool) (line at : ℕ) (xs more : List ℕ) (o : Option (List ℕ × List ℕ)) → split_first 10 xs ≡ o → line_head false line xs o ≡ Broken at
    → line_head whole line (xs ++ more) (split_first 10 (xs ++ more)) ≡ Broken at
line_broken whole line at xs more (Some parts) is e =
    ap (line_head whole line (xs ++ more)) (cut_more xs more parts is) ∙ same_broken (head_of_line parts.0) line at parts.1 more e
line_broken whole line at xs more None is e = cases (nat_lt 300 (length xs)) refl e
  where
    cases : (t : Bool) → nat_lt 300 (length xs) ≡ t → cond t (Broken line) Open ≡ Broken at → line_head whole line (xs ++ more) (split_first 10 (xs ++ more)) ≡ Broken at
    cases false test e = absurd cc
    cases true test e =
        let long = long_from (length xs) test in
        let none : Nowhere (Passes (is_byte 10) xs) 0 301 = λ k low high p. no_newline xs is k low (omega (arith, high, long)) p in
        long_cut whole line (xs ++ more) (split_first 10 (xs ++ more)) refl (omega (arith, long, length-append xs more)) (none_more xs more 301 (omega (arith, long)) none) ∙ e

-- ---- heads

step_found : (whole : Bool) (line at b : ℕ) (bytes more rest : List ℕ) (head : Head) (t : Bool)
    → (next_head false (line + 1) bytes ≡ Found head at rest → next_head whole (line + 1) (bytes ++ more) ≡ Found head at (rest ++ more))
    → cond t (next_head false (line + 1) bytes) (line_head false line (b ∷ bytes) (split_first 10 (b ∷ bytes))) ≡ Found head at rest
    → cond t (next_head whole (line + 1) (bytes ++ more)) (line_head whole line (b ∷ (bytes ++ more)) (split_first 10 (b ∷ (bytes ++ more)))) ≡ Found head at (rest ++ more)
step_found whole line at b bytes more rest head true later e = later e
step_found whole line at b bytes more rest head false later e = line_found whole line at (b ∷ bytes) more rest head (split_first 10 (b ∷ bytes)) refl e

pub head_found-settled : (whole : Bool) (line at : ℕ) (bytes more rest : List ℕ) (head : Head) → next_head false line bytes ≡ Found head at rest
    → next_head whole line (bytes ++ more) ≡ Found head at (rest ++ more)
unfolding next_head
head_found-settled whole line at [] more rest head e = absurd cc
head_found-settled whole line at (b ∷ bytes) more rest head e =
    step_found whole line at b bytes more rest head (b == 10) (head_found-settled whole (line + 1) at bytes more rest head) e

step_broken : (whole : Bool) (line at b : ℕ) (bytes more : List ℕ) (t : Bool)
    → (next_head false (line + 1) bytes ≡ Broken at → next_head whole (line + 1) (bytes ++ more) ≡ Broken at)
    → cond t (next_head false (line + 1) bytes) (line_head false line (b ∷ bytes) (split_first 10 (b ∷ bytes))) ≡ Broken at
    → cond t (next_head whole (line + 1) (bytes ++ more)) (line_head whole line (b ∷ (bytes ++ more)) (split_first 10 (b ∷ (bytes ++ more)))) ≡ Broken at
step_broken whole line at b bytes more true later e = later e
step_broken whole line at b bytes more false later e = line_broken whole line at (b ∷ bytes) more (split_first 10 (b ∷ bytes)) refl e

pub head_broken-settled : (whole : Bool) (line at : ℕ) (bytes more : List ℕ) → next_head false line bytes ≡ Broken at → next_head whole line (bytes ++ more) ≡ Broken at
unfolding next_head
head_broken-settled whole line at [] more e = absurd cc
head_broken-settled whole line at (b ∷ bytes) more e =
    step_broken whole line at b bytes more (b == 10) (head_broken-settled whole (line + 1) at bytes more) e

-- the end isn't settled while more may come
line_never : (line : ℕ) (xs : List ℕ) (o : Option (List ℕ × List ℕ)) → line_head false line xs o ≡ Ended → ⊥
line_never line xs (Some parts) e = cases (head_of_line parts.0) e
  where
    cases : (o : Option Head) → found o line parts.1 ≡ Ended → ⊥
    cases None e = absurd cc
    cases (Some h) e = absurd cc
line_never line xs None e = cases (nat_lt 300 (length xs)) e
  where
    cases : (t : Bool) → cond t (Broken line) Open ≡ Ended → ⊥
    cases true e = absurd cc
    cases false e = absurd cc

step_never : (line b : ℕ) (bytes : List ℕ) (t : Bool) → (next_head false (line + 1) bytes ≡ Ended → ⊥)
    → cond t (next_head false (line + 1) bytes) (line_head false line (b ∷ bytes) (split_first 10 (b ∷ bytes))) ≡ Ended → ⊥
step_never line b bytes true later e = later e
step_never line b bytes false later e = line_never line (b ∷ bytes) (split_first 10 (b ∷ bytes)) e

pub head_never-ended : (line : ℕ) (bytes : List ℕ) → next_head false line bytes ≡ Ended → ⊥
unfolding next_head
head_never-ended line [] e = absurd cc
head_never-ended line (b ∷ bytes) e = step_never line b bytes (b == 10) (head_never-ended (line + 1) bytes) e
