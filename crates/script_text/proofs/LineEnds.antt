-- Where a line ends, from what a search for LF gives.
use Rattle.std.proofs.Common.{◌≡◌, ◌⊎◌, inl, inr, ℕ, zero, suc, ◌+◌, ◌==◌, ◌<◌, ◌≤◌, Bool, true, false, cond, List, [], ◌∷◌, ◌++◌, Some, None, length, take, drop, nat_lt, min, refl, sym, ap, ◌∙◌, subst, arith, add-one, append_assoc}
use Rattle.std.specs.Prelude.{Option, slice_index}
use Rattle.std.proofs.lemmas.Bool.Decides.{nat_tests}
use Rattle.std.proofs.lemmas.List.{get_or_append_left}
use Rattle.std.proofs.Math.Seq.{get_or-append_seam}
use Rattle.memchr.specs.Find.{Nowhere, NoneBefore, Passes, is_byte}
use Rattle.script_text.specs.Heads as heads
use Rattle.script_text.specs.Heads.{Head, split_first, head_of_line, head_by, behind, may_be_last}
use Rattle.script_text.specs.Script.{Broken, Open, found, last_head, line_head, next_head}
use Rattle.script_text.specs.Reader.{Reader}
use Rattle.script_text.specs.Reading.{IsLineStart, IsLineEnd}
use Rattle.script_text.proofs.Splits.{split_first-parts}
use Rattle.script_text.proofs.NextHeads.{line_next}

abbrev pub IsNewline : List ℕ → ℕ → Type 0
IsNewline xs = Passes (is_byte 10) xs

false_from : (b : Bool) → (b ≡ true → ⊥) → b ≡ false
false_from true h = absurd (h refl)
false_from false h = refl

shifted : (x : ℕ) (xs : List ℕ) (n : ℕ) → Nowhere (IsNewline (x ∷ xs)) 0 (suc n) → Nowhere (IsNewline xs) 0 n
shifted x xs n none k low high p = none (suc k) (omega arith) (omega (arith, high)) p

first_not : (x : ℕ) (xs : List ℕ) (n : ℕ) → Nowhere (IsNewline (x ∷ xs)) 0 (suc n) → (x == 10) ≡ false
first_not x xs n none = false_from (x == 10) (λ p. none 0 (omega arith) (omega arith) p)

cut_at : (xs : List ℕ) (k : ℕ) → Nowhere (IsNewline xs) 0 k → k < length xs → IsNewline xs k → split_first 10 xs ≡ Some (take k xs, drop (suc k) xs)
cut_at [] k none inside p = absurd (omega (arith, inside))
cut_at (x ∷ xs) zero none inside p = ap (λ t. cond t (Some ([], xs)) (heads.◌>>=◌ (split_first 10 xs) (λ parts. Some (x ∷ parts.0, parts.1)))) p
cut_at (x ∷ xs) (suc k) none inside p =
    ap (λ t. cond t (Some ([], xs)) (heads.◌>>=◌ (split_first 10 xs) (λ parts. Some (x ∷ parts.0, parts.1)))) (first_not x xs k none)
    ∙ ap (λ o. heads.◌>>=◌ o (λ parts. Some (x ∷ parts.0, parts.1))) (cut_at xs k (shifted x xs k none) (omega (arith, inside)) p)

no_cut : (xs : List ℕ) → Nowhere (IsNewline xs) 0 (length xs) → split_first 10 xs ≡ None
no_cut [] none = refl
no_cut (x ∷ xs) none =
    ap (λ t. cond t (Some ([], xs)) (heads.◌>>=◌ (split_first 10 xs) (λ parts. Some (x ∷ parts.0, parts.1)))) (first_not x xs (length xs) none)
    ∙ ap (λ o. heads.◌>>=◌ o (λ parts. Some (x ∷ parts.0, parts.1))) (no_cut xs (shifted x xs (length xs) none))

-- ---- lines above 300 bytes

above : (n : ℕ) → 300 < n → nat_lt 300 n ≡ true
above n h = grind (arith, nat_tests)

within : (n : ℕ) → n ≤ 300 → nat_lt 300 n ≡ false
within n h = grind (arith, nat_tests)

long_head : (text : List ℕ) → 300 < length text → head_of_line text ≡ None
unfolding head_of_line
long_head text h = ap (λ t. cond t None (head_by (behind (codes_file) text) (behind (codes_drop) text) text)) (above (length text) h)
  where
    codes_file : List ℕ
    codes_file = 102 ∷ 105 ∷ 108 ∷ 101 ∷ 32 ∷ []

    codes_drop : List ℕ
    codes_drop = 100 ∷ 114 ∷ 111 ∷ 112 ∷ 32 ∷ []

long_last : (text : List ℕ) → 300 < length text → last_head text ≡ None
long_last text h = ap (λ o. heads.◌>>=◌ o (λ head. cond (may_be_last head) (Some head) None)) (long_head text h)

-- the first LF stands behind 301 bytes and more
pub long_cut : (whole : Bool) (line : ℕ) (xs : List ℕ) (o : Option (List ℕ × List ℕ)) → split_first 10 xs ≡ o → 300 < length xs → Nowhere (IsNewline xs) 0 301
    → line_head whole line xs o ≡ Broken line
long_cut whole line xs None e long none = ap (λ t. cond t (Broken line) (cond whole (found (last_head xs) line []) Open)) (above (length xs) long)
long_cut whole line xs (Some parts) e long none =
    let cut : xs ≡ parts.0 ++ 10 ∷ parts.1 = split_first-parts 10 xs parts e in
    let there : slice_index xs (length parts.0) ≡ 10 = ap (λ l. slice_index l (length parts.0)) cut ∙ get_or-append_seam parts.0 10 parts.1 0 in
    let test : (slice_index xs (length parts.0) == 10) ≡ true = grind (arith, nat_tests) in
    ap (λ o. found o line parts.1) (long_head parts.0 (far (length parts.0) (λ near. none (length parts.0) (omega arith) near test)))
  where
    far : (n : ℕ) → (n < 301 → ⊥) → 300 < n
    far n h = grind (arith, h)

-- ---- what the search says

pub line_end-some : (reader : Reader) (xs : List ℕ) (at : ℕ) → xs ≡ reader.unused
    → NoneBefore (Passes (is_byte 10) xs) 0 (min (length xs) 301) at × Passes (is_byte 10) xs at → IsLineEnd reader (Some at)
line_end-some reader xs at e f =
    let inside : at < length xs = grind (arith, f.0.high) in
    let cut : split_first 10 xs ≡ Some (take at xs, drop (at + 1) xs) =
    cut_at xs at f.0.before inside f.1 ∙ ap (λ n. Some (take at xs, drop n xs)) (sym (add-one at)) in
    let P : List ℕ → Type 0 = λ ys. split_first 10 ys ≡ Some (take at ys, drop (at + 1) ys) in
    ap (line_head reader.ended reader.line reader.unused) (subst P e cut)

line_end-long : (whole : Bool) (line : ℕ) (xs : List ℕ) → 300 < length xs → Nowhere (IsNewline xs) 0 301
    → line_head whole line xs (split_first 10 xs) ≡ found (last_head xs) line []
line_end-long whole line xs long none = long_cut whole line xs (split_first 10 xs) refl long none ∙ sym (ap (λ o. found o line []) (long_last xs long))

line_end-last : (line : ℕ) (xs : List ℕ) → length xs ≤ 300 → Nowhere (IsNewline xs) 0 (length xs)
    → line_head true line xs (split_first 10 xs) ≡ found (last_head xs) line []
line_end-last line xs few none =
    ap (line_head true line xs) (no_cut xs none) ∙ ap (λ t. cond t (Broken line) (found (last_head xs) line [])) (within (length xs) few)

abbrev EndsWithout : Reader → List ℕ → Type 0
EndsWithout reader ys = line_head reader.ended reader.line ys (split_first 10 ys) ≡ found (last_head ys) reader.line []

sizes : (n : ℕ) → (300 < n) ⊎ (n ≤ 300)
sizes n = grind arith

pub line_end-none : (reader : Reader) (xs : List ℕ) → xs ≡ reader.unused → Nowhere (Passes (is_byte 10) xs) 0 (min (length xs) 301)
    → (reader.ended ≡ true) ⊎ (300 < length xs) → IsLineEnd reader None
line_end-none reader xs e none why = subst (EndsWithout reader) e (cases (sizes (length xs)) why)
  where
    cases : (300 < length xs) ⊎ (length xs ≤ 300) → (reader.ended ≡ true) ⊎ (300 < length xs) → EndsWithout reader xs
    cases (inl long) w = let limit : min (length xs) 301 ≡ 301 = grind (arith, long) in line_end-long reader.ended reader.line xs long (subst (Nowhere (IsNewline xs) 0) limit none)
    cases (inr few) (inr long) = absurd (omega (arith, few, long))
    cases (inr few) (inl ended) =
        let limit : min (length xs) 301 ≡ length xs = grind (arith, few) in
        ap (λ w. line_head w reader.line xs (split_first 10 xs)) ended ∙ line_end-last reader.line xs few (subst (Nowhere (IsNewline xs) 0) limit none)

-- ---- more bytes

pub none_more : (xs ys : List ℕ) (n : ℕ) → n ≤ length xs → Nowhere (Passes (is_byte 10) xs) 0 n → Nowhere (Passes (is_byte 10) (xs ++ ys)) 0 n
none_more xs ys n inside none k low high p = none k low high (ap (λ b. b == 10) (sym (get_or_append_left xs ys 0 k (omega (arith, high, inside)))) ∙ p)

pub line_open : (line : ℕ) (xs : List ℕ) → IsLineStart xs → Nowhere (Passes (is_byte 10) xs) 0 (length xs) → length xs ≤ 300 → next_head false line xs ≡ Open
line_open line xs start none few =
    line_next false line xs start ∙ ap (line_head false line xs) (no_cut xs none) ∙ ap (λ t. cond t (Broken line) Open) (within (length xs) few)

-- a call that stopped before more bytes came
pub line_waits : (line : ℕ) (old x y u : List ℕ) → IsLineStart u → Nowhere (Passes (is_byte 10) u) 0 (length u) → length u ≤ 300 → u ≡ old ++ x → u ++ y ≡ u
    → next_head false line (old ++ (x ++ y)) ≡ Open
line_waits line old x y u start none few e q =
    ap (next_head false line) (sym (append_assoc old x y) ∙ ap (λ b. b ++ y) (sym e) ∙ q) ∙ line_open line u start none few
