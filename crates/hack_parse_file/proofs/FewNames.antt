-- How many names the tokens of a text have: no more than half its bytes and one, since a word that stands directly behind a
-- word or a variable would be longer.
use Rattle.std.proofs.Common.{◌≡◌, ◌≢◌, ◌⊎◌, inl, inr, ◌<◌, ◌≤◌, ◌+◌, ◌-◌, ◌*◌, ◌&&◌, ◌==◌, ℕ, zero, suc, Bool, true, false, true≢false, List, [], ◌∷◌, ◌++◌, length, take, drop, get_or, cond, Option, Some, None, unwrap_or, refl, sym, ap, subst, ◌∙◌, arith}
use Rattle.std.specs.Prelude.{if◌then◌else◌, nat_le}
use Rattle.std.specs.List.{list_all, position_from}
use Rattle.std.specs.Str.{bytes_eq}
use Rattle.std.proofs.lemmas.Bool.Decides.{eqb_tells, leb_tells}
use Rattle.std.proofs.lemmas.List.{take_more, drop_more, length-take, length-drop, drop-drop}
use Rattle.hack_lexer.specs.Bytes.{is_word_start, is_word_byte, is_key_byte}
use Rattle.hack_lexer.specs.Forms.{is_word, is_variable, is_int, is_float, is_string, is_key_string, content_of, marks, keywords, sort_of, sort_of_mark, sort_of_word, sort_of_variable, sort_of_string}
use Rattle.hack_lexer.specs.Tokens.{is_cut_cast, sort_at, IsLongest, text_of, Piece, Blank, Taken, IsCut, tokens_of, AreTokens}
use Rattle.hack_lexer.specs.declared.token.Token.{Token}
use Rattle.hack_lexer.proofs.Classes.{both}
use Rattle.hack_lexer.proofs.Longest.{nothing_here}

-- ---- sorts

-- how many names a token of this sort has: one where it is a name, a variable, a key string or a keyword
abbrev pub names_of_sort : ℕ → ℕ
names_of_sort s = if s == 0 then 1 else if s == 1 then 1 else if s == 6 then 1 else if nat_le 62 s then 1 else 0

-- how many these tokens have
abbrev pub names_of : List Token → ℕ
names_of [] = 0
names_of (t ∷ ts) = names_of_sort t.sort + names_of ts

pub one_at_most : (s : ℕ) → names_of_sort s ≤ 1
one_at_most s = by (s == 0) (s == 1) (s == 6) (nat_le 62 s)
  where
    by : (a b c d : Bool) → (if a then 1 else if b then 1 else if c then 1 else if d then 1 else 0) ≤ 1
    by true b c d = omega arith
    by false true c d = omega arith
    by false false true d = omega arith
    by false false false true = omega arith
    by false false false false = omega arith

none_here : (s : ℕ) → 2 ≤ s → s < 62 → s ≢ 6 → names_of_sort s ≡ 0
none_here s low high not_six = by (eqb_tells s 0) (eqb_tells s 1) (eqb_tells s 6) (leb_tells 62 s)
  where
    by : ((s == 0) ≡ true) × (s ≡ 0) ⊎ ((s == 0) ≡ false) × (s ≢ 0) → ((s == 1) ≡ true) × (s ≡ 1) ⊎ ((s == 1) ≡ false) × (s ≢ 1)
        → ((s == 6) ≡ true) × (s ≡ 6) ⊎ ((s == 6) ≡ false) × (s ≢ 6) → ((nat_le 62 s) ≡ true) × (62 ≤ s) ⊎ ((nat_le 62 s) ≡ false) × (s < 62) → names_of_sort s ≡ 0
    by (inl a) b c d = absurd (omega (arith, low, a.1))
    by (inr a) (inl b) c d = absurd (omega (arith, low, b.1))
    by (inr a) (inr b) (inl c) d = absurd (not_six c.1)
    by (inr a) (inr b) (inr c) (inl d) = absurd (omega (arith, high, d.1))
    by (inr a) (inr b) (inr c) (inr d) = rw a.0 (rw b.0 (rw c.0 (rw d.0 refl)))

pub one_of_keyword : (s : ℕ) → 62 ≤ s → names_of_sort s ≡ 1
one_of_keyword s high = by (s == 0) (s == 1) (s == 6) (nat_le 62 s) (elim (leb_tells 62 s) [ inl h ↦ h.0 | inr h ↦ absurd (omega (arith, high, h.1)) ])
  where
    by : (a b c d : Bool) → d ≡ true → ◌≡◌ {A = ℕ} (if a then 1 else if b then 1 else if c then 1 else if d then 1 else 0) 1
    by true b c d e = refl
    by false true c d e = refl
    by false false true d e = refl
    by false false false true e = refl
    by false false false false e = absurd (true≢false (sym e))

-- what the sort of a token says of its text
abbrev pub IsOfSort : List ℕ → ℕ → Type 0
IsOfSort text s =
    ((is_word text ≡ true) × ((s ≡ 0) ⊎ (62 ≤ s)))
    ⊎ ((is_variable text ≡ true) × (s ≡ 1))
    ⊎ ((3 ≤ length text) × (s ≡ 6))
    ⊎ ((2 ≤ s) × (s < 62) × (s ≢ 6))

position_from_start : (p : List ℕ → Bool) (start : ℕ) (xs : List (List ℕ)) (k : ℕ) → position_from p start xs ≡ Some k → (start ≤ k) × (k < start + length xs)
position_from_start p start [] k e = absurd cc
position_from_start p start (x ∷ xs) k e = by (p x) e (λ h. position_from_start p (start + 1) xs k h)
  where
    by : (t : Bool) → cond t (Some start) (position_from p (start + 1) xs) ≡ Some k → (position_from p (start + 1) xs ≡ Some k → (start + 1 ≤ k) × (k < start + 1 + length xs)) → (start ≤ k) × (k < start + suc (length xs))
    by true h later = let same : start ≡ k = cc in (omega arith, omega arith)
    by false h later = let found = later h in (omega (arith, found.0), omega (arith, found.1))

length-marks : length marks ≡ 55
unfolding marks
length-marks = refl

of_word : (text : List ℕ) → (sort_of_word text ≡ 0) ⊎ (62 ≤ sort_of_word text)
of_word text = by (position_from (bytes_eq text) 62 keywords) (λ k h. (position_from_start (bytes_eq text) 62 keywords k h).0)
  where
    by : (o : Option ℕ) → ((k : ℕ) → o ≡ Some k → 62 ≤ k) → (unwrap_or o 0 ≡ 0) ⊎ (62 ≤ unwrap_or o 0)
    by None h = inl refl
    by (Some k) h = inr (h k refl)

long_key : (text : List ℕ) → is_key_string text ≡ true → 3 ≤ length text
long_key text e =
    let long : Bool = nat_le 1 (length (content_of text)) in
    let sized : (long && nat_le (length (content_of text)) 255) ≡ true = (both (long && nat_le (length (content_of text)) 255) (list_all is_key_byte (content_of text)) e).0 in
    let some : nat_le 1 (length (content_of text)) ≡ true = (both long (nat_le (length (content_of text)) 255) sized).0 in
    elim (leb_tells 1 (length (content_of text))) [
      | inl h ↦ omega (arith, h.1, length-drop {A = ℕ}, length-take {A = ℕ})
      | inr h ↦ absurd (true≢false (sym some ∙ h.0))
    ]

of_sort : (text : List ℕ) (s : ℕ) → sort_of text ≡ Some s → IsOfSort text s
of_sort text s = by (is_word text) refl (is_variable text) refl (is_int text) (is_float text) (is_string text)
  where
    same : (m : ℕ) → Some m ≡ Some s → m ≡ s
    same m e = cc

    of_variable : (b : Bool) → is_variable text ≡ true → (if b then 2 else 1) ≡ s → IsOfSort text s
    of_variable true v e = inr (inr (inr (omega (arith, e), omega (arith, e), omega (arith, e))))
    of_variable false v e = inr (inl (v, sym e))

    of_string : (b : Bool) → is_key_string text ≡ b → (if b then 6 else 5) ≡ s → IsOfSort text s
    of_string true k e = inr (inr (inl (long_key text k, sym e)))
    of_string false k e = inr (inr (inr (omega (arith, e), omega (arith, e), omega (arith, e))))

    by : (w : Bool) → is_word text ≡ w → (v : Bool) → is_variable text ≡ v → (i f t : Bool)
        → (if w then Some (sort_of_word text) else (if v then Some (sort_of_variable text) else (if i then Some 3 else (if f then Some 4 else (if t then Some (sort_of_string text) else sort_of_mark text))))) ≡ Some s → IsOfSort text s
    by true w v k i f t e = inl (w, subst (λ n. (n ≡ 0) ⊎ (62 ≤ n)) (same _ e) (of_word text))
    by false w true v i f t e = of_variable (bytes_eq text _) v (same _ e)
    by false w false v true f t e = let n = same 3 e in inr (inr (inr (omega (arith, n), omega (arith, n), omega (arith, n))))
    by false w false v false true t e = let n = same 4 e in inr (inr (inr (omega (arith, n), omega (arith, n), omega (arith, n))))
    by false w false v false false true e = of_string (is_key_string text) refl (same _ e)
    by false w false v false false false e =
        let found = position_from_start (bytes_eq text) 7 marks s e in
        inr (inr (inr (omega (arith, found.0), omega (arith, found.1, length-marks), omega (arith, found.0))))

-- the text of a token is of its sort
token_sort : (rest : List ℕ) (len s : ℕ) → sort_at rest len ≡ Some s → IsOfSort (take len rest) s
token_sort rest len s = by (is_cut_cast rest len)
  where
    by : (c : Bool) → (if c then None else sort_of (take len rest)) ≡ Some s → IsOfSort (take len rest) s
    by true e = absurd cc
    by false e = of_sort (take len rest) s e

-- ---- what stands behind a word

-- a word goes on with a byte of words
word_on : (text : List ℕ) (b : ℕ) → is_word text ≡ true → is_word_byte b ≡ true → is_word (text ++ b ∷ []) ≡ true
word_on [] b e w = absurd (true≢false (sym e))
word_on (x ∷ xs) b e w = rw (both (is_word_start x) _ e).0 (all_on xs (both (is_word_start x) _ e).1)
  where
    all_on : (ys : List ℕ) → list_all is_word_byte ys ≡ true → list_all is_word_byte (ys ++ b ∷ []) ≡ true
    all_on [] h = rw w refl
    all_on (y ∷ ys) h = rw (both (is_word_byte y) _ h).0 (all_on ys (both (is_word_byte y) _ h).1)

variable_on : (text : List ℕ) (b : ℕ) → is_variable text ≡ true → is_word_byte b ≡ true → is_variable (text ++ b ∷ []) ≡ true
variable_on [] b e w = absurd (true≢false (sym e))
variable_on (x ∷ xs) b e w = rw (both (x == 36) _ e).0 (word_on xs b (both (x == 36) _ e).1 w)

-- a word or a variable
abbrev pub IsWordly : List ℕ → Type 0
IsWordly text = (is_word text ≡ true) ⊎ (is_variable text ≡ true)

wordly_on : (text : List ℕ) (b : ℕ) → IsWordly text → is_word_byte b ≡ true → IsWordly (text ++ b ∷ [])
wordly_on text b (inl e) w = inl (word_on text b e w)
wordly_on text b (inr e) w = inr (variable_on text b e w)

-- it has a sort
has_sort : (text : List ℕ) → IsWordly text → sort_of text ≡ None → ⊥
has_sort text wordly = by (is_word text) refl (is_variable text) refl wordly
  where
    by : (w : Bool) → is_word text ≡ w → (v : Bool) → is_variable text ≡ v → IsWordly text
        → (if w then Some (sort_of_word text) else (if v then Some (sort_of_variable text) else (if is_int text then Some 3 else (if is_float text then Some 4 else (if is_string text then Some (sort_of_string text) else sort_of_mark text))))) ≡ None → ⊥
    by true w v k h e = absurd cc
    by false w true k h e = absurd cc
    by false w false k (inl h) e = absurd (true≢false (sym h ∙ w))
    by false w false k (inr h) e = absurd (true≢false (sym h ∙ k))

-- and begins with no `?`
no_question : (b : ℕ) (text : List ℕ) → IsWordly (b ∷ text) → (b == 63) ≡ false
no_question b text wordly = elim (eqb_tells b 63) [ inl h ↦ absurd (is_none (subst (λ x. IsWordly (x ∷ text)) h.1 wordly)) | inr h ↦ h.0 ]
  where
    is_none : IsWordly (63 ∷ text) → ⊥
    is_none (inl e) = true≢false (sym e)
    is_none (inr e) = true≢false (sym e)

-- so it is a token
is_token : (rest : List ℕ) (n : ℕ) → IsWordly (take n rest) → sort_at rest n ≡ None → ⊥
is_token rest zero (inl e) h = true≢false (sym e)
is_token rest zero (inr e) h = true≢false (sym e)
is_token [] (suc n) (inl e) h = true≢false (sym e)
is_token [] (suc n) (inr e) h = true≢false (sym e)
is_token (b ∷ bs) (suc n) wordly h =
    let cast : is_cut_cast (b ∷ bs) (suc n) ≡ false = rw (no_question b (take n bs) wordly) refl in
    has_sort (b ∷ take n bs) wordly (rw cast at h)

-- the first byte of a word is one of words
word_byte : (n b : ℕ) (bs : List ℕ) → is_word (take n (b ∷ bs)) ≡ true → is_word_byte b ≡ true
word_byte zero b bs e = absurd (true≢false (sym e))
word_byte (suc n) b bs e = rw (both (is_word_start b) _ e).0 refl

-- no word stands behind a word or a variable that is the longest
word_ends : (rest : List ℕ) (len more : ℕ) → IsWordly (take len rest) → ((n : ℕ) → len < n → n ≤ length rest → sort_at rest n ≡ None) → len < length rest
    → is_word (take more (drop len rest)) ≡ true → ⊥
word_ends rest len more wordly longest inside word =
    let b : ℕ = get_or rest len 0 in
    let byte : is_word_byte b ≡ true = word_byte more b (drop (len + 1) rest) (subst (λ xs. is_word (take more xs) ≡ true) (drop_more rest len 0 inside) word) in
    let on : IsWordly (take (len + 1) rest) = subst IsWordly (sym (take_more rest len 0 inside)) (wordly_on (take len rest) b wordly byte) in
    is_token rest (len + 1) on (longest (len + 1) (omega arith) (omega (arith, inside)))

-- ---- all tokens

-- a token has a byte
one_byte : (bytes : List ℕ) (t : Token) → IsLongest bytes t → 0 < t.len
one_byte bytes t longest = by t.len longest.sort
  where
    by : (len : ℕ) → sort_at (drop t.at bytes) len ≡ Some t.sort → 0 < len
    by zero e = absurd (let wrong : ◌≡◌ {A = Option ℕ} None (Some t.sort) = sym (nothing_here (drop t.at bytes)) ∙ e in cc)
    by (suc n) e = omega arith

-- no token at this index is a word
abbrev pub HasNoWord : List ℕ → ℕ → Type 0
HasNoWord bytes from = (u : Token) → u.at ≡ from → IsLongest bytes u → is_word (text_of bytes u) ≡ true → ⊥

no_word_behind : (bytes : List ℕ) (t : Token) → IsLongest bytes t → IsWordly (text_of bytes t) → HasNoWord bytes (t.at + t.len)
no_word_behind bytes t longest wordly u at other word =
    let some : 0 < u.len = one_byte bytes u other in
    let rest : List ℕ = drop t.at bytes in
    let same : drop u.at bytes ≡ drop t.len rest = ap (λ n. drop n bytes) at ∙ sym (drop-drop t.len t.at bytes) in
    word_ends rest t.len u.len wordly
    (λ n more fits. longest.longest n more (omega (arith, fits, more, length-drop t.at bytes)))
    (omega (arith, at, some, other.inside, length-drop t.at bytes))
    (subst (λ xs. is_word (take u.len xs) ≡ true) same word)

long_variable : (text : List ℕ) → is_variable text ≡ true → 2 ≤ length text
long_variable [] e = absurd (true≢false (sym e))
long_variable (x ∷ []) e = absurd (true≢false (sym (both (x == 36) _ e).1))
long_variable (x ∷ y ∷ text) e = omega arith

-- where a word can't stand at the front, one name less
abbrev pub spare : Bool → ℕ
spare loose = if loose then 1 else 0

few_from : (bytes : List ℕ) (from to : ℕ) (pieces : List Piece) (loose : Bool) → IsCut bytes from pieces to → (loose ≡ false → HasNoWord bytes from)
    → from + 2 * names_of (tokens_of pieces) ≤ to + spare loose
few_from bytes from to [] loose cut none = omega (arith, cut)
few_from bytes from to (Blank zero ∷ pieces) loose cut none =
    let same : from + 0 ≡ from = omega arith in
    few_from bytes from to pieces loose (subst (λ n. IsCut bytes n pieces to) same cut.1) none
few_from bytes from to (Blank (suc len) ∷ pieces) loose cut none =
    let others = few_from bytes (from + suc len) to pieces true cut.1 (λ e. absurd (true≢false e)) in
    omega (arith, others)
few_from bytes from to (Taken t ∷ pieces) loose cut none =
    by (λ next h. few_from bytes (from + t.len) to pieces next cut.3 h) loose none (token_sort (drop t.at bytes) t.len t.sort cut.1.sort)
  where
    behind : IsWordly (text_of bytes t) → HasNoWord bytes (from + t.len)
    behind wordly = subst (λ n. HasNoWord bytes (n + t.len)) cut.0 (no_word_behind bytes t cut.1 wordly)

    by : ((next : Bool) → (next ≡ false → HasNoWord bytes (from + t.len)) → from + t.len + 2 * names_of (tokens_of pieces) ≤ to + spare next)
        → (l : Bool) → (l ≡ false → HasNoWord bytes from) → IsOfSort (text_of bytes t) t.sort → from + 2 * (names_of_sort t.sort + names_of (tokens_of pieces)) ≤ to + spare l
    by others true h (inl w) = omega (arith, others false (λ e. behind (inl w.0)), one_byte bytes t cut.1, one_at_most t.sort)
    by others false h (inl w) = absurd (h refl t cut.0 cut.1 w.0)
    by others l h (inr (inl v)) = omega (arith, others false (λ e. behind (inr v.0)), long_variable (text_of bytes t) v.0, length-take t.len (drop t.at bytes), one_at_most t.sort)
    by others l h (inr (inr (inl k))) = omega (arith, others true (λ e. absurd (true≢false e)), k.0, length-take t.len (drop t.at bytes), one_at_most t.sort)
    by others l h (inr (inr (inr n))) = omega (arith, others true (λ e. absurd (true≢false e)), one_byte bytes t cut.1, none_here t.sort n.0 n.1 n.2)

-- twice the names are one more than the bytes at most
pub few_names : (bytes : List ℕ) (tokens : List Token) → AreTokens bytes tokens → 2 * names_of tokens ≤ length bytes + 1
few_names bytes tokens cut =
    let few = few_from bytes 0 (length bytes) cut.pieces true cut.cut (λ e. absurd (true≢false e)) in
    subst (λ ts. 2 * names_of ts ≤ length bytes + 1) (sym cut.tokens_are) (omega (arith, few))

-- ---- the first of them

names_of-append : (xs ys : List Token) → names_of (xs ++ ys) ≡ names_of xs + names_of ys
names_of-append [] ys = omega arith
names_of-append (x ∷ xs) ys = omega (arith, names_of-append xs ys)

-- with one token more
pub names_more : (tokens : List Token) (index : ℕ) (d : Token) → index < length tokens → names_of (take (index + 1) tokens) ≡ names_of (take index tokens) + names_of_sort (get_or tokens index d).sort
names_more tokens index d lt =
    let parts = ap names_of (take_more tokens index d lt) ∙ names_of-append (take index tokens) (get_or tokens index d ∷ []) in
    omega (arith, parts)

-- the first have no more than all
pub names_first : (tokens : List Token) (index : ℕ) → names_of (take index tokens) ≤ names_of tokens
names_first tokens zero = omega arith
names_first [] (suc index) = omega arith
names_first (t ∷ tokens) (suc index) = omega (arith, names_first tokens index)
