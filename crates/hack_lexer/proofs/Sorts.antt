-- The sorts of tokens are numbers of kinds.
use Rattle.std.proofs.Common.{◌≡◌, ◌<◌, ◌+◌, ℕ, suc, List, [], ◌∷◌, length, refl, sym, subst, arith, Bool, true, false, Option, Some, None, cond, unwrap_or, drop, take}
use Rattle.std.specs.Prelude.{if◌then◌else◌}
use Rattle.std.specs.List.{position_from, AllByRecursion}
use Rattle.std.specs.Str.{bytes_eq}
use Rattle.hack_lexer.specs.Forms.{is_word, is_variable, is_int, is_float, is_string, marks, keywords, sort_of, sort_of_mark, sort_of_word, sort_of_variable, sort_of_string}
use Rattle.hack_lexer.specs.Tokens.{is_cut_cast, sort_at, Piece, Blank, Taken, IsCut, tokens_of, AreTokens}
use Rattle.hack_lexer.specs.declared.token.Token.{Token}

position_below : (p : List ℕ → Bool) (start : ℕ) (xs : List (List ℕ)) (k : ℕ) → position_from p start xs ≡ Some k → k < start + length xs
position_below p start [] k e = cc
position_below p start (x ∷ xs) k e = by (p x) e (λ h. position_below p (start + 1) xs k h)
  where
    by : (t : Bool) → cond t (Some start) (position_from p (start + 1) xs) ≡ Some k → (position_from p (start + 1) xs ≡ Some k → k < start + 1 + length xs) → k < start + suc (length xs)
    by true h later = let same : start ≡ k = cc in omega arith
    by false h later = let below : k < start + 1 + length xs = later h in omega arith

length-marks : length marks ≡ 55
unfolding marks
length-marks = refl

length-keywords : length keywords ≡ 59
unfolding keywords
length-keywords = refl

word_below : (text : List ℕ) → sort_of_word text < 121
word_below text = by (position_from (bytes_eq text) 62 keywords) (λ k h. position_below (bytes_eq text) 62 keywords k h)
  where
    by : (o : Option ℕ) → ((k : ℕ) → o ≡ Some k → k < 62 + length keywords) → unwrap_or o 0 < 121
    by None h = omega arith
    by (Some k) h = omega (arith, h k refl, length-keywords)

small : (b : Bool) (m n : ℕ) → m < 121 → n < 121 → (if b then m else n) < 121
small true m n l k = l
small false m n l k = k

sort_below : (text : List ℕ) (s : ℕ) → sort_of text ≡ Some s → s < 121
sort_below text s = by (is_word text) (is_variable text) (is_int text) (is_float text) (is_string text)
  where
    is : (m : ℕ) → m < 121 → Some m ≡ Some s → s < 121
    is m l e = let same : m ≡ s = cc in omega arith

    by : (w v i f t : Bool)
        → (if w then Some (sort_of_word text) else (if v then Some (sort_of_variable text) else (if i then Some 3 else (if f then Some 4 else (if t then Some (sort_of_string text) else sort_of_mark text))))) ≡ Some s → s < 121
    by true v i f t e = is (sort_of_word text) (word_below text) e
    by false true i f t e = is (sort_of_variable text) (small _ 2 1 (omega arith) (omega arith)) e
    by false false true f t e = is 3 (omega arith) e
    by false false false true t e = is 4 (omega arith) e
    by false false false false true e = is (sort_of_string text) (small _ 6 5 (omega arith) (omega arith)) e
    by false false false false false e = omega (arith, position_below (bytes_eq text) 7 marks s e, length-marks)

sort_at_below : (rest : List ℕ) (len s : ℕ) → sort_at rest len ≡ Some s → s < 121
sort_at_below rest len s = by (is_cut_cast rest len)
  where
    by : (c : Bool) → (if c then None else sort_of (take len rest)) ≡ Some s → s < 121
    by true e = cc
    by false e = sort_below (take len rest) s e

cut_sorts : (bytes : List ℕ) (from to : ℕ) (pieces : List Piece) → IsCut bytes from pieces to → AllByRecursion (λ (t : Token). t.sort < 121) (tokens_of pieces)
cut_sorts bytes from to [] h = tt
cut_sorts bytes from to (Blank len ∷ pieces) h = cut_sorts bytes (from + len) to pieces h.1
cut_sorts bytes from to (Taken t ∷ pieces) h = (sort_at_below (drop t.at bytes) t.len t.sort h.1.sort, cut_sorts bytes (from + t.len) to pieces h.3)

pub sorts_of_tokens : (bytes : List ℕ) (tokens : List Token) → AreTokens bytes tokens → AllByRecursion (λ (t : Token). t.sort < 121) tokens
sorts_of_tokens bytes tokens h = subst (AllByRecursion (λ (t : Token). t.sort < 121)) (sym h.tokens_are) (cut_sorts bytes 0 (length bytes) h.pieces h.cut)
