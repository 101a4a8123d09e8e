-- The tokens of the builtin text: a scan of its bytes, each step of which is right, and what comes of it.
use Rattle.std.proofs.Common.{◌≡◌, ◌<◌, ◌≤◌, ◌+◌, ◌-◌, ◌||◌, ◌==◌, ℕ, zero, suc, List, [], ◌∷◌, length, map, take, drop, get_or, codes, refl, sym, ap, subst, ◌∙◌, arith, Bool, true, false, true≢false, Option, None, Some}
use Rattle.std.specs.Prelude.{if◌then◌else◌, nat_le}
use Rattle.std.specs.List.{prefix_len}
use Rattle.std.specs.Option.{option_map}
use Rattle.std.proofs.lemmas.Bool.{eqb-true, leb-true, le-leb}
use Rattle.std.proofs.lemmas.List.{length-drop, drop-drop}
use Rattle.hack_builtin.specs.Builtin.{builtin_text}
use Rattle.hack_lexer.specs.Bytes.{is_digit, is_word_start, is_word_byte}
use Rattle.hack_lexer.specs.Forms.{is_float, through_quote, sort_of_word, sort_of_variable, sort_of_string, keywords, marks}
use Rattle.hack_lexer.specs.Kinds.{sort_of_kind}
use Rattle.hack_lexer.specs.Scan.{IsFound, IsMarkAlone}
use Rattle.hack_lexer.specs.Tokens.{begins, blank_at, sort_at, BeginsNoBlank, IsLongest, IsInRange, Piece, Blank, Taken, IsCut, tokens_of, AreTokens}
use Rattle.hack_lexer.specs.declared.token.Token.{Token}
use Rattle.hack_lexer.proofs.Classes.{is_quote, float_false}
use Rattle.hack_lexer.proofs.Numbers.{refuses_all}
use Rattle.hack_lexer.proofs.Texts.{word_other, word_started, variable_other, variable_started, string_other, string_started}
use Rattle.hack_lexer.proofs.Longest.{found_word, found_variable, found_string, mark_alone, found_mark_1, found_mark_2, found_mark_3}
use Rattle.hack_lexer.proofs.Cuts.{longest_from}
use Rattle.check_state.proofs.BuiltinTreeKinds.{builtin_kinds}

-- ---- the token at the front

-- a token that stands at the front
pub record Seen : Type 0 where
  pub sort : ℕ
  pub len : ℕ

-- it is the longest token there
abbrev IsSeen : List ℕ → Seen → Type 0
IsSeen rest seen = IsFound rest (record { sort = seen.sort; len = seen.len })

-- what stands at the front is this token, where one is found
abbrev Holds : List ℕ → Option Seen → Type 0
Holds rest None = Unit {0}
Holds rest (Some seen) = IsSeen rest seen

-- a word, which begins with this byte
word_at : ℕ → List ℕ → Seen
word_at b bs = record { sort = sort_of_word (take (prefix_len is_word_byte bs + 1) (b ∷ bs)); len = prefix_len is_word_byte bs + 1 }

word_holds : (b : ℕ) (bs : List ℕ) → b < 256 → is_word_start b ≡ true → IsSeen (b ∷ bs) (word_at b bs)
unfolding word_at
word_holds b bs l e = found_word (b ∷ bs) (record { sort = (word_at b bs).sort; len = (word_at b bs).len }) l (word_started (b ∷ bs) (omega arith) e) refl

-- a variable, where a word follows the `$`
variable_at : ℕ → List ℕ → Option Seen
variable_at b bs =
    if is_word_start (get_or bs 0 0)
    then Some (record { sort = sort_of_variable (take (prefix_len is_word_byte (drop 1 bs) + 1 + 1) (b ∷ bs)); len = prefix_len is_word_byte (drop 1 bs) + 1 + 1 })
    else None

variable_holds : (b : ℕ) (bs : List ℕ) → b < 256 → is_word_start b ≡ false → b ≡ 36 → Holds (b ∷ bs) (variable_at b bs)
unfolding variable_at
variable_holds b [] l other e = tt
variable_holds b (c ∷ cs) l other e = by (is_word_start c) refl
  where
    len : ℕ
    len = prefix_len is_word_byte cs + 1 + 1

    by : (t : Bool) → is_word_start c ≡ t → Holds (b ∷ c ∷ cs) (if t then Some (record { sort = sort_of_variable (take len (b ∷ c ∷ cs)); len = len }) else None)
    by true h = found_variable (b ∷ c ∷ cs) (record { sort = sort_of_variable (take len (b ∷ c ∷ cs)); len = len }) l (word_other (b ∷ c ∷ cs) (omega arith) other)
        (variable_started (b ∷ c ∷ cs) (omega arith) e (Some (prefix_len is_word_byte cs + 1)) (word_started (c ∷ cs) (omega arith) h)) refl
    by false h = tt

-- a string, where its quote comes again
string_at : ℕ → List ℕ → Option ℕ → Option Seen
string_at b bs None = None
string_at b bs (Some n) = Some (record { sort = sort_of_string (take (n + 1) (b ∷ bs)); len = n + 1 })

string_holds : (b : ℕ) (bs : List ℕ) (found : Option ℕ) → b < 256 → is_word_start b ≡ false → (b ≡ 36 → ⊥) → is_quote b ≡ true → through_quote b false bs ≡ found → Holds (b ∷ bs) (string_at b bs found)
unfolding string_at
string_holds b bs None l word variable e h = tt
string_holds b bs (Some n) l word variable e h =
    found_string (b ∷ bs) (record { sort = sort_of_string (take (n + 1) (b ∷ bs)); len = n + 1 }) l (word_other (b ∷ bs) (omega arith) word) (variable_other (b ∷ bs) (omega arith) variable)
    (string_started (b ∷ bs) (omega arith) e (Some n) h) refl

-- the sort of so many bytes, where there are so many
sort_within : List ℕ → ℕ → Option ℕ
sort_within rest len = if nat_le len (length rest) then sort_at rest len else None

-- the longest mark, from the sorts of three bytes, of two and of one
mark_by : Option ℕ → Option ℕ → Option ℕ → Option Seen
mark_by (Some sort) two one = Some (record { sort = sort; len = 3 })
mark_by None (Some sort) one = Some (record { sort = sort; len = 2 })
mark_by None None (Some sort) = Some (record { sort = sort; len = 1 })
mark_by None None None = None

-- a sort is there, or isn't, exactly where so many bytes have one
within_none : (rest : List ℕ) (len : ℕ) → sort_within rest len ≡ None → len ≤ length rest → sort_at rest len ≡ None
unfolding sort_within
within_none rest len e l = by (nat_le len (length rest)) e (le-leb len (length rest) l)
  where
    by : (t : Bool) → (if t then sort_at rest len else None) ≡ None → t ≡ true → sort_at rest len ≡ None
    by true h k = h
    by false h k = absurd (true≢false (sym k))

within_some : (rest : List ℕ) (len sort : ℕ) → sort_within rest len ≡ Some sort → (len ≤ length rest) × (len ≡ len) × (sort_at rest len ≡ Some sort)
unfolding sort_within
within_some rest len sort e = by (nat_le len (length rest)) refl e
  where
    by : (t : Bool) → nat_le len (length rest) ≡ t → (if t then sort_at rest len else None) ≡ Some sort → (len ≤ length rest) × (len ≡ len) × (sort_at rest len ≡ Some sort)
    by true k h = (leb-true len (length rest) k, refl, h)
    by false k h = absurd (cc)

mark_holds : (rest : List ℕ) (three two one : Option ℕ) → IsMarkAlone rest → sort_within rest 3 ≡ three → sort_within rest 2 ≡ two → sort_within rest 1 ≡ one → Holds rest (mark_by three two one)
unfolding mark_by
mark_holds rest (Some sort) two one alone h k l = found_mark_3 rest (record { sort = sort; len = 3 }) alone (within_some rest 3 sort h)
mark_holds rest None (Some sort) one alone h k l = found_mark_2 rest (record { sort = sort; len = 2 }) alone (within_none rest 3 h) (within_some rest 2 sort k)
mark_holds rest None None (Some sort) alone h k l = found_mark_1 rest (Some (record { sort = sort; len = 1 })) alone (within_none rest 3 h) (within_none rest 2 k) (within_some rest 1 sort l)
mark_holds rest None None None alone h k l = tt

-- a mark
mark_at : List ℕ → Option Seen
mark_at rest = mark_by (sort_within rest 3) (sort_within rest 2) (sort_within rest 1)

-- a string or a mark; numbers are not looked for, since the builtin text has none
string_or_mark : ℕ → List ℕ → Option Seen
string_or_mark b bs = if is_quote b then string_at b bs (through_quote b false bs) else (if is_digit b || b == 46 then None else mark_at (b ∷ bs))

-- a token
found_at : List ℕ → Option Seen
found_at [] = None
found_at (b ∷ bs) =
    if nat_le b 255 then (if is_word_start b then Some (word_at b bs) else (if b == 36 then variable_at b bs else string_or_mark b bs)) else None

neither : (a b : Bool) → (a || b) ≡ false → (a ≡ false) × (b ≡ false)
neither true b e = absurd (true≢false e)
neither false b e = (refl, e)

not_thirty_six : (b : ℕ) → (b == 36) ≡ false → b ≡ 36 → ⊥
not_thirty_six b e same = true≢false (subst (λ n. (n == 36) ≡ false) same e)

string_or_mark_holds : (b : ℕ) (bs : List ℕ) → b < 256 → is_word_start b ≡ false → (b == 36) ≡ false → Holds (b ∷ bs) (string_or_mark b bs)
unfolding string_or_mark mark_at
string_or_mark_holds b bs l word dollar = by (is_quote b) (is_digit b || b == 46) refl refl
  where
    by : (s t : Bool) → is_quote b ≡ s → (is_digit b || b == 46) ≡ t → Holds (b ∷ bs) (if s then string_at b bs (through_quote b false bs) else (if t then None else mark_at (b ∷ bs)))
    by true t h k = string_holds b bs (through_quote b false bs) l word (not_thirty_six b dollar) h refl
    by false true h k = tt
    by false false h k =
        let other = neither (is_digit b) (b == 46) k in
        mark_holds (b ∷ bs) (sort_within (b ∷ bs) 3) (sort_within (b ∷ bs) 2) (sort_within (b ∷ bs) 1)
        (mark_alone (b ∷ bs) other.0 (word_other (b ∷ bs) (omega arith) word) (variable_other (b ∷ bs) (omega arith) (not_thirty_six b dollar)) (string_other (b ∷ bs) (omega arith) h)
        (refuses_all is_float b bs refl (λ xs. float_false b xs other.0 other.1)))
        refl refl refl

-- what is found stands there
found_holds : (rest : List ℕ) → Holds rest (found_at rest)
unfolding found_at
found_holds [] = tt
found_holds (b ∷ bs) = by (nat_le b 255) (is_word_start b) (b == 36) refl refl refl
  where
    by : (s t u : Bool) → nat_le b 255 ≡ s → is_word_start b ≡ t → (b == 36) ≡ u
        → Holds (b ∷ bs) (if s then (if t then Some (word_at b bs) else (if u then variable_at b bs else string_or_mark b bs)) else None)
    by true true u h k m = let l : b ≤ 255 = leb-true b 255 h in word_holds b bs (omega arith) k
    by true false true h k m = let l : b ≤ 255 = leb-true b 255 h in variable_holds b bs (omega arith) k (eqb-true b 36 m)
    by true false false h k m = let l : b ≤ 255 = leb-true b 255 h in string_or_mark_holds b bs (omega arith) k m
    by false t u h k m = tt

-- ---- the piece at an index

-- this piece stands at this index
abbrev Stands : List ℕ → ℕ → Piece → Type 0
Stands bytes index (Blank len) = blank_at index (drop index bytes) ≡ Some len
Stands bytes index (Taken t) = (t.at ≡ index) × IsLongest bytes t × IsInRange bytes t

abbrev StandsIfAny : List ℕ → ℕ → Option Piece → Type 0
StandsIfAny bytes index None = Unit {0}
StandsIfAny bytes index (Some piece) = Stands bytes index piece

-- a token that was found at this index
token_of : ℕ → Option Seen → Option Piece
token_of index None = None
token_of index (Some found) = if found.sort == 3 then None else Some (Taken (record { sort = found.sort; at = index; len = found.len }))

piece_by : ℕ → List ℕ → Option ℕ → Option Piece
piece_by index rest (Some len) = Some (Blank len)
piece_by index rest None = if begins (codes "/*") rest then None else token_of index (found_at rest)

-- a blank or a token
piece_at : ℕ → List ℕ → Option Piece
piece_at index rest = piece_by index rest (blank_at index rest)

-- what is found stands at its index
token_stands : (bytes : List ℕ) (index : ℕ) (found : Option Seen) → index < length bytes → BeginsNoBlank index (drop index bytes) → Holds (drop index bytes) found → StandsIfAny bytes index (token_of index found)
unfolding token_of
token_stands bytes index None l here h = tt
token_stands bytes index (Some found) l here h = by (found.sort == 3) refl
  where
    token : Token
    token = record { sort = found.sort; at = index; len = found.len }

    by : (t : Bool) → (found.sort == 3) ≡ t → StandsIfAny bytes index (if t then None else Some (Taken token))
    by true e = tt
    by false e = (refl, longest_from bytes index (record { sort = found.sort; len = found.len }) l here h, λ three. absurd (true≢false (subst (λ n. (n == 3) ≡ false) three e)))

piece_stands : (bytes : List ℕ) (index : ℕ) → index < length bytes → StandsIfAny bytes index (piece_at index (drop index bytes))
unfolding piece_at piece_by
piece_stands bytes index l = by (blank_at index (drop index bytes)) (begins (codes "/*") (drop index bytes)) refl refl
  where
    by : (o : Option ℕ) (t : Bool) → blank_at index (drop index bytes) ≡ o → begins (codes "/*") (drop index bytes) ≡ t → StandsIfAny bytes index (piece_by index (drop index bytes) o)
    by (Some len) t e f = e
    by None true e f = rw f tt
    by None false e f = rw f (token_stands bytes index (found_at (drop index bytes)) l (record { no_blank = e; no_comment = f }) (found_holds (drop index bytes)))

-- ---- the pieces from an index on

len_of : Piece → ℕ
len_of (Blank len) = len
len_of (Taken t) = t.len

before_all : Option Piece → (Piece → Option (List Piece)) → Option (List Piece)
before_all None more = None
before_all (Some piece) more = option_map (λ pieces. piece ∷ pieces) (more piece)

-- the pieces of the bytes from an index on, up to this one, where so many turns are enough
scan : ℕ → ℕ → ℕ → List ℕ → Option (List Piece)
scan to n index [] = if index == to then Some [] else None
scan to zero index (b ∷ bs) = None
scan to (suc n) index (b ∷ bs) = before_all (piece_at index (b ∷ bs)) (λ piece. scan to n (index + len_of piece) (drop (len_of piece) (b ∷ bs)))

-- an index at which a byte is left is inside
within : (bytes : List ℕ) (index b : ℕ) (bs : List ℕ) → b ∷ bs ≡ drop index bytes → index < length bytes
within bytes index b bs e =
    let long : length (b ∷ bs) ≡ length bytes - index = ap length e ∙ length-drop index bytes in omega arith

-- one piece, and the pieces behind it
cut_by : (bytes : List ℕ) (index : ℕ) (pieces rest : List Piece) (piece : Piece) → pieces ≡ piece ∷ rest → Stands bytes index piece → IsCut bytes (index + len_of piece) rest (length bytes)
    → IsCut bytes index pieces (length bytes)
unfolding len_of
cut_by bytes index pieces rest (Blank len) e h more = subst (λ ps. IsCut bytes index ps (length bytes)) (sym e) (h, more)
cut_by bytes index pieces rest (Taken t) e h more = subst (λ ps. IsCut bytes index ps (length bytes)) (sym e) (h.0, h.1, h.2, more)

-- what a scan finds is a cut
scan_cuts : (bytes : List ℕ) (n index : ℕ) (rest : List ℕ) (pieces : List Piece) → rest ≡ drop index bytes → scan (length bytes) n index rest ≡ Some pieces → IsCut bytes index pieces (length bytes)
unfolding scan before_all
scan_cuts bytes n index [] pieces e found = by (index == length bytes) refl found
  where
    by : (t : Bool) → (index == length bytes) ≡ t → ◌≡◌ {A = Option (List Piece)} (if t then Some [] else None) (Some pieces) → IsCut bytes index pieces (length bytes)
    by true h k = let none : [] ≡ pieces = cc in subst (λ ps. IsCut bytes index ps (length bytes)) none (eqb-true index (length bytes) h)
    by false h k = absurd (cc)
scan_cuts bytes zero index (b ∷ bs) pieces e found = absurd (cc)
scan_cuts bytes (suc n) index (b ∷ bs) pieces e found =
    by (piece_at index (b ∷ bs)) found (subst (λ rest. StandsIfAny bytes index (piece_at index rest)) (sym e) (piece_stands bytes index (within bytes index b bs e)))
    (λ at rest ps f h. scan_cuts bytes n at rest ps f h)
  where
    Cuts : Type 0
    Cuts = (at : ℕ) (rest : List ℕ) (ps : List Piece) → rest ≡ drop at bytes → scan (length bytes) n at rest ≡ Some ps → IsCut bytes at ps (length bytes)

    further : Piece → Option (List Piece)
    further piece = scan (length bytes) n (index + len_of piece) (drop (len_of piece) (b ∷ bs))

    on : (piece : Piece) → drop (len_of piece) (b ∷ bs) ≡ drop (index + len_of piece) bytes
    on piece = ap (drop (len_of piece)) e ∙ drop-drop (len_of piece) index bytes

    behind : (piece : Piece) (o : Option (List Piece)) → further piece ≡ o → option_map (λ ps. piece ∷ ps) o ≡ Some pieces → Stands bytes index piece → Cuts → IsCut bytes index pieces (length bytes)
    behind piece None h k there cuts = absurd (cc)
    behind piece (Some ps) h k there cuts =
        let same : piece ∷ ps ≡ pieces = cc in
        cut_by bytes index pieces ps piece (sym same) there (cuts (index + len_of piece) (drop (len_of piece) (b ∷ bs)) ps (on piece) h)

    by : (o : Option Piece) → before_all o further ≡ Some pieces → StandsIfAny bytes index o → Cuts → IsCut bytes index pieces (length bytes)
    by None k there cuts = absurd (cc)
    by (Some piece) k there cuts = behind piece (further piece) refl k there cuts

-- ---- the builtin text

-- the sorts of the tokens that a scan finds
sorts_of : Option (List Piece) → Option (List ℕ)
sorts_of None = None
sorts_of (Some pieces) = Some (map (λ t. t.sort) (tokens_of pieces))

-- of the builtin text they are those of these kinds: this is evaluated
builtin_sorts : sorts_of (scan (length builtin_text) 478 0 builtin_text) ≡ Some (map sort_of_kind builtin_kinds)
unfolding sorts_of scan before_all piece_at piece_by token_of len_of found_at string_or_mark mark_at mark_by sort_within string_at variable_at word_at builtin_text keywords marks
builtin_sorts = refl

-- tokens of these sorts
pub record AreCut (bytes : List ℕ) (sorts : List ℕ) : Type 0 where
  pub tokens : List Token
  pub cut : AreTokens bytes tokens
  pub sorts_are : map (λ t. t.sort) tokens ≡ sorts

-- a scan that finds these sorts is such a cut
found_cut : (bytes sorts : List ℕ) (o : Option (List Piece)) → scan (length bytes) 478 0 bytes ≡ o → sorts_of o ≡ Some sorts → AreCut bytes sorts
unfolding sorts_of
found_cut bytes sorts None e h = absurd (cc)
found_cut bytes sorts (Some pieces) e h = record {
  tokens = tokens_of pieces;
  cut = record { pieces = pieces; cut = scan_cuts bytes 478 0 bytes pieces refl e; tokens_are = refl };
  sorts_are = cc;
}

-- the tokens of the builtin text have these kinds
pub builtin_cut : AreCut builtin_text (map sort_of_kind builtin_kinds)
builtin_cut = found_cut builtin_text (map sort_of_kind builtin_kinds) (scan (length builtin_text) 478 0 builtin_text) refl builtin_sorts
