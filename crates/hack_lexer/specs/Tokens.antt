-- Tokens: which cut of the bytes of a file into blanks and tokens is the one that counts, and what is a fault in it
-- (docs/language.md, Tokens).
use Rattle.std.specs.Prelude.{◌≡◌, ◌⊎◌, ◌&&◌, ◌==◌, ◌<◌, ◌≤◌, ◌+◌, ◌^◌, if◌then◌else◌, ℕ, Bool, true, false, List, [], ◌∷◌, length, take, drop, slice_index, codes, nat_eq, Option, None, Some}
use Rattle.std.specs.List.{prefix_len, starts_with}
use Rattle.std.specs.Option.{option_map}
use Rattle.std.specs.Str.{bytes_eq}
use Rattle.hack_codes.specs.Numbers.{number}
use Rattle.hack_codes.specs.declared.code.Code.TheVariants as code
use Rattle.hack_types.specs.Places.{place_of}
use Rattle.hack_types.specs.declared.place.Place.{Place}
use Rattle.hack_lexer.specs.Bytes.{is_space, is_in_line, is_word_byte}
use Rattle.hack_lexer.specs.Forms.{sort_of, value_of_int}
use Rattle.hack_lexer.specs.declared.token.LexStop.{LexStop}
use Rattle.hack_lexer.specs.declared.token.LexStop.TheVariants.{Fault, NoMemory}
use Rattle.hack_lexer.specs.declared.token.Token.{Token}

-- ---- blanks

-- the bytes begin with this text
abbrev pub begins : List ℕ → List ℕ → Bool
begins text bytes = starts_with nat_eq bytes text

-- how many bytes there are through the next `*/`
abbrev pub through_close : List ℕ → Option ℕ
through_close [] = None
through_close (b ∷ bs) = if b == 42 && slice_index bs 0 == 47 then Some 2 else option_map (λ n. n + 1) (through_close bs)

-- the length of the blank with which the bytes from this index on begin, where they begin with one: `<?hh` at the very
-- start, a comment up to the next LF or the end, a comment through the next `*/`, or one byte
abbrev pub blank_at : ℕ → List ℕ → Option ℕ
blank_at index rest =
    if index == 0 && begins (codes "<?hh") rest then Some 4
    else (if begins (codes "//") rest then Some (prefix_len is_in_line rest)
    else (if begins (codes "/*") rest then option_map (λ n. 2 + n) (through_close (drop 2 rest))
    else (if is_space (slice_index rest 0) then Some 1
    else None)))

-- ---- tokens

-- the first bytes, so many, are `?as` and a word byte follows
abbrev pub is_cut_cast : List ℕ → ℕ → Bool
is_cut_cast rest len = bytes_eq (take len rest) (codes "?as") && is_word_byte (slice_index rest len)

-- the sort of the first bytes, so many, where they are a token: `?as` is one only where no word byte follows
abbrev pub sort_at : List ℕ → ℕ → Option ℕ
sort_at rest len = if is_cut_cast rest len then None else sort_of (take len rest)

-- no blank begins these bytes, and no comment that isn't closed
pub record BeginsNoBlank (index : ℕ) (rest : List ℕ) : Type 0 where
  pub no_blank : blank_at index rest ≡ None
  pub no_comment : begins (codes "/*") rest ≡ false

-- the longest token at this index
pub record IsLongest (bytes : List ℕ) (t : Token) : Type 0 where
  pub inside : t.at + t.len ≤ length bytes
  pub here : BeginsNoBlank t.at (drop t.at bytes)
  pub sort : sort_at (drop t.at bytes) t.len ≡ Some t.sort
  pub longest : (len : ℕ) → t.len < len → t.at + len ≤ length bytes → sort_at (drop t.at bytes) len ≡ None

-- the bytes of a token
abbrev pub text_of : List ℕ → Token → List ℕ
text_of bytes t = take t.len (drop t.at bytes)

-- an int spells at most 2^63 - 1
abbrev pub IsInRange : List ℕ → Token → Type 0
IsInRange bytes t = t.sort ≡ 3 → value_of_int (text_of bytes t) < 2 ^ 63

-- ---- cuts

pub data Piece : Type 0 where
  -- so many bytes that are one blank
  Blank : ℕ → Piece
  Taken : Token → Piece

-- the bytes from one index up to another are these blanks and tokens, each token the longest at its place
abbrev pub IsCut : List ℕ → ℕ → List Piece → ℕ → Type 0
IsCut bytes from [] to = from ≡ to
IsCut bytes from (Blank len ∷ pieces) to = (blank_at from (drop from bytes) ≡ Some len) × IsCut bytes (from + len) pieces to
IsCut bytes from (Taken t ∷ pieces) to = (t.at ≡ from) × IsLongest bytes t × IsInRange bytes t × IsCut bytes (from + t.len) pieces to

abbrev pub tokens_of : List Piece → List Token
tokens_of [] = []
tokens_of (Blank len ∷ pieces) = tokens_of pieces
tokens_of (Taken t ∷ pieces) = t ∷ tokens_of pieces

-- the bytes are blanks and these tokens
pub record AreTokens (bytes : List ℕ) (tokens : List Token) : Type 0 where
  pub pieces : List Piece
  pub cut : IsCut bytes 0 pieces (length bytes)
  pub tokens_are : tokens ≡ tokens_of pieces

-- ---- faults

-- no token begins at this index, or a comment that isn't closed does
pub record IsStuck (bytes : List ℕ) (index : ℕ) : Type 0 where
  pub inside : index < length bytes
  pub no_blank : blank_at index (drop index bytes) ≡ None
  pub no_token : (begins (codes "/*") (drop index bytes) ≡ true) ⊎ ((len : ℕ) → index + len ≤ length bytes → sort_at (drop index bytes) len ≡ None)

-- the int at this index is above 2^63 - 1
pub record IsTooLarge (bytes : List ℕ) (index : ℕ) : Type 0 where
  pub int : Token
  pub at : int.at ≡ index
  pub longest : IsLongest bytes int
  pub sort : int.sort ≡ 3
  pub above : 2 ^ 63 ≤ value_of_int (text_of bytes int)

abbrev pub IsFaultAt : List ℕ → ℕ → ℕ → Type 0
IsFaultAt bytes index found = ((found ≡ number code.NoToken) × IsStuck bytes index) ⊎ ((found ≡ number code.IntTooLarge) × IsTooLarge bytes index)

-- the first fault of the bytes has this place and code: what stands before it is blanks and tokens
pub record IsFault (bytes : List ℕ) (place : Place) (code : ℕ) : Type 0 where
  pub index : ℕ
  pub pieces : List Piece
  pub before : IsCut bytes 0 pieces index
  pub fault : IsFaultAt bytes index code
  pub place_is : place ≡ place_of bytes index

-- a stop is the first fault, or want of memory, of which nothing is said
abbrev pub IsStop : List ℕ → LexStop → Type 0
IsStop bytes (Fault place code) = IsFault bytes place code
IsStop bytes NoMemory = Unit {0}
