-- The forms of tokens: which bytes are a token, and of which sort (docs/language.md, Tokens).
use Rattle.std.specs.Prelude.{◌&&◌, ◌||◌, ◌==◌, ◌+◌, ◌*◌, ◌-◌, nat_le, not, if◌then◌else◌, ℕ, Bool, true, false, List, [], ◌∷◌, length, take, drop, fold, codes, Option, None, Some, unwrap_or}
use Rattle.std.specs.List.{prefix_len, list_all, position_from}
use Rattle.std.specs.Option.{option_map}
use Rattle.std.specs.Str.{bytes_eq}
use Rattle.case_table.specs.Cases.{words}
use Rattle.hack_lexer.specs.Bytes.{is_digit, is_octal, is_binary, is_hexadecimal, is_word_start, is_word_byte, is_key_byte}

-- ---- words and variables

-- [A-Za-z_][A-Za-z0-9_]*
abbrev pub is_word : List ℕ → Bool
is_word [] = false
is_word (b ∷ bs) = is_word_start b && list_all is_word_byte bs

-- $ and a word
abbrev pub is_variable : List ℕ → Bool
is_variable [] = false
is_variable (b ∷ bs) = b == 36 && is_word bs

-- ---- ints

-- at least one byte, and each passes
abbrev pub are_some : (ℕ → Bool) → List ℕ → Bool
are_some test bs = nat_le 1 (length bs) && list_all test bs

-- x or X, and b or B
abbrev pub is_hexadecimal_mark : ℕ → Bool
is_hexadecimal_mark b = b == 120 || b == 88

abbrev pub is_binary_mark : ℕ → Bool
is_binary_mark b = b == 98 || b == 66

-- what may follow a 0: nothing, x and hexadecimal digits, b and binary digits, or octal digits
abbrev pub is_behind_zero : List ℕ → Bool
is_behind_zero [] = true
is_behind_zero (b ∷ bs) =
    if is_hexadecimal_mark b then are_some is_hexadecimal bs else (if is_binary_mark b then are_some is_binary bs else list_all is_octal (b ∷ bs))

-- a 0 and what may follow it, or [1-9][0-9]*
abbrev pub is_int : List ℕ → Bool
is_int [] = false
is_int (b ∷ bs) = if b == 48 then is_behind_zero bs else is_digit b && list_all is_digit bs

-- the digit that a byte stands for
abbrev pub digit_of : ℕ → ℕ
digit_of b = if nat_le b 57 then b - 48 else (if nat_le b 70 then b - 55 else b - 87)

-- the number that digits spell in this base
abbrev pub number_of : ℕ → List ℕ → ℕ
number_of base digits = fold (λ n b. base * n + digit_of b) 0 digits

-- the number that an int spells behind its 0
abbrev pub value_behind_zero : List ℕ → ℕ
value_behind_zero [] = 0
value_behind_zero (b ∷ bs) = if is_hexadecimal_mark b then number_of 16 bs else (if is_binary_mark b then number_of 2 bs else number_of 8 (b ∷ bs))

-- the number that an int spells
abbrev pub value_of_int : List ℕ → ℕ
value_of_int [] = 0
value_of_int (b ∷ bs) = if b == 48 then value_behind_zero bs else number_of 10 (b ∷ bs)

-- ---- floats

-- digits with a sign before them, or without one
abbrev pub is_signed : List ℕ → Bool
is_signed [] = false
is_signed (b ∷ bs) = if b == 43 || b == 45 then are_some is_digit bs else are_some is_digit (b ∷ bs)

-- [eE][+-]?[0-9]+
abbrev pub is_exponent : List ℕ → Bool
is_exponent [] = false
is_exponent (b ∷ bs) = (b == 101 || b == 69) && is_signed bs

-- nothing or an exponent
abbrev pub is_end : List ℕ → Bool
is_end [] = true
is_end (b ∷ bs) = is_exponent (b ∷ bs)

-- [0-9]+ and then nothing or an exponent
abbrev pub is_fraction : List ℕ → Bool
is_fraction bs = nat_le 1 (prefix_len is_digit bs) && is_end (drop (prefix_len is_digit bs) bs)

-- what follows so many digits in a float: a point and a fraction, or an exponent where there is a digit
abbrev pub is_behind_whole : ℕ → List ℕ → Bool
is_behind_whole digits [] = false
is_behind_whole digits (b ∷ bs) = if b == 46 then is_fraction bs else nat_le 1 digits && is_exponent (b ∷ bs)

-- [0-9]*\.[0-9]+ with or without an exponent, or [0-9]+ with one
abbrev pub is_float : List ℕ → Bool
is_float text = is_behind_whole (prefix_len is_digit text) (drop (prefix_len is_digit text) text)

-- ---- strings

-- how many bytes there are through the next quote that no backslash takes along; `taken` says that the byte before the
-- first is a backslash that takes it
abbrev pub through_quote : ℕ → Bool → List ℕ → Option ℕ
through_quote quote taken [] = None
through_quote quote taken (b ∷ bs) =
    if not taken && b == quote then Some 1 else option_map (λ n. n + 1) (through_quote quote (not taken && b == 92) bs)

-- there is one, and it is this
abbrev pub is_that : Option ℕ → ℕ → Bool
is_that None n = false
is_that (Some m) n = m == n

-- from ' to the next ', or from " to the next "
abbrev pub is_string : List ℕ → Bool
is_string [] = false
is_string (b ∷ bs) = (b == 39 || b == 34) && is_that (through_quote b false bs) (length bs)

-- what stands between the quotes
abbrev pub content_of : List ℕ → List ℕ
content_of text = drop 1 (take (length text - 1) text)

-- a string of 1 to 255 bytes that a key may have
abbrev pub is_key_string : List ℕ → Bool
is_key_string text = nat_le 1 (length (content_of text)) && nat_le (length (content_of text)) 255 && list_all is_key_byte (content_of text)

-- ---- marks, keywords and sorts

-- the marks, in the order of the page
unfoldable pub marks : List (List ℕ)
marks = words (codes "{ } ( ) [ ] ; , < > <= >= <=> == != === !== = + - * / % ** . ! && || & | ^ ~ ? ?? ?-> ?as -> => :: : ++ -- += -= *= /= %= .= &= |= ^= **= ??= ... <<")

-- the keywords, in the order of the page
unfoldable pub keywords : List (List ℕ)
keywords = words (codes "abstract arraykey as bool break case catch class const continue default dict do echo else enum extends false final finally float for foreach function if implements int interface is keyset mixed new newtype nonnull noreturn nothing null num parent private protected public return self shape static string super switch this throw trait true try type use vec void while")

-- 7 and on, in the order of the marks
abbrev pub sort_of_mark : List ℕ → Option ℕ
sort_of_mark text = position_from (bytes_eq text) 7 marks

-- 62 and on for the keywords, behind the 55 marks and in their order, and 0 for a name
abbrev pub sort_of_word : List ℕ → ℕ
sort_of_word text = unwrap_or (position_from (bytes_eq text) 62 keywords) 0

-- 2 for $this, and 1 for every other variable
abbrev pub sort_of_variable : List ℕ → ℕ
sort_of_variable text = if bytes_eq text (codes "$this") then 2 else 1

-- 6 for a key string, and 5 for every other string
abbrev pub sort_of_string : List ℕ → ℕ
sort_of_string text = if is_key_string text then 6 else 5

-- the sort of these bytes, where they are a token
abbrev pub sort_of : List ℕ → Option ℕ
sort_of text =
    if is_word text then Some (sort_of_word text)
    else (if is_variable text then Some (sort_of_variable text)
    else (if is_int text then Some 3
    else (if is_float text then Some 4
    else (if is_string text then Some (sort_of_string text)
    else sort_of_mark text))))
