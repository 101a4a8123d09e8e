-- What the parts of the lexer find at the front of the bytes that are left. No public clause names these.
use Rattle.std.specs.Prelude.{◌≡◌, ◌<◌, ◌≤◌, ◌+◌, ℕ, Bool, true, false, List, length, take, drop, Option, None, Some, MatchOption}
use Rattle.std.specs.List.{position_from}
use Rattle.std.specs.Str.{bytes_eq}
use Rattle.case_table.specs.Cases.{value_of}
use Rattle.hack_codes.specs.Numbers.{number}
use Rattle.hack_lexer.specs.Bytes.{is_digit, is_octal, is_binary, is_hexadecimal, is_word_byte, is_in_line}
use Rattle.hack_lexer.specs.Forms.{sort_of, sort_of_mark, keywords, marks}
use Rattle.hack_lexer.specs.Tokens.{sort_at, blank_at, IsLongest, IsInRange, IsFaultAt}
use Rattle.hack_lexer.specs.declared.step.Step.{Step}
use Rattle.hack_lexer.specs.declared.step.Step.TheVariants as step
use Rattle.hack_lexer.specs.declared.run.Class.{Class}
use Rattle.hack_lexer.specs.declared.run.Class.TheVariants as class
use Rattle.hack_lexer.specs.declared.scan.Found.{Found}

-- the bytes of a class
abbrev pub is_in : Class → ℕ → Bool
is_in class.Digit = is_digit
is_in class.Octal = is_octal
is_in class.Binary = is_binary
is_in class.Hexadecimal = is_hexadecimal
is_in class.WordByte = is_word_byte
is_in class.InLine = is_in_line

-- so many of the bytes pass, and no more do
pub record IsLongestPass (test : List ℕ → Bool) (rest : List ℕ) (len : ℕ) : Type 0 where
  pub inside : len ≤ length rest
  pub passes : test (take len rest) ≡ true
  pub longest : (n : ℕ) → len < n → n ≤ length rest → test (take n rest) ≡ false

-- the bytes pass in no length
pub record NonePasses (test : List ℕ → Bool) (rest : List ℕ) : Type 0 where
  pub none : (n : ℕ) → n ≤ length rest → test (take n rest) ≡ false

abbrev pub HasLongest : (List ℕ → Bool) → List ℕ → Option ℕ → Type 0
HasLongest test rest len = MatchOption len (NonePasses test rest) (IsLongestPass test rest)

-- the longest token at the front
pub record IsFound (rest : List ℕ) (found : Found) : Type 0 where
  pub inside : found.len ≤ length rest
  pub not_empty : 0 < found.len
  pub sort : sort_at rest found.len ≡ Some found.sort
  pub longest : (n : ℕ) → found.len < n → n ≤ length rest → sort_at rest n ≡ None

-- no token at the front
pub record NoneFound (rest : List ℕ) : Type 0 where
  pub none : (n : ℕ) → n ≤ length rest → sort_at rest n ≡ None

abbrev pub FindsToken : List ℕ → Option Found → Type 0
FindsToken rest found = MatchOption found (NoneFound rest) (IsFound rest)

-- what stands at the front is a mark or nothing
pub record IsMarkAlone (rest : List ℕ) : Type 0 where
  pub alone : (n : ℕ) → n ≤ length rest → sort_of (take n rest) ≡ sort_of_mark (take n rest)

-- the mark of so many bytes, or that there is none
abbrev pub IsMarkOf : List ℕ → ℕ → Option Found → Type 0
IsMarkOf rest len None = len ≤ length rest → sort_at rest len ≡ None
IsMarkOf rest len (Some found) = (len ≤ length rest) × (found.len ≡ len) × (sort_at rest len ≡ Some found.sort)

-- the table has the keywords with their sorts, or the marks
abbrev pub HasKeywords : List (List ℕ × ℕ) → Type 0
HasKeywords table = (text : List ℕ) → value_of table text ≡ position_from (bytes_eq text) 62 keywords

abbrev pub HasMarks : List (List ℕ × ℕ) → Type 0
HasMarks table = (text : List ℕ) → value_of table text ≡ position_from (bytes_eq text) 7 marks

-- what stands at this index
abbrev pub IsStep : List ℕ → ℕ → Step → Type 0
IsStep bytes index (step.Blank len) = (blank_at index (drop index bytes) ≡ Some len) × (0 < len) × (index + len ≤ length bytes)
IsStep bytes index (step.Taken t) = (t.at ≡ index) × (0 < t.len) × IsLongest bytes t × IsInRange bytes t
IsStep bytes index (step.Fault code) = IsFaultAt bytes index (number code)
