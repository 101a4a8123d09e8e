-- Tables of cases: a text of keys, one space apart, and a value for each.
use Rattle.std.specs.Prelude.{◌≡◌, ◌≢◌, ◌==◌, if◌then◌else◌, ℕ, List, [], ◌∷◌, length, Option, Some, None, All, AllPairs}
use Rattle.std.specs.List.{slice_split}
use Rattle.std.specs.Str.{bytes_eq}
use Rattle.std.specs.Ordering.{nat_cmp}
use Rattle.std.specs.Cmp.Lexicographic.{slice_cmp}
use Rattle.std.specs.declared.cmp.Ordering.TheVariants.{Less}

-- the words of a text, one space apart; the empty text has none
abbrev pub words : List ℕ → List (List ℕ)
words [] = []
words (b ∷ bs) = slice_split (λ c. c == 32) (b ∷ bs)

-- the first stands before the second where they are ordered by bytes
abbrev pub IsBelow : List ℕ → List ℕ → Type 0
IsBelow a b = slice_cmp nat_cmp a b ≡ Less

-- the text is a list of so many words, none empty, that rise strictly by bytes
pub record AreKeys (keys : List ℕ) (number : ℕ) : Type 0 where
  pub count : length (words keys) ≡ number
  pub not_empty : All (λ word. word ≢ []) (words keys)
  pub rising : AllPairs IsBelow (words keys)

-- the value of the first entry under this key
abbrev pub value_of : List (List ℕ × ℕ) → List ℕ → Option ℕ
value_of [] key = None
value_of (entry ∷ entries) key = if bytes_eq entry.0 key then Some entry.1 else value_of entries key
