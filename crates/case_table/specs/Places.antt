-- What a table keeps beside its keys: where each word of them stands. No public clause names these.
use Rattle.std.specs.Prelude.{◌≡◌, ◌≢◌, ◌==◌, ◌+◌, ◌≤◌, ◌<◌, ℕ, zero, suc, Bool, not, List, [], length, slice_index, slice_index_or, All}
use Rattle.std.specs.List.{between}
use Rattle.case_table.specs.Cases.{words, AreKeys}

abbrev pub is_not_space : ℕ → Bool
is_not_space b = not (b == 32)

-- where the word of this index begins: behind the space that ends the word before it
abbrev pub start_of : List ℕ → ℕ → ℕ
start_of ends zero = 0
start_of ends (suc k) = slice_index ends k + 1

-- the word of this index
abbrev pub word_at : List ℕ → List ℕ → ℕ → List ℕ
word_at text ends k = between (start_of ends k) (slice_index ends k) text

-- the text is a list of so many words, none empty
pub record HasWords (text : List ℕ) (number : ℕ) : Type 0 where
  pub count : length (words text) ≡ number
  pub not_empty : All (λ word. word ≢ []) (words text)

-- the first words of the text, none empty, end at these indices
pub record ArePlaced (text ends : List ℕ) (number : ℕ) : Type 0 where
  pub inside : (k : ℕ) → k < number → (start_of ends k < slice_index ends k) × (slice_index ends k ≤ length text)
  pub each : (k : ℕ) → k < number → slice_index_or (words text) k [] ≡ word_at text ends k

-- the words of the text, none empty, end at these indices
pub record IsPlaced (text ends : List ℕ) : Type 0 where
  pub count : length (words text) ≡ length ends
  pub places : ArePlaced text ends (length ends)

-- the keys rise, and end at these indices
pub record IsTable (keys ends values : List ℕ) : Type 0 where
  pub same_length : length values ≡ length ends
  pub keys_rise : AreKeys keys (length ends)
  pub placed : IsPlaced keys ends
