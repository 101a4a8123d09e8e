-- What the forms of scripts and of replies have in common: the names of files, and the bytes that end lines and part words
-- (docs/script.md, Commands).
use Rattle.std.specs.Prelude.{◌≡◌, ◌⊎◌, ◌≤◌, ℕ, List, [], ◌∷◌, length}
use Rattle.std.specs.List.{AllByRecursion}

-- A-Z, a-z, 0-9 and _ . / -
abbrev pub IsNameByte : ℕ → Type 0
IsNameByte b = ((65 ≤ b) × (b ≤ 90)) ⊎ ((97 ≤ b) × (b ≤ 122)) ⊎ ((45 ≤ b) × (b ≤ 57)) ⊎ (b ≡ 95)

-- 1 to 255 such bytes
pub record IsFileName (name : List ℕ) : Type 0 where
  pub not_empty : 1 ≤ length name
  pub not_long : length name ≤ 255
  pub each : AllByRecursion IsNameByte name

-- LF
abbrev pub newline : List ℕ
newline = 10 ∷ []

-- one space
abbrev pub space : List ℕ
space = 32 ∷ []
