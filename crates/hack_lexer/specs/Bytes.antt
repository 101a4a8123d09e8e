-- Bytes by their part in tokens (docs/language.md, Tokens).
use Rattle.std.specs.Prelude.{◌&&◌, ◌||◌, ◌==◌, nat_le, not, ℕ, Bool}

-- 0-9
abbrev pub is_digit : ℕ → Bool
is_digit b = nat_le 48 b && nat_le b 57

-- 0-7
abbrev pub is_octal : ℕ → Bool
is_octal b = nat_le 48 b && nat_le b 55

-- 0 or 1
abbrev pub is_binary : ℕ → Bool
is_binary b = b == 48 || b == 49

-- 0-9, A-F or a-f
abbrev pub is_hexadecimal : ℕ → Bool
is_hexadecimal b = is_digit b || (nat_le 65 b && nat_le b 70) || (nat_le 97 b && nat_le b 102)

-- A-Z, a-z or _
abbrev pub is_word_start : ℕ → Bool
is_word_start b = (nat_le 65 b && nat_le b 90) || (nat_le 97 b && nat_le b 122) || b == 95

-- A-Z, a-z, _ or 0-9
abbrev pub is_word_byte : ℕ → Bool
is_word_byte b = is_word_start b || is_digit b

-- space, tab, CR or LF
abbrev pub is_space : ℕ → Bool
is_space b = b == 32 || b == 9 || b == 13 || b == 10

-- any byte but LF
abbrev pub is_in_line : ℕ → Bool
is_in_line b = not (b == 10)

-- a visible byte or a space, but none of ' " \ $
abbrev pub is_key_byte : ℕ → Bool
is_key_byte b = nat_le 32 b && nat_le b 126 && not (b == 39 || b == 34 || b == 92 || b == 36)
