-- The commands that stand whole in bytes that may go on (docs/script.md, Form).
use Rattle.std.specs.Prelude.{◌≡◌, ℕ, false, List, [], ◌∷◌}
use Rattle.script_text.specs.Script.{Command, One, Later, next_command}

-- of these bytes, whose first is in this line, exactly these commands stand whole, each with its last LF; behind them neither
-- another command nor the end of the script is settled
abbrev pub StandWhole : ℕ → List ℕ → List (ℕ × Command) → Type 0
StandWhole line bytes [] = next_command false line bytes ≡ Later
StandWhole line bytes (command ∷ commands) = (after : ℕ) × (rest : List ℕ)
    × (next_command false line bytes ≡ One command.1 command.0 after rest) × StandWhole after rest commands
