-- What stands behind the last byte that a script may have.
use Rattle.std.specs.Prelude.{ℕ, List, [], ◌∷◌, Option}
use Rattle.std.specs.Io.KnownBytes.{Consumes, Keeps}
use Rattle.hack_io.specs.Causes.{Rose}
use Rattle.script_text.specs.declared.head.ReadStop.{ReadStop}
use Rattle.script_text.specs.declared.head.ReadStop.TheVariants as stop

-- the read failed, or gave a further byte
abbrev pub IsNoEnd : ℕ → ℕ → Option (List ℕ) → Option (List ℕ) → ReadStop → Type 0
IsNoEnd faults_before faults_after source rest stop.Fault = Rose faults_before faults_after × Keeps source rest
IsNoEnd faults_before faults_after source rest stop.TooLong = (byte : ℕ) × Consumes source rest (byte ∷ [])
IsNoEnd faults_before faults_after source rest (stop.BadScript line) = ⊥
IsNoEnd faults_before faults_after source rest stop.NoMemory = ⊥
