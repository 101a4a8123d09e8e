-- Commands that stand first in bytes, with the place where they end, as more bytes come.
use Rattle.std.proofs.Common.{◌≡◌, ℕ, Bool, true, false, List, [], ◌∷◌, ◌++◌, refl, sym, ap, ◌∙◌, subst, append-nil}
use Rattle.script_text.specs.Script.{Command, End, One, No, Later, next_command, IsScript}
use Rattle.script_text.specs.Whole.{StandWhole}
use Rattle.script_text.proofs.SettledBodies.{command_found-settled, command_end-settled}
use Rattle.hack_serve.specs.Outcome.{StandFirst}

-- what stands next, as more bytes come, none once the bytes have ended
pub command_grown : (whole last : Bool) (line at after : ℕ) (bytes more rest : List ℕ) (c : Command) → (whole ≡ true → more ≡ []) → (whole ≡ true → last ≡ true)
    → next_command whole line bytes ≡ One c at after rest → next_command last line (bytes ++ more) ≡ One c at after (rest ++ more)
command_grown false last line at after bytes more rest c none stays e = command_found-settled last line at after bytes more rest c e
command_grown true last line at after bytes more rest c none stays e =
    let empty : more ≡ [] = none refl in
    ap (λ w. next_command w line (bytes ++ more)) (stays refl) ∙ ap (λ l. next_command true line (bytes ++ l)) empty ∙ ap (next_command true line) (append-nil bytes) ∙ e
    ∙ ap (One c at after) (sym (append-nil rest) ∙ ap (λ l. rest ++ l) (sym empty))

pub end_grown : (whole last : Bool) (line : ℕ) (bytes more : List ℕ) (end : End) → (whole ≡ true → more ≡ []) → (whole ≡ true → last ≡ true)
    → next_command whole line bytes ≡ No end → next_command last line (bytes ++ more) ≡ No end
end_grown false last line bytes more end none stays e = command_end-settled last line bytes more end e
end_grown true last line bytes more end none stays e =
    ap (λ w. next_command w line (bytes ++ more)) (stays refl) ∙ ap (λ l. next_command true line (bytes ++ l)) (none refl) ∙ ap (next_command true line) (append-nil bytes) ∙ e

pub chain_grown : (whole last : Bool) (line at : ℕ) (bytes more rest : List ℕ) (cs : List (ℕ × Command)) → (whole ≡ true → more ≡ []) → (whole ≡ true → last ≡ true)
    → StandFirst whole line bytes cs at rest → StandFirst last line (bytes ++ more) cs at (rest ++ more)
chain_grown whole last line at bytes more rest [] none stays p = (p.0, ap (λ l. l ++ more) p.1)
chain_grown whole last line at bytes more rest (c ∷ cs) none stays p = (
  p.0,
  p.1 ++ more,
  command_grown whole last line c.0 p.0 bytes more p.1 c.1 none stays p.2,
  chain_grown whole last p.0 at p.1 more rest cs none stays p.3,
)

-- one command more
pub chain_snoc : (whole : Bool) (line at after : ℕ) (bytes rest later : List ℕ) (cs : List (ℕ × Command)) (c : ℕ × Command) → StandFirst whole line bytes cs at rest
    → next_command whole at rest ≡ One c.1 c.0 after later → StandFirst whole line bytes (cs ++ c ∷ []) after later
chain_snoc whole line at after bytes rest later [] c p e =
    (after, later, ap (λ n. next_command whole n bytes) p.0 ∙ ap (next_command whole at) p.1 ∙ e, (refl, refl))
chain_snoc whole line at after bytes rest later (d ∷ cs) c p e = (p.0, p.1, p.2, chain_snoc whole p.0 at after p.1 rest later cs c p.3 e)

-- for the next more bytes have to come
pub chain_whole : (line at : ℕ) (bytes rest : List ℕ) (cs : List (ℕ × Command)) → StandFirst false line bytes cs at rest → next_command false at rest ≡ Later → StandWhole line bytes cs
chain_whole line at bytes rest [] p waits = ap (λ n. next_command false n bytes) p.0 ∙ ap (next_command false at) p.1 ∙ waits
chain_whole line at bytes rest (c ∷ cs) p waits = (p.0, p.1, p.2, chain_whole p.0 at p.1 rest cs p.3 waits)

-- a script goes on behind them
pub chain_script : (line at : ℕ) (bytes rest : List ℕ) (cs ds : List (ℕ × Command)) (end : End) → StandFirst true line bytes cs at rest → IsScript at rest ds end → IsScript line bytes (cs ++ ds) end
chain_script line at bytes rest [] ds end p s =
    subst (λ n. IsScript n bytes ds end) (sym p.0) (subst (λ l. IsScript at l ds end) (sym p.1) s)
chain_script line at bytes rest (c ∷ cs) ds end p s = (p.0, p.1, p.2, chain_script p.0 at p.1 rest cs ds end p.3 s)
