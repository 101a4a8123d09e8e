-- What the bytes taken settle is what the whole script answers.
use Rattle.std.proofs.Common.{◌≡◌, ℕ, Bool, true, List, [], ◌∷◌, ◌++◌, Some, None, inl, inr, refl, sym, subst, append_assoc, append-nil}
use Rattle.std.specs.Prelude.{Option}
use Rattle.std.specs.Io.KnownBytes.{IsAtEnd}
use Rattle.script_text.specs.Script.{Command, End, Next, One, No, Later, next_command, IsScript}
use Rattle.script_text.proofs.WholeScripts.{has_script}
use Rattle.hack_serve.specs.Session.{Session, first_session, EndsAt, AreReplied, EndsWith, Replies, end_status}
use Rattle.hack_serve.specs.Outcome.{told, StandFirst, IsAnswered, IsSettled}
use Rattle.hack_serve.specs.declared.status.Status.{Status}
use Rattle.hack_serve.proofs.Chains.{end_grown, chain_grown, chain_snoc, chain_script}
use Rattle.hack_serve.proofs.Replied.{replies_end, replies_stop}

-- nothing more comes where the source has ended
told_none : (left : Option (List ℕ)) → IsAtEnd left → told left ≡ []
told_none None e = refl
told_none (Some xs) e = e

-- the script ends behind these commands
ended : (left : Option (List ℕ)) (whole : Bool) (at : ℕ) (taken rest out : List ℕ) (cs : List (ℕ × Command)) (s : Session) (end : End) → (whole ≡ true → IsAtEnd left)
    → StandFirst whole 1 taken cs at rest → next_command whole at rest ≡ No end → AreReplied first_session cs out s → IsAnswered (taken ++ told left) out (end_status end)
ended left whole at taken rest out cs s end at_end chain next replied =
    let none : whole ≡ true → told left ≡ [] = λ e. told_none left (at_end e) in
    let all = chain_grown whole true 1 at taken (told left) rest cs none (λ _. refl) chain in
    let last = end_grown whole true at rest (told left) end none (λ _. refl) next in
    let is : IsScript 1 (taken ++ told left) (cs ++ []) end = chain_script 1 at (taken ++ told left) (rest ++ told left) cs [] end all last in
    (cs, end, subst (λ l. IsScript 1 (taken ++ told left) l end) (append-nil cs) is, replies_end first_session s cs out end replied)

-- the run ended at a command, behind these
stopped_at : (left : Option (List ℕ)) (whole : Bool) (at after : ℕ) (taken rest behind out : List ℕ) (cs : List (ℕ × Command)) (c : ℕ × Command) (s : Session) (status : Status)
    → (whole ≡ true → IsAtEnd left) → StandFirst whole 1 taken cs at rest → next_command whole at rest ≡ One c.1 c.0 after behind → AreReplied first_session cs out s
    → EndsAt s c.0 c.1 status → IsAnswered (taken ++ told left) out status
stopped_at left whole at after taken rest behind out cs c s status at_end chain next replied ends =
    let none : whole ≡ true → told left ≡ [] = λ e. told_none left (at_end e) in
    let one = chain_snoc whole 1 at after taken rest behind cs c chain next in
    let all = chain_grown whole true 1 after taken (told left) behind (cs ++ c ∷ []) none (λ _. refl) one in
    let later = has_script after (behind ++ told left) in
    let is : IsScript 1 (taken ++ told left) ((cs ++ c ∷ []) ++ later.0) later.1 =
    chain_script 1 after (taken ++ told left) (behind ++ told left) (cs ++ c ∷ []) later.0 later.1 all later.2 in
    (cs ++ c ∷ later.0, later.1, subst (λ l. IsScript 1 (taken ++ told left) l later.1) (append_assoc cs (c ∷ []) later.0) is, replies_stop first_session s cs later.0 c out later.1 status replied ends)

-- by what stands next behind these commands
ended_by : (left : Option (List ℕ)) (whole : Bool) (at : ℕ) (taken rest out : List ℕ) (cs : List (ℕ × Command)) (s : Session) (status : Status) (next : Next)
    → (whole ≡ true → IsAtEnd left) → StandFirst whole 1 taken cs at rest → next_command whole at rest ≡ next → AreReplied first_session cs out s → EndsWith s next status
    → IsAnswered (taken ++ told left) out status
ended_by left whole at taken rest out cs s status (One c line after behind) at_end chain next replied ends =
    stopped_at left whole at after taken rest behind out cs (line, c) s status at_end chain next replied ends
ended_by left whole at taken rest out cs s status (No end) at_end chain next replied ends =
    subst (IsAnswered (taken ++ told left) out) (sym ends) (ended left whole at taken rest out cs s end at_end chain next replied)
ended_by left whole at taken rest out cs s status Later at_end chain next replied ends = absurd ends

pub answered : (left : Option (List ℕ)) (taken out : List ℕ) (status : Status) → IsSettled taken left out status → IsAnswered (taken ++ told left) out status
answered left taken out status p =
    let f = p.2 in
    ended_by left f.whole f.line taken f.rest out p.0 p.1 status (next_command f.whole f.line f.rest) f.only_at_end f.stand refl p.3 p.4

-- ---- all bytes of a script

-- the commands up to the one that ends the run, or all
record HasEnd (line : ℕ) (bytes : List ℕ) (s : Session) (out : List ℕ) (status : Status) : Type 0 where
  commands : List (ℕ × Command)
  last : Session
  at : ℕ
  rest : List ℕ
  stand : StandFirst true line bytes commands at rest
  replied : AreReplied s commands out last
  ends : EndsWith last (next_command true at rest) status

has_end : (line : ℕ) (bytes out : List ℕ) (cs : List (ℕ × Command)) (end : End) (s : Session) (status : Status) → IsScript line bytes cs end → Replies s cs end out status
    → HasEnd line bytes s out status
has_end line bytes out [] end s status p q =
    record { commands = []; last = s; at = line; rest = bytes; stand = (refl, refl); replied = (q.0, refl); ends = subst (λ n. EndsWith s n status) (sym p) q.1 }
has_end line bytes out (c ∷ cs) end s status p (inl q) =
    record { commands = []; last = s; at = line; rest = bytes; stand = (refl, refl); replied = (q.1, refl); ends = subst (λ n. EndsWith s n status) (sym p.2) q.0 }
has_end line bytes out (c ∷ cs) end s status p (inr q) =
    let h = has_end p.0 p.1 q.1 cs end q.2 status p.3 q.5 in
    record {
      commands = c ∷ h.commands;
      last = h.last;
      at = h.at;
      rest = h.rest;
      stand = (p.0, p.1, p.2, h.stand);
      replied = (q.0, q.1, q.2, q.3, q.4, h.replied);
      ends = h.ends;
    }

pub settled_by_all : (script out : List ℕ) (status : Status) → IsAnswered script out status → IsSettled script (Some []) out status
settled_by_all script out status p =
    let h = has_end 1 script out p.0 p.1 first_session status p.2 p.3 in
    (h.commands, h.last, record { whole = true; only_at_end = λ _. refl; line = h.at; rest = h.rest; stand = h.stand }, h.replied, h.ends)
