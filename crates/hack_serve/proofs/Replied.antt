-- Replies to commands one after another, and how a run of them ends.
use Rattle.std.proofs.Common.{◌≡◌, ◌≢◌, ◌⊎◌, inl, inr, ℕ, List, [], ◌∷◌, ◌++◌, refl, sym, ap, ◌∙◌, subst, append_assoc, append-nil}
use Rattle.script_text.specs.Script.{Command, File, Drop, Check, Begin, Wait, End}
use Rattle.hack_serve.specs.Session.{Session, IsReplied, EndsAt, AreReplied, Replies, end_status}
use Rattle.hack_serve.specs.declared.status.Status.{Status}
use Rattle.hack_serve.specs.declared.status.Status.TheVariants.{Done, Usage, BadScript, ReadFault, WriteFault, TooLong, NotBuilt, NoMemory}

-- one reply more
pub replied_snoc : (s mid next : Session) (cs : List (ℕ × Command)) (c : ℕ × Command) (out text : List ℕ) → AreReplied s cs out mid → IsReplied mid c.1 text next
    → AreReplied s (cs ++ c ∷ []) (out ++ text) next
replied_snoc s mid next [] c out text p r =
    (text, [], next, subst (λ x. IsReplied x c.1 text next) p.1 r, ap (λ l. l ++ text) p.0 ∙ sym (append-nil text), (refl, refl))
replied_snoc s mid next (d ∷ cs) c out text p r =
    (p.0, p.1 ++ text, p.2, p.3, ap (λ l. l ++ text) p.4 ∙ append_assoc p.0 p.1 text, replied_snoc p.2 mid next cs c p.1 text p.5 r)

-- all were replied to
pub replies_end : (s last : Session) (cs : List (ℕ × Command)) (out : List ℕ) (end : End) → AreReplied s cs out last → Replies s cs end out (end_status end)
replies_end s last [] out end p = (p.0, refl)
replies_end s last (c ∷ cs) out end p = inr (p.0, p.1, p.2, p.3, p.4, replies_end p.2 last cs p.1 end p.5)

-- the run ended at a command
pub replies_stop : (s last : Session) (cs ds : List (ℕ × Command)) (c : ℕ × Command) (out : List ℕ) (end : End) (status : Status) → AreReplied s cs out last → EndsAt last c.0 c.1 status
    → Replies s (cs ++ c ∷ ds) end out status
replies_stop s last [] ds c out end status p e = inl (subst (λ x. EndsAt x c.0 c.1 status) p.1 e, p.0)
replies_stop s last (d ∷ cs) ds c out end status p e = inr (p.0, p.1, p.2, p.3, p.4, replies_stop p.2 last cs ds c p.1 end status p.5 e)

-- ---- statuses

pub ended_status : (s : Session) (line : ℕ) (c : Command) (status : Status) → EndsAt s line c status → (status ≡ BadScript line) ⊎ (status ≡ NotBuilt)
ended_status s line (File name body) status e = inl e.1
ended_status s line (Drop name) status e = absurd e
ended_status s line Check status e = inr e.1
ended_status s line Begin status e = inr e
ended_status s line Wait status e = inr e

pub is_no_memory : (status : Status) → (status ≡ NoMemory) ⊎ (status ≢ NoMemory)
is_no_memory Done = inr (λ e. absurd cc)
is_no_memory Usage = inr (λ e. absurd cc)
is_no_memory (BadScript line) = inr (λ e. absurd cc)
is_no_memory ReadFault = inr (λ e. absurd cc)
is_no_memory WriteFault = inr (λ e. absurd cc)
is_no_memory TooLong = inr (λ e. absurd cc)
is_no_memory NotBuilt = inr (λ e. absurd cc)
is_no_memory NoMemory = inl refl
