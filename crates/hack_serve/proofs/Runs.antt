-- A run, from what was read and replied to so far to what it answers.
use Rattle.std.proofs.Common.{◌≡◌, ◌≢◌, ◌⊎◌, inl, inr, ⊎_elim, ℕ, ◌+◌, ◌-◌, ◌*◌, ◌^◌, ◌≤◌, Bool, true, false, List, [], ◌∷◌, ◌++◌, Some, None, length, take, drop, refl, sym, ap, ◌∙◌, subst, arith, append_assoc, length-append, take-append-drop}
use Rattle.std.specs.Prelude.{Option, IsSome}
use Rattle.std.specs.Io.KnownBytes.{Appends, Consumes, IsAtEnd}
use Rattle.std.proofs.KnownBytes.{Appends-nil, Appends-trans, Consumes-nil, Consumes-trans}
use Rattle.script_text.specs.Script as script
use Rattle.script_text.specs.Script.{End, AtEnd, AtQuit, AtBad, Next, One, No, Later, next_command}
use Rattle.script_text.specs.Reader.{Reader, Takes, Stops}
use Rattle.script_text.specs.Replies.{reply_text}
use Rattle.script_text.specs.declared.head.ReadStop.{ReadStop}
use Rattle.script_text.specs.declared.head.ReadStop.TheVariants as stop
use Rattle.script_text.specs.declared.reply.Reply.{Reply}
use Rattle.script_text.specs.declared.stand.Stand.TheVariants.{BeforeHead}
use Rattle.hack_serve.specs.Commands.{status_of, command_of, IsLineOf, IsGoodEnd, ReadsCommand}
use Rattle.hack_serve.specs.Session as model
use Rattle.hack_serve.specs.Session.{first_session, IsReplied, EndsAt, EndsWith, AreReplied, end_status}
use Rattle.hack_serve.specs.Outcome.{StandFirst, StandTaken, IsSettled, IsBrokenOff, most_taken, Fits, Answers}
use Rattle.hack_serve.specs.Running.{StandsFor, HasReplied, IsShort, twice_names}
use Rattle.hack_serve.proofs.Uses.{command_uses}
use Rattle.hack_serve.specs.declared.command.Command.{Command}
use Rattle.hack_serve.specs.declared.session.Session.{Session}
use Rattle.hack_serve.specs.declared.status.Status.{Status}
use Rattle.hack_serve.specs.declared.status.Status.TheVariants.{Done, Usage, BadScript, ReadFault, WriteFault, TooLong, NotBuilt, NoMemory}
use Rattle.hack_serve.proofs.Chains.{chain_grown, chain_snoc, chain_whole}
use Rattle.hack_serve.proofs.Replied.{replied_snoc, ended_status, is_no_memory}
use Rattle.hack_serve.proofs.Settled.{answered}

-- what was read of the source and written to the sink so far
pub record HasRun (source left before now : Option (List ℕ)) (reader : Reader) (session : Session) : Type 0 where
  pub taken : List ℕ
  pub out : List ℕ
  pub commands : List (ℕ × script.Command)
  pub s : model.Session
  pub consumed : Consumes source left taken
  pub appended : Appends before now out
  -- the commands stand first in what was taken, and the reader stands behind them
  pub stand : StandFirst reader.ended 1 taken commands reader.line reader.unused
  pub end : reader.ended ≡ true → IsAtEnd left
  pub count : reader.taken ≡ length taken
  pub replied : AreReplied first_session commands out s
  pub stands : StandsFor session s

-- and the next command, which isn't replied to yet
pub record HasNext (source left before now : Option (List ℕ)) (reader : Reader) (session : Session) (command : Command) : Type 0 where
  pub taken : List ℕ
  pub out : List ℕ
  pub commands : List (ℕ × script.Command)
  pub line : ℕ
  pub s : model.Session
  pub consumed : Consumes source left taken
  pub appended : Appends before now out
  pub noted : IsLineOf command line
  pub few : length taken ≤ 2147483647
  -- the commands stand first in what was taken, and then it stands
  pub at : ℕ
  pub rest : List ℕ
  pub stand : StandFirst reader.ended 1 taken commands at rest
  pub next : next_command reader.ended at rest ≡ One (command_of command) line reader.line reader.unused
  pub end : reader.ended ≡ true → IsAtEnd left
  pub count : reader.taken ≡ length taken
  pub replied : AreReplied first_session commands out s
  pub stands : StandsFor session s

-- before the first command
pub run_start : (source before : Option (List ℕ)) (reader : Reader) (session : Session)
    → reader ≡ record { unused = []; taken = 0; ended = false; line = 1; stand = BeforeHead } → StandsFor session first_session → HasRun source source before before reader session
run_start source before reader session new stands = record {
  taken = [];
  out = [];
  commands = [];
  s = first_session;
  consumed = Consumes-nil source;
  appended = Appends-nil before;
  stand = (sym (ap (λ (r : Reader). r.line) new), sym (ap (λ (r : Reader). r.unused) new));
  end = λ e. absurd (apart reader.ended e (ap (λ (r : Reader). r.ended) new));
  count = ap (λ (r : Reader). r.taken) new;
  replied = (refl, refl);
  stands = stands;
}
  where
    apart : (b : Bool) → b ≡ true → b ≡ false → ⊥
    apart b p q = absurd cc

-- nothing was read, and memory ran out
pub start_stopped : (source before : Option (List ℕ)) → Answers NoMemory source source before before
start_stopped source before = ([], [], Consumes-nil source, Appends-nil before, omega arith, ([], first_session, nothing, (refl, refl)))
  where
    nothing : StandTaken [] source []
    nothing = record { whole = false; only_at_end = λ e. absurd cc; line = 1; rest = []; stand = (refl, refl) }

-- ---- a call of the reader

-- what was taken, and that the source has ended where a pull gave 0
end_later : (mid left : Option (List ℕ)) (r q : Reader) (P : List ℕ → Type 0) → Takes mid left r q P → (r.ended ≡ true → IsAtEnd mid) → q.ended ≡ true → IsAtEnd left
end_later mid left r q P t end ended = cases (t.end ended)
  where
    cases : (r.ended ≡ true) ⊎ IsAtEnd left → IsAtEnd left
    cases (inl e) = subst IsAtEnd (sym (t.still e)) (end e)
    cases (inr x) = x

count_later : (a b m n : ℕ) → b ≡ a + n → a ≡ m → b ≡ m + n
count_later a b m n p q = omega (arith, p, q)

-- no more bytes are taken than a script may have
few_taken : (a b : ℕ) (taken more : List ℕ) → b ≡ a + length more → a ≡ length taken → b ≤ 2147483647 → length (taken ++ more) ≤ 2147483647
few_taken a b taken more p q h = omega (arith, p, q, h, length-append taken more)

-- the commands so far, in what was taken with what came
grown : (source mid left before now : Option (List ℕ)) (r q : Reader) (own : Session) (P : List ℕ → Type 0) (run : HasRun source mid before now r own) (t : Takes mid left r q P)
    → StandFirst q.ended 1 (run.taken ++ t.more) run.commands r.line (r.unused ++ t.more)
grown source mid left before now r q own P run t = chain_grown r.ended q.ended 1 r.line run.taken t.more r.unused run.commands t.none t.stays run.stand

pub read_one : (source mid left before now : Option (List ℕ)) (r q : Reader) (own : Session) (command : Command) → HasRun source mid before now r own
    → Takes mid left r q (λ more. ReadsCommand r more q (Some command)) → q.taken ≤ 2147483647 → HasNext source left before now q own command
read_one source mid left before now r q own command run t most = record {
  taken = run.taken ++ t.more;
  out = run.out;
  commands = run.commands;
  line = t.holds.0;
  s = run.s;
  consumed = Consumes-trans source mid left run.taken t.more run.consumed t.consumed;
  appended = run.appended;
  noted = t.holds.1;
  few = few_taken r.taken q.taken run.taken t.more t.count run.count most;
  at = r.line;
  rest = r.unused ++ t.more;
  stand = grown source mid left before now r q own (λ more. ReadsCommand r more q (Some command)) run t;
  next = t.holds.2;
  end = end_later mid left r q (λ more. ReadsCommand r more q (Some command)) t run.end;
  count = count_later r.taken q.taken (length run.taken) (length t.more) t.count run.count ∙ sym (length-append run.taken t.more);
  replied = run.replied;
  stands = run.stands;
}

abbrev first_taken : (source mid left before now : Option (List ℕ)) (r q : Reader) (own : Session) (P : List ℕ → Type 0) (run : HasRun source mid before now r own) (t : Takes mid left r q P)
    → StandTaken (run.taken ++ t.more) left run.commands
first_taken source mid left before now r q own P run t = record {
  whole = q.ended;
  only_at_end = end_later mid left r q P t run.end;
  line = r.line;
  rest = r.unused ++ t.more;
  stand = grown source mid left before now r q own P run t;
}

-- ---- how a run ends

-- at the end of the script
good_status : (end : End) → IsGoodEnd end → end_status end ≡ Done
good_status AtEnd good = refl
good_status AtQuit good = refl
good_status (AtBad line) good = absurd good

-- what was taken is enough to say how the run ends, where what stands next in it does
by_next : (source mid left before now : Option (List ℕ)) (r q : Reader) (own : Session) (P : List ℕ → Type 0) (next : Next) (status : Status)
    (run : HasRun source mid before now r own) (t : Takes mid left r q P) → next_command q.ended r.line (r.unused ++ t.more) ≡ next → EndsWith run.s next status
    → IsSettled (run.taken ++ t.more) left run.out status
by_next source mid left before now r q own P next status run t is ends = (
  run.commands,
  run.s,
  first_taken source mid left before now r q own P run t,
  run.replied,
  subst (λ n. EndsWith run.s n status) (sym is) ends,
)

pub run_done : (source mid left before now : Option (List ℕ)) (r q : Reader) (own : Session) → HasRun source mid before now r own
    → Takes mid left r q (λ more. ReadsCommand r more q None) → q.taken ≤ 2147483647 → Answers Done source left before now
run_done source mid left before now r q own run t most =
    let all = run.taken ++ t.more in
    let settled : IsSettled all left run.out Done =
    by_next source mid left before now r q own (λ more. ReadsCommand r more q None) (No t.holds.0) Done run t t.holds.2 (sym (good_status t.holds.0 t.holds.1)) in (
      all,
      run.out,
      Consumes-trans source mid left run.taken t.more run.consumed t.consumed,
      run.appended,
      few_taken r.taken q.taken run.taken t.more t.count run.count most,
      (settled, answered left all run.out Done settled),
    )

-- where more bytes have to come, and the source had not ended, the commands so far stand whole
waiting : (source mid before now : Option (List ℕ)) (r : Reader) (own : Session) (more : List ℕ) (run : HasRun source mid before now r own) → r.ended ≡ false
    → next_command false r.line (r.unused ++ more) ≡ Later → IsBrokenOff (run.taken ++ more) run.out
waiting source mid before now r own more run open_ waits =
    let here : StandFirst false 1 run.taken run.commands r.line r.unused = subst (λ w. StandFirst w 1 run.taken run.commands r.line r.unused) open_ run.stand in
    let all = chain_grown false false 1 r.line run.taken more r.unused run.commands (λ e. absurd cc) (λ e. e) here in
    (run.commands, run.s, chain_whole 1 r.line (run.taken ++ more) (r.unused ++ more) run.commands all waits, run.replied)

-- at a stop of the reader
pub run_stopped : (faults after : ℕ) (source mid left before now : Option (List ℕ)) (r q : Reader) (own : Session) (s : ReadStop) → HasRun source mid before now r own
    → Stops faults after mid left r q (λ whole bytes line. next_command whole r.line bytes ≡ No (AtBad line)) (λ bytes. next_command false r.line bytes ≡ Later) s
    → q.taken ≤ 2147483647 → Answers (status_of s) source left before now
run_stopped faults after source mid left before now r q own (stop.BadScript line) run t most =
    let P : List ℕ → Type 0 = λ more. next_command q.ended r.line (r.unused ++ more) ≡ No (AtBad line) in
    let settled : IsSettled (run.taken ++ t.more) left run.out (BadScript line) =
    by_next source mid left before now r q own P (No (AtBad line)) (BadScript line) run t t.holds refl in (
      run.taken ++ t.more,
      run.out,
      Consumes-trans source mid left run.taken t.more run.consumed t.consumed,
      run.appended,
      few_taken r.taken q.taken run.taken t.more t.count run.count most,
      (settled, answered left (run.taken ++ t.more) run.out (BadScript line) settled),
    )
run_stopped faults after source mid left before now r q own stop.Fault run t most = (
  run.taken ++ t.1.more,
  run.out,
  Consumes-trans source mid left run.taken t.1.more run.consumed t.1.consumed,
  run.appended,
  few_taken r.taken q.taken run.taken t.1.more t.1.count run.count most,
  waiting source mid before now r own t.1.more run t.2 t.1.holds,
)
run_stopped faults after source mid left before now r q own stop.TooLong run t most =
    let more : List ℕ = t.0 in
    let size : length (run.taken ++ more) ≡ 2 ^ 31 - 1 = length-append run.taken more ∙ ap (λ n. n + length more) (sym run.count) ∙ t.3 in (
      run.taken ++ (more ++ t.1 ∷ []),
      run.out,
      Consumes-trans source mid left run.taken (more ++ t.1 ∷ []) run.consumed t.2,
      run.appended,
      omega (arith, size, length-append run.taken (more ++ t.1 ∷ []), length-append run.taken more, length-append more (t.1 ∷ [])),
      (run.taken ++ more, t.1, sym (append_assoc run.taken more (t.1 ∷ [])), size, waiting source mid before now r own more run t.5 t.4),
    )
run_stopped faults after source mid left before now r q own stop.NoMemory run t most = (
  run.taken ++ t.more,
  run.out,
  Consumes-trans source mid left run.taken t.more run.consumed t.consumed,
  run.appended,
  few_taken r.taken q.taken run.taken t.more t.count run.count most,
  (run.commands, run.s, first_taken source mid left before now r q own (λ more. Unit {0}) run t, run.replied),
)

-- ---- a command that was read

-- the commands before it stand first in what was taken
abbrev before_it : (source left before now : Option (List ℕ)) (r : Reader) (own : Session) (command : Command) (n : HasNext source left before now r own command) → StandTaken n.taken left n.commands
before_it source left before now r own command n = record { whole = r.ended; only_at_end = n.end; line = n.at; rest = n.rest; stand = n.stand }

-- and it is the next
with_it : (source left before now : Option (List ℕ)) (r : Reader) (own : Session) (command : Command) (n : HasNext source left before now r own command)
    → StandFirst r.ended 1 n.taken (n.commands ++ (n.line, command_of command) ∷ []) r.line r.unused
with_it source left before now r own command n = chain_snoc r.ended 1 n.at r.line n.taken n.rest r.unused n.commands (n.line, command_of command) n.stand n.next

-- memory ran out before its reply was written
pub next_stopped : (source left before now : Option (List ℕ)) (r : Reader) (own : Session) (command : Command) → HasNext source left before now r own command → Answers NoMemory source left before now
next_stopped source left before now r own command n =
    (n.taken, n.out, n.consumed, n.appended, n.few, (n.commands, n.s, before_it source left before now r own command n, n.replied))

few_ended : (status : Status) (line n : ℕ) → (status ≡ BadScript line) ⊎ (status ≡ NotBuilt) → n ≤ 2147483647 → n ≤ most_taken status
few_ended status line n (inl e) h = subst (λ x. n ≤ most_taken x) (sym e) h
few_ended status line n (inr e) h = subst (λ x. n ≤ most_taken x) (sym e) h

fits_settled : (status : Status) (line : ℕ) (taken out : List ℕ) (left : Option (List ℕ)) → (status ≡ BadScript line) ⊎ (status ≡ NotBuilt) → IsSettled taken left out status
    → Fits status taken left out
fits_settled status line taken out left (inl e) =
    subst (λ x. IsSettled taken left out x → Fits x taken left out) (sym e) (λ h. (h, answered left taken out (BadScript line) h))
fits_settled status line taken out left (inr e) = subst (λ x. IsSettled taken left out x → Fits x taken left out) (sym e) (λ h. (h, answered left taken out NotBuilt h))

-- the run ended at it
pub next_ended : (source left before now : Option (List ℕ)) (r : Reader) (own : Session) (command : Command) (status : Status) → HasNext source left before now r own command
    → (status ≢ NoMemory → (s : model.Session) (line : ℕ) → StandsFor own s → IsLineOf command line → EndsAt s line (command_of command) status) → Answers status source left before now
next_ended source left before now r own command status n ends =
    ⊎_elim
    (λ memory. subst (λ x. Answers x source left before now) (sym memory) (next_stopped source left before now r own command n))
    (λ other.
    let here : EndsAt n.s n.line (command_of command) status = ends other n.s n.line n.stands n.noted in
    let settled : IsSettled n.taken left n.out status =
    (n.commands, n.s, before_it source left before now r own command n, n.replied, subst (λ x. EndsWith n.s x status) (sym n.next) here) in (
      n.taken,
      n.out,
      n.consumed,
      n.appended,
      few_ended status n.line (length n.taken) (ended_status n.s n.line (command_of command) status here) n.few,
      fits_settled status n.line n.taken n.out left (ended_status n.s n.line (command_of command) status here) settled,
    ))
    (is_no_memory status)

-- its reply was written
pub next_replied : (source left before now last : Option (List ℕ)) (r : Reader) (own new : Session) (command : Command) (reply : Reply) → HasNext source left before now r own command
    → ((s : model.Session) → StandsFor own s → HasReplied new (command_of command) reply s) → Appends now last (reply_text reply) → HasRun source left before last r new
next_replied source left before now last r own new command reply n replied wrote =
    let c : ℕ × script.Command = (n.line, command_of command) in
    let h = replied n.s n.stands in
    record {
      taken = n.taken;
      out = n.out ++ reply_text reply;
      commands = n.commands ++ c ∷ [];
      s = h.next;
      consumed = n.consumed;
      appended = Appends-trans before now last n.out (reply_text reply) n.appended wrote;
      stand = with_it source left before now r own command n;
      end = n.end;
      count = n.count;
      replied = replied_snoc first_session n.s h.next n.commands c n.out (reply_text reply) n.replied h.replied;
      stands = h.stands;
    }

-- a front of its reply was written
pub next_cut : (source left before now last : Option (List ℕ)) (r : Reader) (own new : Session) (command : Command) (reply : Reply) (k : ℕ) → HasNext source left before now r own command
    → ((s : model.Session) → StandsFor own s → HasReplied new (command_of command) reply s) → Appends now last (take k (reply_text reply)) → Answers WriteFault source left before last
next_cut source left before now last r own new command reply k n replied wrote =
    let c : ℕ × script.Command = (n.line, command_of command) in
    let h = replied n.s n.stands in
    let part : List ℕ = take k (reply_text reply) in
    let rest : List ℕ = drop k (reply_text reply) in (
      n.taken,
      n.out ++ part,
      n.consumed,
      Appends-trans before now last n.out part n.appended wrote,
      n.few,
      (
        n.commands,
        c,
        n.s,
        h.next,
        n.out,
        part,
        rest,
        record { whole = r.ended; only_at_end = n.end; line = r.line; rest = r.unused; stand = with_it source left before now r own command n },
        n.replied,
        subst (λ text. IsReplied n.s (command_of command) text h.next) (sym (take-append-drop k (reply_text reply))) h.replied,
        refl,
      ),
    )

-- ---- what is used up, and statuses

-- the command is short and uses up bytes
pub record UsesUp (r q : Reader) (command : script.Command) : Type 0 where
  pub short : IsShort command
  pub some : length q.unused + r.taken + 1 ≤ length r.unused + q.taken
  pub names : 1048585 * twice_names command + 1048579 * length q.unused + 1048579 * r.taken ≤ 1048579 * length r.unused + 1048579 * q.taken

pub uses_up : (mid left : Option (List ℕ)) (r q : Reader) (command : Command) → Takes mid left r q (λ more. ReadsCommand r more q (Some command)) → UsesUp r q (command_of command)
uses_up mid left r q command t =
    let u = command_uses q.ended r.line t.holds.0 q.line (r.unused ++ t.more) q.unused (command_of command) t.holds.2 in
    let size = length-append r.unused t.more in
    record { short = u.short; some = omega (arith, u.some, size, t.count); names = omega (arith, u.names, size, t.count) }

-- statuses at which a command ends the run
abbrev pub IsEnd : Status → Type 0
IsEnd Done = ⊥
IsEnd Usage = ⊥
IsEnd (BadScript line) = Unit {0}
IsEnd ReadFault = ⊥
IsEnd WriteFault = ⊥
IsEnd TooLong = ⊥
IsEnd NotBuilt = Unit {0}
IsEnd NoMemory = Unit {0}

is_end : (status : Status) (line : ℕ) → (status ≡ BadScript line) ⊎ (status ≡ NotBuilt) → IsEnd status
is_end status line (inl e) = subst IsEnd (sym e) tt
is_end status line (inr e) = subst IsEnd (sym e) tt

pub end_is : (source left before now : Option (List ℕ)) (r : Reader) (own : Session) (command : Command) (status : Status) → HasNext source left before now r own command
    → (status ≢ NoMemory → (s : model.Session) (line : ℕ) → StandsFor own s → IsLineOf command line → EndsAt s line (command_of command) status) → IsEnd status
end_is source left before now r own command status n ends =
    ⊎_elim (λ memory. subst IsEnd (sym memory) tt)
    (λ other. is_end status n.line (ended_status n.s n.line (command_of command) status (ends other n.s n.line n.stands n.noted)))
    (is_no_memory status)

-- ---- the answer of a call

pub stand_at : (found : Option Command) (command : Command) (q : Reader) → found ≡ Some command → (IsSome found → q.stand ≡ BeforeHead) → q.stand ≡ BeforeHead
stand_at found command q e h = h (subst IsSome (sym e) refl)

pub none_from : (found : Option Command) → ((command : Command) → found ≡ Some command → ⊥) → found ≡ None
none_from None h = refl
none_from (Some command) h = absurd (h command refl)
