-- The command that a call reads, from its head and its body.
use Rattle.std.proofs.Common.{◌≡◌, ℕ, ◌+◌, ◌≤◌, Bool, true, false, List, [], ◌++◌, Some, sym, ap, ◌∙◌, arith, append_assoc}
use Rattle.std.specs.Prelude.{Option}
use Rattle.std.specs.Global.{Vec}
use Rattle.script_text.specs.Heads as heads
use Rattle.script_text.specs.Script as script
use Rattle.script_text.specs.Script.{Broken, Open, next_head, Bad, More, Body, next_body, newlines, AtBad, One, No, Later, with_head, next_command}
use Rattle.script_text.specs.Reader.{Reader, Takes, Stops, ReadsHead, ReadsBody, head_of}
use Rattle.script_text.specs.declared.head.Head.{Head}
use Rattle.script_text.specs.declared.head.Head.TheVariants as head
use Rattle.script_text.specs.declared.head.ReadStop.{ReadStop}
use Rattle.script_text.specs.declared.head.ReadStop.TheVariants as stop
use Rattle.script_text.proofs.Takes.{Takes-trans, Stops-weaker, Stops-after}
use Rattle.script_text.proofs.InTwo.{file_in_two, bad_in_two, waits_in_two}
use Rattle.hack_serve.specs.Commands.{ReadsCommand}
use Rattle.hack_serve.specs.declared.command.Command.{Command}
use Rattle.hack_serve.specs.declared.command.Command.TheVariants as command

abbrev Reads : Option (List ℕ) → Option (List ℕ) → Reader → Reader → Head → Type 0
Reads source rest a b h = Takes source rest a b (λ more. ReadsHead a more b (head_of h))

abbrev Gives : Option (List ℕ) → Option (List ℕ) → Reader → Reader → Option Command → Type 0
Gives source rest a b found = Takes source rest a b (λ more. ReadsCommand a more b found)

-- ---- files

-- nothing came where the source had ended
with_none : (source rest : Option (List ℕ)) (a b : Reader) (P : List ℕ → Type 0) → Takes source rest a b P → Takes source rest a b (λ more. P more × (a.ended ≡ true → more ≡ []))
with_none source rest a b P t = record {
  more = t.more;
  consumed = t.consumed;
  count = t.count;
  none = t.none;
  still = t.still;
  stays = t.stays;
  end = t.end;
  holds = (t.holds, t.none);
}

abbrev FileHead : Reader → Reader → List ℕ → ℕ → List ℕ → Type 0
FileHead a b name len more = ReadsHead a more b (Some (heads.File name len))

pub gives_file : (source mid rest : Option (List ℕ)) (a b d : Reader) (line len : ℕ) (name body : Vec ℕ) → Reads source mid a b (head.File name len) → line + 1 ≡ b.line
    → Takes mid rest b d (λ more. ReadsBody b more d len body.items) → Gives source rest a d (Some (command.File line name body))
gives_file source mid rest a b d line len name body t at u =
    Takes-trans source mid rest a b d (FileHead a b name.items len) (λ more. ReadsBody b more d len body.items × (b.ended ≡ true → more ≡ []))
    (λ more. ReadsCommand a more d (Some (command.File line name body))) t (with_none mid rest b d (λ more. ReadsBody b more d len body.items) u)
    (λ x y p q.
    let same : line ≡ p.0 = omega (arith, at, p.2) in
    let behind : p.0 + 2 + newlines body.items ≡ d.line = omega (arith, q.0.line, p.2) in (
      p.0,
      same,
      ap (next_command d.ended a.line) (sym (append_assoc a.unused x y))
          ∙ file_in_two b.ended d.ended a.line p.0 len (a.unused ++ x) y name.items body.items b.unused d.unused p.1 q.1 u.stays q.0.next
          ∙ ap (λ n. One (script.File name.items body.items) p.0 n d.unused) behind,
    ))

-- ---- stops

abbrev IsBad : Reader → Bool → List ℕ → ℕ → Type 0
IsBad a whole bytes line = next_command whole a.line bytes ≡ No (AtBad line)

abbrev Waits : Reader → List ℕ → Type 0
Waits a bytes = next_command false a.line bytes ≡ Later

pub head_stops : (faults now : ℕ) (source rest : Option (List ℕ)) (a b : Reader) (s : ReadStop)
    → Stops faults now source rest a b (λ whole bytes line. next_head whole a.line bytes ≡ Broken line) (λ bytes. next_head false a.line bytes ≡ Open) s
    → Stops faults now source rest a b (λ whole bytes line. next_command whole a.line bytes ≡ No (AtBad line)) (λ bytes. next_command false a.line bytes ≡ Later) s
head_stops faults now source rest a b s t =
    Stops-weaker faults now source rest a b (λ whole bytes line. next_head whole a.line bytes ≡ Broken line) (IsBad a) (λ bytes. next_head false a.line bytes ≡ Open) (Waits a) s t
    (λ whole bytes line e. ap (with_head whole) e) (λ bytes e. ap (with_head false) e)

-- more of a body has to come
body_waits : (a b : Reader) (len : ℕ) (name x y : List ℕ) → FileHead a b name len x → next_body false len (b.unused ++ y) ≡ More → Waits a (a.unused ++ (x ++ y))
body_waits a b len name x y p w =
    ap (next_command false a.line) (sym (append_assoc a.unused x y)) ∙ waits_in_two b.ended a.line p.0 len (a.unused ++ x) y name b.unused p.1 w

pub body_stops : (faults mid_faults now : ℕ) (source mid rest : Option (List ℕ)) (a b d : Reader) (len : ℕ) (name : List ℕ) (s : ReadStop)
    → Takes source mid a b (λ more. ReadsHead a more b (Some (heads.File name len))) → faults ≤ mid_faults
    → Stops mid_faults now mid rest b d (λ whole bytes line. (next_body whole len bytes ≡ Bad) × (line + 1 ≡ b.line)) (λ bytes. next_body false len bytes ≡ More) s
    → Stops faults now source rest a d (λ whole bytes line. next_command whole a.line bytes ≡ No (AtBad line)) (λ bytes. next_command false a.line bytes ≡ Later) s
body_stops faults mid_faults now source mid rest a b d len name (stop.BadScript line) t grown u =
    Takes-trans source mid rest a b d (FileHead a b name len)
    (λ more. ((next_body d.ended len (b.unused ++ more) ≡ Bad) × (line + 1 ≡ b.line)) × (b.ended ≡ true → more ≡ [])) (λ more. IsBad a d.ended (a.unused ++ more) line) t
    (with_none mid rest b d (λ more. (next_body d.ended len (b.unused ++ more) ≡ Bad) × (line + 1 ≡ b.line)) u)
    (λ x y p q.
    let at : p.0 ≡ line = omega (arith, p.2, q.0.1) in
    ap (next_command d.ended a.line) (sym (append_assoc a.unused x y))
    ∙ bad_in_two b.ended d.ended a.line p.0 len (a.unused ++ x) y name b.unused p.1 q.1 u.stays q.0.0 ∙ ap (λ n. No (AtBad n)) at)
body_stops faults mid_faults now source mid rest a b d len name stop.Fault t grown u =
    Stops-after faults mid_faults now source mid rest a b d (FileHead a b name len) (λ whole bytes line. ⊥) (IsBad a) (λ bytes. next_body false len bytes ≡ More) (Waits a) stop.Fault
    t grown u (λ x y whole line p r. absurd r) (λ x y p w. body_waits a b len name x y p w)
body_stops faults mid_faults now source mid rest a b d len name stop.TooLong t grown u =
    Stops-after faults mid_faults now source mid rest a b d (FileHead a b name len) (λ whole bytes line. ⊥) (IsBad a) (λ bytes. next_body false len bytes ≡ More) (Waits a) stop.TooLong
    t grown u (λ x y whole line p r. absurd r) (λ x y p w. body_waits a b len name x y p w)
body_stops faults mid_faults now source mid rest a b d len name stop.NoMemory t grown u =
    Stops-after faults mid_faults now source mid rest a b d (FileHead a b name len) (λ whole bytes line. ⊥) (IsBad a) (λ bytes. next_body false len bytes ≡ More) (Waits a) stop.NoMemory
    t grown u (λ x y whole line p r. absurd r) (λ x y p w. body_waits a b len name x y p w)
