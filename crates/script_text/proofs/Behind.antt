-- A head behind a body that is passed over.
use Rattle.std.proofs.Common.{◌≡◌, inr, ℕ, ◌+◌, ◌≤◌, Bool, true, false, true≢false, List, [], ◌++◌, Some, None, refl, sym, ap, ◌∙◌, subst, append_assoc, append-nil}
use Rattle.std.specs.Prelude.{Option, Result, Ok, Err, IfOk, IfErr}
use Rattle.script_text.specs.Heads.{Head}
use Rattle.script_text.specs.Script.{Broken, Open, next_head, Body, next_body, newlines}
use Rattle.script_text.specs.Reader.{Reader, Takes, Stops, ReadsHead, ReadsBody, ReadsBehind, past_body, IsBrokenBehind, WaitsBehind, head_of}
use Rattle.script_text.specs.declared.head.Head as head
use Rattle.script_text.specs.declared.head.ReadStop.{ReadStop}
use Rattle.script_text.specs.declared.head.ReadStop.TheVariants as stop
use Rattle.script_text.specs.declared.stand.Stand.{Stand}
use Rattle.script_text.specs.declared.stand.Stand.TheVariants.{BeforeBody}
use Rattle.script_text.proofs.SettledBodies.{body_found-settled}
use Rattle.script_text.proofs.Takes.{Takes-joined, Stops-after}

-- a body, as more comes, or nothing more once the bytes have ended
body_later : (whole last : Bool) (len : ℕ) (bytes more body rest : List ℕ) → next_body whole len bytes ≡ Body body rest
    → (whole ≡ true → more ≡ []) → (whole ≡ true → last ≡ true) → next_body last len (bytes ++ more) ≡ Body body (rest ++ more)
body_later false last len bytes more body rest e none stays = body_found-settled last len bytes more body rest e
body_later true last len bytes more body rest e none stays =
    let empty : more ≡ [] = none refl in
    ap (λ w. next_body w len (bytes ++ more)) (stays refl) ∙ ap (λ l. next_body true len (bytes ++ l)) empty ∙ ap (next_body true len) (append-nil bytes) ∙ e
    ∙ ap (Body body) (sym (append-nil rest) ∙ ap (λ l. rest ++ l) (sym empty))

-- the body in what there was and what came since
behind : (last : Bool) (a b : Reader) (x y body : List ℕ) (len : ℕ) → ReadsBody a x b len body → (b.ended ≡ true → y ≡ []) → (b.ended ≡ true → last ≡ true)
    → next_body last len (a.unused ++ (x ++ y)) ≡ Body body (b.unused ++ y)
behind last a b x y body len r none stays =
    subst (λ bytes. next_body last len bytes ≡ Body body (b.unused ++ y)) (append_assoc a.unused x y) (body_later b.ended last len (a.unused ++ x) y body b.unused r.next none stays)

head_at : (a b c : Reader) (body y : List ℕ) (head : Option Head) → b.line ≡ a.line + newlines body + 1 → ReadsHead b y c head → ReadsHead (past_body a body (b.unused ++ y)) [] c head
head_at a b c body y (Some head) line r = (r.0, (λ i. next_head c.ended (sym line i) (append-nil (b.unused ++ y) i)) ∙ r.1, r.2)
head_at a b c body y None line r = ((λ i. next_head c.ended (sym line i) (append-nil (b.unused ++ y) i)) ∙ r.0, r.1, r.2)

-- a body and then a head
pub reads_behind : (source mid rest : Option (List ℕ)) (a b c : Reader) (len : ℕ) (body : List ℕ) (head : Option Head) → Takes source mid a b (λ x. ReadsBody a x b len body)
    → Takes mid rest b c (λ y. ReadsHead b y c head) → Takes source rest a c (λ z. ReadsBehind a z c len head)
reads_behind source mid rest a b c len body head s u =
    Takes-joined source mid rest a b c (λ x. ReadsBody a x b len body) (λ y. ReadsHead b y c head) (λ z. ReadsBehind a z c len head) s u (λ x y p q none stays. record {
      body = body;
      rest = b.unused ++ y;
      next = behind c.ended a b x y body len p none stays;
      head_there = head_at a b c body y head p.line q;
    })

-- more bytes have to come for the head, where the source had not ended before
waits_behind : (a b : Reader) (len : ℕ) (body : List ℕ) → b.ended ≡ false → (x y : List ℕ) → ReadsBody a x b len body → next_head false b.line (b.unused ++ y) ≡ Open
    → WaitsBehind len a.line (a.unused ++ (x ++ y))
waits_behind a b len body going x y r q =
    let not : b.ended ≡ true → ⊥ = λ e. true≢false (sym e ∙ going) in
    inr (
      body,
      b.unused ++ y,
      behind false a b x y body len r (λ e. absurd (not e)) (λ e. absurd (not e)),
      ap (λ n. next_head false n (b.unused ++ y)) (sym r.line) ∙ q,
    )

-- a body and then a stop
pub stops_behind : (faults now last : ℕ) (source mid rest : Option (List ℕ)) (a b c : Reader) (len : ℕ) (body : List ℕ) (s : ReadStop) → Takes source mid a b (λ x. ReadsBody a x b len body)
    → faults ≤ now → Stops now last mid rest b c (λ whole bytes line. next_head whole b.line bytes ≡ Broken line) (λ bytes. next_head false b.line bytes ≡ Open) s
    → Stops faults last source rest a c (IsBrokenBehind len a.line) (WaitsBehind len a.line) s
stops_behind faults now last source mid rest a b c len body (stop.BadScript line) s grown u =
    Takes-joined source mid rest a b c (λ x. ReadsBody a x b len body) (λ y. next_head c.ended b.line (b.unused ++ y) ≡ Broken line)
    (λ z. IsBrokenBehind len a.line c.ended (a.unused ++ z) line) s u (λ x y p q none stays.
    inr (body, b.unused ++ y, behind c.ended a b x y body len p none stays, ap (λ n. next_head c.ended n (b.unused ++ y)) (sym p.line) ∙ q))
stops_behind faults now last source mid rest a b c len body stop.Fault s grown u =
    Stops-after faults now last source mid rest a b c (λ x. ReadsBody a x b len body) (λ whole bytes line. next_head whole b.line bytes ≡ Broken line) (λ whole bytes line. Unit {0})
    (λ bytes. next_head false b.line bytes ≡ Open) (WaitsBehind len a.line) stop.Fault s grown u (λ x y whole line p q. tt) (λ x y p q. waits_behind a b len body u.2 x y p q)
stops_behind faults now last source mid rest a b c len body stop.TooLong s grown u =
    Stops-after faults now last source mid rest a b c (λ x. ReadsBody a x b len body) (λ whole bytes line. next_head whole b.line bytes ≡ Broken line) (λ whole bytes line. Unit {0})
    (λ bytes. next_head false b.line bytes ≡ Open) (WaitsBehind len a.line) stop.TooLong s grown u (λ x y whole line p q. tt) (λ x y p q. waits_behind a b len body u.5 x y p q)
stops_behind faults now last source mid rest a b c len body stop.NoMemory s grown u =
    Stops-after faults now last source mid rest a b c (λ x. ReadsBody a x b len body) (λ whole bytes line. next_head whole b.line bytes ≡ Broken line) (λ whole bytes line. Unit {0})
    (λ bytes. next_head false b.line bytes ≡ Open) (λ bytes. Unit {0}) stop.NoMemory s grown u (λ x y whole line p q. tt) (λ x y p q. tt)

-- ---- both, whichever comes

pub ok_behind : (source mid rest : Option (List ℕ)) (a b c : Reader) (len : ℕ) (body : List ℕ) (r : Result head.Head ReadStop) → Takes source mid a b (λ x. ReadsBody a x b len body)
    → IfOk r (λ found. Takes mid rest b c (λ y. ReadsHead b y c (head_of found))) → IfOk r (λ found. Takes source rest a c (λ z. ReadsBehind a z c len (head_of found)))
ok_behind source mid rest a b c len body (Ok found) s u = reads_behind source mid rest a b c len body (head_of found) s u
ok_behind source mid rest a b c len body (Err e) s u = tt

pub err_behind : (faults now last : ℕ) (source mid rest : Option (List ℕ)) (a b c : Reader) (len : ℕ) (body : List ℕ) (r : Result head.Head ReadStop) → Takes source mid a b (λ x. ReadsBody a x b len body)
    → faults ≤ now → IfErr r (Stops now last mid rest b c (λ whole bytes line. next_head whole b.line bytes ≡ Broken line) (λ bytes. next_head false b.line bytes ≡ Open))
    → IfErr r (Stops faults last source rest a c (IsBrokenBehind len a.line) (WaitsBehind len a.line))
err_behind faults now last source mid rest a b c len body (Ok found) s grown u = tt
err_behind faults now last source mid rest a b c len body (Err e) s grown u = stops_behind faults now last source mid rest a b c len body e s grown u

-- ---- the body's length

pub same_len : (m n : ℕ) → BeforeBody m ≡ BeforeBody n → m ≡ n
same_len m n e = cc

-- what is so of the length is so of every length that it is
pub err_of_len : (r : Result head.Head ReadStop) (stand : Stand) (Q : ℕ → ReadStop → Type 0) (len : ℕ) → ((other : ℕ) → stand ≡ BeforeBody other → len ≡ other) → IfErr r (Q len)
    → IfErr r (λ s. (other : ℕ) → stand ≡ BeforeBody other → Q other s)
err_of_len (Ok found) stand Q len same q = tt
err_of_len (Err e) stand Q len same q = λ other here. subst (λ n. Q n e) (same other here) q
