-- The head that a call reads, from what its parts do.
use Rattle.std.proofs.Common.{◌≡◌, ◌⊎◌, inl, inr, ℕ, ◌+◌, Bool, true, false, List, [], ◌++◌, Some, None, Result, Ok, Err, refl, sym, ap, ◌∙◌, subst, append_assoc}
use Rattle.std.specs.Prelude.{Option, IfOk, IfErr, OnOk, OnErr, IsSome}
use Rattle.script_text.specs.Heads as heads
use Rattle.script_text.specs.Script.{Found, Broken, Open, found, next_head}
use Rattle.script_text.specs.Lines.{head_found}
use Rattle.script_text.specs.Reader.{Reader, Takes, Stops, ReadsHead, head_of}
use Rattle.script_text.specs.Reading.{SameNext, IsLineStart, IsSkipped, IsLineEnd, rest_found, SamePlace}
use Rattle.script_text.specs.declared.head.Head.{Head}
use Rattle.script_text.specs.declared.head.ReadStop.{ReadStop}
use Rattle.script_text.specs.declared.head.ReadStop.TheVariants as stop
use Rattle.script_text.proofs.Takes.{Takes-weaker, Takes-trans}
use Rattle.script_text.proofs.NextHeads.{same_now, line_next, start_more, skip_more, at_end}

pub skipped_none : (b : Bool) (r : Reader) → b ≡ false → IsSkipped b r → (r.unused ≡ []) × (r.ended ≡ true)
skipped_none b r e s = let P : Bool → Type 0 = λ x. IsSkipped x r in subst P e s

pub skipped_some : (b : Bool) (r : Reader) → b ≡ true → IsSkipped b r → IsLineStart r.unused
skipped_some b r e s = let P : Bool → Type 0 = λ x. IsSkipped x r in subst P e s

pub reads_end : (a b : Reader) (more : List ℕ) → SameNext a.line (a.unused ++ more) b.line b.unused → b.unused ≡ [] → b.ended ≡ true
    → ReadsHead a more b None
reads_end a b more p none ended = (
  same_now a.line b.line (a.unused ++ more) b.unused b.ended p ∙ ap (λ w. next_head w b.line b.unused) ended ∙ ap (next_head true b.line) none ∙ at_end b.line,
  ended,
  none,
)

-- the line in which a head stands, or stands in no form
next_line : (a b : Reader) (more : List ℕ) (end : Option ℕ) → SameNext a.line (a.unused ++ more) b.line b.unused → IsLineStart b.unused → IsLineEnd b end
    → next_head b.ended a.line (a.unused ++ more) ≡ found (head_found b.unused end) b.line (rest_found b.unused end)
next_line a b more end p start e = same_now a.line b.line (a.unused ++ more) b.unused b.ended p ∙ line_next b.ended b.line b.unused start ∙ e

reads_line : (a b d : Reader) (more : List ℕ) (end : Option ℕ) (o : Option heads.Head) → head_found b.unused end ≡ o
    → next_head b.ended a.line (a.unused ++ more) ≡ found (head_found b.unused end) b.line (rest_found b.unused end)
    → d.unused ≡ rest_found b.unused end → d.line ≡ b.line + 1 → d.ended ≡ b.ended → IsSome o → ReadsHead a more d o
reads_line a b d more end None e next unused line ended some_ = absurd cc
reads_line a b d more end (Some h) e next unused line ended some_ = (
  b.line,
  ap (λ w. next_head w a.line (a.unused ++ more)) ended ∙ next ∙ ap (λ o. found o b.line (rest_found b.unused end)) e ∙ ap (Found h b.line) (sym unused),
  line,
)

-- the parts together
both_skip : (source mid rest : Option (List ℕ)) (a s b : Reader) → Takes source mid a s (λ more. SameNext a.line (a.unused ++ more) s.line s.unused)
    → Takes mid rest s b (λ more. b.unused ≡ s.unused ++ more) → SamePlace s b → Takes source rest a b (λ more. SameNext a.line (a.unused ++ more) b.line b.unused)
both_skip source mid rest a s b t u place =
    Takes-trans source mid rest a s b (λ more. SameNext a.line (a.unused ++ more) s.line s.unused) (λ more. b.unused ≡ s.unused ++ more)
    (λ more. SameNext a.line (a.unused ++ more) b.line b.unused) t u (λ x y p q. skip_more a.line s.line b.line a.unused x y s.unused b.unused p q place.line)

both_start : (mid rest : Option (List ℕ)) (s b : Reader) → Takes mid rest s b (λ more. b.unused ≡ s.unused ++ more) → IsLineStart s.unused → IsLineStart b.unused
both_start mid rest s b u start = subst IsLineStart (sym u.holds) (start_more s.unused u.more start)

pub read_ok : (source mid rest : Option (List ℕ)) (a s b d : Reader) (end : Option ℕ) (r : Result Head ReadStop)
    → Takes source mid a s (λ more. SameNext a.line (a.unused ++ more) s.line s.unused) → Takes mid rest s b (λ more. b.unused ≡ s.unused ++ more) → SamePlace s b
    → IsLineStart s.unused → IsLineEnd b end
    → IfOk r (λ head. head_of head ≡ head_found b.unused end) → OnOk r (IsSome (head_found b.unused end))
    → OnOk r (d.unused ≡ rest_found b.unused end) → OnOk r (d.line ≡ b.line + 1) → OnOk r (d.taken ≡ b.taken) → OnOk r (d.ended ≡ b.ended)
    → IfOk r (λ head. Takes source rest a d (λ more. ReadsHead a more d (head_of head)))
read_ok source mid rest a s b d end (Err e) t u place start ends head some_ unused line taken ended = tt
read_ok source mid rest a s b d end (Ok h) t u place start ends head some_ unused line taken ended =
    Takes-weaker source rest a b d (λ more. SameNext a.line (a.unused ++ more) b.line b.unused) (λ more. ReadsHead a more d (head_of h))
    (both_skip source mid rest a s b t u place) taken ended
    (λ more p. let P : Option heads.Head → Type 0 = λ o. ReadsHead a more d o in
    subst P (sym head) (reads_line a b d more end (head_found b.unused end) refl (next_line a b more end p (both_start mid rest s b u start) ends) unused line ended some_))

pub read_err : (faults now : ℕ) (source mid rest : Option (List ℕ)) (a s b d : Reader) (end : Option ℕ) (r : Result Head ReadStop)
    → Takes source mid a s (λ more. SameNext a.line (a.unused ++ more) s.line s.unused) → Takes mid rest s b (λ more. b.unused ≡ s.unused ++ more) → SamePlace s b
    → IsLineStart s.unused → IsLineEnd b end
    → IfErr r (λ e. (e ≡ stop.NoMemory) ⊎ ((e ≡ stop.BadScript b.line) × (head_found b.unused end ≡ None))) → OnErr r (d ≡ b)
    → IfErr r (Stops faults now source rest a d (λ whole bytes line. next_head whole a.line bytes ≡ Broken line) (λ bytes. next_head false a.line bytes ≡ Open))
read_err faults now source mid rest a s b d end (Ok h) t u place start ends why kept = tt
read_err faults now source mid rest a s b d end (Err e) t u place start ends why kept = cases why
  where
    taken : d.taken ≡ b.taken
    taken = ap (λ (x : Reader). x.taken) kept

    ended : d.ended ≡ b.ended
    ended = ap (λ (x : Reader). x.ended) kept

    broken : head_found b.unused end ≡ None → Takes source rest a d (λ more. next_head d.ended a.line (a.unused ++ more) ≡ Broken b.line)
    broken none =
        Takes-weaker source rest a b d (λ more. SameNext a.line (a.unused ++ more) b.line b.unused) (λ more. next_head d.ended a.line (a.unused ++ more) ≡ Broken b.line)
        (both_skip source mid rest a s b t u place) taken ended
        (λ more p. ap (λ w. next_head w a.line (a.unused ++ more)) ended ∙ next_line a b more end p (both_start mid rest s b u start) ends
        ∙ ap (λ o. found o b.line (rest_found b.unused end)) none)

    cases : (e ≡ stop.NoMemory) ⊎ ((e ≡ stop.BadScript b.line) × (head_found b.unused end ≡ None))
        → Stops faults now source rest a d (λ whole bytes line. next_head whole a.line bytes ≡ Broken line) (λ bytes. next_head false a.line bytes ≡ Open) e
    cases (inl q) =
        let P : ReadStop → Type 0 = λ x. Stops faults now source rest a d (λ whole bytes line. next_head whole a.line bytes ≡ Broken line) (λ bytes. next_head false a.line bytes ≡ Open) x in
        subst P (sym q) (Takes-weaker source rest a b d (λ more. SameNext a.line (a.unused ++ more) b.line b.unused) (λ more. Unit {0}) (both_skip source mid rest a s b t u place) taken ended (λ more p. tt))
    cases (inr q) =
        let P : ReadStop → Type 0 = λ x. Stops faults now source rest a d (λ whole bytes line. next_head whole a.line bytes ≡ Broken line) (λ bytes. next_head false a.line bytes ≡ Open) x in
        subst P (sym q.0) (broken q.1)

-- a call that waits for the rest of a line
pub waits_skip : (line later : ℕ) (old x y u : List ℕ) → SameNext line (old ++ x) later u → next_head false later (u ++ y) ≡ Open → next_head false line (old ++ (x ++ y)) ≡ Open
waits_skip line later old x y u p q = ap (next_head false line) (sym (append_assoc old x y)) ∙ p false y ∙ q
