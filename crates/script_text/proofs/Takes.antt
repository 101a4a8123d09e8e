-- Calls that take bytes of a source, one after another.
use Rattle.std.proofs.Common.{◌≡◌, ◌⊎◌, inl, inr, ℕ, ◌+◌, ◌^◌, ◌-◌, ◌≤◌, Bool, true, false, List, [], ◌∷◌, ◌++◌, length, refl, sym, ap, ◌∙◌, subst, arith, append_assoc, append-nil, length-append}
use Rattle.std.specs.Prelude.{Option}
use Rattle.std.specs.Io.KnownBytes.{Consumes, Keeps, IsAtEnd}
use Rattle.std.proofs.KnownBytes.{Consumes-nil, Consumes-trans, Consumes-kept}
use Rattle.hack_io.specs.Causes.{Rose}
use Rattle.script_text.specs.Reader.{Reader, Takes, Stops}
use Rattle.script_text.specs.Ends.{IsNoEnd}
use Rattle.script_text.specs.declared.head.ReadStop.{ReadStop}
use Rattle.script_text.specs.declared.head.ReadStop.TheVariants as stop

-- no call on the source
pub Takes-nothing : (source : Option (List ℕ)) (a b : Reader) (P : List ℕ → Type 0) → b.taken ≡ a.taken → b.ended ≡ a.ended → P [] → Takes source source a b P
Takes-nothing source a b P taken ended holds = record {
  more = [];
  consumed = Consumes-nil source;
  count = omega (arith, taken);
  none = λ _. refl;
  still = λ _. refl;
  stays = λ e. ended ∙ e;
  end = λ e. inl (sym ended ∙ e);
  holds = holds;
}

-- a call that failed, while the source had not ended
pub Takes-failed : (source rest : Option (List ℕ)) (a : Reader) (P : List ℕ → Type 0) → Keeps source rest → a.ended ≡ false → P [] → Takes source rest a a P
Takes-failed source rest a P kept open_ holds = record {
  more = [];
  consumed = Consumes-kept source source rest [] (Consumes-nil source) kept;
  count = omega arith;
  none = λ _. refl;
  still = λ e. absurd cc;
  stays = λ e. e;
  end = λ e. inl e;
  holds = holds;
}

-- what is taken doesn't depend on what was used up since
pub Takes-weaker : (source rest : Option (List ℕ)) (a b c : Reader) (P Q : List ℕ → Type 0) → Takes source rest a b P → c.taken ≡ b.taken → c.ended ≡ b.ended
    → ((more : List ℕ) → P more → Q more) → Takes source rest a c Q
Takes-weaker source rest a b c P Q t taken ended f = record {
  more = t.more;
  consumed = t.consumed;
  count = taken ∙ t.count;
  none = t.none;
  still = t.still;
  stays = λ e. ended ∙ t.stays e;
  end = λ e. t.end (sym ended ∙ e);
  holds = f t.more t.holds;
}

both_counts : (x y z m n : ℕ) → y ≡ x + m → z ≡ y + n → z ≡ x + (m + n)
both_counts x y z m n p q = omega (arith, p, q)

-- two calls, one after the other; the second took nothing where the first met the end
pub Takes-joined : (source mid rest : Option (List ℕ)) (a b c : Reader) (P Q R : List ℕ → Type 0) → Takes source mid a b P → Takes mid rest b c Q
    → ((x y : List ℕ) → P x → Q y → (b.ended ≡ true → y ≡ []) → (b.ended ≡ true → c.ended ≡ true) → R (x ++ y)) → Takes source rest a c R
Takes-joined source mid rest a b c P Q R s t f = record {
  more = s.more ++ t.more;
  consumed = Consumes-trans source mid rest s.more t.more s.consumed t.consumed;
  count = both_counts a.taken b.taken c.taken (length s.more) (length t.more) s.count t.count ∙ ap (λ n. a.taken + n) (sym (length-append s.more t.more));
  none = λ e. ap (λ x. x ++ t.more) (s.none e) ∙ t.none (s.stays e);
  still = λ e. t.still (s.stays e) ∙ s.still e;
  stays = λ e. t.stays (s.stays e);
  end = λ e. later (t.end e);
  holds = f s.more t.more s.holds t.holds t.none t.stays;
}
  where
    kept : b.ended ≡ true → (a.ended ≡ true) ⊎ IsAtEnd mid → (a.ended ≡ true) ⊎ IsAtEnd rest
    kept e (inl x) = inl x
    kept e (inr x) = inr (subst IsAtEnd (sym (t.still e)) x)

    later : (b.ended ≡ true) ⊎ IsAtEnd rest → (a.ended ≡ true) ⊎ IsAtEnd rest
    later (inl e) = kept e (s.end e)
    later (inr x) = inr x

pub Takes-trans : (source mid rest : Option (List ℕ)) (a b c : Reader) (P Q R : List ℕ → Type 0) → Takes source mid a b P → Takes mid rest b c Q
    → ((x y : List ℕ) → P x → Q y → R (x ++ y)) → Takes source rest a c R
Takes-trans source mid rest a b c P Q R s t f = Takes-joined source mid rest a b c P Q R s t (λ x y p q none stays. f x y p q)

-- ---- calls that stop

pub Stops-weaker : (faults now : ℕ) (source rest : Option (List ℕ)) (a b : Reader) (broken wanted : Bool → List ℕ → ℕ → Type 0) (waits wants : List ℕ → Type 0) (s : ReadStop)
    → Stops faults now source rest a b broken waits s → ((whole : Bool) (bytes : List ℕ) (line : ℕ) → broken whole bytes line → wanted whole bytes line)
    → ((bytes : List ℕ) → waits bytes → wants bytes) → Stops faults now source rest a b wanted wants s
Stops-weaker faults now source rest a b broken wanted waits wants (stop.BadScript line) t f h =
    Takes-weaker source rest a b b (λ x. broken b.ended (a.unused ++ x) line) (λ x. wanted b.ended (a.unused ++ x) line) t refl refl (λ x p. f b.ended (a.unused ++ x) line p)
Stops-weaker faults now source rest a b broken wanted waits wants stop.Fault t f h =
    (t.0, Takes-weaker source rest a b b (λ x. waits (a.unused ++ x)) (λ x. wants (a.unused ++ x)) t.1 refl refl (λ x p. h (a.unused ++ x) p), t.2)
Stops-weaker faults now source rest a b broken wanted waits wants stop.TooLong t f h = (t.0, t.1, t.2, t.3, h (a.unused ++ t.0) t.4, t.5)
Stops-weaker faults now source rest a b broken wanted waits wants stop.NoMemory t f h = t

-- a reader that is asked for more later had not ended before
was_open : (x y : Bool) → (x ≡ true → y ≡ true) → y ≡ false → x ≡ false
was_open true y stays e = let p : y ≡ true = stays refl in absurd cc
was_open false y stays e = refl

-- a count that rose rose from any earlier one too
rose_from : (faults now last : ℕ) → faults ≤ now → Rose now last → Rose faults last
rose_from faults now last grown rose = omega arith

-- a stop after bytes were taken
pub Stops-after : (faults now last : ℕ) (source mid rest : Option (List ℕ)) (a b c : Reader) (P : List ℕ → Type 0) (broken wanted : Bool → List ℕ → ℕ → Type 0)
    (waits wants : List ℕ → Type 0) (s : ReadStop) → Takes source mid a b P → faults ≤ now → Stops now last mid rest b c broken waits s
    → ((x y : List ℕ) (whole : Bool) (line : ℕ) → P x → broken whole (b.unused ++ y) line → wanted whole (a.unused ++ (x ++ y)) line)
    → ((x y : List ℕ) → P x → waits (b.unused ++ y) → wants (a.unused ++ (x ++ y))) → Stops faults last source rest a c wanted wants s
Stops-after faults now last source mid rest a b c P broken wanted waits wants (stop.BadScript line) s grown t f h =
    Takes-trans source mid rest a b c P (λ y. broken c.ended (b.unused ++ y) line) (λ z. wanted c.ended (a.unused ++ z) line) s t (λ x y p q. f x y c.ended line p q)
Stops-after faults now last source mid rest a b c P broken wanted waits wants stop.Fault s grown t f h = (
  rose_from faults now last grown t.0,
  Takes-trans source mid rest a b c P (λ y. waits (b.unused ++ y)) (λ z. wants (a.unused ++ z)) s t.1 (λ x y p q. h x y p q),
  was_open a.ended b.ended s.stays t.2,
)
Stops-after faults now last source mid rest a b c P broken wanted waits wants stop.TooLong s grown t f h = (
  s.more ++ t.0,
  t.1,
  subst (Consumes source rest) (sym (append_assoc s.more t.0 (t.1 ∷ []))) (Consumes-trans source mid rest s.more (t.0 ++ t.1 ∷ []) s.consumed t.2),
  ap (λ n. a.taken + n) (length-append s.more t.0) ∙ sym (both_counts a.taken b.taken (b.taken + length t.0) (length s.more) (length t.0) s.count refl) ∙ t.3,
  h s.more t.0 s.holds t.4,
  was_open a.ended b.ended s.stays t.5,
)
Stops-after faults now last source mid rest a b c P broken wanted waits wants stop.NoMemory s grown t f h =
    Takes-trans source mid rest a b c P (λ _. Unit {0}) (λ _. Unit {0}) s t (λ x y p q. tt)

-- 2^31 - 1 bytes were taken, and the source gave a further byte or failed
pub Stops-no_end : (faults now : ℕ) (source rest : Option (List ℕ)) (a : Reader) (s : ReadStop) → a.taken ≡ 2 ^ 31 - 1 → a.ended ≡ false → IsNoEnd faults now source rest s
    → Stops faults now source rest a a (λ whole bytes line. ⊥) (λ bytes. bytes ≡ a.unused) s
Stops-no_end faults now source rest a (stop.BadScript line) all open_ t = absurd t
Stops-no_end faults now source rest a stop.Fault all open_ t = (t.0, Takes-failed source rest a (λ x. a.unused ++ x ≡ a.unused) t.1 open_ (append-nil a.unused), open_)
Stops-no_end faults now source rest a stop.TooLong all open_ t = ([], t.0, t.1, omega (arith, all), append-nil a.unused, open_)
Stops-no_end faults now source rest a stop.NoMemory all open_ t = absurd t
