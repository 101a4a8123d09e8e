-- A body, and what stands behind it.
use Rattle.std.proofs.Common.{◌≡◌, ℕ, ◌+◌, ◌<◌, ◌≤◌, ◌==◌, Bool, true, false, cond, List, [], ◌∷◌, ◌++◌, length, take, drop, nat_lt, refl, sym, ap, ◌∙◌, arith, append_assoc, length-append}
use Rattle.std.specs.Prelude.{Option}
use Rattle.std.proofs.lemmas.Bool.Decides.{nat_tests}
use lib.Seq.{take-append_seam}
use Rattle.std.proofs.Math.Seq.{drop-append_seam}
use Rattle.script_text.specs.Script.{Body, Bad, More, behind_body, next_body, newlines}
use Rattle.script_text.specs.Reader.{Reader, Takes, ReadsBody}
use Rattle.script_text.specs.Reading.{SamePlace}
use Rattle.script_text.proofs.Takes.{Takes-weaker, Takes-trans}

less : (m n : ℕ) → m < n → nat_lt m n ≡ true
less m n h = grind (arith, nat_tests)

not_less : (m n : ℕ) → n ≤ m → nat_lt m n ≡ false
not_less m n h = grind (arith, nat_tests)

-- fewer bytes than the head says
pub next_short : (whole : Bool) (len : ℕ) (bytes : List ℕ) → length bytes < len → next_body whole len bytes ≡ cond whole Bad More
unfolding next_body
next_short whole len bytes h = ap (λ t. cond t (cond whole Bad More) (behind_body whole (take len bytes) (drop len bytes))) (less (length bytes) len h)

pub next_bad : (whole : Bool) (len : ℕ) (bytes : List ℕ) → whole ≡ true → length bytes < len → next_body whole len bytes ≡ Bad
next_bad whole len bytes e h = next_short whole len bytes h ∙ ap (λ w. cond w Bad More) e

-- a body and what stands behind it
pub next_long : (whole : Bool) (len : ℕ) (body rest : List ℕ) → length body ≡ len → next_body whole len (body ++ rest) ≡ behind_body whole body rest
unfolding next_body
next_long whole len body rest e =
    ap (λ n. next_body whole n (body ++ rest)) (sym e)
    ∙ ap (λ t. cond t (cond whole Bad More) (behind_body whole (take (length body) (body ++ rest)) (drop (length body) (body ++ rest))))
    (not_less (length (body ++ rest)) (length body) (omega (arith, length-append body rest)))
    ∙ ap (λ l. behind_body whole l (drop (length body) (body ++ rest))) (take-append_seam body rest) ∙ ap (behind_body whole body) (drop-append_seam body rest)

behind_bad : (whole : Bool) (body bytes : List ℕ) → behind_body whole [] bytes ≡ Bad → behind_body whole body bytes ≡ Bad
behind_bad true body [] e = absurd cc
behind_bad false body [] e = absurd cc
behind_bad whole body (b ∷ bytes) e = cases (b == 10) e
  where
    cases : (t : Bool) → cond t (Body [] bytes) Bad ≡ Bad → cond t (Body body bytes) Bad ≡ Bad
    cases true e = absurd cc
    cases false e = refl

behind_ok : (whole : Bool) (body bytes rest : List ℕ) → behind_body whole [] bytes ≡ Body [] rest → behind_body whole body bytes ≡ Body body rest
behind_ok true body [] rest e = let same : [] ≡ rest = second [] [] [] rest e in ap (Body body) same
  where
    second : (a b x y : List ℕ) → Body a x ≡ Body b y → x ≡ y
    second a b x y e = cc
behind_ok false body [] rest e = absurd cc
behind_ok whole body (b ∷ bytes) rest e = cases (b == 10) e
  where
    second : (a b x y : List ℕ) → Body a x ≡ Body b y → x ≡ y
    second a b x y e = cc

    cases : (t : Bool) → cond t (Body [] bytes) Bad ≡ Body [] rest → cond t (Body body bytes) Bad ≡ Body body rest
    cases true e = ap (Body body) (second [] [] bytes rest e)
    cases false e = absurd cc

-- what was there and what came is the body and what is left
joined : (old x y u v text : List ℕ) → old ++ x ≡ text ++ u → v ≡ u ++ y → old ++ (x ++ y) ≡ text ++ v
joined old x y u v text p q = sym (append_assoc old x y) ∙ ap (λ l. l ++ y) p ∙ append_assoc text u y ∙ ap (λ l. text ++ l) (sym q)

pub body_waits : (len : ℕ) (old x y u text : List ℕ) → length text ≡ len → old ++ x ≡ text ++ u → u ++ y ≡ [] → next_body false len (old ++ (x ++ y)) ≡ More
body_waits len old x y u text size p q =
    ap (next_body false len) (joined old x y u (u ++ y) text p refl) ∙ ap (λ l. next_body false len (text ++ l)) q ∙ next_long false len text [] size

both : (source mid rest : Option (List ℕ)) (a b d : Reader) (text : List ℕ) → Takes source mid a b (λ more. a.unused ++ more ≡ text ++ b.unused)
    → Takes mid rest b d (λ more. d.unused ≡ b.unused ++ more) → Takes source rest a d (λ more. a.unused ++ more ≡ text ++ d.unused)
both source mid rest a b d text t u =
    Takes-trans source mid rest a b d (λ more. a.unused ++ more ≡ text ++ b.unused) (λ more. d.unused ≡ b.unused ++ more) (λ more. a.unused ++ more ≡ text ++ d.unused) t u
    (λ x y p q. joined a.unused x y b.unused d.unused text p q)

pub body_bad : (source mid rest : Option (List ℕ)) (a b d e : Reader) (len line : ℕ) (text : List ℕ) → length text ≡ len
    → Takes source mid a b (λ more. a.unused ++ more ≡ text ++ b.unused) → SamePlace a b → Takes mid rest b d (λ more. d.unused ≡ b.unused ++ more) → SamePlace b d
    → e ≡ d → behind_body d.ended [] d.unused ≡ Bad → line + 1 ≡ d.line
    → Takes source rest a e (λ more. (next_body e.ended len (a.unused ++ more) ≡ Bad) × (line + 1 ≡ a.line))
body_bad source mid rest a b d e len line text size t place u place2 kept bad at =
    Takes-weaker source rest a d e (λ more. a.unused ++ more ≡ text ++ d.unused) (λ more. (next_body e.ended len (a.unused ++ more) ≡ Bad) × (line + 1 ≡ a.line))
    (both source mid rest a b d text t u) (ap (λ (x : Reader). x.taken) kept) (ap (λ (x : Reader). x.ended) kept)
    (λ more p. (
      ap (λ w. next_body w len (a.unused ++ more)) (ap (λ (x : Reader). x.ended) kept) ∙ ap (next_body d.ended len) p ∙ next_long d.ended len text d.unused size
          ∙ behind_bad d.ended text d.unused bad,
      at ∙ place2.line ∙ place.line,
    ))

pub body_ok : (source mid rest : Option (List ℕ)) (a b d e : Reader) (len lines : ℕ) (text : List ℕ) → length text ≡ len
    → Takes source mid a b (λ more. a.unused ++ more ≡ text ++ b.unused) → SamePlace a b → Takes mid rest b d (λ more. d.unused ≡ b.unused ++ more) → SamePlace b d
    → behind_body d.ended [] d.unused ≡ Body [] e.unused → e.taken ≡ d.taken → e.ended ≡ d.ended → e.line ≡ d.line + lines + 1 → lines ≡ newlines text
    → Takes source rest a e (λ more. ReadsBody a more e len text)
body_ok source mid rest a b d e len lines text size t place u place2 ok taken ended line count =
    Takes-weaker source rest a d e (λ more. a.unused ++ more ≡ text ++ d.unused) (λ more. ReadsBody a more e len text) (both source mid rest a b d text t u) taken ended
    (λ more p. record {
      next = ap (λ w. next_body w len (a.unused ++ more)) ended ∙ ap (next_body d.ended len) p ∙ next_long d.ended len text d.unused size ∙ behind_ok d.ended text d.unused e.unused ok;
      line = line ∙ ap (λ n. n + lines + 1) (place2.line ∙ place.line) ∙ ap (λ n. a.line + n + 1) count;
    })
