-- Bytes are those of one script.
use Rattle.std.proofs.Common.{◌≡◌, ℕ, List, [], ◌∷◌, refl, sym, ap, ◌∙◌, subst}
use Rattle.script_text.specs.Script.{Command, End, One, No, IsScript}

same_end : (e f : End) → No e ≡ No f → e ≡ f
same_end e f p = cc

pub apart : (e : End) (c : Command) (line after : ℕ) (rest : List ℕ) → No e ≡ One c line after rest → ⊥
apart e c line after rest p = absurd cc

pub parts : (c d : Command) (line at after later : ℕ) (rest left : List ℕ) → One c line after rest ≡ One d at later left → (c ≡ d) × (line ≡ at) × (after ≡ later) × (rest ≡ left)
parts c d line at after later rest left p = (cc, cc, cc, cc)

pub one_script : (line : ℕ) (bytes : List ℕ) (commands others : List (ℕ × Command)) (end last : End) → IsScript line bytes commands end → IsScript line bytes others last
    → (commands ≡ others) × (end ≡ last)
one_script line bytes [] [] end last p q = (refl, same_end end last (sym p ∙ q))
one_script line bytes [] (d ∷ others) end last p q = absurd (apart end d.1 d.0 q.0 q.1 (sym p ∙ q.2))
one_script line bytes (c ∷ commands) [] end last p q = absurd (apart last c.1 c.0 p.0 p.1 (sym q ∙ p.2))
one_script line bytes (c ∷ commands) (d ∷ others) end last p q =
    let same = parts c.1 d.1 c.0 d.0 p.0 q.0 p.1 q.1 (sym p.2 ∙ q.2) in
    let moved : IsScript q.0 q.1 commands end = subst (λ l. IsScript q.0 l commands end) same.3 (subst (λ n. IsScript n p.1 commands end) same.2 p.3) in
    let later = one_script q.0 q.1 commands others end last moved q.3 in
    let first : c ≡ d = ap (λ (n : ℕ). (n, c.1)) same.1 ∙ ap (λ (x : Command). (d.0, x)) same.0 in
    (ap (λ (x : ℕ × Command). x ∷ commands) first ∙ ap (λ (l : List (ℕ × Command)). d ∷ l) later.0, later.1)
