-- How many arguments are needed, with one more parameter at the end.
use Rattle.std.proofs.Common.{◌≡◌, ◌∙◌, ◌<◌, ◌≤◌, ◌+◌, ◌++◌, ℕ, suc, Bool, true, false, cond, List, [], ◌∷◌, length, max, take, get_or, sym, ap, arith}
use Rattle.std.proofs.lemmas.List.{length-take-le, take_more}
use Rattle.hack_types.specs.declared.signature.Param.{Param}
use Rattle.hack_rules.specs.Calls.{least_of}

-- the larger of two numbers
larger : (a b : ℕ) → a ≤ b → max a b ≡ b
larger a b le = omega (arith, le)

smaller : (a b c : ℕ) → a ≤ c → b ≤ c → max a b ≤ c
smaller a b c one other = omega (arith, one, other)

few : (optional : Bool) (position : ℕ) → cond optional 0 (suc position) ≤ suc position
few true position = omega arith
few false position = omega arith

at_most : (position : ℕ) (params : List Param) → least_of position params ≤ position + length params
unfolding least_of
at_most position [] = omega arith
at_most position (p ∷ ps) =
    let rest : least_of (suc position) ps ≤ suc position + length ps = at_most (suc position) ps in
    let one : cond p.optional 0 (suc position) ≤ suc position = few p.optional position in
    smaller (cond p.optional 0 (suc position)) (least_of (suc position) ps) (position + suc (length ps)) (omega (arith, one)) (omega (arith, rest))

module _ (x : Param) where
  optional_more : x.optional ≡ true → (position : ℕ) (params : List Param) → least_of position (params ++ x ∷ []) ≡ least_of position params
  unfolding least_of
  optional_more is position [] = ap (λ (b : Bool). max (cond b 0 (suc position)) 0) is
  optional_more is position (p ∷ ps) = ap (max (cond p.optional 0 (suc position))) (optional_more is (suc position) ps)

  needed_more : x.optional ≡ false → (position : ℕ) (params : List Param) → least_of position (params ++ x ∷ []) ≡ suc (position + length params)
  unfolding least_of
  needed_more is position [] =
      let first : max (cond x.optional 0 (suc position)) 0 ≡ max (suc position) 0 = ap (λ (b : Bool). max (cond b 0 (suc position)) 0) is in
      omega (arith, first)
  needed_more is position (p ∷ ps) =
      let rest : least_of (suc position) (ps ++ x ∷ []) ≡ suc (suc position + length ps) = needed_more is (suc position) ps in
      let one : cond p.optional 0 (suc position) ≤ suc position = few p.optional position in
      ap (max (cond p.optional 0 (suc position))) rest
      ∙ larger (cond p.optional 0 (suc position)) (suc (suc position + length ps)) (omega (arith, one)) ∙ omega arith

module _ (params : List Param) (i : ℕ) (x : Param) (lt : i < length params) (at : x ≡ get_or params i x) where
  next : take (i + 1) params ≡ take i params ++ x ∷ []
  next = take_more params i x lt ∙ ap (λ (p : Param). take i params ++ p ∷ []) (sym at)

  pub passed : (least : ℕ) → x.optional ≡ true → least ≡ least_of 0 (take i params) → least ≡ least_of 0 (take (i + 1) params)
  passed least is so_far = so_far ∙ sym (ap (least_of 0) next ∙ optional_more x is 0 (take i params))

  pub reached : x.optional ≡ false → i + 1 ≡ least_of 0 (take (i + 1) params)
  reached is =
      let count : length (take i params) ≡ i = length-take-le i params (omega (arith, lt)) in
      let there : least_of 0 (take (i + 1) params) ≡ suc (0 + length (take i params)) = ap (least_of 0) next ∙ needed_more x is 0 (take i params) in
      omega (arith, count, there)
