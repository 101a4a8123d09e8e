-- The longest prefixes that pass tests made of other tests.
use Rattle.std.proofs.Common.{◌≡◌, ◌<◌, ◌≤◌, ◌+◌, ◌-◌, ◌&&◌, ℕ, zero, suc, List, [], ◌∷◌, length, take, drop, refl, sym, ap, subst, ◌∙◌, arith, Bool, true, false, add-one, add-zero, add_comm, cond, inl, inr}
use Rattle.std.specs.List.{prefix_len, list_all}
use Rattle.std.specs.Prelude.{nat_le}
use Rattle.std.proofs.lemmas.List.{length-take-le, length-drop, drop-take, drop_all}
use Rattle.std.proofs.lemmas.Bool.{le-leb, cases_lt}
use Rattle.std.proofs.lemmas.List.Sums.{prefix_len-le-length}
use Rattle.hack_lexer.specs.Scan.{IsLongestPass, NonePasses}
use Rattle.hack_lexer.specs.Forms.{are_some}

and_false : (a : Bool) → (a && false) ≡ false
and_false true = refl
and_false false = refl

-- ---- runs

-- a longer prefix than the run has a byte that doesn't pass
pub past_run : (p : ℕ → Bool) (xs : List ℕ) (n : ℕ) → prefix_len p xs < n → n ≤ length xs → list_all p (take n xs) ≡ false
past_run p [] n l m = absurd (omega arith)
past_run p (x ∷ xs) zero l m = absurd (omega arith)
past_run p (x ∷ xs) (suc n) l m = by (p x) l (λ h. past_run p xs n h (omega arith))
  where
    by : (b : Bool) → cond b (1 + prefix_len p xs) 0 < suc n → (prefix_len p xs < n → list_all p (take n xs) ≡ false) → (b && list_all p (take n xs)) ≡ false
    by true h more = more (omega arith)
    by false h more = refl

-- and the run itself passes
pub run_passes : (p : ℕ → Bool) (xs : List ℕ) → list_all p (take (prefix_len p xs) xs) ≡ true
run_passes p [] = refl
run_passes p (x ∷ xs) = by (p x) refl (run_passes p xs)
  where
    by : (b : Bool) → p x ≡ b → list_all p (take (prefix_len p xs) xs) ≡ true → list_all p (take (cond b (1 + prefix_len p xs) 0) (x ∷ xs)) ≡ true
    by true e rest = rw (add_comm 1 (prefix_len p xs)) (rw add-one (rw e rest))
    by false e rest = refl

pub longest_run : (p : ℕ → Bool) (xs : List ℕ) → IsLongestPass (list_all p) xs (prefix_len p xs)
longest_run p xs = record { inside = prefix_len-le-length p xs; passes = run_passes p xs; longest = past_run p xs }

-- a shorter prefix of a run is all run, and a longer one has the same run
pub prefix_len-take : (p : ℕ → Bool) (xs : List ℕ) (n : ℕ) → prefix_len p xs < n → n ≤ length xs → prefix_len p (take n xs) ≡ prefix_len p xs
prefix_len-take p [] n l m = absurd (omega arith)
prefix_len-take p (x ∷ xs) zero l m = absurd (omega arith)
prefix_len-take p (x ∷ xs) (suc n) l m = by (p x) l (λ h. prefix_len-take p xs n h (omega arith))
  where
    by : (b : Bool) → cond b (1 + prefix_len p xs) 0 < suc n → (prefix_len p xs < n → prefix_len p (take n xs) ≡ prefix_len p xs)
        → cond b (1 + prefix_len p (take n xs)) 0 ≡ cond b (1 + prefix_len p xs) 0
    by true h more = ap (λ k. 1 + k) (more (omega arith))
    by false h more = refl

pub prefix_len-take_all : (p : ℕ → Bool) (xs : List ℕ) (n : ℕ) → n ≤ prefix_len p xs → prefix_len p (take n xs) ≡ n
prefix_len-take_all p xs zero l = refl
prefix_len-take_all p [] (suc n) l = absurd (omega arith)
prefix_len-take_all p (x ∷ xs) (suc n) l = by (p x) l (λ h. prefix_len-take_all p xs n h)
  where
    by : (b : Bool) → suc n ≤ cond b (1 + prefix_len p xs) 0 → (n ≤ prefix_len p xs → prefix_len p (take n xs) ≡ n) → cond b (1 + prefix_len p (take n xs)) 0 ≡ suc n
    by true h more = let e : prefix_len p (take n xs) ≡ n = more (omega arith) in omega arith
    by false h more = absurd (omega arith)

-- from the run's end on a prefix has the whole run
run_in_prefix : (p : ℕ → Bool) (xs : List ℕ) (m : ℕ) → prefix_len p xs + m ≤ length xs → prefix_len p (take (prefix_len p xs + m) xs) ≡ prefix_len p xs
run_in_prefix p xs zero l = rw add-zero (prefix_len-take_all p xs (prefix_len p xs) (omega arith))
run_in_prefix p xs (suc m) l = prefix_len-take p xs (prefix_len p xs + suc m) (omega arith) l

-- ---- the same test in other words

pub longest_same : (t u : List ℕ → Bool) (rest : List ℕ) (len : ℕ) → ((n : ℕ) → n ≤ length rest → t (take n rest) ≡ u (take n rest)) → IsLongestPass u rest len → IsLongestPass t rest len
longest_same t u rest len same h = record {
  inside = h.inside;
  passes = same len h.inside ∙ h.passes;
  longest = λ n l m. same n m ∙ h.longest n l m;
}

pub none_same : (t u : List ℕ → Bool) (rest : List ℕ) → ((n : ℕ) → n ≤ length rest → t (take n rest) ≡ u (take n rest)) → NonePasses u rest → NonePasses t rest
none_same t u rest same h = record { none = λ n m. same n m ∙ h.none n m }

-- ---- at least one

pub longest_some : (p : ℕ → Bool) (xs : List ℕ) → 0 < prefix_len p xs → IsLongestPass (are_some p) xs (prefix_len p xs)
longest_some p xs pos =
    let run = longest_run p xs in
    let one : nat_le 1 (length (take (prefix_len p xs) xs)) ≡ true = le-leb 1 (length (take (prefix_len p xs) xs)) (omega (arith, length-take-le (prefix_len p xs) xs run.inside)) in
    record { inside = run.inside; passes = rw (one, run.passes) refl; longest = λ n l m. rw (past_run p xs n l m) (and_false _) }

pub none_some : (p : ℕ → Bool) (xs : List ℕ) → prefix_len p xs ≡ 0 → NonePasses (are_some p) xs
none_some p xs e = record { none = by }
  where
    by : (n : ℕ) → n ≤ length xs → are_some p (take n xs) ≡ false
    by zero l = refl
    by (suc n) l = rw (past_run p xs (suc n) (omega arith) l) (and_false _)

-- ---- one byte, and then another test

pub longest_cons : (t u : List ℕ → Bool) (b : ℕ) (bs : List ℕ) (len : ℕ) → ((xs : List ℕ) → t (b ∷ xs) ≡ u xs) → IsLongestPass u bs len → IsLongestPass t (b ∷ bs) (len + 1)
longest_cons t u b bs len e h = record {
  inside = omega (arith, h.inside);
  passes = rw add-one (e (take len bs) ∙ h.passes);
  longest = by;
}
  where
    by : (n : ℕ) → len + 1 < n → n ≤ length (b ∷ bs) → t (take n (b ∷ bs)) ≡ false
    by zero l m = absurd (omega arith)
    by (suc n) l m = e (take n bs) ∙ h.longest n (omega arith) (omega arith)

pub none_cons : (t u : List ℕ → Bool) (b : ℕ) (bs : List ℕ) → t [] ≡ false → ((xs : List ℕ) → t (b ∷ xs) ≡ u xs) → NonePasses u bs → NonePasses t (b ∷ bs)
none_cons t u b bs start e h = record { none = by }
  where
    by : (n : ℕ) → n ≤ length (b ∷ bs) → t (take n (b ∷ bs)) ≡ false
    by zero l = start
    by (suc n) l = e (take n bs) ∙ h.none n (omega arith)

-- where the empty text passes, and nothing longer does
pub longest_none : (t u : List ℕ → Bool) (b : ℕ) (bs : List ℕ) → t [] ≡ true → ((xs : List ℕ) → t (b ∷ xs) ≡ u xs) → NonePasses u bs → IsLongestPass t (b ∷ bs) 0
longest_none t u b bs start e h = record { inside = omega arith; passes = start; longest = by }
  where
    by : (n : ℕ) → 0 < n → n ≤ length (b ∷ bs) → t (take n (b ∷ bs)) ≡ false
    by zero l m = absurd (omega arith)
    by (suc n) l m = e (take n bs) ∙ h.none n (omega arith)

-- ---- a run, and then another test

-- at the run's end and behind it, a test that cuts off the run is the other test of the rest
pub behind_run : (p : ℕ → Bool) (t : List ℕ → Bool) (v : ℕ → List ℕ → Bool) → ((xs : List ℕ) → t xs ≡ v (prefix_len p xs) (drop (prefix_len p xs) xs))
    → (xs : List ℕ) (m : ℕ) → prefix_len p xs + m ≤ length xs → t (take (prefix_len p xs + m) xs) ≡ v (prefix_len p xs) (take m (drop (prefix_len p xs) xs))
behind_run p t v e xs m l =
    e (take (prefix_len p xs + m) xs) ∙ rw (run_in_prefix p xs m l) (rw (drop-take (prefix_len p xs) m xs) refl)

pub longest_behind : (p : ℕ → Bool) (t : List ℕ → Bool) (v : ℕ → List ℕ → Bool) → ((xs : List ℕ) → t xs ≡ v (prefix_len p xs) (drop (prefix_len p xs) xs))
    → (xs : List ℕ) (len : ℕ) → IsLongestPass (v (prefix_len p xs)) (drop (prefix_len p xs) xs) len → IsLongestPass t xs (prefix_len p xs + len)
longest_behind p t v e xs len h =
    let k : ℕ = prefix_len p xs in
    let fits : k ≤ length xs = prefix_len-le-length p xs in
    let long : length (drop k xs) ≡ length xs - k = length-drop k xs in
    record {
      inside = omega (arith, h.inside);
      passes = behind_run p t v e xs len (omega (arith, h.inside)) ∙ h.passes;
      longest = λ n l m.
          let split : n ≡ k + (n - k) = omega arith in
          subst (λ j. t (take j xs) ≡ false) (sym split) (behind_run p t v e xs (n - k) (omega arith) ∙ h.longest (n - k) (omega arith) (omega arith));
    }

pub none_behind : (p : ℕ → Bool) (t : List ℕ → Bool) (v : ℕ → List ℕ → Bool) → ((xs : List ℕ) → t xs ≡ v (prefix_len p xs) (drop (prefix_len p xs) xs)) → ((n : ℕ) → v n [] ≡ false)
    → (xs : List ℕ) → NonePasses (v (prefix_len p xs)) (drop (prefix_len p xs) xs) → NonePasses t xs
none_behind p t v e empty xs h = record { none = λ n l. elim (cases_lt n (prefix_len p xs)) [ inl below ↦ within n l (omega arith) | inr above ↦ past n l above ] }
  where
    within : (n : ℕ) → n ≤ length xs → n ≤ prefix_len p xs → t (take n xs) ≡ false
    within n l below =
        let run : prefix_len p (take n xs) ≡ n = prefix_len-take_all p xs n below in
        let none : drop n (take n xs) ≡ [] = drop_all n (take n xs) (omega (arith, length-take-le n xs l)) in
        e (take n xs) ∙ rw (run, none) (empty n)

    past : (n : ℕ) → n ≤ length xs → prefix_len p xs ≤ n → t (take n xs) ≡ false
    past n l above =
        let k : ℕ = prefix_len p xs in
        let split : n ≡ k + (n - k) = omega arith in
        let long : length (drop k xs) ≡ length xs - k = length-drop k xs in
        subst (λ j. t (take j xs) ≡ false) (sym split) (behind_run p t v e xs (n - k) (omega arith) ∙ h.none (n - k) (omega arith))
