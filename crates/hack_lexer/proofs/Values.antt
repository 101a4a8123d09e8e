-- The numbers that digits spell.
use Rattle.std.proofs.Common.{◌≡◌, ◌<◌, ◌≤◌, ◌+◌, ◌*◌, ℕ, List, [], ◌∷◌, length, drop, get_or, fold, ap, ◌∙◌, arith}
use Rattle.std.proofs.lemmas.List.{drop_more}
use Rattle.hack_lexer.specs.Forms.{digit_of, number_of}

-- more digits never spell less
number_grows : (base n : ℕ) (xs : List ℕ) → 1 ≤ base → n ≤ fold (λ k b. base * k + digit_of b) n xs
number_grows base n [] l = omega arith
number_grows base n (x ∷ xs) l =
    let rest : base * n + digit_of x ≤ fold (λ k b. base * k + digit_of b) (base * n + digit_of x) xs = number_grows base (base * n + digit_of x) xs l in
    let once : n ≤ base * n = grown base n l in
    omega arith
  where
    grown : (k m : ℕ) → 1 ≤ k → m ≤ k * m
    grown k m h = grind arith

pub number_above : (base value i limit : ℕ) (digits : List ℕ) → 1 ≤ base → i < length digits → number_of base digits ≡ fold (λ k b. base * k + digit_of b) value (drop i digits)
    → limit ≤ base * value + digit_of (get_or digits i 0) → limit ≤ number_of base digits
number_above base value i limit digits l inside e above =
    let cut : drop i digits ≡ get_or digits i 0 ∷ drop (i + 1) digits = drop_more digits i 0 inside in
    let grows : base * value + digit_of (get_or digits i 0) ≤ fold (λ k b. base * k + digit_of b) (base * value + digit_of (get_or digits i 0)) (drop (i + 1) digits) =
    number_grows base (base * value + digit_of (get_or digits i 0)) (drop (i + 1) digits) l in
    let is : number_of base digits ≡ fold (λ k b. base * k + digit_of b) (base * value + digit_of (get_or digits i 0)) (drop (i + 1) digits) =
    e ∙ ap (fold (λ k b. base * k + digit_of b) value) cut in
    omega arith
