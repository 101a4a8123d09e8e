-- Room that is filled from its front.
use Rattle.std.proofs.Common.{◌≡◌, ℕ, ◌+◌, ◌≤◌, List, ◌++◌, length, take, sym, ap, ◌∙◌, arith, length-take, length-take-le, length-append}
use Rattle.std.proofs.lemmas.List.{take-take}
use Rattle.std.proofs.lemmas.Slice.{take-put_mid}
use Rattle.std.proofs.Math.Seq.{take-append-add}
use borrow.Rule.Slice.PartMut.{put_mid}

-- n bytes more are those that the part behind the first f has at its front
pub take-filled : (f k n : ℕ) (room into : List ℕ) → f ≤ length room → n ≤ length into → take (f + n) (put_mid f k room into) ≡ take f room ++ take n into
take-filled f k n room into inside fits =
    sym (take-take (f + n) (f + length into) (put_mid f k room into) (omega arith))
    ∙ ap (take (f + n)) (take-put_mid f k room into (f + length into) (omega arith) inside)
    ∙ ap (λ m. take (m + n) (take f room ++ into)) (sym (length-take-le f room inside)) ∙ take-append-add (take f room) into n

-- and they lie inside
pub filled-inside : (f k n : ℕ) (room into : List ℕ) → f ≤ length room → n ≤ length into → f + n ≤ length (put_mid f k room into)
filled-inside f k n room into inside fits =
    let whole = ap length (take-put_mid f k room into (f + length into) (omega arith) inside) in
    omega (arith, whole, length-take (f + length into) (put_mid f k room into), length-append (take f room) into, length-take-le f room inside)
