-- A body that is filled from what was there and what comes.
use Rattle.std.proofs.Common.{◌≡◌, ℕ, ◌+◌, ◌<◌, ◌≤◌, List, [], ◌++◌, length, take, sym, ap, ◌∙◌, arith, append_assoc, append-nil, length-take-le}
use borrow.Rule.Slice.PartMut.{put_mid}
use Rattle.script_text.proofs.Filling.{take-filled}

pub fill_more : (old x y u v body part : List ℕ) (f k n : ℕ) → f ≤ length body → n ≤ length part → old ++ x ≡ take f body ++ u → u ≡ [] → y ≡ take n part → v ≡ u
    → old ++ (x ++ y) ≡ take (f + n) (put_mid f k body part) ++ v
fill_more old x y u v body part f k n inside fits p e q same =
    sym (append_assoc old x y) ∙ ap (λ l. l ++ y) (p ∙ ap (λ l. take f body ++ l) e ∙ append-nil (take f body)) ∙ ap (λ l. take f body ++ l) q
    ∙ sym (take-filled f k n body part inside fits) ∙ sym (append-nil (take (f + n) (put_mid f k body part))) ∙ ap (λ l. take (f + n) (put_mid f k body part) ++ l) (sym (same ∙ e))

pub waits_more : (old x y u body : List ℕ) (f size : ℕ) → f ≤ length body → f < size → old ++ x ≡ take f body ++ u → u ≡ [] → u ++ y ≡ u → length (old ++ (x ++ y)) < size
waits_more old x y u body f size inside few p e q =
    let whole : old ++ (x ++ y) ≡ take f body =
    sym (append_assoc old x y) ∙ ap (λ l. l ++ y) p ∙ append_assoc (take f body) u y ∙ ap (λ l. take f body ++ l) (q ∙ e) ∙ append-nil (take f body) in
    let size_ : length (old ++ (x ++ y)) ≡ f = ap length whole ∙ length-take-le f body inside in
    omega (arith, size_, few)
