use Rattle.std.proofs.Common.{◌≡◌, ◌+◌, ◌++◌, ◌∷◌, [], ◌∙◌, ℕ, zero, suc, List, map, sym, ap, arith}
use Rattle.std.proofs.lemmas.List.{map_push}
use Rattle.std.specs.Global.{Vec}
use Rattle.std.specs.List.{range_with_len}
use Rattle.hack_types.specs.declared.hack_type.HackType.{HackType}
use Rattle.hack_infer.specs.Matching.{types_at}
use Rattle.hack_infer.proofs.taken.lists.Goals as goal

-- the numbers up to one more
last : (a n j : ℕ) → a + n ≡ j → range_with_len a (suc n) ≡ range_with_len a n ++ j ∷ []
last a zero j e = let same : a ≡ j = omega arith in ap (λ k. k ∷ []) same
last a (suc n) j e = ap (λ l. a ∷ l) (last (a + 1) n j (omega arith))

counting_more : (a n j : ℕ) → a + n ≡ j → range_with_len a (n + 1) ≡ range_with_len a n ++ j ∷ []
counting_more a n j e = let on : n + 1 ≡ suc n = omega arith in ap (range_with_len a) on ∙ last a n j e

pub loop-position-preserved : goal.loop-position-preserved
loop-position-preserved c =
    let f = types_at c.args.found.now in let p = c.loop-position.position in
    let types = λ (v : Vec HackType). v.items in
    let new = c.in_ok-types_at.field-0 in
    ap (map types) c.in_ok-push.ensures.items
    ∙ map_push types c.loop-position.all.items new
    ∙ ap (λ (l : List (List HackType)). l ++ new.items ∷ []) c.loop-position.invariant
    ∙ ap (λ (x : List HackType). map f (range_with_len 0 p) ++ x ∷ []) c.in_ok-types_at.ensures
    ∙ sym (ap (map f) (counting_more 0 p p (omega arith)) ∙ map_push f (range_with_len 0 p) p)
