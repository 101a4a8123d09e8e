use Rattle.std.proofs.Common.{◌++◌, ◌∷◌, [], map, take, sym, ap, ◌∙◌}
use Rattle.hack_types.proofs.UnionLemmas.{read, read_more}
use Rattle.hack_types.proofs.type_union.copies.Goals as goal

pub loop-ty-preserved : goal.loop-ty-preserved
loop-ty-preserved c =
    let before = take c.loop-ty.ty-index (map read c.args.types.now) in
    c.in_ok-push.ensures.items
    ∙ ap (λ l. l ++ c.in_ok-copy.field-0 ∷ []) c.loop-ty.invariant
    ∙ ap (λ t. before ++ t ∷ []) c.in_ok-copy.ensures
    ∙ sym (read_more c.args.types.now c.loop-ty.ty-index c.ty-item.result c.loop-ty-test.true c.ty-item.is)
