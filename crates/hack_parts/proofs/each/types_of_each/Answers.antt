use Rattle.std.proofs.Common.{◌<◌, length, refl, sym, subst}
use Rattle.hack_decls.specs.Names.{TypeIn}
use Rattle.hack_walk.specs.WalkLaws.{each_next, each_none}
use Rattle.hack_parts.specs.ExprIn.{ExprIn}
use Rattle.hack_parts.specs.PartLaws.{value_at, value_walks}
use Rattle.hack_parts.specs.Parts.{value_of}
use Rattle.hack_parts.proofs.each.types_of_each.Goals as goal

pub loop-part-init : goal.loop-part-init
loop-part-init g c = rw c.new-types.ensures (each_none value_of TypeIn _ _)

pub loop-part-preserved : goal.loop-part-preserved
loop-part-preserved g c =
    let xs = c.args.parts.now in let i = c.loop-part.part-index in let x = c.part-item.result in
    let lt : i < length xs = c.loop-part-test.true in
    let part = value_walks (value_at xs i x lt c.part-item.is c.requires.parts) refl c.in_ok-ty.ensures in
    rw c.in_ok-push.ensures (each_next value_of xs i _ lt c.part-item.is c.loop-part.invariant part (λ symbols n. subst (ExprIn c.args.setting.now.scope.now symbols) (sym c.part-item.is) (n i x lt)))
