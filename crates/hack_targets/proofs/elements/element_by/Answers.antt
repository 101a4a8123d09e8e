use Rattle.std.proofs.Common.{Ok, ap}
use Rattle.hack_rules.specs.Indices.{element_by}
use Rattle.hack_sub.specs.NamesPut.{of_any}
use Rattle.hack_types.specs.declared.hack_type.HackType.TheOpen.{HackType-F}
use Rattle.hack_types.specs.declared.hack_type.HackType.TheVariants as type
use Rattle.hack_types.specs.declared.hack_type.HackType.{HackType}
use Rattle.hack_walk.specs.WalkLaws.{of_step, walks_pure}
use Rattle.hack_targets.proofs.Heads.{out_of}
use Rattle.hack_targets.proofs.Stepping.{steps_more, walks_same}
use Rattle.hack_targets.proofs.elements.element_by.Goals as goal

pub returns-in-Any : goal.returns-in-Any
returns-in-Any g c =
    let layers = out_of c.args.head.now type.Any HackType-F.Any c.in-Any.is type.rolls-Any in
    walks_same _ (Ok type.Any) (ap (λ (layer : HackType-F HackType). element_by c.args.at c.args.left c.args.head.now c.args.index.now layer) layers) (walks_pure _ c.args.state.now type.Any (λ symbols n. of_any symbols))

pub returns-in_ok-refuse_null-in-Option : goal.returns-in_ok-refuse_null-in-Option
returns-in_ok-refuse_null-in-Option g c =
    let layers = out_of c.args.head.now _ (HackType-F.Option c.in-Option.field-0) c.in-Option.is (type.rolls-Option c.in-Option.field-0) in
    walks_same _ (Ok _) (ap (λ (layer : HackType-F HackType). element_by c.args.at c.args.left c.args.head.now c.args.index.now layer) layers) (of_step _ (steps_more (Ok _) c.in_ok-refuse_null-in-Option.ensures (λ symbols n. tt)))

pub returns-in_ok-refuse_null-in-Null : goal.returns-in_ok-refuse_null-in-Null
returns-in_ok-refuse_null-in-Null g c =
    let layers = out_of c.args.head.now type.Null HackType-F.Null c.in-Null.is type.rolls-Null in
    walks_same _ (Ok _) (ap (λ (layer : HackType-F HackType). element_by c.args.at c.args.left c.args.head.now c.args.index.now layer) layers) (of_step _ (steps_more (Ok _) c.in_ok-refuse_null-in-Null.ensures (λ symbols n. tt)))
