use Rattle.std.proofs.Common.{◌∙◌, subst, sym}
use Rattle.hack_decls.specs.NameLaws as laws
use Rattle.hack_decls.specs.Names.{TypeIn}
use Rattle.hack_types.specs.declared.hack_type.HackType.TheOpen.{HackType-F}
use Rattle.hack_types.specs.declared.hack_type.HackType.TheVariants as type
use Rattle.hack_walk.specs.WalkLaws.{restated}
use Rattle.hack_flow.proofs.Foreaching.{out_of, seen_class}
use Rattle.hack_flow.proofs.foreach_types.seen_as.Goals as goal

pub returns-in-Class : goal.returns-in-Class
returns-in-Class g c =
    let class = c.in-Class.class in let own = c.in-Class.arguments in let head = c.args.head.now in let is = c.in-Class.is in
    let layers = out_of head _ (HackType-F.Class class own) is (type.rolls-Class class own) in
    restated c.given.result c.given.ensures (λ m a so. so ∙ sym (seen_class m c.args.name head class own layers))
    (λ symbols n. laws.in_class symbols class own (subst (TypeIn symbols) is n)) (λ symbols a n h. h)
