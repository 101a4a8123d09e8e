use Rattle.std.proofs.Common.{Ok, ap}
use Rattle.hack_tree.specs.declared.written_type.Container.{Container}
use Rattle.hack_walk.specs.Checks.{setting_of}
use Rattle.hack_walk.specs.WalkLaws.{walks_as, walks_pure}
use Rattle.hack_values.specs.inside.Rows.{expect_elements}
use Rattle.hack_values.proofs.containers.expect_elements.Goals as goal

pub returns-in-Vec : goal.returns-in-Vec
returns-in-Vec g c =
    walks_as _ (Ok tt) (walks_pure _ c.args.state.now tt (λ symbols n. tt))
    (λ m. ap (λ (k : Container). expect_elements k c.args.elements.now c.args.types.now (setting_of c.args.setting.now) m c.args.state.now) c.in-Vec.is)

pub returns-in-Keyset : goal.returns-in-Keyset
returns-in-Keyset g c =
    walks_as _ c.expect_keys.result c.expect_keys.ensures
    (λ m. ap (λ (k : Container). expect_elements k c.args.elements.now c.args.types.now (setting_of c.args.setting.now) m c.args.state.now) c.in-Keyset.is)
