use Rattle.std.proofs.Common.{refl, ap}
use Rattle.hack_tree.specs.declared.written_type.Container.{Container}
use Rattle.hack_rules.specs.Walks.{pure}
use Rattle.hack_written.specs.inside.Rows.{key_of, setting_in}
use Rattle.hack_written.proofs.Walking.{walked, walks_as}
use Rattle.hack_written.proofs.parts.expect_key_of.Goals as goal

pub returns-in-Vec : goal.returns-in-Vec
unfolding pure
returns-in-Vec g c =
    let setting = setting_in c.args.around.now in let s = c.args.state.now in
    walked _ _ s s tt (λ m. ap (λ (k : Container). key_of c.args.around.now.bounds c.args.at c.args.ty.now k setting m s) c.in-Vec.is) refl (λ symbols n. tt)

pub returns-in-Keyset : goal.returns-in-Keyset
returns-in-Keyset g c =
    let setting = setting_in c.args.around.now in let s = c.args.state.now in
    walks_as _ c.expect_key_type.result c.expect_key_type.ensures
    (λ m. ap (λ (k : Container). key_of c.args.around.now.bounds c.args.at c.args.ty.now k setting m s) c.in-Keyset.is) (λ symbols n. n) (λ symbols a n w. tt)
