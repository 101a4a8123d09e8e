use Rattle.std.proofs.Common.{◌∙◌, Bool, refl, ap, sym, if◌then◌else◌}
use Rattle.hack_types.specs.Substituted.{limited}
use Rattle.hack_types.specs.declared.hack_type.HackType.{HackType}
use Rattle.hack_rules.specs.Walks.{pure}
use Rattle.hack_rules.specs.WrittenTypes.{expect_key}
use Rattle.hack_sub.specs.NamesPut.{of_any}
use Rattle.hack_written.specs.inside.Rows.{setting_in}
use Rattle.hack_written.proofs.Puts.{goes, stays}
use Rattle.hack_written.proofs.Walking.{walked, walks_as}
use Rattle.hack_written.proofs.parts.expect_key_type.Goals as goal

pub returns-then-not-bounds : goal.returns-then-not-bounds
unfolding pure
returns-then-not-bounds g c =
    let setting = setting_in c.args.around.now in let s = c.args.state.now in
    walked _ _ s s tt (λ m. ap (λ (b : Bool). (if b then expect_key c.args.at (limited c.args.ty.now) else pure tt) setting m s) c.if-not-bounds.true) refl (λ symbols n. tt)

pub returns-then-is_small : goal.returns-then-is_small
returns-then-is_small g c =
    let setting = setting_in c.args.around.now in let s = c.args.state.now in let ty = c.args.ty.now in
    walks_as _ c.expect_key.result c.expect_key.ensures
    (λ m. ap (λ (b : Bool). (if b then expect_key c.args.at (limited ty) else pure tt) setting m s) c.if-not-bounds.false
    ∙ ap (λ (t : HackType). expect_key c.args.at t setting m s) (sym (stays ty c.is_small.result c.is_small.ensures c.if-is_small.true)))
    (λ symbols n. n) (λ symbols a n w. tt)

pub returns : goal.returns
returns g c =
    let setting = setting_in c.args.around.now in let s = c.args.state.now in let ty = c.args.ty.now in
    walks_as _ c.expect_key-2.result c.expect_key-2.ensures
    (λ m. ap (λ (b : Bool). (if b then expect_key c.args.at (limited ty) else pure tt) setting m s) c.if-not-bounds.false
    ∙ ap (λ (t : HackType). expect_key c.args.at t setting m s) (sym (goes ty c.is_small.result c.is_small.ensures c.if-is_small.false)))
    (λ symbols n. of_any symbols) (λ symbols a n w. tt)
