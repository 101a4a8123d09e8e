use Rattle.std.proofs.Common.{◌<◌, Ok, length, sym, ap, subst, arith}
use Rattle.std.proofs.lemmas.Result.{err_from_is_err_and}
use Rattle.hack_types.specs.declared.hack_type.HackType.TheVariants.{Arraykey}
use Rattle.hack_types.specs.declared.place.Place.{Place}
use Rattle.hack_decls.specs.Names.{TypeIn}
use Rattle.hack_rules.specs.Walks.{expect, for_pairs}
use Rattle.hack_walk.specs.Checks.{setting_of}
use Rattle.hack_walk.specs.WalkLaws.{then_refused, walks_as, walks_pure}
use Rattle.hack_values.specs.inside.Rows.{expect_key}
use Rattle.hack_values.proofs.Pairs.{pairs_all, pairs_next}
use Rattle.hack_values.proofs.containers.expect_keys.Goals as goal

pub loop-index-init : goal.loop-index-init
unfolding for_pairs
loop-index-init g c = walks_pure _ c.args.state.now tt (λ symbols n. tt)

pub loop-index-preserved : goal.loop-index-preserved
loop-index-preserved g c =
    let es = c.args.elements.now in let types = c.args.types.now in let i = c.loop-index.index in
    let e = c.index-elements-index.result in let ty = c.index-types-index.result in
    let setting = setting_of c.args.setting.now in let mid = c.loop-index.state in
    let le : i < length es = omega arith in
    let lt : i < length types = omega (arith, c.requires) in
    pairs_next expect_key setting es types i e ty le lt c.index-elements-index.is c.index-types-index.is c.loop-index.invariant
    (walks_as (expect_key e ty) (Ok tt) c.in_ok-expect_key.ensures (λ m. ap (λ (at : Place). expect at Arraykey ty setting m mid) (sym c.place_of-at.ensures)))
    (λ symbols n. subst (TypeIn symbols) (sym c.index-types-index.is) (n i ty lt))

pub returns : goal.returns
returns g c =
    let es = c.args.elements.now in let types = c.args.types.now in let i = c.loop-index.index in
    pairs_all expect_key (setting_of c.args.setting.now) es types i (omega arith) (omega (arith, c.requires)) c.loop-index.invariant

pub returns-in_err-expect_key : goal.returns-in_err-expect_key
returns-in_err-expect_key g c =
    let types = c.args.types.now in let i = c.loop-index.index in let ty = c.index-types-index.result in
    let lt : i < length types = omega (arith, c.requires) in
    let p = err_from_is_err_and c.from_residual.result c.from_residual.ensures.1 in
    rw (p.1, p.2) (then_refused c.loop-index.invariant c.in_err-expect_key.ensures (λ symbols n. n)
    (λ symbols n g. subst (TypeIn symbols) (sym c.index-types-index.is) (n i ty lt)))
