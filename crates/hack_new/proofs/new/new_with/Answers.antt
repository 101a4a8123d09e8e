use Rattle.std.proofs.Common.{◌∙◌, Ok, sym}
use Rattle.std.proofs.lemmas.Result.{err_from_is_err_and}
use Rattle.hack_types.specs.Substituted.{limited}
use Rattle.hack_types.specs.declared.hack_type.HackType.TheVariants.{Class}
use Rattle.hack_decls.specs.Names.{TypeIn}
use Rattle.hack_rules.specs.Walks.{pure}
use Rattle.hack_walk.specs.Checks.{setting_of}
use Rattle.hack_walk.specs.NamesKept.{in_limited}
use Rattle.hack_walk.specs.WalkLaws.{refused, walks_as, walks_next, walks_pure, weaker}
use Rattle.hack_new.proofs.Naming.{large_law, small_law}
use Rattle.hack_new.proofs.Wording.{in_arguments, in_made}
use Rattle.hack_new.proofs.new.new_with.Goals as goal

pub returns-then-not-is_small : goal.returns-then-not-is_small
returns-then-not-is_small g c =
    walks_as _ c.refuse_large.result (weaker c.refuse_large.result c.refuse_large.ensures (λ symbols n. tt) (λ symbols a n v. v))
    (λ m. large_law c.args.at c.args.name_at c.args.name c.args.params.now c.args.types.now c.args.own c.args.given.now (setting_of c.args.setting.now) m c.args.state.now c.requires
    (sym c.is_small.ensures ∙ c.if-not-is_small.true))

pub returns-in_err-small_class : goal.returns-in_err-small_class
returns-in_err-small_class g c =
    let name = c.args.name in let own = c.args.own in
    let p = err_from_is_err_and c.from_residual.result c.from_residual.ensures.1 in
    rw (p.1, p.2) (refused c.in_err-small_class.ensures (λ symbols n. (n.0, in_arguments symbols name own n.0 n.1, in_made symbols name own n.0 n.1, n.2, n.3)))

pub returns : goal.returns
returns g c =
    let name = c.args.name in let own = c.args.own in
    rw c.limited.ensures (walks_as _ (Ok (limited (Class name own)))
    (walks_next (pure (limited (Class name own))) (Ok (limited (Class name own))) c.in_ok-small_class.ensures
    (walks_pure {Names = λ symbols. TypeIn symbols (Class name own)} _ _ (limited (Class name own)) (λ symbols n. in_limited symbols (Class name own) n))
    (λ symbols n. (n.0, in_arguments symbols name own n.0 n.1, in_made symbols name own n.0 n.1, n.2, n.3)) (λ symbols n g. in_made symbols name own n.0 n.1) (λ symbols b n g h. h))
    (λ m. small_law c.args.at c.args.name_at name c.args.params.now c.args.types.now own c.args.given.now (setting_of c.args.setting.now) m c.args.state.now c.requires
    (sym c.is_small.ensures ∙ c.if-not-is_small.false)))
