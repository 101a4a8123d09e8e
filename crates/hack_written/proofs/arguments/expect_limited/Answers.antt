use Rattle.std.proofs.Common.{◌≡◌, ◌∙◌, List, All, length, map, sym, ap, subst}
use Rattle.hack_types.specs.Substituted.{limited}
use Rattle.hack_types.specs.declared.hack_type.HackType.{HackType}
use Rattle.hack_decls.specs.Names.{TypeIn}
use Rattle.hack_rules.specs.WrittenTypes.{expect_arguments}
use Rattle.hack_written.specs.Within.{arguments_of}
use Rattle.hack_written.specs.inside.Rows.{setting_in}
use Rattle.hack_written.proofs.Puts.{all_limited, all_stay, limited_count}
use Rattle.hack_written.proofs.Walking.{walks_as}
use Rattle.hack_written.proofs.arguments.expect_limited.Goals as goal

pub returns-then-are_small : goal.returns-then-are_small
returns-then-are_small g c =
    let around = c.args.around.now in let setting = setting_in around in let s = c.args.state.now in
    walks_as _ c.expect_arguments.result c.expect_arguments.ensures
    (λ m. ap (λ (ts : List HackType). expect_arguments c.args.params.now (arguments_of c.args.written.now ts) setting m s) (all_stay c.args.types.now (sym c.are_small.ensures ∙ c.if-are_small.true)))
    (λ symbols n. n) (λ symbols a n w. tt)

pub expect_arguments-done-requires : goal.expect_arguments-done-requires
expect_arguments-done-requires g c =
    c.requires ∙ limited_count c.args.types.now ∙ sym (ap (λ (ts : List HackType). length ts) (c.as_slice.ensures ∙ c.in_ok-small.ensures))

pub returns : goal.returns
returns g c =
    let around = c.args.around.now in let setting = setting_in around in let s = c.args.state.now in
    let is : c.as_slice.result.now ≡ map limited c.args.types.now = c.as_slice.ensures ∙ c.in_ok-small.ensures in
    walks_as _ c.expect_arguments-done.result c.expect_arguments-done.ensures
    (λ m. ap (λ (ts : List HackType). expect_arguments c.args.params.now (arguments_of c.args.written.now ts) setting m s) (sym is))
    (λ symbols n. (subst (λ (ts : List HackType). All (TypeIn symbols) ts) (sym is) (all_limited symbols c.args.types.now n.0), n.1)) (λ symbols a n w. tt)
