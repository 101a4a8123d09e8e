use Rattle.std.proofs.Common.{Ok, ap}
use Rattle.hack_tree.specs.declared.expression.TestOperator.{TestOperator}
use Rattle.hack_types.specs.OptionOf.{option_of}
use Rattle.hack_types.specs.Substituted.{limited}
use Rattle.hack_types.specs.declared.hack_type.HackType.TheVariants as type
use Rattle.hack_rules.specs.Values.{test_by}
use Rattle.hack_sub.specs.NamesPut.{in_option_of}
use Rattle.hack_walk.specs.Checks.{setting_of}
use Rattle.hack_walk.specs.NamesKept.{in_limited}
use Rattle.hack_walk.specs.WalkLaws.{walks_as, walks_pure}
use Rattle.hack_values.proofs.Naming.{of_bool}
use Rattle.hack_values.proofs.tests.by_operator.Goals as goal

pub returns-in-Is : goal.returns-in-Is
returns-in-Is g c =
    walks_as _ (Ok type.Bool) (walks_pure _ c.args.state.now type.Bool (λ symbols n. of_bool symbols))
    (λ m. ap (λ (operator : TestOperator). test_by c.args.subject operator c.args.tested (setting_of c.args.setting.now) m c.args.state.now) c.in-Is.is)

pub returns-in-As : goal.returns-in-As
returns-in-As g c =
    walks_as _ c.refined.result c.refined.ensures
    (λ m. ap (λ (operator : TestOperator). test_by c.args.subject operator c.args.tested (setting_of c.args.setting.now) m c.args.state.now) c.in-As.is)

pub returns-in_ok-into_option-in-NullAs : goal.returns-in_ok-into_option-in-NullAs
returns-in_ok-into_option-in-NullAs g c =
    let tested = c.args.tested in
    rw (c.limited.ensures, c.in_ok-into_option-in-NullAs.ensures) (walks_as _ (Ok (limited (option_of tested)))
    (walks_pure _ c.args.state.now (limited (option_of tested)) (λ symbols n. in_limited symbols (option_of tested) (in_option_of symbols tested n)))
    (λ m. ap (λ (operator : TestOperator). test_by c.args.subject operator tested (setting_of c.args.setting.now) m c.args.state.now) c.in-NullAs.is))
