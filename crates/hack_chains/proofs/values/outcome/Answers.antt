use Rattle.std.proofs.Common.{Bool, Ok, Option, sym, ap}
use Rattle.hack_types.specs.declared.hack_type.HackType.TheVariants as type
use Rattle.hack_rules.specs.Operators.{operation_of}
use Rattle.hack_walk.specs.Checks.{setting_of}
use Rattle.hack_walk.specs.WalkLaws.{walks_as, walks_pure}
use Rattle.hack_chains.specs.inside.Chaining.{equality_of, outcome}
use Rattle.hack_chains.proofs.Naming.{of_bool}
use Rattle.hack_chains.proofs.values.outcome.Goals as goal

pub returns-in-Some : goal.returns-in-Some
returns-in-Some g c =
    let operator = c.args.operator in let first = c.args.first.now in let second = c.args.second in
    walks_as (outcome c.args.at (equality_of operator) (operation_of operator) first second) (Ok type.Bool)
    (walks_pure _ _ type.Bool (λ symbols n. of_bool symbols))
    (λ m. ap (λ (e : Option Bool). outcome c.args.at e (operation_of operator) first second (setting_of c.args.setting.now) m c.args.state.now) (sym c.in-Some.ensures))

pub returns-in-None : goal.returns-in-None
returns-in-None g c =
    let operator = c.args.operator in let first = c.args.first.now in let second = c.args.second in
    walks_as (outcome c.args.at (equality_of operator) (operation_of operator) first second) c.combined.result c.combined.ensures
    (λ m. ap (λ (e : Option Bool). outcome c.args.at e (operation_of operator) first second (setting_of c.args.setting.now) m c.args.state.now) (sym c.in-None.ensures))
