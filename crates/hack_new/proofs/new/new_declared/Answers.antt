use Rattle.std.proofs.Common.{◌∙◌, Ok, length, sym, arith}
use Rattle.std.proofs.lemmas.Bool.{eqb-false}
use Rattle.hack_types.specs.declared.hack_type.HackType.TheVariants.{Any}
use Rattle.hack_sub.specs.NamesPut.{of_any}
use Rattle.hack_walk.specs.Checks.{setting_of}
use Rattle.hack_walk.specs.WalkLaws.{walks_as, walks_pure}
use Rattle.hack_new.proofs.Naming.{other_law, right_law}
use Rattle.hack_new.proofs.new.new_declared.Goals as goal

pub returns-then-params-types : goal.returns-then-params-types
returns-then-params-types g c =
    walks_as _ (Ok Any) (walks_pure _ c.args.state.now Any (λ symbols n. of_any symbols))
    (λ m. other_law c.args.at c.args.name_at c.args.name c.args.given.now (setting_of c.args.setting.now) m c.args.state.now c.args.params.now c.args.types.now c.args.own c.requires (eqb-false (length c.args.types.now) 0 (sym c.is_empty.ensures ∙ c.if-is_empty.false)) (omega arith))

pub returns : goal.returns
returns g c =
    walks_as _ c.new_with.result c.new_with.ensures
    (λ m. right_law c.args.at c.args.name_at c.args.name c.args.given.now (setting_of c.args.setting.now) m c.args.state.now c.args.params.now c.args.types.now c.args.own c.requires (eqb-false (length c.args.types.now) 0 (sym c.is_empty.ensures ∙ c.if-is_empty.false)) (omega arith))
