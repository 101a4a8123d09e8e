use Rattle.std.proofs.Common.{◌∙◌, Option, ap, sym}
use Rattle.hack_types.specs.declared.hack_type.HackType.{HackType}
use Rattle.hack_types.specs.declared.hack_type.HackType.TheVariants as type
use Rattle.hack_rules.specs.Values.{this_or, this_row}
use Rattle.hack_rules.specs.Walks.{◌>>=◌, reads}
use Rattle.hack_walk.specs.Checks.{setting_of}
use Rattle.hack_walk.specs.WalkLaws.{step_pure}
use Rattle.hack_values.proofs.Naming.{of_this}
use Rattle.hack_values.proofs.Stepping.{steps_as}
use Rattle.hack_values.proofs.This.{no_this, some_this}
use Rattle.hack_values.proofs.variables.this_here.Goals as goal

pub returns-then-has_this : goal.returns-then-has_this
unfolding this_row ◌>>=◌ reads
returns-then-has_this c =
    let s = c.args.state.now in let at = c.args.at in let scope = c.args.setting.now.scope.now in
    steps_as (this_row at) _ (step_pure s type.This (λ symbols n. of_this symbols))
    (λ map. ap (λ (ty : Option HackType). this_or at ty (setting_of c.args.setting.now) map s) (some_this scope (sym c.if-has_this.true ∙ c.has_this.ensures)))

pub returns : goal.returns
unfolding this_row ◌>>=◌ reads
returns c =
    let s = c.args.state.now in let at = c.args.at in let scope = c.args.setting.now.scope.now in
    steps_as (this_row at) c.refuse_this.result c.refuse_this.ensures
    (λ map. ap (λ (ty : Option HackType). this_or at ty (setting_of c.args.setting.now) map s) (no_this scope (sym c.if-has_this.false ∙ c.has_this.ensures)))
