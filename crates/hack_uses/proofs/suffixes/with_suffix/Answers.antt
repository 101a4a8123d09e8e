use Rattle.std.proofs.Common.{◌≡◌, ◌∙◌, All, Some, Option, List, map, sym, ap, subst}
use Rattle.hack_tree.specs.declared.expression.Expr.{Expr}
use Rattle.hack_tree.specs.declared.expression.Suffix.{Suffix}
use Rattle.hack_tree.specs.declared.expression.Suffix.TheVariants as suffix
use Rattle.hack_parts.specs.ExprIn.{ExprIn, SuffixIn}
use Rattle.hack_parts.specs.UseNames.{in_index, in_method}
use Rattle.hack_rules.specs.Expressions.{meaning_of}
use Rattle.hack_rules.specs.Meanings.{Aim}
use Rattle.hack_rules.specs.Walks.{Walk}
use Rattle.hack_targets.specs.AimIn.{AimIn}
use Rattle.hack_walk.specs.Checks.{setting_of}
use Rattle.hack_walk.specs.WalkLaws.{walks_as, weaker}
use Rattle.hack_uses.specs.inside.Steps.{index_step, method_step, suffix_step}
use Rattle.hack_uses.proofs.SuffixForms.{step_element, step_method}
use Rattle.hack_uses.proofs.suffixes.with_suffix.Goals as goal

pub returns-in-Some : goal.returns-in-Some
returns-in-Some g c =
    let at = c.args.at in let aim = c.args.target in let index = c.in-Some.index in
    let is = c.in-Index.is ∙ ap (λ (o : Option Expr). suffix.Index o) c.in-Some.is in
    walks_as {walk = index_step at (Some (meaning_of index)) aim} (suffix_step at c.args.suffix.now aim) c.element.result
    (weaker {Names = λ symbols. AimIn symbols aim × ExprIn c.args.setting.now.scope.now symbols index} c.element.result (rw (sym c.get.ensures) c.element.ensures) (λ symbols n. (n.0, in_index c.args.setting.now.scope.now symbols index (subst (SuffixIn c.args.setting.now.scope.now symbols) is n.1))) (λ symbols b n t. t))
    (λ m. ap (λ (f : Aim → Walk Aim). f aim (setting_of c.args.setting.now) m c.args.state.now) (ap (suffix_step at) is ∙ step_element at index))

pub returns-in-Some-arguments : goal.returns-in-Some-arguments
returns-in-Some-arguments g c =
    let at = c.args.at in let aim = c.args.target in let given = c.in-Some-arguments.arguments in let null_safe = c.in-Member.null_safe in let name = c.in-Member.name in
    let is = c.in-Member.is ∙ ap (λ (o : Option (List Expr)). suffix.Member null_safe name o) c.in-Some-arguments.is in
    walks_as {walk = method_step at null_safe name (map meaning_of given) aim} (suffix_step at c.args.suffix.now aim) c.method.result
    (weaker {Names = λ symbols. AimIn symbols aim × All (ExprIn c.args.setting.now.scope.now symbols) given} c.method.result (rw (sym c.as_slice.ensures) c.method.ensures) (λ symbols n. (n.0, in_method c.args.setting.now.scope.now symbols null_safe name given (subst (SuffixIn c.args.setting.now.scope.now symbols) is n.1)))
    (λ symbols b n t. t))
    (λ m. ap (λ (f : Aim → Walk Aim). f aim (setting_of c.args.setting.now) m c.args.state.now) (ap (suffix_step at) is ∙ step_method at null_safe name given))
