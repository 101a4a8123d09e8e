use Rattle.std.proofs.Common.{◌≡◌, ◌∙◌, ◌++◌, ◌∷◌, [], Ok, List, All, map, ap, subst}
use Rattle.hack_tree.specs.declared.expression.Expr.{Expr}
use Rattle.hack_types.specs.declared.hack_type.HackType.TheVariants as type
use Rattle.hack_rules.specs.Chains.{power_row}
use Rattle.hack_rules.specs.Expressions.{meaning_of}
use Rattle.hack_sub.specs.NamesPut.{of_any}
use Rattle.hack_walk.specs.Checks.{setting_of}
use Rattle.hack_walk.specs.WalkLaws.{walks_as, walks_pure, weaker}
use Rattle.hack_parts.specs.ExprIn.{ExprIn}
use Rattle.hack_chains.proofs.RightGroups.{power_is}
use Rattle.hack_chains.proofs.Splits.{in_front, in_last}
use Rattle.hack_chains.proofs.powers.power.Goals as goal

pub returns-in-None : goal.returns-in-None
unfolding power_row
returns-in-None g c =
    walks_as (power_row (map meaning_of c.args.operands.now)) (Ok type.Any) (walks_pure _ _ type.Any (λ symbols n. of_any symbols))
    (λ m. ap (λ (es : List Expr). power_row (map meaning_of es) (setting_of c.args.setting.now) m c.args.state.now) c.in-None.ensures)

pub returns-in-Some : goal.returns-in-Some
returns-in-Some g c =
    let front = c.in-Some.front.now in let last = c.in-Some.last.now in
    let whole : c.args.operands.now ≡ front ++ last ∷ [] = c.in-Some.ensures in
    walks_as (power_row (map meaning_of c.args.operands.now)) c.power_of.result
    (weaker c.power_of.result c.power_of.ensures (λ symbols n. (in_front (ExprIn c.args.setting.now.scope.now symbols) front last (subst (All (ExprIn c.args.setting.now.scope.now symbols)) whole n), in_last (ExprIn c.args.setting.now.scope.now symbols) front last (subst (All (ExprIn c.args.setting.now.scope.now symbols)) whole n))) (λ symbols b n t. t))
    (λ m. ap (λ (es : List Expr). power_row (map meaning_of es) (setting_of c.args.setting.now) m c.args.state.now) whole
    ∙ power_is front last (setting_of c.args.setting.now) m c.args.state.now)
