use Rattle.std.proofs.Common.{◌≡◌, ◌∙◌, All, None, Some, Option, List, map, sym, ap, subst}
use Rattle.hack_tree.specs.declared.expression.Expr.{Expr}
use Rattle.hack_tree.specs.declared.expression.ScopedMember.{ScopedMember}
use Rattle.hack_tree.specs.declared.expression.ScopedMember.TheVariants as member
use Rattle.hack_types.specs.declared.hack_type.HackType.{HackType}
use Rattle.hack_parts.specs.ExprIn.{ExprIn, MemberIn, ReferenceIn}
use Rattle.hack_parts.specs.ExprMeanings as one
use Rattle.hack_parts.specs.Forms.{member_of as scoped_of}
use Rattle.hack_parts.specs.UseNames.{in_word}
use Rattle.hack_rules.specs.Expressions.{ScopedMeaning, meaning_of}
use Rattle.hack_rules.specs.Uses.{static_call}
use Rattle.hack_rules.specs.Walks.{Walk}
use Rattle.hack_walk.specs.Checks.{setting_of}
use Rattle.hack_walk.specs.WalkLaws.{walks_as, weaker}
use Rattle.hack_uses.proofs.references.scoped.Goals as goal

pub returns-in-Property : goal.returns-in-Property
returns-in-Property g c =
    let at = c.args.at in let class = c.args.class.now in
    walks_as (scoped_of c.args.member.now at class).walk c.static_property.result (weaker c.static_property.result c.static_property.ensures (λ symbols n. n.0) (λ symbols b n t. t))
    (λ m. ap (λ (w : Walk HackType). w (setting_of c.args.setting.now) m c.args.state.now)
    (ap (λ (x : ScopedMember). (scoped_of x at class).walk) c.in-Property.is ∙ ap (λ (f : ScopedMeaning). (f at class).walk) (one.property c.in-Property.name)))

pub returns-in-None : goal.returns-in-None
returns-in-None g c =
    let at = c.args.at in let class = c.args.class.now in let name = c.in-Word.name in
    walks_as (scoped_of c.args.member.now at class).walk c.class_constant.result (weaker c.class_constant.result c.class_constant.ensures (λ symbols n. n.0) (λ symbols b n t. t))
    (λ m. ap (λ (w : Walk HackType). w (setting_of c.args.setting.now) m c.args.state.now)
    (ap (λ (x : ScopedMember). (scoped_of x at class).walk) (c.in-Word.is ∙ ap (λ (o : Option (List Expr)). member.Word name o) c.in-None.is) ∙ ap (λ (f : ScopedMeaning). (f at class).walk) (one.word_none name)))

pub returns-in-Some : goal.returns-in-Some
returns-in-Some g c =
    let at = c.args.at in let class = c.args.class.now in let name = c.in-Word.name in let given = c.in-Some.arguments in
    let is = c.in-Word.is ∙ ap (λ (o : Option (List Expr)). member.Word name o) c.in-Some.is in
    walks_as {walk = static_call at class name (map meaning_of given)} (scoped_of c.args.member.now at class).walk c.static_call.result
    (weaker {Names = λ symbols. ReferenceIn symbols class × All (ExprIn c.args.setting.now.scope.now symbols) given} c.static_call.result (rw (sym c.as_slice.ensures) c.static_call.ensures) (λ symbols n. (n.0, in_word c.args.setting.now.scope.now symbols name given (subst (MemberIn c.args.setting.now.scope.now symbols) is n.1)))
    (λ symbols b n t. t))
    (λ m. ap (λ (w : Walk HackType). w (setting_of c.args.setting.now) m c.args.state.now)
    (ap (λ (x : ScopedMember). (scoped_of x at class).walk) is ∙ ap (λ (f : ScopedMeaning). (f at class).walk) (one.word_some name given)))
