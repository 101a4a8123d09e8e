use Rattle.std.proofs.Common.{◌∙◌, sym, ap, true}
use Rattle.hack_decls.specs.AskLaws.{unasked}
use Rattle.hack_rules.specs.Classes.{scope_class}
use Rattle.hack_rules.specs.Members.{is_visible, visible_to}
use Rattle.hack_types.specs.declared.shallow.Visibility.{Visibility}
use Rattle.hack_walk.specs.WalkLaws.{restated}
use Rattle.hack_members.proofs.Seen.{private_law, protected_law, public_law}
use Rattle.hack_members.proofs.visible.is_visible.Goals as goal

pub returns-in-Public : goal.returns-in-Public
unfolding is_visible
returns-in-Public g c =
    let scope = c.args.scope.now in let origin = c.args.member.now.origin in
    unasked _ true (λ m. public_law m scope.class origin ∙ ap (λ (v : Visibility). visible_to m v origin (scope_class scope)) (sym c.in-Public.is)) (λ symbols n. tt)

pub returns-in-Private : goal.returns-in-Private
unfolding is_visible
returns-in-Private g c =
    let scope = c.args.scope.now in let origin = c.args.member.now.origin in
    unasked _ c.is_class_of.result (λ m. c.is_class_of.ensures ∙ private_law m scope.class origin ∙ ap (λ (v : Visibility). visible_to m v origin (scope_class scope)) (sym c.in-Private.is)) (λ symbols n. tt)

pub returns-in-Protected : goal.returns-in-Protected
unfolding is_visible
returns-in-Protected g c =
    let scope = c.args.scope.now in let origin = c.args.member.now.origin in
    restated c.is_inside.result c.is_inside.ensures (λ m a e. e ∙ protected_law m scope.class origin ∙ ap (λ (v : Visibility). visible_to m v origin (scope_class scope)) (sym c.in-Protected.is))
    (λ symbols n. n) (λ symbols a n w. w)
