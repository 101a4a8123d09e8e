use Rattle.std.proofs.Common.{◌∙◌, IfSome, Option, ap, subst, sym}
use Rattle.hack_tree.specs.declared.expression.ClassReference.{ClassReference}
use Rattle.hack_types.specs.declared.hack_type.HackType.{HackType}
use Rattle.hack_decls.specs.AskLaws.{unasked}
use Rattle.hack_decls.specs.Names.{TypeIn}
use Rattle.hack_rules.specs.Classes.{scope_class, word_type}
use Rattle.hack_walk.specs.WalkLaws.{restated}
use Rattle.hack_calls.proofs.Naming.{in_class_type, in_this_type}
use Rattle.hack_calls.proofs.parents.word_type.Goals as goal

pub returns-in-Named : goal.returns-in-Named
returns-in-Named g c =
    unasked _ _ (λ map. sym (ap (λ (word : ClassReference). word_type word map c.args.scope.now) c.in-Named.is)) (λ symbols n. tt)

pub returns-in_ok-class_type-in-Self_ : goal.returns-in_ok-class_type-in-Self_
returns-in_ok-class_type-in-Self_ g c =
    let scope = c.args.scope.now in let is = c.in_ok-class_type-in-Self_.ensures in
    unasked _ _ (λ map. is ∙ sym (ap (λ (word : ClassReference). word_type word map scope) c.in-Self_.is))
    (λ symbols n. subst (λ (o : Option HackType). IfSome o (TypeIn symbols)) (sym is) (in_class_type symbols scope n))

pub returns-in-Static : goal.returns-in-Static
returns-in-Static g c =
    let scope = c.args.scope.now in let is = c.this_type.ensures in
    unasked _ _ (λ map. is ∙ sym (ap (λ (word : ClassReference). word_type word map scope) c.in-Static.is))
    (λ symbols n. subst (λ (o : Option HackType). IfSome o (TypeIn symbols)) (sym is) (in_this_type symbols (scope_class scope)))

pub returns-in-Parent : goal.returns-in-Parent
returns-in-Parent g c =
    restated c.parent_type.result c.parent_type.ensures (λ map a e. e ∙ sym (ap (λ (word : ClassReference). word_type word map c.args.scope.now) c.in-Parent.is))
    (λ symbols n. n) (λ symbols a n g. g)
