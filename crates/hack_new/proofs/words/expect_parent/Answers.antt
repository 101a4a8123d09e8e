use Rattle.std.proofs.Common.{◌∙◌, ℕ, Ok, IsTrue, ap, subst, sym}
use Rattle.hack_tree.specs.declared.expression.ClassReference.{ClassReference}
use Rattle.hack_decls.specs.Names.{class_symbol}
use Rattle.hack_rules.specs.Classes.{name_or}
use Rattle.hack_rules.specs.News.{class_behind, expect_instance, expect_parent}
use Rattle.hack_walk.specs.Checks.{setting_of}
use Rattle.hack_walk.specs.WalkLaws.{walks_as, walks_pure, weaker}
use Rattle.hack_new.specs.inside.Rows.{IsNamed}
use Rattle.hack_new.proofs.Wording.{in_named, no_parent}
use Rattle.hack_new.proofs.words.expect_parent.Goals as goal

pub returns-in-Parent : goal.returns-in-Parent
returns-in-Parent g c =
    let ty = c.args.ty.now in let scope = c.args.setting.now.scope.now in
    let named = c.name_or.ensures ∙ ap name_or c.name_of.ensures in
    let has : IsNamed ty = subst (λ (k : ClassReference). IsNamed (class_behind k ty scope)) c.in-Parent.is c.requires in
    walks_as _ c.expect_instance.result
    (weaker c.expect_instance.result c.expect_instance.ensures
    (λ symbols n. subst (λ (k : ℕ). IsTrue (symbols (class_symbol k))) (sym named) (in_named symbols ty has n).0) (λ symbols a n v. v))
    (λ m. ap (λ (k : ClassReference). expect_parent c.args.at k ty (setting_of c.args.setting.now) m c.args.state.now) c.in-Parent.is
    ∙ ap (λ (k : ℕ). expect_instance c.args.at k (setting_of c.args.setting.now) m c.args.state.now) (sym named))

pub returns-in-Named : goal.returns-in-Named
returns-in-Named g c =
    walks_as _ (Ok tt) (walks_pure _ c.args.state.now tt (λ symbols n. tt))
    (λ m. no_parent c.args.at c.args.ty.now (setting_of c.args.setting.now) m c.args.state.now c.args.word.now c.in-Named.is)

pub returns-in-Named-2 : goal.returns-in-Named-2
returns-in-Named-2 g c =
    walks_as _ (Ok tt) (walks_pure _ c.args.state.now tt (λ symbols n. tt))
    (λ m. no_parent c.args.at c.args.ty.now (setting_of c.args.setting.now) m c.args.state.now c.args.word.now c.in-Named.is)

pub returns-in-Named-3 : goal.returns-in-Named-3
returns-in-Named-3 g c =
    walks_as _ (Ok tt) (walks_pure _ c.args.state.now tt (λ symbols n. tt))
    (λ m. no_parent c.args.at c.args.ty.now (setting_of c.args.setting.now) m c.args.state.now c.args.word.now c.in-Named.is)
