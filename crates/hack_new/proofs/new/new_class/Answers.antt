use Rattle.std.proofs.Common.{IsTrue, [], ap, subst}
use Rattle.std.proofs.lemmas.List.Elements.{All-head}
use Rattle.hack_tree.specs.declared.expression.ClassReference.{ClassReference}
use Rattle.hack_types.specs.declared.ids.SymbolId.{SymbolId}
use Rattle.hack_decls.specs.Names.{class_symbol}
use Rattle.hack_parts.specs.ExprIn.{ReferenceIn}
use Rattle.hack_rules.specs.News.{new_class}
use Rattle.hack_walk.specs.Checks.{setting_of}
use Rattle.hack_walk.specs.WalkLaws.{walks_as, weaker}
use Rattle.hack_new.proofs.Wording.{of_words}
use Rattle.hack_new.proofs.new.new_class.Goals as goal

pub returns-in-Named : goal.returns-in-Named
returns-in-Named g c =
    walks_as _ c.new_named.result
    (weaker c.new_named.result c.new_named.ensures
    (λ symbols n. (All-head (λ (s : SymbolId). IsTrue (symbols s)) (class_symbol c.in-Named.name) [] (subst (ReferenceIn symbols) c.in-Named.is n.0), n.1, n.2)) (λ symbols a n v. v))
    (λ m. ap (λ (k : ClassReference). new_class c.args.at c.args.class_at k c.args.types.now c.args.given.now (setting_of c.args.setting.now) m c.args.state.now) c.in-Named.is)

pub returns-in-Self_ : goal.returns-in-Self_
returns-in-Self_ g c =
    walks_as _ c.by_word.result (weaker c.by_word.result c.by_word.ensures (λ symbols n. (n.0, n.2)) (λ symbols a n v. v))
    (λ m. of_words c.args.at c.args.class_at c.args.types.now c.args.given.now (setting_of c.args.setting.now) m c.args.state.now c.args.class.now c.in-Self_.is)
