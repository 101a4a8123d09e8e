use Rattle.std.proofs.Common.{◌∙◌, IsTrue, [], ap, subst}
use Rattle.std.proofs.lemmas.List.Elements.{All-head}
use Rattle.hack_tree.specs.declared.expression.ClassReference.{ClassReference}
use Rattle.hack_types.specs.declared.ids.SymbolId.{SymbolId}
use Rattle.hack_decls.specs.Names.{class_symbol}
use Rattle.hack_parts.specs.ExprIn.{ReferenceIn}
use Rattle.hack_rules.specs.Classes.{referred}
use Rattle.hack_walk.specs.Checks.{setting_of}
use Rattle.hack_walk.specs.WalkLaws.{walks_as, weaker}
use Rattle.hack_calls.proofs.Mentioning.{name_law, word_law}
use Rattle.hack_calls.proofs.mentions.referred.Goals as goal

pub returns-in-Named : goal.returns-in-Named
returns-in-Named g c =
    let at = c.args.at in let name = c.in-Named.name in
    walks_as (referred at c.args.class.now) c.by_name.result
    (weaker c.by_name.result c.by_name.ensures
    (λ symbols n. All-head (λ (s : SymbolId). IsTrue (symbols s)) (class_symbol name) [] (subst (ReferenceIn symbols) c.in-Named.is n)) (λ symbols a n g. g))
    (λ map. ap (λ (class : ClassReference). referred at class (setting_of c.args.setting.now) map c.args.state.now) c.in-Named.is
    ∙ name_law at name (setting_of c.args.setting.now) map c.args.state.now)

pub returns-in-Self_ : goal.returns-in-Self_
returns-in-Self_ g c =
    let at = c.args.at in
    walks_as (referred at c.args.class.now) c.by_word.result (weaker c.by_word.result c.by_word.ensures (λ symbols n. tt) (λ symbols a n g. g))
    (λ map. word_law at c.args.class.now (setting_of c.args.setting.now) map c.args.state.now c.in-Self_.is)
