use Rattle.std.proofs.Common.{◌∙◌, ℕ, All, IsTrue, List, ap, subst, sym}
use Rattle.hack_types.specs.declared.hack_type.HackType.{HackType}
use Rattle.hack_decls.specs.Names.{TypeIn, class_symbol}
use Rattle.hack_rules.specs.Classes.{name_or}
use Rattle.hack_sub.specs.Parts.{arguments_of}
use Rattle.hack_walk.specs.Checks.{setting_of}
use Rattle.hack_walk.specs.WalkLaws.{walks_as, weaker}
use Rattle.hack_new.specs.inside.Rows.{construct_row}
use Rattle.hack_new.proofs.Wording.{in_named}
use Rattle.hack_new.proofs.words.construct_of.Goals as goal

pub returns : goal.returns
returns g c =
    let at = c.args.at in let class = c.args.class.now in let made = c.args.made.now in let given = c.args.given.now in
    let name = c.name_or-name.result in let own = c.arguments_of-arguments.result.now in
    let named = c.name_or-name.ensures ∙ ap name_or c.name_of.ensures in
    walks_as _ c.construct.result
    (weaker c.construct.result c.construct.ensures
    (λ symbols n. (
      subst (λ (k : ℕ). IsTrue (symbols (class_symbol k))) (sym named) (in_named symbols class c.requires n.0).0,
      subst (λ (ts : List HackType). All (TypeIn symbols) ts) (sym c.arguments_of-arguments.ensures) (in_named symbols class c.requires n.0).1,
      n.1,
      n.2,
    )) (λ symbols a n v. v))
    (λ m. ap (λ (k : ℕ). construct_row at k (arguments_of class) made given (setting_of c.args.setting.now) m c.args.state.now) (sym named)
    ∙ ap (λ (ts : List HackType). construct_row at name ts made given (setting_of c.args.setting.now) m c.args.state.now) (sym c.arguments_of-arguments.ensures))
