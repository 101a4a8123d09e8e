use Rattle.std.proofs.Common.{All, IsTrue, List, ap, subst, sym}
use Rattle.hack_types.specs.declared.hack_type.HackType.{HackType}
use Rattle.hack_decls.specs.Names.{TypeIn, class_symbol}
use Rattle.hack_rules.specs.News.{expect_instance}
use Rattle.hack_rules.specs.Walks.{◌>>◌}
use Rattle.hack_rules.specs.WrittenTypes.{expect_arguments}
use Rattle.hack_walk.specs.Checks.{setting_of}
use Rattle.hack_walk.specs.WalkLaws.{walks_as, walks_next}
use Rattle.hack_written.specs.Within.{arguments_of}
use Rattle.hack_calls.specs.Named.{GivenIn}
use Rattle.hack_new.specs.inside.Rows.{construct_row, small_class}
use Rattle.hack_new.proofs.new.small_class.Goals as goal

pub returns : goal.returns
unfolding small_class
returns g c =
    let at = c.args.at in let name = c.args.name in let params = c.args.params.now in let types = c.args.types.now in
    let made = c.args.made.now in let given = c.args.given.now in let own = c.arguments_of-own.result.now in
    let is = c.arguments_of-own.ensures in
    walks_as _ c.construct.result
    (walks_next (expect_instance at name >> construct_row at name own made given) c.construct.result c.in_ok-expect_arguments.ensures
    (walks_next {NamesC = λ symbols. IsTrue (symbols (class_symbol name)) × All (TypeIn symbols) own × TypeIn symbols made × GivenIn symbols given}
    (construct_row at name own made given) c.construct.result c.in_ok-expect_instance.ensures c.construct.ensures (λ symbols n. n.0) (λ symbols n g. n) (λ symbols b n g h. h))
    (λ symbols n. (subst (λ (ts : List HackType). All (TypeIn symbols) ts) (sym is) n.1, n.4))
    (λ symbols n g. (n.0, subst (λ (ts : List HackType). All (TypeIn symbols) ts) (sym is) n.1, n.2, n.3)) (λ symbols b n g h. h))
    (λ m. ap (λ (ts : List HackType). (expect_arguments params (arguments_of types ts) >> (expect_instance at name >> construct_row at name ts made given)) (setting_of c.args.setting.now) m c.args.state.now) (sym is))
