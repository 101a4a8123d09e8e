use Rattle.std.proofs.Common.{◌∙◌, Ok, All, List, [], ap, subst, sym}
use Rattle.std.proofs.lemmas.Result.{err_from_is_err_and}
use Rattle.hack_types.specs.Substituted.{limited}
use Rattle.hack_types.specs.declared.hack_type.HackType.{HackType}
use Rattle.hack_types.specs.declared.hack_type.HackType.TheVariants.{Class}
use Rattle.hack_decls.specs.NameLaws.{none}
use Rattle.hack_decls.specs.Names.{TypeIn}
use Rattle.hack_rules.specs.Walks.{◌>>◌, pure}
use Rattle.hack_walk.specs.Checks.{setting_of}
use Rattle.hack_walk.specs.NamesKept.{in_limited}
use Rattle.hack_walk.specs.WalkLaws.{refused, walks_as, walks_next, walks_pure}
use Rattle.hack_new.specs.inside.Rows.{construct_row}
use Rattle.hack_new.proofs.Constructing.{constructed_law}
use Rattle.hack_new.proofs.Wording.{in_made}
use Rattle.hack_new.proofs.new.plain_class.Goals as goal

pub returns-in_err-construct : goal.returns-in_err-construct
returns-in_err-construct g c =
    let name = c.args.name in let own = c.new.result in
    let p = err_from_is_err_and c.from_residual.result c.from_residual.ensures.1 in
    rw (p.1, p.2) (refused c.in_err-construct.ensures
    (λ symbols n. (n.0, none (TypeIn symbols), in_made symbols name own n.0 (subst (λ (ts : List HackType). All (TypeIn symbols) ts) (sym c.new.ensures) (none (TypeIn symbols))), n.1)))

pub returns : goal.returns
returns g c =
    let at = c.args.at in let name = c.args.name in let own = c.new.result in let given = c.args.given.now in
    let setting = setting_of c.args.setting.now in let s = c.args.state.now in
    rw c.limited.ensures (walks_as _ (Ok (limited (Class name own)))
    (walks_next (pure (limited (Class name own))) (Ok (limited (Class name own))) c.in_ok-construct.ensures
    (walks_pure {Names = λ symbols. TypeIn symbols (Class name own)} _ _ (limited (Class name own)) (λ symbols n. in_limited symbols (Class name own) n))
    (λ symbols n. (n.0, none (TypeIn symbols), in_made symbols name own n.0 (subst (λ (ts : List HackType). All (TypeIn symbols) ts) (sym c.new.ensures) (none (TypeIn symbols))), n.1))
    (λ symbols n g. in_made symbols name own n.0 (subst (λ (ts : List HackType). All (TypeIn symbols) ts) (sym c.new.ensures) (none (TypeIn symbols)))) (λ symbols b n g h. h))
    (λ m. constructed_law at name [] (Class name []) given setting m s
    ∙ ap (λ (ts : List HackType). (construct_row at name [] (Class name ts) given >> pure (limited (Class name ts))) setting m s) (sym c.new.ensures)))
