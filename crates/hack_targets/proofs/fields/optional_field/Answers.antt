use Rattle.std.proofs.Common.{Ok}
use Rattle.hack_decls.specs.Names.{TypeIn}
use Rattle.hack_sub.specs.NamesPut.{in_option_of}
use Rattle.hack_types.specs.OptionOf.{option_of}
use Rattle.hack_walk.specs.NamesKept.{in_limited}
use Rattle.hack_walk.specs.WalkLaws.{step_pure}
use Rattle.hack_targets.proofs.Optional.{missing_walk, optional_left, optional_missing, optional_there}
use Rattle.hack_targets.proofs.Stepping.{steps_same}
use Rattle.hack_targets.proofs.fields.optional_field.Goals as goal

pub returns-then-not-field : goal.returns-then-not-field
returns-then-not-field c =
    let field = c.args.field.now in
    rw c.in_ok-copy.ensures (steps_same _ (Ok field.ty) (optional_there c.args.at c.args.left field field.optional c.if-not-field.true) (step_pure {Gives = TypeIn} c.args.state.now field.ty (λ symbols n. n)))

pub returns-then-left : goal.returns-then-left
returns-then-left c =
    let field = c.args.field.now in
    rw (c.limited.ensures, c.in_ok-option_of.ensures) (steps_same _ (Ok _) (optional_left c.args.at c.args.left field field.optional c.if-not-field.false c.if-left.true)
    (step_pure {Gives = TypeIn} c.args.state.now _ (λ symbols n. in_limited symbols (option_of field.ty) (in_option_of symbols field.ty n))))

pub returns : goal.returns
returns c =
    let field = c.args.field.now in
    rw c.in_ok-copy-2.ensures (steps_same _ (Ok field.ty) (optional_missing c.args.at c.args.left field field.optional c.if-not-field.false c.if-left.false)
    (missing_walk c.args.at field c.in_ok-report_missing.ensures))
