use Rattle.std.proofs.Common.{◌∙◌, Ok, ap, subst, sym}
use Rattle.hack_decls.specs.NameLaws as laws
use Rattle.hack_decls.specs.Names.{TypeIn}
use Rattle.hack_rules.specs.Loops.{types_by, unknown_types}
use Rattle.hack_sub.specs.NamesOf.{of_int}
use Rattle.hack_types.specs.declared.hack_type.HackType.TheOpen.{HackType-F}
use Rattle.hack_types.specs.declared.hack_type.HackType.TheVariants as type
use Rattle.hack_types.specs.declared.hack_type.HackType.{HackType}
use Rattle.hack_walk.specs.WalkLaws.{of_step}
use Rattle.std.proofs.Common.{refl}
use Rattle.hack_flow.proofs.Foreaching.{in_unknown, out_of, steps_more, walks_given, walks_same}
use Rattle.hack_flow.proofs.foreach_types.types_by.Goals as goal

pub returns-in-Any : goal.returns-in-Any
returns-in-Any g c =
    let layers = out_of c.args.head.now type.Any HackType-F.Any c.in-Any.is type.rolls-Any in
    walks_given (types_by c.args.at c.args.head.now _) _ c.args.state.now unknown_types unknown_types (ap (λ (layer : HackType-F HackType). types_by c.args.at c.args.head.now layer) layers) refl (λ symbols n. in_unknown symbols)

pub returns-in_ok-both_copied-in-Vector : goal.returns-in_ok-both_copied-in-Vector
returns-in_ok-both_copied-in-Vector g c =
    let item = c.get.result.now in let is = c.in-Vector.is ∙ ap type.Vector (sym c.get.ensures) in
    let layers = out_of c.args.head.now _ (HackType-F.Vector item) is (type.rolls-Vector item) in
    walks_given (types_by c.args.at c.args.head.now _) _ c.args.state.now (type.Int, item) _ (ap (λ (layer : HackType-F HackType). types_by c.args.at c.args.head.now layer) layers) c.in_ok-both_copied-in-Vector.ensures
    (λ symbols n. (of_int symbols, laws.in_vector symbols item (subst (TypeIn symbols) is n)))

pub returns-in_ok-both_copied-in-Dict : goal.returns-in_ok-both_copied-in-Dict
returns-in_ok-both_copied-in-Dict g c =
    let key = c.get-in-Dict.result.now in let value = c.get-in-Dict-2.result.now in
    let is = c.in-Dict.is ∙ ap (λ (k : HackType). type.Dict k c.in-Dict.value) (sym c.get-in-Dict.ensures) ∙ ap (type.Dict key) (sym c.get-in-Dict-2.ensures) in
    let layers = out_of c.args.head.now _ (HackType-F.Dict key value) is (type.rolls-Dict key value) in
    walks_given (types_by c.args.at c.args.head.now _) _ c.args.state.now (key, value) _ (ap (λ (layer : HackType-F HackType). types_by c.args.at c.args.head.now layer) layers) c.in_ok-both_copied-in-Dict.ensures
    (λ symbols n. laws.in_dict symbols key value (subst (TypeIn symbols) is n))

pub returns-in_ok-both_copied-in-Keyset : goal.returns-in_ok-both_copied-in-Keyset
returns-in_ok-both_copied-in-Keyset g c =
    let item = c.get-item.result.now in let is = c.in-Keyset.is ∙ ap type.Keyset (sym c.get-item.ensures) in
    let layers = out_of c.args.head.now _ (HackType-F.Keyset item) is (type.rolls-Keyset item) in
    walks_given (types_by c.args.at c.args.head.now _) _ c.args.state.now (item, item) _ (ap (λ (layer : HackType-F HackType). types_by c.args.at c.args.head.now layer) layers) c.in_ok-both_copied-in-Keyset.ensures
    (λ symbols n. let here = laws.in_keyset symbols item (subst (TypeIn symbols) is n) in (here, here))

pub returns-in_ok-null_types-in-Option : goal.returns-in_ok-null_types-in-Option
returns-in_ok-null_types-in-Option g c =
    let layers = out_of c.args.head.now _ (HackType-F.Option c.in-Option.field-0) c.in-Option.is (type.rolls-Option c.in-Option.field-0) in
    walks_same _ (Ok _) (ap (λ (layer : HackType-F HackType). types_by c.args.at c.args.head.now layer) layers) (of_step _ (steps_more c.in_ok-null_types-in-Option.ensures (λ symbols n. tt)))

pub returns-in_ok-null_types-in-Null : goal.returns-in_ok-null_types-in-Null
returns-in_ok-null_types-in-Null g c =
    let layers = out_of c.args.head.now type.Null HackType-F.Null c.in-Null.is type.rolls-Null in
    walks_same _ (Ok _) (ap (λ (layer : HackType-F HackType). types_by c.args.at c.args.head.now layer) layers) (of_step _ (steps_more c.in_ok-null_types-in-Null.ensures (λ symbols n. tt)))
