use Rattle.std.proofs.Common.{◌∙◌, List, Ok, ap, subst, sym}
use Rattle.hack_decls.specs.NameLaws as laws
use Rattle.hack_decls.specs.Names.{TypeIn}
use Rattle.hack_rules.specs.Indices.{indexed_by}
use Rattle.hack_sub.specs.NamesOf.{in_shape, of_int}
use Rattle.hack_sub.specs.Parts.{fields_by}
use Rattle.hack_types.specs.declared.fields.Field.{Field}
use Rattle.hack_types.specs.declared.hack_type.HackType.TheOpen.{HackType-F}
use Rattle.hack_types.specs.declared.hack_type.HackType.TheVariants as type
use Rattle.hack_types.specs.declared.hack_type.HackType.{HackType}
use Rattle.hack_walk.specs.Checks.{setting_of}
use Rattle.hack_walk.specs.WalkLaws.{of_step, walks_as, weaker}
use Rattle.hack_targets.proofs.Heads.{other_head, out_of}
use Rattle.hack_targets.proofs.Keyed.{class_is}
use Rattle.hack_targets.proofs.Naming.{of_str}
use Rattle.hack_targets.proofs.Stepping.{steps_more, walks_same}
use Rattle.hack_targets.proofs.elements.indexed_by.Goals as goal

pub returns-in-Vector : goal.returns-in-Vector
returns-in-Vector g c =
    let item = c.get.result.now in let is = c.in-Vector.is ∙ ap type.Vector (sym c.get.ensures) in
    walks_same _ c.element_at.result (ap (λ (layer : HackType-F HackType). indexed_by c.args.at c.args.left c.args.head.now c.args.index.now layer) (out_of c.args.head.now _ (HackType-F.Vector item) is (type.rolls-Vector item)))
    (weaker c.element_at.result c.element_at.ensures (λ symbols n. (of_int symbols, laws.in_vector symbols item (subst (TypeIn symbols) is n.0), n.1)) (λ symbols a n h. h))

pub returns-in-Str : goal.returns-in-Str
returns-in-Str g c =
    walks_same _ c.element_at-in-Str.result (ap (λ (layer : HackType-F HackType). indexed_by c.args.at c.args.left c.args.head.now c.args.index.now layer) (out_of c.args.head.now _ HackType-F.Str c.in-Str.is type.rolls-Str))
    (weaker c.element_at-in-Str.result c.element_at-in-Str.ensures (λ symbols n. (of_int symbols, of_str symbols, n.1)) (λ symbols a n h. h))

pub returns-in-Dict : goal.returns-in-Dict
returns-in-Dict g c =
    let key = c.get-in-Dict.result.now in let value = c.get-in-Dict-2.result.now in
    let is = c.in-Dict.is ∙ ap (λ (k : HackType). type.Dict k c.in-Dict.value) (sym c.get-in-Dict.ensures) ∙ ap (type.Dict key) (sym c.get-in-Dict-2.ensures) in
    walks_same _ c.element_at-in-Dict.result (ap (λ (layer : HackType-F HackType). indexed_by c.args.at c.args.left c.args.head.now c.args.index.now layer) (out_of c.args.head.now _ (HackType-F.Dict key value) is (type.rolls-Dict key value)))
    (weaker c.element_at-in-Dict.result c.element_at-in-Dict.ensures
    (λ symbols n. let both = laws.in_dict symbols key value (subst (TypeIn symbols) is n.0) in (both.0, both.1, n.1)) (λ symbols a n h. h))

pub returns-in-Keyset : goal.returns-in-Keyset
returns-in-Keyset g c =
    let item = c.get-item.result.now in let is = c.in-Keyset.is ∙ ap type.Keyset (sym c.get-item.ensures) in
    walks_same _ c.element_at-in-Keyset.result (ap (λ (layer : HackType-F HackType). indexed_by c.args.at c.args.left c.args.head.now c.args.index.now layer) (out_of c.args.head.now _ (HackType-F.Keyset item) is (type.rolls-Keyset item)))
    (weaker c.element_at-in-Keyset.result c.element_at-in-Keyset.ensures
    (λ symbols n. let here = laws.in_keyset symbols item (subst (TypeIn symbols) is n.0) in (here, here, n.1)) (λ symbols a n h. h))

pub returns-in_ok-shape_element-in-Shape : goal.returns-in_ok-shape_element-in-Shape
returns-in_ok-shape_element-in-Shape g c =
    let fields = c.as_slice.result.now in let rest = c.in-Shape.rest in let head = c.args.head.now in
    let is = c.in-Shape.is ∙ ap (λ (fs : List (Field HackType)). type.Shape fs rest) (sym c.as_slice.ensures.items) in
    let layers = out_of head _ (HackType-F.Shape fields rest) is (type.rolls-Shape fields rest) in
    walks_same _ (Ok _) (ap (λ (layer : HackType-F HackType). indexed_by c.args.at c.args.left c.args.head.now c.args.index.now layer) layers)
    (of_step _ (steps_more (Ok _) c.in_ok-shape_element-in-Shape.ensures (λ symbols n. in_shape symbols head fields (sym (ap fields_by layers)) n.0)))

pub returns-in-Class : goal.returns-in-Class
returns-in-Class g c =
    let name = c.in-Class.name in let own = c.as_slice-in-Class.result.now in let head = c.args.head.now in
    let is = c.in-Class.is ∙ ap (type.Class name) (sym c.as_slice-in-Class.ensures) in
    let layers = out_of head _ (HackType-F.Class name own) is (type.rolls-Class name own) in
    let setting = setting_of c.args.setting.now in let here = c.args.state.now in
    walks_as _ c.class_element.result
    (weaker c.class_element.result c.class_element.ensures (λ symbols n. let names = laws.in_class symbols name own (subst (TypeIn symbols) is n.0) in (names.0, names.1, n.1)) (λ symbols a n h. h))
    (λ m. ap (λ (layer : HackType-F HackType). indexed_by c.args.at c.args.left head c.args.index.now layer setting m here) layers
    ∙ class_is setting m here c.args.at head c.args.index.now name own layers)

pub returns-in_ok-refuse_indexed-in_default : goal.returns-in_ok-refuse_indexed-in_default
returns-in_ok-refuse_indexed-in_default g c =
    let other = c.in_default in
    walks_same _ (Ok _)
    (other_head c.args.at c.args.left c.args.head.now c.args.index.now other.not-Vector other.not-Str other.not-Dict other.not-Keyset other.not-Shape other.not-Class)
    (of_step _ (steps_more (Ok _) c.in_ok-refuse_indexed-in_default.ensures (λ symbols n. tt)))
