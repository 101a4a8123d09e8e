use Rattle.std.proofs.Common.{◌∙◌, Ok, ap, subst, sym}
use Rattle.hack_decls.specs.NameLaws as laws
use Rattle.hack_decls.specs.Names.{TypeIn}
use Rattle.hack_rules.specs.Indices.{dict_with, key_of, keyset_with, shape_with, with_element_by}
use Rattle.hack_sub.specs.NamesOf.{in_shape}
use Rattle.hack_sub.specs.NamesPut.{of_any}
use Rattle.hack_sub.specs.Parts.{fields_by}
use Rattle.hack_types.specs.declared.hack_type.HackType.TheOpen.{HackType-F}
use Rattle.hack_types.specs.declared.hack_type.HackType.TheVariants as type
use Rattle.hack_types.specs.declared.hack_type.HackType.{HackType}
use Rattle.hack_walk.specs.WalkLaws.{of_step, walks_pure, weaker}
use Rattle.hack_targets.proofs.Heads.{fixed_head, out_of}
use Rattle.hack_targets.proofs.Stepping.{steps_more, walks_same}
use Rattle.hack_targets.proofs.bases.with_head.Goals as goal

pub returns-in-Any : goal.returns-in-Any
returns-in-Any g c =
    walks_same _ (Ok type.Any) (ap (λ (layer : HackType-F HackType). with_element_by c.args.at c.args.value_at c.args.head c.args.new c.args.index layer) (out_of c.args.head type.Any HackType-F.Any c.in-Any.is type.rolls-Any)) (walks_pure _ c.args.state.now type.Any (λ symbols n. of_any symbols))

pub returns-in-Vector : goal.returns-in-Vector
returns-in-Vector g c =
    let item = c.in-Vector.item in let is = c.in-Vector.is in
    walks_same _ c.vector_with.result (ap (λ (layer : HackType-F HackType). with_element_by c.args.at c.args.value_at c.args.head c.args.new c.args.index layer) (out_of c.args.head _ (HackType-F.Vector item) is (type.rolls-Vector item)))
    (weaker c.vector_with.result c.vector_with.ensures (λ symbols n. ((laws.in_vector symbols item (subst (TypeIn symbols) is n.0.0), n.0.1), n.1)) (λ symbols a n h. h))

pub returns-in-Dict : goal.returns-in-Dict
returns-in-Dict g c =
    let key = c.in-Dict.key in let value = c.in-Dict.value in let is = c.in-Dict.is in
    walks_same _ c.dict_with.result (ap (λ (layer : HackType-F HackType). with_element_by c.args.at c.args.value_at c.args.head c.args.new c.args.index layer) (out_of c.args.head _ (HackType-F.Dict key value) is (type.rolls-Dict key value))
    ∙ ap (λ (head : HackType). dict_with c.args.at head key value c.args.new c.args.index) is)
    (weaker c.dict_with.result c.dict_with.ensures
    (λ symbols n. let both = laws.in_dict symbols key value (subst (TypeIn symbols) is n.0.0) in record { key = both.0; value = both.1; new = n.1; index = n.0.1 }) (λ symbols a n h. h))

pub returns-in-Keyset : goal.returns-in-Keyset
returns-in-Keyset g c =
    let item = c.in-Keyset.item in let is = c.in-Keyset.is in
    walks_same _ c.keyset_with.result (ap (λ (layer : HackType-F HackType). with_element_by c.args.at c.args.value_at c.args.head c.args.new c.args.index layer) (out_of c.args.head _ (HackType-F.Keyset item) is (type.rolls-Keyset item))
    ∙ ap (λ (head : HackType). keyset_with c.args.at c.args.value_at head item c.args.new c.args.index) is)
    (weaker c.keyset_with.result c.keyset_with.ensures (λ symbols n. (laws.in_keyset symbols item (subst (TypeIn symbols) is n.0.0), n.1)) (λ symbols a n h. h))

pub returns-in_ok-shape_with-in-Shape : goal.returns-in_ok-shape_with-in-Shape
returns-in_ok-shape_with-in-Shape g c =
    let fields = c.in-Shape.fields in let rest = c.in-Shape.rest in let is = c.in-Shape.is in
    let layers = out_of c.args.head _ (HackType-F.Shape fields rest) is (type.rolls-Shape fields rest) in
    walks_same _ (Ok _) (ap (λ (layer : HackType-F HackType). with_element_by c.args.at c.args.value_at c.args.head c.args.new c.args.index layer) layers ∙ ap (λ (head : HackType). shape_with c.args.at head fields rest c.args.new (key_of c.args.index)) is)
    (of_step _ (steps_more (Ok _) c.in_ok-shape_with-in-Shape.ensures
    (λ symbols n. record { fields = in_shape symbols c.args.head fields (sym (ap fields_by layers)) n.0.0; new = n.1 })))

pub returns-in_ok-refuse_base-in_default : goal.returns-in_ok-refuse_base-in_default
returns-in_ok-refuse_base-in_default g c =
    let other = c.in_default in
    walks_same _ (Ok _)
    (fixed_head c.args.at c.args.value_at c.args.head c.args.new c.args.index other.not-Any other.not-Vector other.not-Dict other.not-Keyset other.not-Shape)
    (of_step _ (steps_more (Ok _) c.in_ok-refuse_base-in_default.ensures (λ symbols n. tt)))
