use Rattle.std.proofs.Common.{rules, ◌≡◌, ◌∙◌, ◌<◌, ◌++◌, ◌∷◌, ℕ, Bool, Ok, List, [], length, map, take, All, is_some, refl, sym, ap, subst, arith}
use Rattle.std.proofs.lemmas.List.{take_all}
use Rattle.std.proofs.lemmas.List.Elements.{All-push}
use Rattle.std.proofs.lemmas.Map.Views.{All-values-insert_entry}
use Rattle.std.proofs.lemmas.Result.{err_from_is_err_and}
use Rattle.std.specs.BTreeMap.{get}
use Rattle.std.specs.Ordering.{nat_cmp}
use Rattle.hack_tree.specs.declared.written_type.FieldType.{FieldType}
use Rattle.hack_tree.specs.declared.written_type.WrittenType.{WrittenType}
use Rattle.hack_types.specs.OptionOf.{option_of}
use Rattle.hack_types.specs.declared.hack_type.HackType.{HackType}
use Rattle.hack_types.specs.declared.hack_type.HackType.TheVariants as type
use Rattle.hack_types.specs.declared.place.Place.{Place}
use Rattle.hack_shallow.specs.Resolved.{container_type, in_order, last_fields, with_fields}
use Rattle.hack_decls.specs.Names.{TypeIn}
use Rattle.hack_rules.specs.Walks.{State, ◌>>=◌, ◌>>◌, for_each, pure}
use Rattle.hack_rules.specs.WrittenTypes.{Mention, field_type, fields_checks, is_key_of, mention}
use Rattle.hack_sub.specs.NamesPut.{in_option_of}
use Rattle.hack_written.specs.Within.{place_of}
use Rattle.hack_written.specs.WrittenIn.{FieldIn, WrittenIn}
use Rattle.hack_written.specs.inside.Rows as row
use Rattle.hack_written.specs.inside.Rows.{expect_new, field_mention, field_mentions, key_checks, key_of, mentions, names_in, setting_in, told, types_in}
use Rattle.hack_written.proofs.Lists.{field_checks, given_more, keys_after}
use Rattle.hack_written.proofs.Mentions as one
use Rattle.hack_written.proofs.Named as named
use Rattle.hack_written.proofs.Rows as seen
use Rattle.hack_written.proofs.Told.{from_told, told_done, told_made}
use Rattle.hack_written.proofs.Walking.{broken, broken_out, walked, walks_as, walks_failed, walks_on, walks_out, walks_then}
use Rattle.hack_written.proofs.parts.+checked.Goals as goal

-- ---- rows

pub optional-returns : goal.optional-returns
optional-returns g t c =
    let around = c.args.around.now in let names = names_in around in let inner = c.args.inner.now in
    let m = mention names inner in let last = c.checked.new.state in
    walks_on _ _ last c.in_ok-ty.ensures
    (λ map is. told_made (m.checks around.bounds) m.ty c.in_ok-ty.ty (setting_in around) map c.args.state.now last option_of _ is c.in_ok-into_option.ensures) refl
    (λ symbols n. n) (λ symbols n w. subst (TypeIn symbols) (sym c.in_ok-into_option.ensures) (in_option_of symbols c.in_ok-ty.ty w))

pub contained-returns : goal.contained-returns
unfolding ◌>>=◌ ◌>>◌ pure
contained-returns g t c =
    let around = c.args.around.now in let names = names_in around in let element = c.args.element.now in let container = c.args.container in
    let m = mention names element in let mid = c.checked.new.state in let last = c.expect_key_of.new.state in
    let ty = c.in_ok-ty.ty in let setting = setting_in around in
    let at : c.place_of.result ≡ place_of element = c.place_of.ensures in
    let made = c.in_ok-container_type.ensures in
    walks_then _ (Ok _) c.in_ok-ty.ensures
    (walks_on {Names = λ symbols. TypeIn symbols ty} {Gives = TypeIn} (told (key_of around.bounds c.place_of.result ty container) (container_type container ty)) _ last c.in_ok-expect_key_of.ensures
    (λ map is. told_done (key_of around.bounds c.place_of.result ty container) (container_type container ty) setting map mid last is _ made) refl
    (λ symbols n. n) (λ symbols n w. subst (TypeIn symbols) (sym made) (named.of_container symbols container ty n)))
    (λ map is. from_told (m.checks around.bounds) m.ty ty setting map c.args.state.now mid (λ t. told (key_of around.bounds (place_of element) t container) (container_type container t)) is
    ∙ ap (λ (p : Place). told (key_of around.bounds p ty container) (container_type container ty) setting map mid) (sym at))
    (λ symbols n. n) (λ symbols n w. w) (λ symbols b n w v. v)

pub dict-returns : goal.dict-returns
unfolding ◌>>=◌ ◌>>◌ pure
dict-returns g t c =
    let around = c.args.around.now in let names = names_in around in let value = c.args.value.now in let key = c.args.key in let key_at = c.args.key_at in
    let m = mention names value in let mid = c.checked.new.state in let last = c.expect_key_type.new.state in
    let ty = c.in_ok-value.value in let setting = setting_in around in
    let made = c.in_ok-dict_type.ensures in
    walks_then _ (Ok _) c.in_ok-value.ensures
    (walks_on {Names = λ symbols. TypeIn symbols key × TypeIn symbols ty} {Gives = TypeIn} (told (key_checks around.bounds key_at key) (type.Dict key ty)) _ last c.in_ok-expect_key_type.ensures
    (λ map is. told_done (key_checks around.bounds key_at key) (type.Dict key ty) setting map mid last is _ made) refl
    (λ symbols n. n.0) (λ symbols n w. subst (TypeIn symbols) (sym made) (named.of_dict symbols key ty n.0 n.1)))
    (λ map is. from_told (m.checks around.bounds) m.ty ty setting map c.args.state.now mid (λ t. told (key_checks around.bounds key_at key) (type.Dict key t)) is)
    (λ symbols n. n.0) (λ symbols n w. (n.1, w)) (λ symbols b n w v. v)

pub field_type-returns : goal.field_type-returns
unfolding ◌>>=◌ ◌>>◌ pure
field_type-returns g t c =
    let around = c.args.around.now in let names = names_in around in let field = c.args.field.now in
    let m = mention names field.value in let mid = c.expect_new.new.state in let setting = setting_in around in
    walks_then _ c.checked.result c.in_ok-expect_new.ensures c.checked.ensures
    (λ map is. ap (λ (r : Unit {0} × State). told (m.checks around.bounds) m.ty setting map r.1) is)
    (λ symbols n. tt) (λ symbols n w. named.in_field names symbols field n) (λ symbols b n w v. v)

-- ---- names

pub checked_class-returns : goal.checked_class-returns
checked_class-returns g t c =
    let around = c.args.around.now in let names = names_in around in let class = c.args.class.now in
    let mid = c.arguments.new.state in let setting = setting_in around in let s = c.args.state.now in
    let own : c.as_slice.result.now ≡ class.arguments = c.as_slice.ensures in
    walks_then _ c.named.result c.in_ok-types.ensures c.named.ensures
    (λ map is. seen.class_is names around.bounds class c.args.traits c.in_ok-types.types setting map s mid
    (subst (λ (ws : List WrittenType). row.arguments names around.bounds ws setting map s ≡ (c.in_ok-types.types, mid)) own is))
    (λ symbols n. subst (λ (ws : List WrittenType). All (WrittenIn names symbols) ws) (sym own) (named.in_arguments names symbols class n))
    (λ symbols n w. (named.in_name names symbols class n, w)) (λ symbols b n w v. v)

pub checked_class-named-requires : goal.checked_class-named-requires
checked_class-named-requires g t c =
    let around = c.args.around.now in let names = names_in around in
    let own : c.as_slice.result.now ≡ c.args.class.now.arguments = c.as_slice.ensures in
    seen.types_are names around.bounds c.as_slice.result.now c.in_ok-types.types (setting_in around) c.args.state.now c.arguments.new.state c.in_ok-types.ensures.asks
    ∙ ap (types_in names) own

pub arguments-loop-argument-init : goal.arguments-loop-argument-init
unfolding for_each ◌>>=◌ pure
arguments-loop-argument-init g t c =
    let s = c.args.state.now in
    walked _ _ s s _ (λ map. ap (λ (types : List HackType). (types, s)) (sym c.new-types.ensures)) refl
    (λ symbols n. subst (λ (types : List HackType). All (TypeIn symbols) types) (sym c.new-types.ensures) (λ k d lt. absurd (omega (arith, lt))))

pub arguments-loop-argument-preserved : goal.arguments-loop-argument-preserved
unfolding ◌>>=◌ pure
arguments-loop-argument-preserved g t c =
    let around = c.args.around.now in let names = names_in around in let setting = setting_in around in
    let ws = c.args.written.now in let i = c.loop-argument.argument-index in let w = c.argument-item.result in
    let lt : i < length ws = c.loop-argument-test.true in
    let m = mention names w in let types = c.loop-argument.types in let ty = c.in_ok-ty.ty in
    let mid = c.loop-argument.state in let last = c.checked.new.state in
    walks_then _ (Ok _) c.loop-argument.invariant
    (walks_on {Names = λ symbols. All (TypeIn symbols) types × WrittenIn names symbols w} {Gives = λ symbols. All (TypeIn symbols)} (told (m.checks around.bounds) (types ++ m.ty ∷ [])) _ last c.in_ok-ty.ensures
    (λ map is. told_made (m.checks around.bounds) m.ty ty setting map mid last (λ (t : HackType). types ++ t ∷ []) _ is c.in_ok-push.ensures) refl
    (λ symbols n. n.1) (λ symbols n v. subst (λ (ts : List HackType). All (TypeIn symbols) ts) (sym c.in_ok-push.ensures) (All-push (TypeIn symbols) types ty n.0 v)))
    (λ map is. seen.one_more names around.bounds ws i w types setting map c.args.state.now mid lt c.argument-item.is is)
    (λ symbols n. n)
    (λ symbols n all. (all, subst (WrittenIn names symbols) (sym c.argument-item.is) (n i w lt)))
    (λ symbols b n all v. v)

pub arguments-returns : goal.arguments-returns
arguments-returns g t c =
    let around = c.args.around.now in let names = names_in around in let setting = setting_in around in
    let ws = c.args.written.now in let i = c.loop-argument.argument-index in
    let all : take i ws ≡ ws = take_all i ws (omega arith) in
    walks_as _ (Ok c.loop-argument.types) c.loop-argument.invariant
    (λ map. ap (λ (zs : List WrittenType). row.arguments names around.bounds zs setting map c.args.state.now) (sym all))
    (λ symbols n. n) (λ symbols a n w. w)

-- ---- shapes

pub shape-loop-field-init : goal.shape-loop-field-init
unfolding fields_checks pure
shape-loop-field-init g t c =
    let s = c.args.state.now in
    record {
      walked = walked _ _ s s tt (λ map. refl) refl (λ symbols n. subst (named.EntriesIn symbols) (sym c.new-by_key.ensures.empty) (λ k d lt. absurd (omega (arith, lt))));
      entries = c.new-by_key.ensures.empty;
      keys = λ query. search rules;
    }

pub shape-loop-field-preserved : goal.shape-loop-field-preserved
shape-loop-field-preserved g t c =
    let around = c.args.around.now in let names = names_in around in let setting = setting_in around in
    let fields = c.args.fields.now in let i = c.loop-field.field-index in let f = c.field-item.result in
    let lt : i < length fields = c.loop-field-test.true in let at = c.field-item.is in
    let ty = c.in_ok-ty.ty in let given = c.contains_key.result in
    let mid = c.loop-field.state in let last = c.field_type.new.state in
    let keys = keys_after [] (field_mentions names (take i fields)) in
    let told_given : given ≡ is_key_of f.key keys = c.contains_key.ensures ∙ sym (c.loop-field.invariant.keys f.key) in
    let before = c.loop-field.by_key in let after = c.put.new.by_key in
    let is_type : ty ≡ (mention names f.value).ty = seen.type_is names around.bounds f given ty setting mid last c.in_ok-ty.ensures.asks in
    record {
      walked = walks_then _ (Ok tt) c.loop-field.invariant.walked
          (walks_on (field_checks keys (field_mention names f) around.bounds) tt last c.in_ok-ty.ensures
          (λ map is. seen.field_is names around.bounds f keys given ty setting map mid last told_given is) refl
          (λ symbols n. n) (λ symbols n w. w))
          (λ map is. seen.fields_next names around.bounds fields i f setting map c.args.state.now mid lt at is)
          (λ symbols n. n) (λ symbols n w. subst (FieldIn names symbols) (sym at) (n i f lt))
          (λ symbols b n w v. subst (named.EntriesIn symbols) (sym c.in_ok-put.ensures.entries)
          (All-values-insert_entry nat_cmp f.key (f.optional, ty) (λ (x : Bool × HackType). TypeIn symbols x.1) before.entries w v));
      entries = seen.entries_next names around.bounds fields i f before.entries after.entries ty lt at is_type c.loop-field.invariant.entries c.in_ok-put.ensures.entries;
      keys = λ query. ap (is_key_of query) (seen.keys_next names around.bounds fields i f lt at)
          ∙ given_more f.key query keys (f.optional, ty) (get nat_cmp before query) (c.loop-field.invariant.keys query) ∙ sym (ap is_some (c.in_ok-put.ensures.found query));
    }

pub shape-returns : goal.shape-returns
shape-returns g t c =
    let around = c.args.around.now in let names = names_in around in let setting = setting_in around in
    let fields = c.args.fields.now in let i = c.loop-field.field-index in let rest = c.args.rest in
    let all : take i fields ≡ fields = take_all i fields (omega arith) in
    let ms = field_mentions names fields in
    let made = c.in_ok-shape_type.ensures in
    let entries : c.loop-field.by_key.entries ≡ with_fields [] (map field_type ms) =
    c.loop-field.invariant.entries ∙ ap (λ (fs : List FieldType). with_fields [] (map field_type (field_mentions names fs))) all in
    walks_on _ _ c.loop-field.state c.loop-field.invariant.walked
    (λ m is. told_done (fields_checks [] ms around.bounds) (type.Shape (last_fields (map field_type ms)) rest) setting m c.args.state.now c.loop-field.state
    (ap (λ (fs : List FieldType). fields_checks [] (field_mentions names fs) around.bounds setting m c.args.state.now) (sym all) ∙ is) _
    (made ∙ ap (λ (es : List (ℕ × (Bool × HackType))). type.Shape (in_order es) rest) entries)) refl
    (λ symbols n. n) (λ symbols n w. subst (TypeIn symbols) (sym made) (named.of_shape symbols c.loop-field.by_key.entries rest w))

-- ---- the whole

pub checked-returns-in-Optional : goal.checked-returns-in-Optional
checked-returns-in-Optional g t c =
    let around = c.args.around.now in let names = names_in around in let setting = setting_in around in let w = c.args.written.now in
    let inner = c.in-Optional.inner in
    let own : c.get.result.now ≡ inner = c.get.ensures in
    walks_as _ c.optional.result c.optional.ensures
    (λ map. ap (λ (x : WrittenType). row.checked names around.bounds x setting map c.args.state.now) c.in-Optional.is
    ∙ ap (λ (m : Mention). told (m.checks around.bounds) m.ty setting map c.args.state.now) (one.optional names _ inner)
    ∙ ap (λ (x : WrittenType). row.optional names around.bounds x setting map c.args.state.now) (sym own))
    (λ symbols n. subst (WrittenIn names symbols) (sym own) (named.in_optional names symbols _ inner (subst (WrittenIn names symbols) c.in-Optional.is n))) (λ symbols a n v. v)

-- ---- refusals

pub optional-returns-in_err-into_option : goal.optional-returns-in_err-into_option
optional-returns-in_err-into_option g t c =
    let p = err_from_is_err_and c.from_residual-in_err-into_option.result c.from_residual-in_err-into_option.ensures.1 in
    rw (p.1, p.2) (walks_out _ _ c.in_ok-ty.ensures (λ symbols n. n))

pub contained-returns-in_err-expect_key_of : goal.contained-returns-in_err-expect_key_of
contained-returns-in_err-expect_key_of g t c =
    let p = err_from_is_err_and c.from_residual-in_err-expect_key_of.result c.from_residual-in_err-expect_key_of.ensures.1 in
    rw (p.1, p.2) (broken _ _ c.in_ok-ty.ensures c.in_err-expect_key_of.ensures (λ symbols n. n) (λ symbols n w. w))

pub contained-returns-in_err-container_type : goal.contained-returns-in_err-container_type
contained-returns-in_err-container_type g t c =
    let p = err_from_is_err_and c.from_residual-in_err-container_type.result c.from_residual-in_err-container_type.ensures.1 in
    rw (p.1, p.2) (broken_out _ _ c.in_ok-ty.ensures c.in_ok-expect_key_of.ensures (λ symbols n. n) (λ symbols n w. w))

pub dict-returns-in_err-expect_key_type : goal.dict-returns-in_err-expect_key_type
dict-returns-in_err-expect_key_type g t c =
    let p = err_from_is_err_and c.from_residual-in_err-expect_key_type.result c.from_residual-in_err-expect_key_type.ensures.1 in
    rw (p.1, p.2) (broken _ _ c.in_ok-value.ensures c.in_err-expect_key_type.ensures (λ symbols n. n.0) (λ symbols n w. n.1))

pub dict-returns-in_err-dict_type : goal.dict-returns-in_err-dict_type
dict-returns-in_err-dict_type g t c =
    let p = err_from_is_err_and c.from_residual-in_err-dict_type.result c.from_residual-in_err-dict_type.ensures.1 in
    rw (p.1, p.2) (broken_out _ _ c.in_ok-value.ensures c.in_ok-expect_key_type.ensures (λ symbols n. n.0) (λ symbols n w. n.1))

pub shape-returns-in_err-ty : goal.shape-returns-in_err-ty
shape-returns-in_err-ty g t c =
    let names = names_in c.args.around.now in
    let i = c.loop-field.field-index in let f = c.field-item.result in
    let p = err_from_is_err_and c.from_residual.result c.from_residual.ensures.1 in
    rw (p.1, p.2) (broken _ _ c.loop-field.invariant.walked c.in_err-ty.ensures (λ symbols n. n) (λ symbols n w. subst (FieldIn names symbols) (sym c.field-item.is) (n i f c.loop-field-test.true)))

pub shape-returns-in_err-put : goal.shape-returns-in_err-put
shape-returns-in_err-put g t c =
    let names = names_in c.args.around.now in
    let i = c.loop-field.field-index in let f = c.field-item.result in
    let p = err_from_is_err_and c.from_residual-in_err-put.result c.from_residual-in_err-put.ensures.1 in
    rw (p.1, p.2) (broken_out _ _ c.loop-field.invariant.walked c.in_ok-ty.ensures (λ symbols n. n) (λ symbols n w. subst (FieldIn names symbols) (sym c.field-item.is) (n i f c.loop-field-test.true)))

pub shape-returns-in_err-shape_type : goal.shape-returns-in_err-shape_type
shape-returns-in_err-shape_type g t c =
    let p = err_from_is_err_and c.from_residual-in_err-shape_type.result c.from_residual-in_err-shape_type.ensures.1 in
    rw (p.1, p.2) (walks_out _ _ c.loop-field.invariant.walked (λ symbols n. n))

pub arguments-returns-in_err-ty : goal.arguments-returns-in_err-ty
arguments-returns-in_err-ty g t c =
    let names = names_in c.args.around.now in
    let i = c.loop-argument.argument-index in let w = c.argument-item.result in
    let p = err_from_is_err_and c.from_residual.result c.from_residual.ensures.1 in
    rw (p.1, p.2) (broken _ _ c.loop-argument.invariant c.in_err-ty.ensures (λ symbols n. n) (λ symbols n v. subst (WrittenIn names symbols) (sym c.argument-item.is) (n i w c.loop-argument-test.true)))

pub arguments-returns-in_err-push : goal.arguments-returns-in_err-push
arguments-returns-in_err-push g t c =
    let names = names_in c.args.around.now in
    let i = c.loop-argument.argument-index in let w = c.argument-item.result in
    let p = err_from_is_err_and c.from_residual-in_err-push.result c.from_residual-in_err-push.ensures.1 in
    rw (p.1, p.2) (broken_out _ _ c.loop-argument.invariant c.in_ok-ty.ensures (λ symbols n. n) (λ symbols n v. subst (WrittenIn names symbols) (sym c.argument-item.is) (n i w c.loop-argument-test.true)))

pub checked-returns-in-Primitive : goal.checked-returns-in-Primitive
unfolding ◌>>=◌ pure
checked-returns-in-Primitive g t c =
    let around = c.args.around.now in let names = names_in around in let setting = setting_in around in let s = c.args.state.now in
    let p = c.in-Primitive.primitive in
    walked _ _ s s _
    (λ map. ap (λ (x : WrittenType). row.checked names around.bounds x setting map s) c.in-Primitive.is
    ∙ ap (λ (m : Mention). told (m.checks around.bounds) m.ty setting map s) (one.primitive names _ p)
    ∙ ap (λ (ty : HackType). (ty, s)) (sym c.primitive_type.ensures)) refl
    (λ symbols n. subst (TypeIn symbols) (sym c.primitive_type.ensures) (named.of_primitive symbols p))

pub checked-returns-in-This : goal.checked-returns-in-This
checked-returns-in-This g t c =
    let around = c.args.around.now in let names = names_in around in let setting = setting_in around in let s = c.args.state.now in
    walks_as _ c.this.result c.this.ensures
    (λ map. ap (λ (x : WrittenType). row.checked names around.bounds x setting map s) c.in-This.is
    ∙ ap (λ (m : Mention). told (m.checks around.bounds) m.ty setting map s) (one.this names c.in-This.at))
    (λ symbols n. tt) (λ symbols a n v. v)

pub checked-returns-in-Container : goal.checked-returns-in-Container
checked-returns-in-Container g t c =
    let around = c.args.around.now in let names = names_in around in let setting = setting_in around in let s = c.args.state.now in
    let element = c.in-Container.element in let k = c.in-Container.container in
    let own : c.get-in-Container.result.now ≡ element = c.get-in-Container.ensures in
    walks_as _ c.contained.result c.contained.ensures
    (λ map. ap (λ (x : WrittenType). row.checked names around.bounds x setting map s) c.in-Container.is
    ∙ ap (λ (m : Mention). told (m.checks around.bounds) m.ty setting map s) (one.container names _ k element)
    ∙ seen.container_is names around.bounds k element setting map s
    ∙ ap (λ (x : WrittenType). row.contained names around.bounds x k setting map s) (sym own))
    (λ symbols n. subst (WrittenIn names symbols) (sym own) (named.in_container names symbols _ k element (subst (WrittenIn names symbols) c.in-Container.is n))) (λ symbols a n v. v)

pub checked-returns-in_ok-key_type-in-Dict : goal.checked-returns-in_ok-key_type-in-Dict
checked-returns-in_ok-key_type-in-Dict g t c =
    let around = c.args.around.now in let names = names_in around in let setting = setting_in around in let s = c.args.state.now in
    let key = c.in-Dict.key in let value = c.in-Dict.value in
    let first : c.get-in-Dict.result.now ≡ key = c.get-in-Dict.ensures in
    let second : c.get-in-Dict-2.result.now ≡ value = c.get-in-Dict-2.ensures in
    let again : c.get-in-Dict-3.result.now ≡ key = c.get-in-Dict-3.ensures in
    let mid = c.checked.new.state in let ty = c.in_ok-key_type-in-Dict.key_type in
    walks_then _ c.dict.result c.in_ok-key_type-in-Dict.ensures c.dict.ensures
    (λ map is. ap (λ (x : WrittenType). row.checked names around.bounds x setting map s) c.in-Dict.is
    ∙ ap (λ (m : Mention). told (m.checks around.bounds) m.ty setting map s) (one.dict names _ key value)
    ∙ seen.dict_is names around.bounds key value ty setting map s mid (ap (λ (x : WrittenType). row.checked names around.bounds x setting map s) (sym first) ∙ is)
    ∙ ap (λ (p : Place). row.dict names around.bounds value p ty setting map mid) (sym (c.place_of.ensures ∙ ap place_of again))
    ∙ ap (λ (x : WrittenType). row.dict names around.bounds x c.place_of.result ty setting map mid) (sym second))
    (λ symbols n. subst (WrittenIn names symbols) (sym first) (named.in_key names symbols _ key value (subst (WrittenIn names symbols) c.in-Dict.is n)))
    (λ symbols n v. (subst (WrittenIn names symbols) (sym second) (named.in_value names symbols _ key value (subst (WrittenIn names symbols) c.in-Dict.is n)), v)) (λ symbols b n v u. u)

pub checked-returns-in_err-key_type-in-Dict : goal.checked-returns-in_err-key_type-in-Dict
checked-returns-in_err-key_type-in-Dict g t c =
    let names = names_in c.args.around.now in
    let key = c.in-Dict.key in let value = c.in-Dict.value in
    let first : c.get-in-Dict.result.now ≡ key = c.get-in-Dict.ensures in
    let p = err_from_is_err_and c.from_residual.result c.from_residual.ensures.1 in
    rw (p.1, p.2) (walks_failed _ _ c.in_err-key_type-in-Dict.ensures (λ symbols n. subst (WrittenIn names symbols) (sym first) (named.in_key names symbols _ key value (subst (WrittenIn names symbols) c.in-Dict.is n))))

pub checked-returns-in-Shape : goal.checked-returns-in-Shape
checked-returns-in-Shape g t c =
    let around = c.args.around.now in let names = names_in around in let setting = setting_in around in let s = c.args.state.now in
    let fields = c.in-Shape.fields in let rest = c.in-Shape.rest in
    let own : c.as_slice.result.now ≡ fields = c.as_slice.ensures in
    walks_as _ c.shape.result c.shape.ensures
    (λ map. ap (λ (x : WrittenType). row.checked names around.bounds x setting map s) c.in-Shape.is
    ∙ ap (λ (m : Mention). told (m.checks around.bounds) m.ty setting map s) (one.shape names _ fields rest)
    ∙ ap (λ (fs : List FieldType). row.shape names around.bounds fs rest setting map s) (sym own))
    (λ symbols n. subst (λ (fs : List FieldType). All (FieldIn names symbols) fs) (sym own) (named.in_shape names symbols _ fields rest (subst (WrittenIn names symbols) c.in-Shape.is n)))
    (λ symbols a n v. v)

pub checked-returns-in-Class : goal.checked-returns-in-Class
checked-returns-in-Class g t c =
    let around = c.args.around.now in let names = names_in around in let setting = setting_in around in let s = c.args.state.now in
    let class = c.in-Class.class in
    walks_as _ c.checked_class.result c.checked_class.ensures
    (λ map. ap (λ (x : WrittenType). row.checked names around.bounds x setting map s) c.in-Class.is
    ∙ ap (λ (m : Mention). told (m.checks around.bounds) m.ty setting map s) (one.class_type names class))
    (λ symbols n. named.in_class_type names symbols class (subst (WrittenIn names symbols) c.in-Class.is n)) (λ symbols a n v. v)

pub checked_class-returns-in_err-types : goal.checked_class-returns-in_err-types
checked_class-returns-in_err-types g t c =
    let names = names_in c.args.around.now in
    let own : c.as_slice.result.now ≡ c.args.class.now.arguments = c.as_slice.ensures in
    let p = err_from_is_err_and c.from_residual.result c.from_residual.ensures.1 in
    rw (p.1, p.2) (walks_failed _ _ c.in_err-types.ensures (λ symbols n. subst (λ (ws : List WrittenType). All (WrittenIn names symbols) ws) (sym own) (named.in_arguments names symbols c.args.class.now n)))
