-- The rows of the page, by the walks of their parts.
use Rattle.std.proofs.Common.{◌≡◌, ◌∙◌, ◌<◌, ◌+◌, ◌++◌, ◌∷◌, ℕ, Bool, true, false, Ok, List, [], length, map, take, get_or, refl, sym, ap, if◌then◌else◌}
use Rattle.std.proofs.lemmas.List.{map_push, take_more}
use Rattle.std.specs.BTreeMap.{insert_entry}
use Rattle.std.specs.Ordering.{nat_cmp}
use Rattle.hack_tree.specs.declared.written_type.ClassType.{ClassType}
use Rattle.hack_tree.specs.declared.written_type.Container.{Container}
use Rattle.hack_tree.specs.declared.written_type.Container.TheVariants as container
use Rattle.hack_tree.specs.declared.written_type.FieldType.{FieldType}
use Rattle.hack_tree.specs.declared.written_type.WrittenType.{WrittenType}
use Rattle.hack_types.specs.declared.hack_type.HackType.{HackType}
use Rattle.hack_types.specs.declared.hack_type.HackType.TheVariants as type
use Rattle.hack_types.specs.declared.place.Place.{Place}
use Rattle.hack_shallow.specs.Resolved.{container_type, with_fields}
use Rattle.hack_shallow.specs.Scope.{Scope as Names}
use Rattle.hack_decls.specs.Asks.{Asks}
use Rattle.hack_decls.specs.DeclState.{DeclState, Map, Symbols}
use Rattle.hack_decls.specs.Names.{class_symbol}
use Rattle.hack_rules.specs.Walks.{Setting, State, ◌>>=◌, ◌>>◌, for_each, pure, reads}
use Rattle.hack_rules.specs.WrittenTypes.{ClassMention, FieldMention, Mention, container_checks, declared_by, dict_checks, field_type, fields_checks, is_key_of, is_parameter, mention, named_checks}
use Rattle.hack_written.specs.Within.{place_of}
use Rattle.hack_written.specs.inside.Rows as row
use Rattle.hack_written.specs.inside.Rows.{expect_declared, expect_new, field_mention, field_mentions, key_checks, mentions, told, types_in}
use Rattle.hack_written.proofs.Lists.{after_more, field_checks, fields_more, for_each_more, keys_after, with_more}
use Rattle.hack_written.proofs.Mentions as one
use Rattle.hack_written.proofs.Told.{done_told, from_told, told_is}

module _ (names : Names) (bounds : Bool) where
  -- ---- arguments

  pub types_are : {Base Held : Type 0} {old new : DeclState Base Held} {Names : Symbols → Type 0} {Gives : Symbols → List HackType → Type 0}
      (ws : List WrittenType) (types : List HackType) (setting : Setting) (s mid : State)
      → Asks old (Ok types) new (λ m answer. row.arguments names bounds ws setting m s ≡ (answer, mid)) Names Gives → types ≡ types_in names ws
  types_are {old = old} ws types setting s mid asks =
      told_is (for_each (λ (x : Mention). x.checks bounds) (mentions names ws)) (types_in names ws) setting old.map s mid (asks.means old.map (λ x h. refl))

  pushed : (xs : List WrittenType) (w : WrittenType) (setting : Setting) (m : Map) (s : State)
      → row.arguments names bounds (xs ++ w ∷ []) setting m s
      ≡ told ((mention names w).checks bounds) (types_in names xs ++ (mention names w).ty ∷ []) setting m (for_each (λ (x : Mention). x.checks bounds) (mentions names xs) setting m s).1
  unfolding ◌>>=◌ pure
  pushed xs w setting m s =
      let f = λ (x : Mention). x.checks bounds in let mw = mention names w in
      ap (λ (ms : List Mention). (map (λ (x : Mention). x.ty) ms, (for_each f ms setting m s).1)) (map_push (mention names) xs w)
      ∙ (λ i. (map_push (λ (x : Mention). x.ty) (mentions names xs) mw i, (for_each_more setting m f (mentions names xs) mw s i).1))

  pub one_more : (ws : List WrittenType) (i : ℕ) (w : WrittenType) (types : List HackType) (setting : Setting) (m : Map) (s mid : State) → i < length ws → w ≡ get_or ws i w
      → row.arguments names bounds (take i ws) setting m s ≡ (types, mid)
      → row.arguments names bounds (take (i + 1) ws) setting m s ≡ told ((mention names w).checks bounds) (types ++ (mention names w).ty ∷ []) setting m mid
  one_more ws i w types setting m s mid lt at is =
      let xs = take i ws in let mw = mention names w in
      let more : take (i + 1) ws ≡ xs ++ w ∷ [] = take_more ws i w lt ∙ ap (λ (x : WrittenType). xs ++ x ∷ []) (sym at) in
      ap (λ (zs : List WrittenType). row.arguments names bounds zs setting m s) more ∙ pushed xs w setting m s
      ∙ from_told (for_each (λ (x : Mention). x.checks bounds) (mentions names xs)) (types_in names xs) types setting m s mid
      (λ (ts : List HackType). told (mw.checks bounds) (ts ++ mw.ty ∷ [])) is

  -- ---- a name behind its arguments

  chosen : (b : Bool) (class : ClassType) (traits : Bool) (setting : Setting) (m : Map) (x : State) (T : HackType)
      → ◌≡◌ {A = HackType × State}
      (T, ((if b then pure tt else declared_by traits bounds class.at class.name (mentions names class.arguments) (m (class_symbol class.name))) setting m x).1)
      (told (if b then pure tt else expect_declared names bounds class traits) T setting m x)
  unfolding ◌>>=◌ pure reads
  chosen true class traits setting m x T = refl
  chosen false class traits setting m x T = refl

  pub class_is : (class : ClassType) (traits : Bool) (types : List HackType) (setting : Setting) (m : Map) (s mid : State)
      → row.arguments names bounds class.arguments setting m s ≡ (types, mid)
      → row.checked_class names bounds class traits setting m s ≡ row.named names bounds class traits setting m mid
  unfolding named_checks ◌>>=◌ ◌>>◌ pure reads
  class_is class traits types setting m s mid is =
      ap (λ (c : ClassMention). told (c.checks traits bounds) c.ty setting m s) (one.class names class)
      ∙ chosen (is_parameter names class.name) class traits setting m (for_each (λ (x : Mention). x.checks bounds) (mentions names class.arguments) setting m s).1 _
      ∙ ap (λ (r : List HackType × State). row.named names bounds class traits setting m r.1) is

  -- ---- fields

  pub fields_next : (fields : List FieldType) (i : ℕ) (f : FieldType) (setting : Setting) (m : Map) (s mid : State) → i < length fields → f ≡ get_or fields i f
      → fields_checks [] (field_mentions names (take i fields)) bounds setting m s ≡ (tt, mid)
      → fields_checks [] (field_mentions names (take (i + 1) fields)) bounds setting m s
      ≡ field_checks (keys_after [] (field_mentions names (take i fields))) (field_mention names f) bounds setting m mid
  fields_next fields i f setting m s mid lt at is =
      let xs = take i fields in let mf = field_mention names f in let ms = field_mentions names xs in
      let more : field_mentions names (take (i + 1) fields) ≡ ms ++ mf ∷ [] =
      ap (field_mentions names) (take_more fields i f lt ∙ ap (λ (x : FieldType). xs ++ x ∷ []) (sym at)) ∙ map_push (field_mention names) xs f in
      ap (λ (zs : List FieldMention). fields_checks [] zs bounds setting m s) more ∙ fields_more setting m [] ms mf bounds s
      ∙ ap (λ (r : Unit {0} × State). field_checks (keys_after [] ms) mf bounds setting m r.1) is

  pub field_is : (f : FieldType) (keys : List ℕ) (given : Bool) (ty : HackType) (setting : Setting) (m : Map) (mid last : State) → given ≡ is_key_of f.key keys
      → row.field_type names bounds f given setting m mid ≡ (ty, last) → field_checks keys (field_mention names f) bounds setting m mid ≡ (tt, last)
  field_is f keys given ty setting m mid last same is =
      let mv = mention names f.value in
      ap (λ (x : FieldMention). field_checks keys x bounds setting m mid) (one.field names f)
      ∙ ap (λ (b : Bool). (expect_new f.key_at f.key b >> mv.checks bounds) setting m mid) (sym same)
      ∙ done_told (expect_new f.key_at f.key given >> mv.checks bounds) mv.ty setting m mid last is

  pub keys_next : (fields : List FieldType) (i : ℕ) (f : FieldType) → i < length fields → f ≡ get_or fields i f
      → keys_after [] (field_mentions names (take (i + 1) fields)) ≡ f.key ∷ keys_after [] (field_mentions names (take i fields))
  keys_next fields i f lt at =
      let xs = take i fields in let mf = field_mention names f in let ms = field_mentions names xs in
      let more : field_mentions names (take (i + 1) fields) ≡ ms ++ mf ∷ [] =
      ap (field_mentions names) (take_more fields i f lt ∙ ap (λ (x : FieldType). xs ++ x ∷ []) (sym at)) ∙ map_push (field_mention names) xs f in
      ap (keys_after []) more ∙ after_more [] ms mf ∙ ap (λ (x : FieldMention). x.key ∷ keys_after [] ms) (one.field names f)

  pub entries_next : (fields : List FieldType) (i : ℕ) (f : FieldType) (before after : List (ℕ × (Bool × HackType))) (ty : HackType) → i < length fields → f ≡ get_or fields i f
      → ty ≡ (mention names f.value).ty → before ≡ with_fields [] (map field_type (field_mentions names (take i fields)))
      → after ≡ insert_entry nat_cmp before f.key (f.optional, ty)
      → after ≡ with_fields [] (map field_type (field_mentions names (take (i + 1) fields)))
  entries_next fields i f before after ty lt at same was put =
      let xs = take i fields in let mf = field_mention names f in let ms = field_mentions names xs in
      let more : field_mentions names (take (i + 1) fields) ≡ ms ++ mf ∷ [] =
      ap (field_mentions names) (take_more fields i f lt ∙ ap (λ (x : FieldType). xs ++ x ∷ []) (sym at)) ∙ map_push (field_mention names) xs f in
      put ∙ ap (λ (t : HackType). insert_entry nat_cmp before f.key (f.optional, t)) same
      ∙ ap (λ (es : List (ℕ × (Bool × HackType))). insert_entry nat_cmp es f.key (f.optional, (mention names f.value).ty)) was
      ∙ ap (λ (x : FieldMention). insert_entry nat_cmp (with_fields [] (map field_type ms)) x.key (x.optional, x.value.ty)) (sym (one.field names f))
      ∙ sym (with_more [] (map field_type ms) (field_type mf))
      ∙ ap (with_fields []) (sym (map_push field_type ms mf)) ∙ ap (λ (zs : List FieldMention). with_fields [] (map field_type zs)) (sym more)

  pub type_is : {Base Held : Type 0} {old new : DeclState Base Held} {Names : Symbols → Type 0} {Gives : Symbols → HackType → Type 0}
      (f : FieldType) (given : Bool) (ty : HackType) (setting : Setting) (s mid : State)
      → Asks old (Ok ty) new (λ m answer. row.field_type names bounds f given setting m s ≡ (answer, mid)) Names Gives → ty ≡ (mention names f.value).ty
  type_is {old = old} f given ty setting s mid asks =
      told_is (expect_new f.key_at f.key given >> (mention names f.value).checks bounds) (mention names f.value).ty setting old.map s mid (asks.means old.map (λ x h. refl))

  -- ---- containers

  pub container_is : (k : Container) (element : WrittenType) (setting : Setting) (m : Map) (s : State)
      → told (container_checks k (mention names element) bounds) (container_type k (mention names element).ty) setting m s ≡ row.contained names bounds element k setting m s
  unfolding ◌>>=◌ ◌>>◌ pure
  container_is container.Vec element setting m s = refl
  container_is container.Keyset element setting m s =
      ap (λ (p : Place). told ((mention names element).checks bounds >> key_checks bounds p (mention names element).ty) (container_type container.Keyset (mention names element).ty) setting m s) (one.place names element)

  pub dict_is : (key value : WrittenType) (ty : HackType) (setting : Setting) (m : Map) (s mid : State)
      → row.checked names bounds key setting m s ≡ (ty, mid)
      → told (dict_checks (mention names key) (mention names value) bounds) (type.Dict (mention names key).ty (mention names value).ty) setting m s
      ≡ row.dict names bounds value (place_of key) ty setting m mid
  unfolding dict_checks ◌>>=◌ ◌>>◌ pure
  dict_is key value ty setting m s mid is =
      ap (λ (r : HackType × State). row.dict names bounds value (mention names key).at r.0 setting m r.1) is
      ∙ ap (λ (p : Place). row.dict names bounds value p ty setting m mid) (one.place names key)
