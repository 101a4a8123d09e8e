-- The fields of shapes, one after another.
use Rattle.std.proofs.Common.{◌≡◌, ◌∙◌, ◌<◌, ◌≤◌, ◌+◌, ◌++◌, ◌∷◌, ℕ, Bool, false, not, Ok, List, [], length, map, take, get_or, refl, sym, ap}
use Rattle.std.proofs.lemmas.List.{take_all, take_more}
use Rattle.std.proofs.lemmas.Map.Views.{All-values-insert_entry}
use Rattle.std.specs.BTreeMap.{insert_entry}
use Rattle.std.specs.Ordering.{nat_cmp}
use Rattle.hack_tree.specs.declared.expression.FieldValue.{FieldValue}
use Rattle.hack_types.specs.declared.fields.Field.{Field}
use Rattle.hack_types.specs.declared.hack_type.HackType.{HackType}
use Rattle.hack_decls.specs.DeclState.{DeclState, Map, Symbols}
use Rattle.hack_decls.specs.NameLaws.{none}
use Rattle.hack_decls.specs.Names.{TypeIn}
use Rattle.hack_diag.specs.Messages.{field_twice}
use Rattle.hack_parts.specs.ExprMeanings as one
use Rattle.hack_parts.specs.Forms.{given_of}
use Rattle.hack_rules.specs.Expressions.{meaning_of}
use Rattle.hack_rules.specs.Values.{Given, fields_types, shape_row}
use Rattle.hack_rules.specs.Walks.{Setting, State, Walk, ◌>>=◌, ◌>>◌, pure, unless}
use Rattle.hack_rules.specs.WrittenTypes.{is_key_of}
use Rattle.hack_shallow.specs.Resolved.{with_fields}
use Rattle.hack_walk.specs.Checks.{Walks}
use Rattle.hack_walk.specs.WalkLaws.{step_pure, walks_as, walks_on, walks_pure, walks_step}
use Rattle.hack_values.specs.inside.Rows.{field_type, shape_of}
use Rattle.hack_values.proofs.Keys.{after_more, keys_after, with_more}
use Rattle.hack_values.proofs.Naming.{EntriesIn, in_shape}

abbrev Table : Type 0
Table = List (ℕ × (Bool × HackType))

-- the fields under their keys
abbrev pub table_of : List FieldValue → Walk Table
table_of fields = fields_types [] (map given_of fields) >>= (λ types. pure (with_fields [] types))

abbrev field_of : FieldValue → HackType → Field HackType
field_of field ty = record { key = field.key; optional = false; ty = ty }

-- one field more
abbrev more_fields : List ℕ → FieldValue → List (Field HackType) → Walk (List (Field HackType))
more_fields keys field types = field_type field (is_key_of field.key keys) >>= (λ ty. pure (types ++ field_of field ty ∷ []))

abbrev more_entries : Bool → FieldValue → Table → Walk Table
more_entries given field table = field_type field given >>= (λ ty. pure (insert_entry nat_cmp table field.key (false, ty)))

module _ (setting : Setting) (m : Map) where
  fields_more : (keys : List ℕ) (fs : List FieldValue) (f : FieldValue) (s : State)
      → fields_types keys (map given_of (fs ++ f ∷ [])) setting m s ≡ (fields_types keys (map given_of fs) >>= more_fields (keys_after keys fs) f) setting m s
  unfolding fields_types field_type ◌>>◌ ◌>>=◌ pure
  fields_more keys [] f s = ap (λ (g : Given). fields_types keys (g ∷ []) setting m s) (one.given f)
  fields_more keys (x ∷ xs) f s =
      let ty = (meaning_of x.value).walk setting m (unless (not (is_key_of x.key keys)) x.key_at (field_twice x.key) setting m s).1 in
      ap (λ (g : Given). fields_types keys (g ∷ map given_of (xs ++ f ∷ [])) setting m s) (one.given x)
      ∙ ap (λ (end : List (Field HackType) × State). (field_of x ty.0 ∷ end.0, end.1)) (fields_more (x.key ∷ keys) xs f ty.1)
      ∙ ap (λ (g : Given). (fields_types keys (g ∷ map given_of xs) >>= more_fields (keys_after keys (x ∷ xs)) f) setting m s) (sym (one.given x))

  table_more : (fs : List FieldValue) (f : FieldValue) (s : State)
      → table_of (fs ++ f ∷ []) setting m s ≡ (table_of fs >>= more_entries (is_key_of f.key (keys_after [] fs)) f) setting m s
  unfolding ◌>>=◌ pure
  table_more fs f s =
      let types = fields_types [] (map given_of fs) setting m s in
      let ty = field_type f (is_key_of f.key (keys_after [] fs)) setting m types.1 in
      ap (λ (end : List (Field HackType) × State). (with_fields [] end.0, end.1)) (fields_more [] fs f s)
      ∙ ap (λ (table : Table). (table, ty.1)) (with_more [] types.0 (field_of f ty.0))

pub keys_next : (fs : List FieldValue) (i : ℕ) (f : FieldValue) → i < length fs → f ≡ get_or fs i f → keys_after [] (take (i + 1) fs) ≡ f.key ∷ keys_after [] (take i fs)
keys_next fs i f lt at = ap (keys_after []) (take_more fs i f lt ∙ ap (λ (x : FieldValue). take i fs ++ x ∷ []) (sym at)) ∙ after_more [] (take i fs) f

module _ {Base Held : Type 0} {setting : Setting} {Names : Symbols → Type 0} where
  pub none_yet : (state : DeclState Base Held) (here : State) → Walks (table_of []) setting state here (Ok []) state here Names EntriesIn
  unfolding fields_types ◌>>=◌ pure
  none_yet state here =
      walks_as _ (Ok []) (walks_pure {Gives = EntriesIn} state here [] (λ symbols n. none (λ (v : Bool × HackType). TypeIn symbols v.1))) (λ m. refl)

module _ {Base Held : Type 0} {setting : Setting} {Names : Symbols → Type 0} {old : DeclState Base Held} {before : State} where
  pub fields_next : {mid new : DeclState Base Held} {between behind : State} {table : Table} {ty : HackType} {NamesB : Symbols → Type 0}
      (fs : List FieldValue) (i : ℕ) (f : FieldValue) (given : Bool) (after : Table) → i < length fs → f ≡ get_or fs i f
      → given ≡ is_key_of f.key (keys_after [] (take i fs)) → after ≡ insert_entry nat_cmp table f.key (false, ty)
      → Walks (table_of (take i fs)) setting old before (Ok table) mid between Names EntriesIn
      → Walks (field_type f given) setting mid between (Ok ty) new behind NamesB TypeIn
      → ((symbols : Symbols) → Names symbols → NamesB symbols)
      → Walks (table_of (take (i + 1) fs)) setting old before (Ok after) new behind Names EntriesIn
  fields_next {behind = behind} {table = table} {ty = ty} fs i f given after lt at told put first second onward =
      rw put (walks_as _ (Ok _)
      (walks_on (more_entries given f) (Ok _) first
      (walks_step (λ t. pure (insert_entry nat_cmp table f.key (false, t))) second
      (step_pure {Gives = EntriesIn} behind (insert_entry nat_cmp table f.key (false, ty))
      (λ symbols n. All-values-insert_entry nat_cmp f.key (false, ty) (λ (v : Bool × HackType). TypeIn symbols v.1) table n.0.1 n.1))
      (λ symbols n. onward symbols n.0) (λ symbols b n g h. h))
      (λ symbols n. n))
      (λ m. ap (λ (xs : List FieldValue). table_of xs setting m before) (take_more fs i f lt ∙ ap (λ (x : FieldValue). take i fs ++ x ∷ []) (sym at))
      ∙ table_more setting m (take i fs) f before ∙ ap (λ (b : Bool). (table_of (take i fs) >>= more_entries b f) setting m before) (sym told)))

  pub shape_walks : {new : DeclState Base Held} {behind : State} {table : Table} (fs : List FieldValue) (i : ℕ) (ty : HackType) → length fs ≤ i → ty ≡ shape_of table
      → Walks (table_of (take i fs)) setting old before (Ok table) new behind Names EntriesIn
      → Walks (shape_row (map given_of fs)) setting old before (Ok ty) new behind Names TypeIn
  unfolding shape_row ◌>>=◌ pure
  shape_walks {behind = behind} {table = table} fs i ty all is walks =
      rw is (walks_as (shape_row (map given_of fs)) (Ok _)
      (walks_step {p = table_of fs} (λ t. pure (shape_of t))
      (walks_as (table_of fs) (Ok table) walks (λ m. sym (ap (λ (xs : List FieldValue). table_of xs setting m before) (take_all i fs all))))
      (step_pure {Gives = TypeIn} behind (shape_of table) (λ symbols n. in_shape symbols table n.1)) (λ symbols n. n) (λ symbols b n g h. h))
      (λ m. refl))
