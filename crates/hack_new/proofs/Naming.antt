-- `new` and a name, in the pieces that the functions are.
use Rattle.std.proofs.Common.{◌≡◌, ◌∙◌, ◌==◌, ◌||◌, ◌+◌, ◌++◌, ◌<◌, ◌≤◌, ℕ, suc, Bool, true, false, Option, Some, None, Ok, List, [], ◌∷◌, All, get_or, length, map, take, not, nat_le, refl, sym, ap, rules, arith, if◌then◌else◌}
use Rattle.std.proofs.lemmas.Bool.{eq-eqb, eqb-true}
use Rattle.std.proofs.Math.Dec.{eqb-suc-zero}
use Rattle.std.proofs.lemmas.List.{take_all}
use Rattle.hack_tree.specs.declared.written_type.ClassType.{ClassType}
use Rattle.hack_tree.specs.declared.written_type.FieldType.{FieldType}
use Rattle.hack_tree.specs.declared.written_type.WrittenType.{WrittenType, out-WrittenType, roll-WrittenType, the_lemmas}
use Rattle.hack_tree.specs.declared.written_type.WrittenType.TheOpen.{WrittenType-F}
use Rattle.hack_tree.specs.declared.written_type.WrittenType.TheFolds.{fold-roll-WrittenType, fold_out-ClassType}
use Rattle.hack_types.specs.Substituted.{limited, most_nodes}
use Rattle.hack_types.specs.TypeNodes.{nodes}
use Rattle.hack_types.specs.declared.hack_type.HackType.{HackType}
use Rattle.hack_types.specs.declared.hack_type.HackType.TheVariants as type
use Rattle.hack_types.specs.declared.place.Place.{Place}
use Rattle.hack_types.specs.declared.signature.TypeParam.{TypeParam}
use Rattle.hack_shallow.specs.Scope.{Scope as Names}
use Rattle.hack_decls.specs.DeclState.{DeclState, Map, Symbols}
use Rattle.hack_decls.specs.Names.{TypeIn, class_symbol}
use Rattle.hack_decls.specs.declared.folded.ClassFolded.{ClassFolded}
use Rattle.hack_decls.specs.declared.folded.Folded.{Folded}
use Rattle.hack_decls.specs.declared.folded.Folded.TheVariants as folded
use Rattle.hack_diag.specs.Messages.{other_arguments, too_big, trait_as_type, unbound_type}
use Rattle.hack_rules.specs.Classes.{mentioned, mentioned_by, mentioned_trait}
use Rattle.hack_rules.specs.News as news
use Rattle.hack_rules.specs.News.{constructed, expect_instance, new_declared, new_named, new_with, new_without, solved_class, type_argument, type_arguments}
use Rattle.hack_rules.specs.Walks.{Setting, State, Walk, ◌>>=◌, ◌>>◌, each, pure, reads, refuse, report, unless}
use Rattle.hack_rules.specs.WrittenTypes.{Argument, ClassMention, FieldMention, Mention, class_by, expect_arguments, field_by, mention, mention_by, names_of, written}
use Rattle.hack_sub.specs.Knowing.{is_trait, parameters_by}
use Rattle.hack_walk.specs.Checks.{Walks}
use Rattle.hack_walk.specs.WalkLaws.{each_next, each_none, walks_as}
use Rattle.hack_written.specs.Within.{arguments_of, place_by, place_of}
use Rattle.hack_calls.specs.Named.{declared_as}
use Rattle.hack_calls.specs.Named as calls
use Rattle.hack_new.specs.inside.Rows.{behind_mention, behind_types, construct_row, expect_number, expect_wanted, new_by, small_class, types_row}
use Rattle.hack_new.proofs.Constructing.{constructed_law}
use Rattle.hack_new.proofs.Wording.{arguments_are}

-- ---- written type arguments

module _ (names : Names) where
  at_layer : (layer : WrittenType-F WrittenType ClassType FieldType) → (mention names (roll-WrittenType layer)).at ≡ place_by layer
  unfolding mention_by class_by
  at_layer (WrittenType-F.Optional at inner) = ap (λ (m : Mention). m.at) (fold-roll-WrittenType Mention ClassMention FieldMention mention_by (class_by names) field_by (WrittenType-F.Optional at inner))
  at_layer (WrittenType-F.Primitive at p) = ap (λ (m : Mention). m.at) (fold-roll-WrittenType Mention ClassMention FieldMention mention_by (class_by names) field_by (WrittenType-F.Primitive at p))
  at_layer (WrittenType-F.This at) = ap (λ (m : Mention). m.at) (fold-roll-WrittenType Mention ClassMention FieldMention mention_by (class_by names) field_by (WrittenType-F.This at))
  at_layer (WrittenType-F.Container at c element) = ap (λ (m : Mention). m.at) (fold-roll-WrittenType Mention ClassMention FieldMention mention_by (class_by names) field_by (WrittenType-F.Container at c element))
  at_layer (WrittenType-F.Dict at key value) = ap (λ (m : Mention). m.at) (fold-roll-WrittenType Mention ClassMention FieldMention mention_by (class_by names) field_by (WrittenType-F.Dict at key value))
  at_layer (WrittenType-F.Shape at fields rest) = ap (λ (m : Mention). m.at) (fold-roll-WrittenType Mention ClassMention FieldMention mention_by (class_by names) field_by (WrittenType-F.Shape at fields rest))
  at_layer (WrittenType-F.Class c) =
      ap (λ (m : Mention). m.at) (fold-roll-WrittenType Mention ClassMention FieldMention mention_by (class_by names) field_by (WrittenType-F.Class c))
      ∙ ap (λ (m : ClassMention). m.at) (fold_out-ClassType Mention ClassMention FieldMention mention_by (class_by names) field_by c)

  opened : (ty : WrittenType) → ty ≡ roll-WrittenType (out-WrittenType ty)
  opened ty = search (rules, the_lemmas)

  -- the place of a mention
  place : (ty : WrittenType) → (mention names ty).at ≡ place_of ty
  place ty = ap (λ (t : WrittenType). (mention names t).at) (opened ty) ∙ at_layer (out-WrittenType ty)

module _ (setting : Setting) (m : Map) where
  abbrev types_from : List WrittenType → State → List HackType × State
  types_from types s = each written types setting m s

  -- the arguments are these types at their places
  typed_each : (types : List WrittenType) (s : State)
      → each type_argument (map (mention (names_of setting.scope)) types) setting m s ≡ (arguments_of types (types_from types s).0, (types_from types s).1)
  unfolding type_argument written each ◌>>=◌ pure reads
  typed_each [] s = refl
  typed_each (ty ∷ types) s =
      let first = written ty setting m s in
      let rest = types_from types first.1 in
      ap (λ (end : List Argument × State). (record { at = (mention (names_of setting.scope) ty).at; ty = first.0 } ∷ end.0, end.1)) (typed_each types first.1)
      ∙ ap (λ (at : Place). (record { at = at; ty = first.0 } ∷ arguments_of types rest.0, rest.1)) (place (names_of setting.scope) ty)

  typed : (types : List WrittenType) (s : State) → type_arguments types setting m s ≡ (arguments_of types (types_from types s).0, (types_from types s).1)
  unfolding type_arguments ◌>>=◌ reads
  typed types s = typed_each types s

  each_count : (types : List WrittenType) (s : State) → length (types_from types s).0 ≡ length types
  unfolding each ◌>>=◌ pure
  each_count [] s = refl
  each_count (ty ∷ types) s = ap (λ (n : ℕ). suc n) (each_count types (written ty setting m s).1)

-- as many arguments as types
as_many : (types : List WrittenType) (own : List HackType) → length own ≡ length types → length (arguments_of types own) ≡ length own
as_many [] [] is = refl
as_many [] (t ∷ own) is = absurd (omega (arith, is))
as_many (w ∷ types) [] is = absurd (omega (arith, is))
as_many (w ∷ types) (t ∷ own) is = ap (λ (n : ℕ). suc n) (as_many types own (omega (arith, is)))

types_back : (types : List WrittenType) (own : List HackType) → length own ≡ length types → map (λ (a : Argument). a.ty) (arguments_of types own) ≡ own
types_back [] [] is = refl
types_back [] (t ∷ own) is = absurd (omega (arith, is))
types_back (w ∷ types) [] is = absurd (omega (arith, is))
types_back (w ∷ types) (t ∷ own) is = ap (λ (ts : List HackType). t ∷ ts) (types_back types own (omega (arith, is)))

-- over the call's own map
pub same_count : {Base Held : Type 0} {setting : Setting} {old new : DeclState Base Held} {before behind : State} {own : List HackType} {Names : Symbols → Type 0}
    {Gives : Symbols → List HackType → Type 0} (types : List WrittenType) → Walks (types_row types) setting old before (Ok own) new behind Names Gives → length own ≡ length types
unfolding types_row
same_count {setting = setting} {old = old} {before = before} types walks =
    sym (ap (λ (end : List HackType × State). length end.0) (walks.asks.means old.map (λ s h. refl))) ∙ each_count setting old.map types before

-- ---- behind a mention

module _ (at name_at : Place) (name : ℕ) (types : List WrittenType) (given : List Argument) (setting : Setting) (m : Map) where
  number_law : (arguments : List Argument) (entry : Option Folded) (s : State)
      → news.expect_number name_at name arguments entry setting m s ≡ expect_number name_at name (length arguments) (declared_as entry) setting m s
  unfolding expect_wanted unless
  number_law [] None s = refl
  number_law [] (Some declaration) s = refl
  number_law (a ∷ arguments) None s = refl
  number_law (a ∷ arguments) (Some declaration) s =
      let count = suc (length arguments) in let wanted = length (parameters_by (Some declaration)) in
      sym (ap (λ (none : Bool). unless (none || (wanted == count)) name_at (other_arguments name wanted count) setting m s) (eqb-suc-zero (length arguments)))

  -- the arguments are tried against what goes on from the name, or against what is declared
  abbrev tail : Option Folded → Option Folded → List Argument → Walk HackType
  tail entry goes arguments = news.expect_number name_at name arguments entry >> news.new_by at name_at name arguments given goes

  -- both go on in the same way
  abbrev Same : Option Folded → Option Folded → Type 0
  Same entry goes = (arguments : List Argument) (s : State)
      → news.new_by at name_at name arguments given goes setting m s ≡ new_by at name_at name arguments given (declared_as entry) setting m s

  tails : (entry goes : Option Folded) (own : List HackType) (s : State) → length own ≡ length types → Same entry goes
      → tail entry goes (arguments_of types own) setting m s ≡ behind_types at name_at name types given (declared_as entry) own setting m s
  unfolding behind_types ◌>>◌ ◌>>=◌
  tails entry goes own s many same =
      let arguments = arguments_of types own in
      ap (λ (end : Unit {0} × State). news.new_by at name_at name arguments given goes setting m end.1) (number_law arguments entry s)
      ∙ ap (λ (n : ℕ). news.new_by at name_at name arguments given goes setting m (expect_number name_at name n (declared_as entry) setting m s).1) (as_many types own many)
      ∙ same arguments (expect_number name_at name (length own) (declared_as entry) setting m s).1

  onward : (entry goes : Option Folded) (s : State) → Same entry goes
      → (type_arguments types >>= tail entry goes) setting m s ≡ behind_mention at name_at name types given (declared_as entry) setting m s
  unfolding behind_mention types_row ◌>>=◌
  onward entry goes s same =
      let all = types_from setting m types s in
      ap (λ (end : List Argument × State). tail entry goes end.0 setting m end.1) (typed setting m types s) ∙ tails entry goes all.0 all.1 (each_count setting m types s) same

  by_trait : (class : ClassFolded) (b : Bool) (s : State) → is_trait class.sort ≡ b
      → (mentioned_trait name_at name (folded.ClassLike class) b >>= (λ goes. type_arguments types >>= tail (Some (folded.ClassLike class)) goes)) setting m s
      ≡ ((mentioned_trait name_at name (folded.ClassLike class) b >> pure (declared_as (Some (folded.ClassLike class)))) >>= behind_mention at name_at name types given) setting m s
  unfolding ◌>>=◌ ◌>>◌ pure
  by_trait class false s is = onward (Some (folded.ClassLike class)) (Some (folded.ClassLike class)) s
      (λ arguments t. ap (λ (b : Bool). (if b then pure type.Any else new_declared at name_at name class.type_params arguments given) setting m t) (sym is))
  by_trait class true s is = onward (Some (folded.ClassLike class)) None (report name_at (trait_as_type name) setting m s).1
      (λ arguments t. ap (λ (b : Bool). (if b then pure type.Any else new_declared at name_at name class.type_params arguments given) setting m t) (sym is))

  by_entry : (entry : Option Folded) (s : State)
      → (mentioned_by name_at name entry >>= (λ goes. type_arguments types >>= tail entry goes)) setting m s
      ≡ ((mentioned_by name_at name entry >> pure (declared_as entry)) >>= behind_mention at name_at name types given) setting m s
  unfolding ◌>>=◌ ◌>>◌ pure
  by_entry None s = onward None None (report name_at (unbound_type name) setting m s).1 (λ arguments t. refl)
  by_entry (Some (folded.ClassLike class)) s = by_trait class (is_trait class.sort) s refl
  by_entry (Some (folded.Enum sig)) s = onward (Some (folded.Enum sig)) (Some (folded.Enum sig)) s (λ arguments t. refl)
  by_entry (Some (folded.Alias sig)) s = onward (Some (folded.Alias sig)) (Some (folded.Alias sig)) s (λ arguments t. refl)
  by_entry (Some (folded.Function sig)) s = onward (Some (folded.Function sig)) (Some (folded.Function sig)) s (λ arguments t. refl)
  by_entry (Some (folded.Constant ty)) s = onward (Some (folded.Constant ty)) (Some (folded.Constant ty)) s (λ arguments t. refl)

  -- a name is mentioned, and what goes on looks at what is declared, which is the same
  pub named_law : (s : State) → new_named at name_at name types given setting m s ≡ (calls.mention name_at name >>= behind_mention at name_at name types given) setting m s
  unfolding new_named mentioned ◌>>=◌ ◌>>◌ reads pure
  named_law s = by_entry (m (class_symbol name)) s

-- ---- type arguments of the right number

module _ (at name_at : Place) (name : ℕ) (params : List TypeParam) (types : List WrittenType) (own : List HackType) (given : List Argument) (setting : Setting) (m : Map) (s : State)
    (many : length own ≡ length types) where
  -- the bounds, and the constructor
  abbrev inside : List HackType → Walk HackType
  inside ts = expect_arguments params (arguments_of types own) >> (expect_instance at name >> constructed at name ts (type.Class name ts) given)

  abbrev by_size : Bool → List HackType → Walk HackType
  by_size small ts = if not small then refuse name_at too_big else inside ts

  with_own : new_with at name_at name params (arguments_of types own) given setting m s ≡ by_size (nat_le (nodes (type.Class name own)) most_nodes) own setting m s
  unfolding new_with
  with_own = ap (λ (ts : List HackType). by_size (nat_le (nodes (type.Class name ts)) most_nodes) ts setting m s) (types_back types own many)

  pub large_law : nat_le (nodes (type.Class name own)) most_nodes ≡ false → new_with at name_at name params (arguments_of types own) given setting m s ≡ refuse name_at too_big setting m s
  large_law is = with_own ∙ ap (λ (b : Bool). by_size b own setting m s) is

  made_law : inside own setting m s ≡ (small_class at name params types (type.Class name own) given >> pure (limited (type.Class name own))) setting m s
  unfolding small_class ◌>>=◌ ◌>>◌ pure
  made_law =
      let made = type.Class name own in
      let first = (expect_arguments params (arguments_of types own) setting m s).1 in
      constructed_law at name own made given setting m (expect_instance at name setting m first).1
      ∙ sym (ap (λ (ts : List HackType). ((expect_arguments params (arguments_of types ts) >> (expect_instance at name >> construct_row at name ts made given)) >> pure (limited made)) setting m s) (arguments_are name own))

  pub small_law : nat_le (nodes (type.Class name own)) most_nodes ≡ true
      → new_with at name_at name params (arguments_of types own) given setting m s ≡ (small_class at name params types (type.Class name own) given >> pure (limited (type.Class name own))) setting m s
  small_law is = with_own ∙ ap (λ (b : Bool). by_size b own setting m s) is ∙ made_law

-- ---- with type arguments, and the number of them

unlike : (b : Bool) (x y : ℕ) → (x == y) ≡ b → (x ≡ y → ⊥) → (x == y) ≡ false
unlike false x y is other = is
unlike true x y is other = absurd (other (eqb-true x y is))

module _ (at name_at : Place) (name : ℕ) (given : List Argument) (setting : Setting) (m : Map) (s : State) where
  by_number : (params : List TypeParam) (types : List WrittenType) (own : List HackType) (b : Bool) → length own ≡ length types → (length types ≡ 0 → ⊥) → (length params == length types) ≡ b
      → new_declared at name_at name params (arguments_of types own) given setting m s
      ≡ (if b then new_with at name_at name params (arguments_of types own) given else pure type.Any) setting m s
  by_number params [] own b many some is = absurd (some refl)
  by_number params (w ∷ types) [] b many some is = absurd (omega (arith, many))
  by_number params (w ∷ types) (t ∷ own) b many some is =
      ap (λ (right : Bool). (if right then new_with at name_at name params (arguments_of (w ∷ types) (t ∷ own)) given else pure type.Any) setting m s)
      (ap (λ (n : ℕ). length params == n) (as_many (w ∷ types) (t ∷ own) many ∙ many) ∙ is)

  pub other_law : (params : List TypeParam) (types : List WrittenType) (own : List HackType) → length own ≡ length types → (length types ≡ 0 → ⊥) → (length params ≡ length types → ⊥)
      → new_declared at name_at name params (arguments_of types own) given setting m s ≡ pure type.Any setting m s
  other_law params types own many some other = by_number params types own false many some (unlike (length params == length types) (length params) (length types) refl other)

  pub right_law : (params : List TypeParam) (types : List WrittenType) (own : List HackType) → length own ≡ length types → (length types ≡ 0 → ⊥) → length params ≡ length types
      → new_declared at name_at name params (arguments_of types own) given setting m s ≡ new_with at name_at name params (arguments_of types own) given setting m s
  right_law params types own many some same = by_number params types own true many some (eq-eqb (length params) (length types) same)

  pub plain_law : (params : List TypeParam) → length params ≡ 0
      → new_without at name params given setting m s ≡ (expect_instance at name >> constructed at name [] (type.Class name []) given) setting m s
  unfolding new_without
  plain_law [] empty = refl
  plain_law (p ∷ params) empty = absurd (omega (arith, empty))

  pub some_law : (params : List TypeParam) → (length params ≡ 0 → ⊥)
      → new_without at name params given setting m s ≡ (expect_instance at name >> solved_class at name params given) setting m s
  unfolding new_without
  some_law [] some = absurd (some refl)
  some_law (p ∷ params) some = refl

-- ---- one type more

module _ {Base Held : Type 0} {setting : Setting} {Names : Symbols → Type 0} where
  pub none_yet : (state : DeclState Base Held) (here : State) → Walks (types_row []) setting state here (Ok []) state here Names (λ symbols own. All (TypeIn symbols) own)
  unfolding types_row
  none_yet state here = each_none written TypeIn state here

  pub types_next : {NamesB : Symbols → Type 0} {old mid new : DeclState Base Held} {before between behind : State} {own : List HackType} {one : HackType}
      (types : List WrittenType) (i : ℕ) (ty : WrittenType) → i < length types → ty ≡ get_or types i ty
      → Walks (types_row (take i types)) setting old before (Ok own) mid between Names (λ symbols ts. All (TypeIn symbols) ts)
      → Walks (written ty) setting mid between (Ok one) new behind NamesB TypeIn → ((symbols : Symbols) → Names symbols → NamesB symbols)
      → Walks (types_row (take (i + 1) types)) setting old before (Ok (own ++ one ∷ [])) new behind Names (λ symbols ts. All (TypeIn symbols) ts)
  unfolding types_row
  types_next types i ty inside at first second onward = each_next written types i ty inside at first second onward

  pub types_all : {old new : DeclState Base Held} {before behind : State} {own : List HackType} (types : List WrittenType) (i : ℕ) → length types ≤ i
      → Walks (types_row (take i types)) setting old before (Ok own) new behind Names (λ symbols ts. All (TypeIn symbols) ts)
      → Walks (types_row types) setting old before (Ok own) new behind Names (λ symbols ts. All (TypeIn symbols) ts)
  types_all {before = before} {own = own} types i past walks =
      walks_as (types_row types) (Ok own) walks (λ map. ap (λ (ts : List WrittenType). types_row ts setting map before) (sym (take_all i types past)))
