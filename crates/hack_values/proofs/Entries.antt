-- The entries of dicts, one after another.
use Rattle.std.proofs.Common.{◌≡◌, ◌∙◌, ◌<◌, ◌≤◌, ◌+◌, ◌++◌, ◌∷◌, ℕ, Ok, List, [], All, length, map, take, get_or, sym, ap}
use Rattle.std.proofs.lemmas.List.{take_all, take_more}
use Rattle.std.proofs.lemmas.List.Elements.{All-push}
use Rattle.hack_tree.specs.declared.expression.Entry.{Entry}
use Rattle.hack_types.specs.declared.hack_type.HackType.{HackType}
use Rattle.hack_types.specs.declared.hack_type.HackType.TheVariants as type
use Rattle.hack_decls.specs.DeclState.{DeclState, Map, Symbols}
use Rattle.hack_decls.specs.NameLaws.{none}
use Rattle.hack_decls.specs.Names.{TypeIn}
use Rattle.hack_parts.specs.ExprMeanings as one
use Rattle.hack_parts.specs.Forms.{pair_of}
use Rattle.hack_rules.specs.Values.{Pair, dict_row, entries_types}
use Rattle.hack_rules.specs.Walks.{Setting, State, Walk, ◌>>=◌, ◌>>◌, expect, pure}
use Rattle.hack_walk.specs.Checks.{Walks}
use Rattle.hack_walk.specs.WalkLaws.{step_pure, walks_as, walks_on, walks_pure, walks_step}
use Rattle.hack_values.specs.inside.Rows.{TypesIn, dict_of, entry_types, key_type}
use Rattle.hack_values.proofs.Naming.{in_dict}

abbrev Types : Type 0
Types = List HackType × List HackType

-- the types of some entries
abbrev pub types_in : List Entry → Walk Types
types_in entries = entries_types (map pair_of entries)

-- all that lists of types name
abbrev pub BothIn : Symbols → Types → Type 0
BothIn symbols types = All (TypeIn symbols) types.0 × All (TypeIn symbols) types.1

abbrev with_more : Types → HackType × HackType → Types
with_more all types = (all.0 ++ types.0 ∷ [], all.1 ++ types.1 ∷ [])

-- the types of one entry more
abbrev more_types : Entry → Types → Walk Types
more_types entry all = entry_types entry >>= (λ types. pure (with_more all types))

module _ (setting : Setting) (m : Map) where
  one_entry : (e : Entry) (s : State) → types_in (e ∷ []) setting m s ≡ more_types e ([], []) setting m s
  unfolding entries_types entry_types key_type ◌>>◌ ◌>>=◌ pure
  one_entry e s = ap (λ (pair : Pair). entries_types (pair ∷ []) setting m s) (one.pair e)

  entries_more : (es : List Entry) (e : Entry) (s : State) → types_in (es ++ e ∷ []) setting m s ≡ (types_in es >>= more_types e) setting m s
  unfolding entries_types ◌>>◌ ◌>>=◌ pure
  entries_more [] e s = one_entry e s
  entries_more (f ∷ fs) e s =
      let pair = pair_of f in
      let key = pair.key.walk setting m s in
      let value = pair.value.walk setting m (expect pair.key.at type.Arraykey key.0 setting m key.1).1 in
      ap (λ (end : Types × State). ((key.0 ∷ end.0.0, value.0 ∷ end.0.1), end.1)) (entries_more fs e value.1)

module _ {Base Held : Type 0} {setting : Setting} {Names : Symbols → Type 0} where
  pub none_yet : (state : DeclState Base Held) (here : State) → Walks (types_in []) setting state here (Ok ([], [])) state here Names BothIn
  unfolding entries_types
  none_yet state here = walks_pure state here ([], []) (λ symbols n. (none (TypeIn symbols), none (TypeIn symbols)))

module _ {Base Held : Type 0} {setting : Setting} {Names : Symbols → Type 0} {old : DeclState Base Held} {before : State} where
  pub entries_next : {mid new : DeclState Base Held} {between behind : State} {keys values : List HackType} {types : HackType × HackType} {NamesB : Symbols → Type 0}
      (es : List Entry) (i : ℕ) (e : Entry) → i < length es → e ≡ get_or es i e
      → Walks (types_in (take i es)) setting old before (Ok (keys, values)) mid between Names BothIn
      → Walks (entry_types e) setting mid between (Ok types) new behind NamesB TypesIn
      → ((symbols : Symbols) → Names symbols → NamesB symbols)
      → Walks (types_in (take (i + 1) es)) setting old before (Ok (keys ++ types.0 ∷ [], values ++ types.1 ∷ [])) new behind Names BothIn
  entries_next {behind = behind} {keys = keys} {values = values} {types = types} es i e lt at first second onward =
      walks_as _ (Ok _)
      (walks_on (more_types e) (Ok _) first
      (walks_step (λ ts. pure (with_more (keys, values) ts)) second
      (step_pure {Gives = BothIn} behind (with_more (keys, values) types)
      (λ symbols n. (All-push (TypeIn symbols) keys types.0 n.0.1.0 n.1.key, All-push (TypeIn symbols) values types.1 n.0.1.1 n.1.value)))
      (λ symbols n. onward symbols n.0) (λ symbols b n g h. h))
      (λ symbols n. n))
      (λ m. ap (λ (xs : List Entry). types_in xs setting m before) (take_more es i e lt ∙ ap (λ (x : Entry). take i es ++ x ∷ []) (sym at)) ∙ entries_more setting m (take i es) e before)

  pub dict_walks : {new : DeclState Base Held} {behind : State} {keys values : List HackType} (es : List Entry) (i : ℕ) (ty : HackType) (ks vs : List HackType) → length es ≤ i → ty ≡ dict_of ks vs → ks ≡ keys → vs ≡ values
      → Walks (types_in (take i es)) setting old before (Ok (keys, values)) new behind Names BothIn
      → Walks (dict_row (map pair_of es)) setting old before (Ok ty) new behind Names TypeIn
  unfolding dict_row
  dict_walks {behind = behind} {keys = keys} {values = values} es i ty ks vs all is same_keys same_values walks =
      rw (is, same_keys, same_values) (walks_step (λ types. pure (dict_of types.0 types.1))
      (walks_as (types_in es) (Ok (keys, values)) walks (λ m. sym (ap (λ (xs : List Entry). types_in xs setting m before) (take_all i es all))))
      (step_pure {Gives = TypeIn} behind (dict_of keys values) (λ symbols n. in_dict symbols keys values n.1.0 n.1.1)) (λ symbols n. n) (λ symbols b n g h. h))
