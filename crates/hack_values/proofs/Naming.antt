-- What the types of values name.
use Rattle.std.proofs.Common.{◌∙◌, IsTrue, ℕ, Bool, false, List, [], ◌∷◌, All, ap, arith, subst, sym}
use Rattle.std.proofs.lemmas.List.Elements.{All-head, All-tail}
use Rattle.std.specs.Map.{values_of}
use Rattle.hack_tree.specs.declared.expression.CastType.{CastType}
use Rattle.hack_tree.specs.declared.expression.CastType.TheVariants as cast
use Rattle.hack_tree.specs.declared.written_type.Container.{Container}
use Rattle.hack_tree.specs.declared.written_type.Container.TheVariants as container
use Rattle.hack_types.specs.UnionOf.{union_of}
use Rattle.hack_types.specs.declared.hack_type.HackType.{HackType}
use Rattle.hack_types.specs.declared.hack_type.HackType.TheFolds.{fold-roll-HackType}
use Rattle.hack_types.specs.declared.hack_type.HackType.TheOpen.{HackType-F}
use Rattle.hack_types.specs.declared.hack_type.HackType.TheVariants as type
use Rattle.hack_types.specs.declared.ids.SymbolId.{SymbolId}
use Rattle.hack_decls.specs.DeclState.{Symbols}
use Rattle.hack_decls.specs.Names.{TypeIn, symbols_by, symbols_in}
use Rattle.hack_rules.specs.Values.{cast_type}
use Rattle.hack_shallow.specs.Resolved.{container_type, in_order}
use Rattle.hack_sub.specs.NamesOf.{alone, field_symbols, joined, of_int}
use Rattle.hack_sub.specs.NamesPut.{in_union_of}
use Rattle.hack_walk.specs.NamesKept.{in_limited}
use Rattle.hack_values.specs.inside.Rows.{container_of, dict_of, shape_of}

-- all that the types under keys name is among these symbols
abbrev pub EntriesIn : Symbols → List (ℕ × (Bool × HackType)) → Type 0
EntriesIn symbols entries = All (λ (v : Bool × HackType). TypeIn symbols v.1) (values_of entries)

module _ (symbols : Symbols) where
  abbrev In : SymbolId → Type 0
  In s = IsTrue (symbols s)

  pub of_this : TypeIn symbols type.This
  unfolding symbols_in
  of_this = alone symbols HackType-F.This type.This (sym type.rolls-This) (fold-roll-HackType (List SymbolId) symbols_by HackType-F.This)

  pub of_bool : TypeIn symbols type.Bool
  unfolding symbols_in
  of_bool = alone symbols HackType-F.Bool type.Bool (sym type.rolls-Bool) (fold-roll-HackType (List SymbolId) symbols_by HackType-F.Bool)

  of_float : TypeIn symbols type.Float
  unfolding symbols_in
  of_float = alone symbols HackType-F.Float type.Float (sym type.rolls-Float) (fold-roll-HackType (List SymbolId) symbols_by HackType-F.Float)

  of_str : TypeIn symbols type.Str
  unfolding symbols_in
  of_str = alone symbols HackType-F.Str type.Str (sym type.rolls-Str) (fold-roll-HackType (List SymbolId) symbols_by HackType-F.Str)

  pub of_cast : (to : CastType) → TypeIn symbols (cast_type to)
  of_cast cast.Int = of_int symbols
  of_cast cast.Float = of_float
  of_cast cast.String = of_str
  of_cast cast.Bool = of_bool

  -- ---- containers

  of_vector : (item : HackType) → TypeIn symbols item → TypeIn symbols (type.Vector item)
  unfolding TypeIn symbols_in
  of_vector item here = subst (λ (s : List SymbolId). All In s) (sym (ap symbols_in (sym (type.rolls-Vector item)) ∙ fold-roll-HackType (List SymbolId) symbols_by (HackType-F.Vector item))) here

  of_keyset : (item : HackType) → TypeIn symbols item → TypeIn symbols (type.Keyset item)
  unfolding TypeIn symbols_in
  of_keyset item here = subst (λ (s : List SymbolId). All In s) (sym (ap symbols_in (sym (type.rolls-Keyset item)) ∙ fold-roll-HackType (List SymbolId) symbols_by (HackType-F.Keyset item))) here

  of_container : (c : Container) (item : HackType) → TypeIn symbols item → TypeIn symbols (container_type c item)
  of_container container.Vec item here = of_vector item here
  of_container container.Keyset item here = of_keyset item here

  pub in_container : (c : Container) (types : List HackType) → All (TypeIn symbols) types → TypeIn symbols (container_of c types)
  in_container c types all = in_limited symbols (container_type c (union_of types)) (of_container c (union_of types) (in_union_of symbols types all))

  of_dict : (key value : HackType) → TypeIn symbols key → TypeIn symbols value → TypeIn symbols (type.Dict key value)
  unfolding TypeIn symbols_in
  of_dict key value k v = subst (λ (s : List SymbolId). All In s)
      (sym (ap symbols_in (sym (type.rolls-Dict key value)) ∙ fold-roll-HackType (List SymbolId) symbols_by (HackType-F.Dict key value)))
      (joined symbols (symbols_in key) (symbols_in value) k v)

  pub in_dict : (keys values : List HackType) → All (TypeIn symbols) keys → All (TypeIn symbols) values → TypeIn symbols (dict_of keys values)
  in_dict keys values k v =
      in_limited symbols (type.Dict (union_of keys) (union_of values)) (of_dict (union_of keys) (union_of values) (in_union_of symbols keys k) (in_union_of symbols values v))

  -- ---- shapes

  gathered : (entries : List (ℕ × (Bool × HackType))) → EntriesIn symbols entries → All In (field_symbols symbols (in_order entries))
  unfolding TypeIn
  gathered [] all = λ k d lt. absurd (omega (arith, lt))
  gathered (e ∷ es) all =
      joined symbols (symbols_in e.1.1) (field_symbols symbols (in_order es)) (All-head (λ (v : Bool × HackType). TypeIn symbols v.1) e.1 (values_of es) all)
      (gathered es (All-tail (λ (v : Bool × HackType). TypeIn symbols v.1) e.1 (values_of es) all))

  of_shape : (entries : List (ℕ × (Bool × HackType))) → EntriesIn symbols entries → TypeIn symbols (type.Shape (in_order entries) false)
  unfolding TypeIn symbols_in
  of_shape entries all = subst (λ (s : List SymbolId). All In s)
      (sym (ap symbols_in (sym (type.rolls-Shape (in_order entries) false)) ∙ fold-roll-HackType (List SymbolId) symbols_by (HackType-F.Shape (in_order entries) false)))
      (gathered entries all)

  pub in_shape : (entries : List (ℕ × (Bool × HackType))) → EntriesIn symbols entries → TypeIn symbols (shape_of entries)
  in_shape entries all = in_limited symbols (type.Shape (in_order entries) false) (of_shape entries all)
