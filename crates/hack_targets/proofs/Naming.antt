-- What the types that bases become name.
use Rattle.std.proofs.Common.{◌∙◌, IsTrue, ℕ, Bool, false, nat_cmp, List, [], ◌∷◌, All, ap, arith, subst, sym}
use Rattle.std.proofs.lemmas.List.Elements.{All-cons, All-head, All-tail}
use Rattle.std.proofs.lemmas.Map.Views.{All-values-insert_entry}
use Rattle.std.specs.BTreeMap.{insert_entry}
use Rattle.std.specs.Map.{values_of}
use Rattle.hack_types.specs.UnionOf.{union_of}
use Rattle.hack_types.specs.declared.fields.Field.{Field}
use Rattle.hack_types.specs.declared.hack_type.HackType.{HackType}
use Rattle.hack_types.specs.declared.hack_type.HackType.TheFolds.{fold-roll-HackType}
use Rattle.hack_types.specs.declared.hack_type.HackType.TheOpen.{HackType-F}
use Rattle.hack_types.specs.declared.hack_type.HackType.TheVariants as type
use Rattle.hack_types.specs.declared.ids.SymbolId.{SymbolId}
use Rattle.hack_decls.specs.DeclState.{Symbols}
use Rattle.hack_decls.specs.Names.{TypeIn, symbols_by, symbols_in}
use Rattle.hack_shallow.specs.Resolved.{in_order, with_fields}
use Rattle.hack_sub.specs.NamesOf.{alone, field_symbols, joined}
use Rattle.hack_sub.specs.NamesPut.{in_union_of}
use Rattle.hack_walk.specs.NamesKept.{in_limited}
use Rattle.hack_targets.specs.inside.Pieces.{dict_made, keyset_made, shape_made, vector_made}

-- all that the types under keys name is among these symbols
abbrev EntriesIn : Symbols → List (ℕ × (Bool × HackType)) → Type 0
EntriesIn symbols entries = All (λ (v : Bool × HackType). TypeIn symbols v.1) (values_of entries)

module _ (symbols : Symbols) where
  abbrev In : SymbolId → Type 0
  In s = IsTrue (symbols s)

  abbrev FieldIn : Field HackType → Type 0
  FieldIn field = TypeIn symbols field.ty

  pub of_str : TypeIn symbols type.Str
  unfolding symbols_in
  of_str = alone symbols HackType-F.Str type.Str (sym type.rolls-Str) (fold-roll-HackType (List SymbolId) symbols_by HackType-F.Str)

  of_vector : (item : HackType) → TypeIn symbols item → TypeIn symbols (type.Vector item)
  unfolding TypeIn symbols_in
  of_vector item here = subst (λ (s : List SymbolId). All In s) (sym (ap symbols_in (sym (type.rolls-Vector item)) ∙ fold-roll-HackType (List SymbolId) symbols_by (HackType-F.Vector item))) here

  of_keyset : (item : HackType) → TypeIn symbols item → TypeIn symbols (type.Keyset item)
  unfolding TypeIn symbols_in
  of_keyset item here = subst (λ (s : List SymbolId). All In s) (sym (ap symbols_in (sym (type.rolls-Keyset item)) ∙ fold-roll-HackType (List SymbolId) symbols_by (HackType-F.Keyset item))) here

  of_dict : (key value : HackType) → TypeIn symbols key → TypeIn symbols value → TypeIn symbols (type.Dict key value)
  unfolding TypeIn symbols_in
  of_dict key value k v = subst (λ (s : List SymbolId). All In s)
      (sym (ap symbols_in (sym (type.rolls-Dict key value)) ∙ fold-roll-HackType (List SymbolId) symbols_by (HackType-F.Dict key value)))
      (joined symbols (symbols_in key) (symbols_in value) k v)

  -- a union of two
  of_two : (one other : HackType) → TypeIn symbols one → TypeIn symbols other → TypeIn symbols (union_of (one ∷ other ∷ []))
  of_two one other here there =
      in_union_of symbols (one ∷ other ∷ [])
      (All-cons (TypeIn symbols) one (other ∷ []) here (All-cons (TypeIn symbols) other [] there (λ k d lt. absurd (omega (arith, lt)))))

  pub in_vector_made : (item new : HackType) → TypeIn symbols item → TypeIn symbols new → TypeIn symbols (vector_made item new)
  in_vector_made item new i n =
      let union = union_of (item ∷ new ∷ []) in
      in_limited symbols (type.Vector union) (of_vector union (of_two item new i n))

  pub in_keyset_made : (item new : HackType) → TypeIn symbols item → TypeIn symbols new → TypeIn symbols (keyset_made item new)
  in_keyset_made item new i n =
      let union = union_of (item ∷ new ∷ []) in
      in_limited symbols (type.Keyset union) (of_keyset union (of_two item new i n))

  pub in_dict_made : (key new_key value new : HackType) → TypeIn symbols key → TypeIn symbols new_key → TypeIn symbols value → TypeIn symbols new
      → TypeIn symbols (dict_made key new_key value new)
  in_dict_made key new_key value new k l v n =
      let keys = union_of (key ∷ new_key ∷ []) in let values = union_of (value ∷ new ∷ []) in
      in_limited symbols (type.Dict keys values) (of_dict keys values (of_two key new_key k l) (of_two value new v n))

  -- ---- shapes

  gathered : (entries : List (ℕ × (Bool × HackType))) → EntriesIn symbols entries → All In (field_symbols symbols (in_order entries))
  unfolding TypeIn
  gathered [] all = λ k d lt. absurd (omega (arith, lt))
  gathered (e ∷ es) all =
      joined symbols (symbols_in e.1.1) (field_symbols symbols (in_order es)) (All-head (λ (v : Bool × HackType). TypeIn symbols v.1) e.1 (values_of es) all)
      (gathered es (All-tail (λ (v : Bool × HackType). TypeIn symbols v.1) e.1 (values_of es) all))

  of_shape : (entries : List (ℕ × (Bool × HackType))) (rest : Bool) → EntriesIn symbols entries → TypeIn symbols (type.Shape (in_order entries) rest)
  unfolding TypeIn symbols_in
  of_shape entries rest all = subst (λ (s : List SymbolId). All In s)
      (sym (ap symbols_in (sym (type.rolls-Shape (in_order entries) rest)) ∙ fold-roll-HackType (List SymbolId) symbols_by (HackType-F.Shape (in_order entries) rest)))
      (gathered entries all)

  put_entry : (entries : List (ℕ × (Bool × HackType))) (key : ℕ) (v : Bool × HackType) → EntriesIn symbols entries → TypeIn symbols v.1 → EntriesIn symbols (insert_entry nat_cmp entries key v)
  put_entry entries key v all here = All-values-insert_entry nat_cmp key v (λ (x : Bool × HackType). TypeIn symbols x.1) entries all here

  with_all : (entries : List (ℕ × (Bool × HackType))) (fields : List (Field HackType)) → EntriesIn symbols entries → All FieldIn fields → EntriesIn symbols (with_fields entries fields)
  with_all entries [] all given = all
  with_all entries (f ∷ fs) all given =
      with_all (insert_entry nat_cmp entries f.key (f.optional, f.ty)) fs (put_entry entries f.key (f.optional, f.ty) all (All-head FieldIn f fs given)) (All-tail FieldIn f fs given)

  pub in_shape_made : (fields : List (Field HackType)) (rest : Bool) (key : ℕ) (new : HackType) → All FieldIn fields → TypeIn symbols new → TypeIn symbols (shape_made fields rest key new)
  in_shape_made fields rest key new all here =
      let entries = insert_entry nat_cmp (with_fields [] fields) key (false, new) in
      in_limited symbols (type.Shape (in_order entries) rest)
      (of_shape entries rest (put_entry (with_fields [] fields) key (false, new) (with_all [] fields (λ k d lt. absurd (omega (arith, lt))) all) here))
