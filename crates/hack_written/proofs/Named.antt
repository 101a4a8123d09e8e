-- What the parts of a written type name, it names too; and what types made of others name.
use Rattle.std.proofs.Common.{◌∙◌, ℕ, Bool, List, [], ◌∷◌, All, IsTrue, map, sym, ap, subst, arith}
use Rattle.std.proofs.lemmas.List.Elements.{All-cons, All-head, All-tail}
use Rattle.std.specs.List.{flat_map}
use Rattle.std.specs.Map.{values_of}
use Rattle.hack_tree.specs.declared.written_type.ClassType.{ClassType}
use Rattle.hack_tree.specs.declared.written_type.Container.{Container}
use Rattle.hack_tree.specs.declared.written_type.Container.TheVariants as container
use Rattle.hack_tree.specs.declared.written_type.FieldType.{FieldType}
use Rattle.hack_tree.specs.declared.written_type.Primitive.{Primitive}
use Rattle.hack_tree.specs.declared.written_type.Primitive.TheVariants as written_primitive
use Rattle.hack_tree.specs.declared.written_type.WrittenType.{WrittenType}
use Rattle.hack_tree.specs.declared.written_type.WrittenType.TheVariants as written
use Rattle.hack_types.specs.declared.hack_type.HackType.{HackType}
use Rattle.hack_types.specs.declared.hack_type.HackType.TheOpen.{HackType-F}
use Rattle.hack_types.specs.declared.hack_type.HackType.TheFolds.{fold-roll-HackType}
use Rattle.hack_types.specs.declared.hack_type.HackType.TheVariants as type
use Rattle.hack_types.specs.declared.ids.SymbolId.{SymbolId}
use Rattle.hack_types.specs.declared.place.Place.{Place}
use Rattle.hack_shallow.specs.Resolved.{container_type, in_order, primitive_type}
use Rattle.hack_shallow.specs.Scope.{Scope as Names}
use Rattle.hack_decls.specs.DeclState.{Symbols}
use Rattle.hack_decls.specs.NameLaws.{back, front}
use Rattle.hack_decls.specs.Names.{TypeIn, symbols_by, symbols_in}
use Rattle.hack_sub.specs.NamesOf.{alone, field_symbols, joined}
use Rattle.hack_written.specs.WrittenIn.{ClassIn, FieldIn, NameIn, WrittenIn, field_symbols_of, name_symbols, symbols_of}
use Rattle.hack_written.proofs.Mentions as one

-- ---- written types

module _ (names : Names) (symbols : Symbols) where
  abbrev In : SymbolId → Type 0
  In s = IsTrue (symbols s)

  pub in_optional : (at : Place) (inner : WrittenType) → WrittenIn names symbols (written.Optional at inner) → WrittenIn names symbols inner
  unfolding WrittenIn
  in_optional at inner all = subst (λ (s : List SymbolId). All In s) (one.optional_symbols names at inner) all

  pub in_container : (at : Place) (c : Container) (element : WrittenType) → WrittenIn names symbols (written.Container at c element) → WrittenIn names symbols element
  unfolding WrittenIn
  in_container at c element all = subst (λ (s : List SymbolId). All In s) (one.container_symbols names at c element) all

  pub in_key : (at : Place) (key value : WrittenType) → WrittenIn names symbols (written.Dict at key value) → WrittenIn names symbols key
  unfolding WrittenIn
  in_key at key value all = front In (symbols_of names key) (symbols_of names value) (subst (λ (s : List SymbolId). All In s) (one.dict_symbols names at key value) all)

  pub in_value : (at : Place) (key value : WrittenType) → WrittenIn names symbols (written.Dict at key value) → WrittenIn names symbols value
  unfolding WrittenIn
  in_value at key value all = back In (symbols_of names key) (symbols_of names value) (subst (λ (s : List SymbolId). All In s) (one.dict_symbols names at key value) all)

  each_field : (fields : List FieldType) → All In (flat_map (λ (s : List SymbolId). s) (map (field_symbols_of names) fields)) → All (FieldIn names symbols) fields
  unfolding FieldIn
  each_field [] all = λ k d lt. absurd (omega (arith, lt))
  each_field (f ∷ fs) all =
      let rest = flat_map (λ (s : List SymbolId). s) (map (field_symbols_of names) fs) in
      All-cons (FieldIn names symbols) f fs (front In (field_symbols_of names f) rest all) (each_field fs (back In (field_symbols_of names f) rest all))

  pub in_shape : (at : Place) (fields : List FieldType) (rest : Bool) → WrittenIn names symbols (written.Shape at fields rest) → All (FieldIn names symbols) fields
  unfolding WrittenIn
  in_shape at fields rest all = each_field fields (subst (λ (s : List SymbolId). All In s) (one.shape_symbols names at fields rest) all)

  pub in_field : (f : FieldType) → FieldIn names symbols f → WrittenIn names symbols f.value
  unfolding WrittenIn FieldIn
  in_field f all = subst (λ (s : List SymbolId). All In s) (one.field_symbols names f) all

  pub in_class_type : (c : ClassType) → WrittenIn names symbols (written.Class c) → ClassIn names symbols c
  unfolding WrittenIn ClassIn
  in_class_type c all = subst (λ (s : List SymbolId). All In s) (one.class_type_symbols names c) all

  each : (types : List WrittenType) → All In (flat_map (λ (s : List SymbolId). s) (map (symbols_of names) types)) → All (WrittenIn names symbols) types
  unfolding WrittenIn
  each [] all = λ k d lt. absurd (omega (arith, lt))
  each (t ∷ ts) all =
      let rest = flat_map (λ (s : List SymbolId). s) (map (symbols_of names) ts) in
      All-cons (WrittenIn names symbols) t ts (front In (symbols_of names t) rest all) (each ts (back In (symbols_of names t) rest all))

  pub in_name : (c : ClassType) → ClassIn names symbols c → NameIn names symbols c.name
  unfolding ClassIn
  in_name c all = front In (name_symbols names c.name) (flat_map (λ (s : List SymbolId). s) (map (symbols_of names) c.arguments)) (subst (λ (s : List SymbolId). All In s) (one.class_symbols names c) all)

  pub in_arguments : (c : ClassType) → ClassIn names symbols c → All (WrittenIn names symbols) c.arguments
  unfolding ClassIn
  in_arguments c all = each c.arguments (back In (name_symbols names c.name) (flat_map (λ (s : List SymbolId). s) (map (symbols_of names) c.arguments)) (subst (λ (s : List SymbolId). All In s) (one.class_symbols names c) all))

-- ---- types

module _ (symbols : Symbols) where
  abbrev Among : SymbolId → Type 0
  Among s = IsTrue (symbols s)

  pub of_vector : (item : HackType) → TypeIn symbols item → TypeIn symbols (type.Vector item)
  unfolding TypeIn symbols_in
  of_vector item here = subst (λ (s : List SymbolId). All Among s) (sym (ap symbols_in (sym (type.rolls-Vector item)) ∙ fold-roll-HackType (List SymbolId) symbols_by (HackType-F.Vector item))) here

  pub of_keyset : (item : HackType) → TypeIn symbols item → TypeIn symbols (type.Keyset item)
  unfolding TypeIn symbols_in
  of_keyset item here = subst (λ (s : List SymbolId). All Among s) (sym (ap symbols_in (sym (type.rolls-Keyset item)) ∙ fold-roll-HackType (List SymbolId) symbols_by (HackType-F.Keyset item))) here

  pub of_container : (c : Container) (item : HackType) → TypeIn symbols item → TypeIn symbols (container_type c item)
  of_container container.Vec item here = of_vector item here
  of_container container.Keyset item here = of_keyset item here

  pub of_dict : (key value : HackType) → TypeIn symbols key → TypeIn symbols value → TypeIn symbols (type.Dict key value)
  unfolding TypeIn symbols_in
  of_dict key value k v = subst (λ (s : List SymbolId). All Among s)
      (sym (ap symbols_in (sym (type.rolls-Dict key value)) ∙ fold-roll-HackType (List SymbolId) symbols_by (HackType-F.Dict key value)))
      (joined symbols (symbols_in key) (symbols_in value) k v)

  abbrev pub EntriesIn : List (ℕ × (Bool × HackType)) → Type 0
  EntriesIn entries = All (λ (v : Bool × HackType). TypeIn symbols v.1) (values_of entries)

  gathered : (entries : List (ℕ × (Bool × HackType))) → EntriesIn entries → All Among (field_symbols symbols (in_order entries))
  unfolding TypeIn
  gathered [] all = λ k d lt. absurd (omega (arith, lt))
  gathered (e ∷ es) all =
      joined symbols (symbols_in e.1.1) (field_symbols symbols (in_order es)) (All-head (λ (v : Bool × HackType). TypeIn symbols v.1) e.1 (values_of es) all)
      (gathered es (All-tail (λ (v : Bool × HackType). TypeIn symbols v.1) e.1 (values_of es) all))

  pub of_shape : (entries : List (ℕ × (Bool × HackType))) (rest : Bool) → EntriesIn entries → TypeIn symbols (type.Shape (in_order entries) rest)
  unfolding TypeIn symbols_in
  of_shape entries rest all = subst (λ (s : List SymbolId). All Among s)
      (sym (ap symbols_in (sym (type.rolls-Shape (in_order entries) rest)) ∙ fold-roll-HackType (List SymbolId) symbols_by (HackType-F.Shape (in_order entries) rest)))
      (gathered entries all)

  pub of_this : TypeIn symbols type.This
  unfolding symbols_in
  of_this = alone symbols HackType-F.This type.This (sym type.rolls-This) (fold-roll-HackType (List SymbolId) symbols_by HackType-F.This)

  pub of_fun_param : (index name : ℕ) → TypeIn symbols (type.FunParam index name)
  unfolding symbols_in
  of_fun_param index name = alone symbols (HackType-F.FunParam index name) (type.FunParam index name) (sym (type.rolls-FunParam index name)) (fold-roll-HackType (List SymbolId) symbols_by (HackType-F.FunParam index name))

  pub of_class_param : (index name : ℕ) → TypeIn symbols (type.ClassParam index name)
  unfolding symbols_in
  of_class_param index name = alone symbols (HackType-F.ClassParam index name) (type.ClassParam index name) (sym (type.rolls-ClassParam index name)) (fold-roll-HackType (List SymbolId) symbols_by (HackType-F.ClassParam index name))

  pub of_primitive : (p : Primitive) → TypeIn symbols (primitive_type p)
  unfolding symbols_in
  of_primitive written_primitive.ArrayKey = alone symbols HackType-F.Arraykey type.Arraykey (sym type.rolls-Arraykey) (fold-roll-HackType (List SymbolId) symbols_by HackType-F.Arraykey)
  of_primitive written_primitive.Bool = alone symbols HackType-F.Bool type.Bool (sym type.rolls-Bool) (fold-roll-HackType (List SymbolId) symbols_by HackType-F.Bool)
  of_primitive written_primitive.Float = alone symbols HackType-F.Float type.Float (sym type.rolls-Float) (fold-roll-HackType (List SymbolId) symbols_by HackType-F.Float)
  of_primitive written_primitive.Int = alone symbols HackType-F.Int type.Int (sym type.rolls-Int) (fold-roll-HackType (List SymbolId) symbols_by HackType-F.Int)
  of_primitive written_primitive.Mixed = alone symbols HackType-F.Mixed type.Mixed (sym type.rolls-Mixed) (fold-roll-HackType (List SymbolId) symbols_by HackType-F.Mixed)
  of_primitive written_primitive.NonNull = alone symbols HackType-F.Nonnull type.Nonnull (sym type.rolls-Nonnull) (fold-roll-HackType (List SymbolId) symbols_by HackType-F.Nonnull)
  of_primitive written_primitive.NoReturn = alone symbols HackType-F.Noreturn type.Noreturn (sym type.rolls-Noreturn) (fold-roll-HackType (List SymbolId) symbols_by HackType-F.Noreturn)
  of_primitive written_primitive.Nothing = alone symbols HackType-F.Nothing type.Nothing (sym type.rolls-Nothing) (fold-roll-HackType (List SymbolId) symbols_by HackType-F.Nothing)
  of_primitive written_primitive.Null = alone symbols HackType-F.Null type.Null (sym type.rolls-Null) (fold-roll-HackType (List SymbolId) symbols_by HackType-F.Null)
  of_primitive written_primitive.Num = alone symbols HackType-F.Num type.Num (sym type.rolls-Num) (fold-roll-HackType (List SymbolId) symbols_by HackType-F.Num)
  of_primitive written_primitive.String = alone symbols HackType-F.Str type.Str (sym type.rolls-Str) (fold-roll-HackType (List SymbolId) symbols_by HackType-F.Str)
  of_primitive written_primitive.Void = alone symbols HackType-F.Void type.Void (sym type.rolls-Void) (fold-roll-HackType (List SymbolId) symbols_by HackType-F.Void)
