-- A lifted type names what it named before, and so does a lifted signature.
use Rattle.std.proofs.Common.{◌≡◌, ◌∙◌, ◌+◌, ◌++◌, ℕ, Bool, IsTrue, List, [], ◌∷◌, map, length, All, refl, sym, ap, subst, arith}
use Rattle.std.proofs.lemmas.List.Elements.{All-cons, All-head, All-tail}
use Rattle.std.specs.List.{flat_map}
use Rattle.hack_types.specs.declared.fields.Field.{Field}
use Rattle.hack_types.specs.declared.hack_type.HackType.{HackType, roll-HackType}
use Rattle.hack_types.specs.declared.hack_type.HackType.TheOpen.{HackType-F}
use Rattle.hack_types.specs.declared.hack_type.HackType.TheFolds.{fold-roll-HackType, ind-HackType, map-HackType}
use Rattle.hack_types.specs.declared.hack_type.HackType.TheVariants as type
use Rattle.hack_types.specs.declared.ids.SymbolId.{SymbolId}
use Rattle.hack_types.specs.declared.signature.Param.{Param}
use Rattle.hack_types.specs.declared.signature.Signature.{Signature}
use Rattle.hack_types.specs.declared.signature.TypeParam.{TypeParam}
use Rattle.hack_types.specs.formers.fields.Fields.{on_type}
use Rattle.hack_decls.specs.DeclState.{Symbols}
use Rattle.hack_decls.specs.NameLaws.{back, front}
use Rattle.hack_decls.specs.Names.{TypeIn, class_symbol, symbols_by, symbols_in, types_of_param}
use Rattle.hack_rules.specs.Lifting.{lifted, lifted_by}
use Rattle.hack_rules.specs.News.{lifted_param, lifted_signature}
use Rattle.hack_sub.specs.NamesOf.{alone}
use Rattle.hack_written.specs.Within.{ParamsIn}
use Rattle.hack_calls.specs.Named.{SignatureIn}
use Rattle.hack_new.specs.inside.Lifts.{lifted_one}

module _ (count : ℕ) where
  abbrev up : HackType → HackType
  up = lifted count

  abbrev Same : HackType → Type 0
  Same t = symbols_in (up t) ≡ symbols_in t

  abbrev Told : Type 0
  Told = (t : HackType) × Same t

  abbrev bare : List Told → List HackType
  bare told = map (λ (e : Told). e.0) told

  abbrev joined : List HackType → List SymbolId
  joined types = flat_map (λ (names : List SymbolId). names) (map symbols_in types)

  all_same : (told : List Told) → joined (map up (bare told)) ≡ joined (bare told)
  all_same [] = refl
  all_same (e ∷ told) =
      ap (λ (names : List SymbolId). names ++ joined (map up (bare told))) e.1 ∙ ap (λ (names : List SymbolId). symbols_in e.0 ++ names) (all_same told)

  abbrev bare_fields : List (Field Told) → List (Field HackType)
  bare_fields told = map (on_type (λ (e : Told). e.0)) told

  abbrev joined_fields : List (Field HackType) → List SymbolId
  joined_fields fields = flat_map (λ (field : Field (List SymbolId)). field.ty) (map (on_type symbols_in) fields)

  fields_same : (told : List (Field Told)) → joined_fields (map (on_type up) (bare_fields told)) ≡ joined_fields (bare_fields told)
  fields_same [] = refl
  fields_same (f ∷ told) =
      ap (λ (names : List SymbolId). names ++ joined_fields (map (on_type up) (bare_fields told))) f.ty.1
      ∙ ap (λ (names : List SymbolId). symbols_in f.ty.0 ++ names) (fields_same told)

  leaf : (layer : HackType-F HackType) → up (roll-HackType layer) ≡ roll-HackType layer → Same (roll-HackType layer)
  leaf layer is = ap symbols_in is

  -- by what the layer names
  by_names : (layer above : HackType-F HackType) (names more : List SymbolId) → up (roll-HackType layer) ≡ roll-HackType above
      → symbols_in (roll-HackType above) ≡ more → more ≡ names → symbols_in (roll-HackType layer) ≡ names → Same (roll-HackType layer)
  by_names layer above names more is there same here = ap symbols_in is ∙ there ∙ same ∙ sym here

  abbrev Kept : HackType-F HackType → Type 0
  Kept layer = Same (roll-HackType layer)

  of_option : (e : Told) → Kept (HackType-F.Option e.0)
  unfolding lifted symbols_in
  of_option e = by_names (HackType-F.Option e.0) (HackType-F.Option (up e.0)) (symbols_in e.0) (symbols_in (up e.0))
      (fold-roll-HackType HackType (lifted_by count) (HackType-F.Option e.0)) (fold-roll-HackType (List SymbolId) symbols_by (HackType-F.Option (up e.0))) e.1
      (fold-roll-HackType (List SymbolId) symbols_by (HackType-F.Option e.0))

  of_vector : (e : Told) → Kept (HackType-F.Vector e.0)
  unfolding lifted symbols_in
  of_vector e = by_names (HackType-F.Vector e.0) (HackType-F.Vector (up e.0)) (symbols_in e.0) (symbols_in (up e.0))
      (fold-roll-HackType HackType (lifted_by count) (HackType-F.Vector e.0)) (fold-roll-HackType (List SymbolId) symbols_by (HackType-F.Vector (up e.0))) e.1
      (fold-roll-HackType (List SymbolId) symbols_by (HackType-F.Vector e.0))

  of_keyset : (e : Told) → Kept (HackType-F.Keyset e.0)
  unfolding lifted symbols_in
  of_keyset e = by_names (HackType-F.Keyset e.0) (HackType-F.Keyset (up e.0)) (symbols_in e.0) (symbols_in (up e.0))
      (fold-roll-HackType HackType (lifted_by count) (HackType-F.Keyset e.0)) (fold-roll-HackType (List SymbolId) symbols_by (HackType-F.Keyset (up e.0))) e.1
      (fold-roll-HackType (List SymbolId) symbols_by (HackType-F.Keyset e.0))

  of_dict : (k v : Told) → Kept (HackType-F.Dict k.0 v.0)
  unfolding lifted symbols_in
  of_dict k v = by_names (HackType-F.Dict k.0 v.0) (HackType-F.Dict (up k.0) (up v.0)) (symbols_in k.0 ++ symbols_in v.0) (symbols_in (up k.0) ++ symbols_in (up v.0))
      (fold-roll-HackType HackType (lifted_by count) (HackType-F.Dict k.0 v.0)) (fold-roll-HackType (List SymbolId) symbols_by (HackType-F.Dict (up k.0) (up v.0)))
      (ap (λ (names : List SymbolId). names ++ symbols_in (up v.0)) k.1 ∙ ap (λ (names : List SymbolId). symbols_in k.0 ++ names) v.1)
      (fold-roll-HackType (List SymbolId) symbols_by (HackType-F.Dict k.0 v.0))

  of_shape : (told : List (Field Told)) (rest : Bool) → Kept (HackType-F.Shape (bare_fields told) rest)
  unfolding lifted symbols_in
  of_shape told rest =
      let fields = bare_fields told in
      by_names (HackType-F.Shape fields rest) (HackType-F.Shape (map (on_type up) fields) rest) (joined_fields fields) (joined_fields (map (on_type up) fields))
      (fold-roll-HackType HackType (lifted_by count) (HackType-F.Shape fields rest))
      (fold-roll-HackType (List SymbolId) symbols_by (HackType-F.Shape (map (on_type up) fields) rest)) (fields_same told)
      (fold-roll-HackType (List SymbolId) symbols_by (HackType-F.Shape fields rest))

  of_class : (name : ℕ) (told : List Told) → Kept (HackType-F.Class name (bare told))
  unfolding lifted symbols_in
  of_class name told =
      let types = bare told in
      by_names (HackType-F.Class name types) (HackType-F.Class name (map up types)) (class_symbol name ∷ joined types) (class_symbol name ∷ joined (map up types))
      (fold-roll-HackType HackType (lifted_by count) (HackType-F.Class name types)) (fold-roll-HackType (List SymbolId) symbols_by (HackType-F.Class name (map up types)))
      (ap (λ (names : List SymbolId). class_symbol name ∷ names) (all_same told)) (fold-roll-HackType (List SymbolId) symbols_by (HackType-F.Class name types))

  of_union : (told : List Told) → Kept (HackType-F.Union (bare told))
  unfolding lifted symbols_in
  of_union told =
      let types = bare told in
      by_names (HackType-F.Union types) (HackType-F.Union (map up types)) (joined types) (joined (map up types))
      (fold-roll-HackType HackType (lifted_by count) (HackType-F.Union types)) (fold-roll-HackType (List SymbolId) symbols_by (HackType-F.Union (map up types)))
      (all_same told) (fold-roll-HackType (List SymbolId) symbols_by (HackType-F.Union types))

  of_class_param : (position name : ℕ) → Kept (HackType-F.ClassParam position name)
  unfolding lifted symbols_in
  of_class_param position name = by_names (HackType-F.ClassParam position name) (HackType-F.FunParam position name) [] []
      (fold-roll-HackType HackType (lifted_by count) (HackType-F.ClassParam position name) ∙ sym (type.rolls-FunParam position name))
      (fold-roll-HackType (List SymbolId) symbols_by (HackType-F.FunParam position name)) refl
      (fold-roll-HackType (List SymbolId) symbols_by (HackType-F.ClassParam position name))

  of_fun_param : (position name : ℕ) → Kept (HackType-F.FunParam position name)
  unfolding lifted symbols_in
  of_fun_param position name = by_names (HackType-F.FunParam position name) (HackType-F.FunParam (count + position) name) [] []
      (fold-roll-HackType HackType (lifted_by count) (HackType-F.FunParam position name) ∙ sym (type.rolls-FunParam (count + position) name))
      (fold-roll-HackType (List SymbolId) symbols_by (HackType-F.FunParam (count + position) name)) refl
      (fold-roll-HackType (List SymbolId) symbols_by (HackType-F.FunParam position name))

  by_layer : (x : HackType-F HackType) (y : HackType-F Told) → map-HackType Told HackType (λ (e : Told). e.0) y ≡ x → Kept x
  unfolding lifted
  by_layer x HackType-F.Any is = subst Kept is (leaf HackType-F.Any (fold-roll-HackType HackType (lifted_by count) HackType-F.Any))
  by_layer x HackType-F.Mixed is = subst Kept is (leaf HackType-F.Mixed (fold-roll-HackType HackType (lifted_by count) HackType-F.Mixed))
  by_layer x HackType-F.Nonnull is = subst Kept is (leaf HackType-F.Nonnull (fold-roll-HackType HackType (lifted_by count) HackType-F.Nonnull))
  by_layer x HackType-F.Nothing is = subst Kept is (leaf HackType-F.Nothing (fold-roll-HackType HackType (lifted_by count) HackType-F.Nothing))
  by_layer x HackType-F.Null is = subst Kept is (leaf HackType-F.Null (fold-roll-HackType HackType (lifted_by count) HackType-F.Null))
  by_layer x HackType-F.Void is = subst Kept is (leaf HackType-F.Void (fold-roll-HackType HackType (lifted_by count) HackType-F.Void))
  by_layer x HackType-F.Noreturn is = subst Kept is (leaf HackType-F.Noreturn (fold-roll-HackType HackType (lifted_by count) HackType-F.Noreturn))
  by_layer x HackType-F.Bool is = subst Kept is (leaf HackType-F.Bool (fold-roll-HackType HackType (lifted_by count) HackType-F.Bool))
  by_layer x HackType-F.Int is = subst Kept is (leaf HackType-F.Int (fold-roll-HackType HackType (lifted_by count) HackType-F.Int))
  by_layer x HackType-F.Float is = subst Kept is (leaf HackType-F.Float (fold-roll-HackType HackType (lifted_by count) HackType-F.Float))
  by_layer x HackType-F.Num is = subst Kept is (leaf HackType-F.Num (fold-roll-HackType HackType (lifted_by count) HackType-F.Num))
  by_layer x HackType-F.Str is = subst Kept is (leaf HackType-F.Str (fold-roll-HackType HackType (lifted_by count) HackType-F.Str))
  by_layer x HackType-F.Arraykey is = subst Kept is (leaf HackType-F.Arraykey (fold-roll-HackType HackType (lifted_by count) HackType-F.Arraykey))
  by_layer x HackType-F.This is = subst Kept is (leaf HackType-F.This (fold-roll-HackType HackType (lifted_by count) HackType-F.This))
  by_layer x (HackType-F.Option e) is = subst Kept is (of_option e)
  by_layer x (HackType-F.Vector e) is = subst Kept is (of_vector e)
  by_layer x (HackType-F.Dict k v) is = subst Kept is (of_dict k v)
  by_layer x (HackType-F.Keyset e) is = subst Kept is (of_keyset e)
  by_layer x (HackType-F.Shape fields rest) is = subst Kept is (of_shape fields rest)
  by_layer x (HackType-F.Class name told) is = subst Kept is (of_class name told)
  by_layer x (HackType-F.ClassParam position name) is = subst Kept is (of_class_param position name)
  by_layer x (HackType-F.FunParam position name) is = subst Kept is (of_fun_param position name)
  by_layer x (HackType-F.Union told) is = subst Kept is (of_union told)

  same_names : (t : HackType) → Same t
  same_names = ind-HackType Same (λ x y is. by_layer x y is)

  module _ (symbols : Symbols) where
    in_up : (t : HackType) → TypeIn symbols t → TypeIn symbols (up t)
    unfolding TypeIn
    in_up t here = subst (λ (names : List SymbolId). All (λ s. IsTrue (symbols s)) names) (sym (same_names t)) here

    none : All (TypeIn symbols) []
    none = λ k d lt. absurd (omega (arith, lt))

    append : (xs ys : List HackType) → All (TypeIn symbols) xs → All (TypeIn symbols) ys → All (TypeIn symbols) (xs ++ ys)
    append [] ys here there = there
    append (x ∷ xs) ys here there = All-cons (TypeIn symbols) x (xs ++ ys) (All-head (TypeIn symbols) x xs here) (append xs ys (All-tail (TypeIn symbols) x xs here) there)

    in_all : (ts : List HackType) → All (TypeIn symbols) ts → All (TypeIn symbols) (map up ts)
    in_all [] here = none
    in_all (t ∷ ts) here = All-cons (TypeIn symbols) (up t) (map up ts) (in_up t (All-head (TypeIn symbols) t ts here)) (in_all ts (All-tail (TypeIn symbols) t ts here))

    abbrev In : List HackType → Type 0
    In ts = All (TypeIn symbols) ts

    in_param : (p : TypeParam) → In (types_of_param p) → In (types_of_param (lifted_param count p))
    in_param p here = append (map up p.upper) (map up p.lower) (in_all p.upper (front (TypeIn symbols) p.upper p.lower here)) (in_all p.lower (back (TypeIn symbols) p.upper p.lower here))

    in_own : (ps : List TypeParam) → In (flat_map types_of_param ps) → In (flat_map types_of_param (map (lifted_param count) ps))
    in_own [] here = none
    in_own (p ∷ ps) here =
        append (types_of_param (lifted_param count p)) (flat_map types_of_param (map (lifted_param count) ps))
        (in_param p (front (TypeIn symbols) (types_of_param p) (flat_map types_of_param ps) here)) (in_own ps (back (TypeIn symbols) (types_of_param p) (flat_map types_of_param ps) here))

    in_both : (class own : List TypeParam) → ParamsIn symbols class → In (flat_map types_of_param own)
        → In (flat_map types_of_param (map (lifted_param count) (class ++ own)))
    in_both [] own here there = in_own own there
    in_both (p ∷ ps) own here there =
        append (types_of_param (lifted_param count p)) (flat_map types_of_param (map (lifted_param count) (ps ++ own)))
        (in_param p (All-head (λ (q : TypeParam). In (types_of_param q)) p ps here)) (in_both ps own (All-tail (λ (q : TypeParam). In (types_of_param q)) p ps here) there)

    in_params : (ps : List Param) → In (map (λ param. param.ty) ps) → In (map (λ param. param.ty) (map (lifted_one count) ps))
    in_params [] here = none
    in_params (p ∷ ps) here =
        All-cons (TypeIn symbols) (up p.ty) (map (λ param. param.ty) (map (lifted_one count) ps)) (in_up p.ty (All-head (TypeIn symbols) p.ty (map (λ param. param.ty) ps) here))
        (in_params ps (All-tail (TypeIn symbols) p.ty (map (λ param. param.ty) ps) here))

module _ (symbols : Symbols) where
  of_void : TypeIn symbols type.Void
  unfolding symbols_in
  of_void = alone symbols HackType-F.Void type.Void (sym type.rolls-Void) (fold-roll-HackType (List SymbolId) symbols_by HackType-F.Void)

  pub in_lifted : (class : List TypeParam) (signature : Signature) → ParamsIn symbols class → SignatureIn symbols signature → SignatureIn symbols (lifted_signature class signature)
  in_lifted class signature here there =
      let n = length class in let own = flat_map types_of_param signature.type_params in let types = map (λ (param : Param). param.ty) signature.params in
      let all = front (TypeIn symbols) (own ++ types) (signature.result ∷ []) there in
      let made = lifted_signature class signature in
      let above = flat_map types_of_param made.type_params in let raised = map (λ (param : Param). param.ty) made.params in
      append n symbols (above ++ raised) (type.Void ∷ [])
      (append n symbols above raised (in_both n symbols class signature.type_params here (front (TypeIn symbols) own types all)) (in_params n symbols signature.params (back (TypeIn symbols) own types all)))
      (All-cons (TypeIn symbols) type.Void [] of_void (none n symbols))
