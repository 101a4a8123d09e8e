-- What the types inside a type name, the type names too.
use Rattle.std.proofs.Common.{◌≡◌, ◌<◌, ◌∙◌, ℕ, ◌==◌, Bool, true, false, cond, Option, Some, None, List, [], ◌∷◌, ◌++◌, length, map, get_or, All, IsTrue, IfSome, refl, sym, ap, subst, rules, arith}
use Rattle.std.proofs.lemmas.List.Elements.{All-cons, All-head, All-tail}
use Rattle.std.specs.List.{find, flat_map}
use Rattle.hack_types.specs.declared.fields.Field.{Field}
use Rattle.hack_types.specs.declared.hack_type.HackType.{HackType, out-HackType, roll-HackType, the_lemmas}
use Rattle.hack_types.specs.declared.hack_type.HackType.TheOpen.{HackType-F}
use Rattle.hack_types.specs.declared.hack_type.HackType.TheFolds.{fold-roll-HackType}
use Rattle.hack_types.specs.declared.hack_type.HackType.TheVariants as type
use Rattle.hack_types.specs.declared.ids.SymbolId.{SymbolId}
use Rattle.hack_types.specs.formers.fields.Fields.{on_type}
use Rattle.hack_decls.specs.DeclState.{Symbols}
use Rattle.hack_decls.specs.NameLaws as laws
use Rattle.hack_decls.specs.NameLaws.{back, front}
use Rattle.hack_decls.specs.Names.{TypeIn, class_symbol, symbols_by, symbols_in}
use Rattle.hack_sub.specs.Parts.{arguments_by, arguments_of, as_keyed, dict_by, dict_parts, fields_by, keyed, keyed_by, keyed_container, keyset_by, keyset_item, members_by, name_by, name_of, option_by, option_inside, shape_fields, union_members, vector_by, vector_item}

pub nothing_there : {A : Type 0} (a : A) → Some a ≡ None → ⊥
nothing_there a e = cc

pub rolled : (ty : HackType) → ty ≡ roll-HackType (out-HackType ty)
rolled ty = search (rules, the_lemmas)

module _ (symbols : Symbols) where
  abbrev In : SymbolId → Type 0
  In s = IsTrue (symbols s)

  pub joined : (xs ys : List SymbolId) → All In xs → All In ys → All In (xs ++ ys)
  joined [] ys front back = back
  joined (x ∷ xs) ys front back = All-cons In x (xs ++ ys) (All-head In x xs front) (joined xs ys (All-tail In x xs front) back)

  abbrev pub all_symbols : List HackType → List SymbolId
  all_symbols types = flat_map (λ (names : List SymbolId). names) (map symbols_in types)

  pub each : (types : List HackType) → All In (all_symbols types) → All (TypeIn symbols) types
  unfolding TypeIn
  each [] all = λ k d lt. absurd (omega (arith, lt))
  each (t ∷ ts) all = All-cons (TypeIn symbols) t ts (front In (symbols_in t) (all_symbols ts) all) (each ts (back In (symbols_in t) (all_symbols ts) all))

  pub gathered : (types : List HackType) → All (TypeIn symbols) types → All In (all_symbols types)
  unfolding TypeIn
  gathered [] all = λ k d lt. absurd (omega (arith, lt))
  gathered (t ∷ ts) all = joined (symbols_in t) (all_symbols ts) (All-head (TypeIn symbols) t ts all) (gathered ts (All-tail (TypeIn symbols) t ts all))

  abbrev pub field_symbols : List (Field HackType) → List SymbolId
  field_symbols fields = flat_map (λ (field : Field (List SymbolId)). field.ty) (map (on_type symbols_in) fields)

  pub each_field : (fields : List (Field HackType)) → All In (field_symbols fields) → All (λ field. TypeIn symbols field.ty) fields
  unfolding TypeIn
  each_field [] all = λ k d lt. absurd (omega (arith, lt))
  each_field (f ∷ fs) all = All-cons (λ field. TypeIn symbols field.ty) f fs (front In (symbols_in f.ty) (field_symbols fs) all)
      (each_field fs (back In (symbols_in f.ty) (field_symbols fs) all))

  -- a type that was given
  pub given_in : {U : HackType} {o : Option HackType} → o ≡ Some U → IfSome o (TypeIn symbols) → TypeIn symbols U
  given_in is given = subst (λ (x : Option HackType). IfSome x (TypeIn symbols)) is given

  pub many_given : {Us : List HackType} {o : Option (List HackType)} → o ≡ Some Us → IfSome o (All (TypeIn symbols)) → All (TypeIn symbols) Us
  many_given is given = subst (λ (x : Option (List HackType)). IfSome x (All (TypeIn symbols))) is given

  -- an element of a list
  pub in_list : (types : List HackType) (i : ℕ) (x : HackType) → i < length types → x ≡ get_or types i x → All (TypeIn symbols) types → TypeIn symbols x
  in_list types i x lt at all = subst (TypeIn symbols) (sym at) (all i x lt)

  -- by the former of the type
  pub option_layer : (T U : HackType) (layer : HackType-F HackType) → T ≡ roll-HackType layer → Some U ≡ option_by layer → TypeIn symbols T → TypeIn symbols U
  option_layer T U (HackType-F.Option inside) is e all = let same : inside ≡ U = cc in
      subst (TypeIn symbols) same (laws.in_option symbols inside (subst (TypeIn symbols) (is ∙ type.rolls-Option inside) all))
  option_layer T U _ is e all = absurd (nothing_there U e)

  pub in_option : (T U : HackType) → Some U ≡ option_inside T → TypeIn symbols T → TypeIn symbols U
  in_option T U e all = option_layer T U (out-HackType T) (rolled T) e all

  pub vector_layer : (T U : HackType) (layer : HackType-F HackType) → T ≡ roll-HackType layer → Some U ≡ vector_by layer → TypeIn symbols T → TypeIn symbols U
  vector_layer T U (HackType-F.Vector inside) is e all = let same : inside ≡ U = cc in
      subst (TypeIn symbols) same (laws.in_vector symbols inside (subst (TypeIn symbols) (is ∙ type.rolls-Vector inside) all))
  vector_layer T U _ is e all = absurd (nothing_there U e)

  pub in_vector : (T U : HackType) → Some U ≡ vector_item T → TypeIn symbols T → TypeIn symbols U
  in_vector T U e all = vector_layer T U (out-HackType T) (rolled T) e all

  pub keyset_layer : (T U : HackType) (layer : HackType-F HackType) → T ≡ roll-HackType layer → Some U ≡ keyset_by layer → TypeIn symbols T → TypeIn symbols U
  keyset_layer T U (HackType-F.Keyset inside) is e all = let same : inside ≡ U = cc in
      subst (TypeIn symbols) same (laws.in_keyset symbols inside (subst (TypeIn symbols) (is ∙ type.rolls-Keyset inside) all))
  keyset_layer T U _ is e all = absurd (nothing_there U e)

  pub in_keyset : (T U : HackType) → Some U ≡ keyset_item T → TypeIn symbols T → TypeIn symbols U
  in_keyset T U e all = keyset_layer T U (out-HackType T) (rolled T) e all

  dict_layer : (T : HackType) (parts : HackType × HackType) (layer : HackType-F HackType) → T ≡ roll-HackType layer → Some parts ≡ dict_by layer
      → TypeIn symbols T → TypeIn symbols parts.0 × TypeIn symbols parts.1
  dict_layer T parts (HackType-F.Dict key value) is e all = let same : (key, value) ≡ parts = cc in
      subst (λ (p : HackType × HackType). TypeIn symbols p.0 × TypeIn symbols p.1) same
      (laws.in_dict symbols key value (subst (TypeIn symbols) (is ∙ type.rolls-Dict key value) all))
  dict_layer T parts _ is e all = absurd (nothing_there parts e)

  pub in_dict : (T : HackType) (parts : HackType × HackType) → Some parts ≡ dict_parts T → TypeIn symbols T → TypeIn symbols parts.0 × TypeIn symbols parts.1
  in_dict T parts e all = dict_layer T parts (out-HackType T) (rolled T) e all

  pub union_layer : (T : HackType) (members : List HackType) (layer : HackType-F HackType) → T ≡ roll-HackType layer → Some members ≡ members_by layer
      → TypeIn symbols T → All (TypeIn symbols) members
  union_layer T members (HackType-F.Union own) is e all = let same : own ≡ members = cc in
      subst (λ ts. All (TypeIn symbols) ts) same (laws.in_union symbols own (subst (TypeIn symbols) (is ∙ type.rolls-Union own) all))
  union_layer T members _ is e all = absurd (nothing_there members e)

  pub in_union : (T : HackType) (members : List HackType) → Some members ≡ union_members T → TypeIn symbols T → All (TypeIn symbols) members
  in_union T members e all = union_layer T members (out-HackType T) (rolled T) e all

  shape_layer : (T : HackType) (fields : List (Field HackType)) (layer : HackType-F HackType) → T ≡ roll-HackType layer → Some fields ≡ fields_by layer
      → TypeIn symbols T → All (λ field. TypeIn symbols field.ty) fields
  unfolding TypeIn symbols_in
  shape_layer T fields (HackType-F.Shape own rest) is e all = let same : own ≡ fields = cc in
      subst (λ fs. All (λ (field : Field HackType). TypeIn symbols field.ty) fs) same
      (each_field own (subst (All In) (ap symbols_in is ∙ fold-roll-HackType (List SymbolId) symbols_by (HackType-F.Shape own rest)) all))
  shape_layer T fields _ is e all = absurd (nothing_there fields e)

  pub in_shape : (T : HackType) (fields : List (Field HackType)) → Some fields ≡ shape_fields T → TypeIn symbols T → All (λ field. TypeIn symbols field.ty) fields
  in_shape T fields e all = shape_layer T fields (out-HackType T) (rolled T) e all

  field_by : (b : Bool) (f own : Field HackType) (o : Option (Field HackType)) → Some own ≡ cond b (Some f) o → TypeIn symbols f.ty
      → (Some own ≡ o → TypeIn symbols own.ty) → TypeIn symbols own.ty
  field_by true f own o e here rest = let same : f ≡ own = cc in subst (λ (x : Field HackType). TypeIn symbols x.ty) same here
  field_by false f own o e here rest = rest e

  -- a field that is found by its key
  pub in_field : (key : ℕ) (fields : List (Field HackType)) (own : Field HackType) → Some own ≡ find (λ field. field.key == key) fields
      → All (λ field. TypeIn symbols field.ty) fields → TypeIn symbols own.ty
  in_field key [] own e all = absurd (nothing_there own e)
  in_field key (f ∷ fs) own e all = field_by (f.key == key) f own (find (λ field. field.key == key) fs) e (All-head (λ (field : Field HackType). TypeIn symbols field.ty) f fs all)
      (λ r. in_field key fs own r (All-tail (λ (field : Field HackType). TypeIn symbols field.ty) f fs all))

  class_layer : (T : HackType) (class : ℕ) (layer : HackType-F HackType) → T ≡ roll-HackType layer → Some class ≡ name_by layer
      → TypeIn symbols T → In (class_symbol class) × All (TypeIn symbols) (arguments_by layer)
  class_layer T class (HackType-F.Class name arguments) is e all = let same : name ≡ class = cc in
      let parts = laws.in_class symbols name arguments (subst (TypeIn symbols) (is ∙ type.rolls-Class name arguments) all) in
      (subst (λ n. In (class_symbol n)) same parts.0, parts.1)
  class_layer T class _ is e all = absurd (nothing_there class e)

  pub in_class : (T : HackType) (class : ℕ) → Some class ≡ name_of T → TypeIn symbols T → In (class_symbol class) × All (TypeIn symbols) (arguments_of T)
  in_class T class e all = class_layer T class (out-HackType T) (rolled T) e all

  -- and what is made of such types
  pub alone : (layer : HackType-F HackType) (ty : HackType) → ty ≡ roll-HackType layer → symbols_in (roll-HackType layer) ≡ [] → TypeIn symbols ty
  unfolding TypeIn
  alone layer ty is none = subst (All In) (sym (ap symbols_in is ∙ none)) (λ k d lt. absurd (omega (arith, lt)))

  pub of_null : TypeIn symbols type.Null
  unfolding symbols_in
  of_null = alone HackType-F.Null type.Null (sym type.rolls-Null) (fold-roll-HackType (List SymbolId) symbols_by HackType-F.Null)

  pub of_int : TypeIn symbols type.Int
  unfolding symbols_in
  of_int = alone HackType-F.Int type.Int (sym type.rolls-Int) (fold-roll-HackType (List SymbolId) symbols_by HackType-F.Int)

  pub of_arraykey : TypeIn symbols type.Arraykey
  unfolding symbols_in
  of_arraykey = alone HackType-F.Arraykey type.Arraykey (sym type.rolls-Arraykey) (fold-roll-HackType (List SymbolId) symbols_by HackType-F.Arraykey)

  pub of_class : (name : ℕ) (arguments : List HackType) → In (class_symbol name) → All (TypeIn symbols) arguments → TypeIn symbols (type.Class name arguments)
  unfolding TypeIn symbols_in
  of_class name arguments here all =
      subst (All In) (sym (ap symbols_in (sym (type.rolls-Class name arguments)) ∙ fold-roll-HackType (List SymbolId) symbols_by (HackType-F.Class name arguments)))
      (All-cons In (class_symbol name) (all_symbols arguments) here (gathered arguments all))

  two : (key value : HackType) → TypeIn symbols key → TypeIn symbols value → All (TypeIn symbols) (key ∷ value ∷ [])
  two key value k v = All-cons (TypeIn symbols) key (value ∷ []) k (All-cons (TypeIn symbols) value [] v (λ n d lt. absurd (omega (arith, lt))))

  of_keyed : (key value : HackType) → In (class_symbol keyed_container) → TypeIn symbols key → TypeIn symbols value → TypeIn symbols (keyed key value)
  of_keyed key value here k v = of_class keyed_container (key ∷ value ∷ []) here (two key value k v)

  keyed_layer : (T U : HackType) (layer : HackType-F HackType) → T ≡ roll-HackType layer → Some U ≡ keyed_by layer → In (class_symbol keyed_container)
      → TypeIn symbols T → TypeIn symbols U
  keyed_layer T U (HackType-F.Vector item) is e here all = let same : keyed type.Int item ≡ U = cc in
      subst (TypeIn symbols) same (of_keyed type.Int item here of_int (vector_layer T item (HackType-F.Vector item) is refl all))
  keyed_layer T U (HackType-F.Dict key value) is e here all = let same : keyed key value ≡ U = cc in
      let parts = dict_layer T (key, value) (HackType-F.Dict key value) is refl all in
      subst (TypeIn symbols) same (of_keyed key value here parts.0 parts.1)
  keyed_layer T U (HackType-F.Keyset item) is e here all = let same : keyed item item ≡ U = cc in
      let part = keyset_layer T item (HackType-F.Keyset item) is refl all in
      subst (TypeIn symbols) same (of_keyed item item here part part)
  keyed_layer T U _ is e here all = absurd (nothing_there U e)

  pub in_keyed : (T U : HackType) → Some U ≡ as_keyed T → In (class_symbol keyed_container) → TypeIn symbols T → TypeIn symbols U
  in_keyed T U e here all = keyed_layer T U (out-HackType T) (rolled T) e here all
