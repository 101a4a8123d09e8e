-- What a type names with others put in is named by it or by one of these.
use Rattle.std.proofs.Common.{◌≡◌, ◌∙◌, ◌++◌, ◌||◌, ℕ, zero, suc, Bool, true, false, List, [], ◌∷◌, length, map, All, IsTrue, cond, nat_lt, refl, sym, ap, subst, arith, get_or}
use Rattle.std.proofs.lemmas.List.Elements.{All-cons, All-head, All-tail}
use Rattle.std.specs.List.{flat_map, fold, list_any}
use Rattle.hack_types.specs.OptionOf.{option_by, option_of}
use Rattle.hack_types.specs.SameType.{same_type}
use Rattle.hack_types.specs.Substituted.{substitute, substitute_by}
use Rattle.hack_types.specs.UnionOf.{has_null, joined as one_of, joined_within, members_by, most_members, once, parts_by, parts_of, union_of, with_part}
use Rattle.hack_types.specs.declared.fields.Field.{Field}
use Rattle.hack_types.specs.declared.hack_type.HackType.{HackType, out-HackType, roll-HackType}
use Rattle.hack_types.specs.declared.hack_type.HackType.TheOpen.{HackType-F}
use Rattle.hack_types.specs.declared.hack_type.HackType.TheFolds.{fold-roll-HackType, ind-HackType, map-HackType}
use Rattle.hack_types.specs.declared.hack_type.HackType.TheVariants as type
use Rattle.hack_types.specs.declared.ids.SymbolId.{SymbolId}
use Rattle.hack_types.specs.formers.fields.Fields.{on_type}
use Rattle.hack_decls.specs.DeclState.{Symbols}
use Rattle.hack_decls.specs.NameLaws.{back, front}
use Rattle.hack_decls.specs.Names.{TypeIn, class_symbol, symbols_by, symbols_in}
use Rattle.hack_sub.specs.NamesOf.{alone, each, each_field, field_symbols, gathered, joined, of_null, option_layer, rolled, union_layer, all_symbols}

module _ (symbols : Symbols) where
  abbrev In : SymbolId → Type 0
  In s = IsTrue (symbols s)

  none : All (TypeIn symbols) []
  none = λ k d lt. absurd (omega (arith, lt))

  one : (t : HackType) → TypeIn symbols t → All (TypeIn symbols) (t ∷ [])
  one t here = All-cons (TypeIn symbols) t [] here none

  append : (xs ys : List HackType) → All (TypeIn symbols) xs → All (TypeIn symbols) ys → All (TypeIn symbols) (xs ++ ys)
  append [] ys front back = back
  append (x ∷ xs) ys front back =
      All-cons (TypeIn symbols) x (xs ++ ys) (All-head (TypeIn symbols) x xs front) (append xs ys (All-tail (TypeIn symbols) x xs front) back)

  -- an option
  of_option : (t : HackType) → TypeIn symbols t → TypeIn symbols (type.Option t)
  unfolding TypeIn symbols_in
  of_option t here = subst (All In) (sym (ap symbols_in (sym (type.rolls-Option t)) ∙ fold-roll-HackType (List SymbolId) symbols_by (HackType-F.Option t))) here

  of_mixed : TypeIn symbols type.Mixed
  unfolding symbols_in
  of_mixed = alone symbols HackType-F.Mixed type.Mixed (sym type.rolls-Mixed) (fold-roll-HackType (List SymbolId) symbols_by HackType-F.Mixed)

  pub of_any : TypeIn symbols type.Any
  unfolding symbols_in
  of_any = alone symbols HackType-F.Any type.Any (sym type.rolls-Any) (fold-roll-HackType (List SymbolId) symbols_by HackType-F.Any)

  pub of_nonnull : TypeIn symbols type.Nonnull
  unfolding symbols_in
  of_nonnull = alone symbols HackType-F.Nonnull type.Nonnull (sym type.rolls-Nonnull) (fold-roll-HackType (List SymbolId) symbols_by HackType-F.Nonnull)

  pub of_nothing : TypeIn symbols type.Nothing
  unfolding symbols_in
  of_nothing = alone symbols HackType-F.Nothing type.Nothing (sym type.rolls-Nothing) (fold-roll-HackType (List SymbolId) symbols_by HackType-F.Nothing)

  option_in : (t : HackType) (layer : HackType-F HackType) → TypeIn symbols t → TypeIn symbols (option_by t layer)
  option_in t HackType-F.Any here = here
  option_in t HackType-F.Mixed here = here
  option_in t HackType-F.Null here = here
  option_in t (HackType-F.Option inside) here = here
  option_in t HackType-F.Nothing here = of_null symbols
  option_in t HackType-F.Nonnull here = of_mixed
  option_in t _ here = of_option t here

  pub in_option_of : (t : HackType) → TypeIn symbols t → TypeIn symbols (option_of t)
  in_option_of t here = option_in t (out-HackType t) here

  -- a union
  of_union : (ts : List HackType) → All (TypeIn symbols) ts → TypeIn symbols (type.Union ts)
  unfolding TypeIn symbols_in
  of_union ts all = subst (All In) (sym (ap symbols_in (sym (type.rolls-Union ts)) ∙ fold-roll-HackType (List SymbolId) symbols_by (HackType-F.Union ts))) (gathered symbols ts all)

  in_members : (t : HackType) (layer : HackType-F HackType) → t ≡ roll-HackType layer → TypeIn symbols t → All (TypeIn symbols) (members_by t layer)
  in_members t (HackType-F.Union members) is here = union_layer symbols t members (HackType-F.Union members) is refl here
  in_members t HackType-F.Nothing is here = none
  in_members t HackType-F.Null is here = none
  in_members t _ is here = one t here

  in_parts : (t : HackType) (layer : HackType-F HackType) → t ≡ roll-HackType layer → TypeIn symbols t → All (TypeIn symbols) (parts_by t layer)
  in_parts t (HackType-F.Option inside) is here =
      in_members inside (out-HackType inside) (rolled inside) (option_layer symbols t inside (HackType-F.Option inside) is refl here)
  in_parts t (HackType-F.Union members) is here = union_layer symbols t members (HackType-F.Union members) is refl here
  in_parts t HackType-F.Nothing is here = none
  in_parts t HackType-F.Null is here = none
  in_parts t _ is here = one t here

  all_parts : (ts : List HackType) → All (TypeIn symbols) ts → All (TypeIn symbols) (flat_map parts_of ts)
  all_parts [] all = none
  all_parts (t ∷ ts) all = append (parts_of t) (flat_map parts_of ts) (in_parts t (out-HackType t) (rolled t) (All-head (TypeIn symbols) t ts all))
      (all_parts ts (All-tail (TypeIn symbols) t ts all))

  chosen : (b : Bool) (x y : List HackType) → All (TypeIn symbols) x → All (TypeIn symbols) y → All (TypeIn symbols) (cond b x y)
  chosen true x y p q = p
  chosen false x y p q = q

  picked : (b : Bool) (x y : HackType) → TypeIn symbols x → TypeIn symbols y → TypeIn symbols (cond b x y)
  picked true x y p q = p
  picked false x y p q = q

  once_more : (before ts : List HackType) → All (TypeIn symbols) before → All (TypeIn symbols) ts → All (TypeIn symbols) (fold with_part before ts)
  once_more before [] had all = had
  once_more before (t ∷ ts) had all = once_more (with_part before t) ts
      (chosen (list_any (same_type t) before) before (before ++ t ∷ []) had (append before (t ∷ []) had (one t (All-head (TypeIn symbols) t ts all))))
      (All-tail (TypeIn symbols) t ts all)

  in_once : (ts : List HackType) → All (TypeIn symbols) ts → All (TypeIn symbols) (once ts)
  unfolding once
  in_once ts all = once_more [] ts none all

  in_joined : (ts : List HackType) → All (TypeIn symbols) ts → TypeIn symbols (one_of ts)
  in_joined [] all = of_nothing
  in_joined (t ∷ []) all = All-head (TypeIn symbols) t [] all
  in_joined (t ∷ u ∷ ts) all = of_union (t ∷ u ∷ ts) all

  in_within : (ts : List HackType) → All (TypeIn symbols) ts → TypeIn symbols (joined_within ts)
  in_within ts all =
      picked (list_any (same_type type.Any) ts) type.Any
      (cond (list_any (same_type type.Mixed) ts || nat_lt most_members (length (once ts))) type.Mixed (one_of (once ts))) of_any
      (picked (list_any (same_type type.Mixed) ts || nat_lt most_members (length (once ts))) type.Mixed (one_of (once ts)) of_mixed (in_joined (once ts) (in_once ts all)))

  pub in_union_of : (ts : List HackType) → All (TypeIn symbols) ts → TypeIn symbols (union_of ts)
  unfolding union_of
  in_union_of ts all = let within = in_within (flat_map parts_of ts) (all_parts ts all) in
      picked (list_any has_null ts) (option_of (joined_within (flat_map parts_of ts))) (joined_within (flat_map parts_of ts))
      (in_option_of (joined_within (flat_map parts_of ts)) within) within

  -- types put in
  module _ (arguments : List HackType) (given : All (TypeIn symbols) arguments) where
    abbrev Puts : HackType → Type 0
    Puts t = TypeIn symbols t → TypeIn symbols (substitute arguments t)

    abbrev Told : Type 0
    Told = (t : HackType) × Puts t

    argument : (arguments : List HackType) → All (TypeIn symbols) arguments → (position : ℕ) → TypeIn symbols (get_or arguments position type.Any)
    argument [] all position = of_any
    argument (t ∷ ts) all zero = All-head (TypeIn symbols) t ts all
    argument (t ∷ ts) all (suc position) = argument ts (All-tail (TypeIn symbols) t ts all) position

    abbrev put : HackType → HackType
    put = substitute arguments

    leaf : (layer : HackType-F HackType) → substitute arguments (roll-HackType layer) ≡ roll-HackType layer → Puts (roll-HackType layer)
    leaf layer is here = subst (TypeIn symbols) (sym is) here

    puts_all : (told : List Told) → All (TypeIn symbols) (map (λ e. e.0) told) → All (TypeIn symbols) (map put (map (λ e. e.0) told))
    puts_all [] all = none
    puts_all (e ∷ told) all =
        All-cons (TypeIn symbols) (put e.0) (map put (map (λ e. e.0) told)) (e.1 (All-head (TypeIn symbols) e.0 (map (λ e. e.0) told) all))
        (puts_all told (All-tail (TypeIn symbols) e.0 (map (λ e. e.0) told) all))

    packed : (layer : HackType-F HackType) (names : List SymbolId) → symbols_in (roll-HackType layer) ≡ names → All In names → TypeIn symbols (roll-HackType layer)
    unfolding TypeIn
    packed layer names is all = subst (All In) (sym is) all

    unpacked : (layer : HackType-F HackType) (names : List SymbolId) → symbols_in (roll-HackType layer) ≡ names → TypeIn symbols (roll-HackType layer) → All In names
    unfolding TypeIn
    unpacked layer names is all = subst (All In) is all

    names_of : (t : HackType) → TypeIn symbols t → All In (symbols_in t)
    unfolding TypeIn
    names_of t here = here

    of_names : (t : HackType) → All In (symbols_in t) → TypeIn symbols t
    unfolding TypeIn
    of_names t here = here

    put_vector : (e : Told) → Puts (roll-HackType (HackType-F.Vector e.0))
    unfolding substitute symbols_in
    put_vector e here =
        let inside = e.1 (of_names e.0 (unpacked (HackType-F.Vector e.0) (symbols_in e.0) (fold-roll-HackType (List SymbolId) symbols_by (HackType-F.Vector e.0)) here)) in
        subst (TypeIn symbols) (sym (fold-roll-HackType HackType (substitute_by arguments) (HackType-F.Vector e.0)))
        (packed (HackType-F.Vector (put e.0)) (symbols_in (put e.0)) (fold-roll-HackType (List SymbolId) symbols_by (HackType-F.Vector (put e.0))) (names_of (put e.0) inside))

    put_keyset : (e : Told) → Puts (roll-HackType (HackType-F.Keyset e.0))
    unfolding substitute symbols_in
    put_keyset e here =
        let inside = e.1 (of_names e.0 (unpacked (HackType-F.Keyset e.0) (symbols_in e.0) (fold-roll-HackType (List SymbolId) symbols_by (HackType-F.Keyset e.0)) here)) in
        subst (TypeIn symbols) (sym (fold-roll-HackType HackType (substitute_by arguments) (HackType-F.Keyset e.0)))
        (packed (HackType-F.Keyset (put e.0)) (symbols_in (put e.0)) (fold-roll-HackType (List SymbolId) symbols_by (HackType-F.Keyset (put e.0))) (names_of (put e.0) inside))

    put_option : (e : Told) → Puts (roll-HackType (HackType-F.Option e.0))
    unfolding substitute symbols_in
    put_option e here =
        let inside = e.1 (of_names e.0 (unpacked (HackType-F.Option e.0) (symbols_in e.0) (fold-roll-HackType (List SymbolId) symbols_by (HackType-F.Option e.0)) here)) in
        subst (TypeIn symbols) (sym (fold-roll-HackType HackType (substitute_by arguments) (HackType-F.Option e.0))) (in_option_of (put e.0) inside)

    put_dict : (k v : Told) → Puts (roll-HackType (HackType-F.Dict k.0 v.0))
    unfolding substitute symbols_in
    put_dict k v here =
        let names = unpacked (HackType-F.Dict k.0 v.0) (symbols_in k.0 ++ symbols_in v.0) (fold-roll-HackType (List SymbolId) symbols_by (HackType-F.Dict k.0 v.0)) here in
        let key = k.1 (of_names k.0 (front In (symbols_in k.0) (symbols_in v.0) names)) in
        let value = v.1 (of_names v.0 (back In (symbols_in k.0) (symbols_in v.0) names)) in
        subst (TypeIn symbols) (sym (fold-roll-HackType HackType (substitute_by arguments) (HackType-F.Dict k.0 v.0)))
        (packed (HackType-F.Dict (put k.0) (put v.0)) (symbols_in (put k.0) ++ symbols_in (put v.0))
        (fold-roll-HackType (List SymbolId) symbols_by (HackType-F.Dict (put k.0) (put v.0)))
        (joined symbols (symbols_in (put k.0)) (symbols_in (put v.0)) (names_of (put k.0) key) (names_of (put v.0) value)))

    put_union : (told : List Told) → Puts (roll-HackType (HackType-F.Union (map (λ e. e.0) told)))
    unfolding substitute symbols_in
    put_union told here =
        let types : List HackType = map (λ (e : Told). e.0) told in
        let names = unpacked (HackType-F.Union types) (all_symbols symbols types) (fold-roll-HackType (List SymbolId) symbols_by (HackType-F.Union types)) here in
        subst (TypeIn symbols) (sym (fold-roll-HackType HackType (substitute_by arguments) (HackType-F.Union types)))
        (in_union_of (map put types) (puts_all told (each symbols types names)))

    put_class : (name : ℕ) (told : List Told) → Puts (roll-HackType (HackType-F.Class name (map (λ e. e.0) told)))
    unfolding substitute symbols_in
    put_class name told here =
        let types : List HackType = map (λ (e : Told). e.0) told in
        let names = unpacked (HackType-F.Class name types) (class_symbol name ∷ all_symbols symbols types) (fold-roll-HackType (List SymbolId) symbols_by (HackType-F.Class name types)) here in
        let inside = puts_all told (each symbols types (All-tail In (class_symbol name) (all_symbols symbols types) names)) in
        subst (TypeIn symbols) (sym (fold-roll-HackType HackType (substitute_by arguments) (HackType-F.Class name types)))
        (packed (HackType-F.Class name (map put types)) (class_symbol name ∷ all_symbols symbols (map put types))
        (fold-roll-HackType (List SymbolId) symbols_by (HackType-F.Class name (map put types)))
        (All-cons In (class_symbol name) (all_symbols symbols (map put types)) (All-head In (class_symbol name) (all_symbols symbols types) names)
        (gathered symbols (map put types) inside)))

    abbrev bare : List (Field Told) → List (Field HackType)
    bare told = map (on_type (λ (e : Told). e.0)) told

    puts_fields : (told : List (Field Told)) → All (λ field. TypeIn symbols field.ty) (bare told) → All In (field_symbols symbols (map (on_type put) (bare told)))
    puts_fields [] all = λ k d lt. absurd (omega (arith, lt))
    puts_fields (f ∷ fs) all =
        joined symbols (symbols_in (put f.ty.0)) (field_symbols symbols (map (on_type put) (bare fs)))
        (names_of (put f.ty.0) (f.ty.1 (All-head (λ (field : Field HackType). TypeIn symbols field.ty) (on_type (λ (e : Told). e.0) f) (bare fs) all)))
        (puts_fields fs (All-tail (λ (field : Field HackType). TypeIn symbols field.ty) (on_type (λ (e : Told). e.0) f) (bare fs) all))

    put_shape : (told : List (Field Told)) (rest : Bool) → Puts (roll-HackType (HackType-F.Shape (bare told) rest))
    unfolding substitute symbols_in
    put_shape told rest here =
        let names = unpacked (HackType-F.Shape (bare told) rest) (field_symbols symbols (bare told)) (fold-roll-HackType (List SymbolId) symbols_by (HackType-F.Shape (bare told) rest)) here in
        subst (TypeIn symbols) (sym (fold-roll-HackType HackType (substitute_by arguments) (HackType-F.Shape (bare told) rest)))
        (packed (HackType-F.Shape (map (on_type put) (bare told)) rest) (field_symbols symbols (map (on_type put) (bare told)))
        (fold-roll-HackType (List SymbolId) symbols_by (HackType-F.Shape (map (on_type put) (bare told)) rest))
        (puts_fields told (each_field symbols (bare told) names)))

    put_param : (position name : ℕ) → Puts (roll-HackType (HackType-F.ClassParam position name))
    unfolding substitute
    put_param position name here = subst (TypeIn symbols) (sym (fold-roll-HackType HackType (substitute_by arguments) (HackType-F.ClassParam position name)))
        (argument arguments given position)

    abbrev Kept : HackType-F HackType → Type 0
    Kept layer = Puts (roll-HackType layer)

    by_layer : (x : HackType-F HackType) (y : HackType-F Told) → map-HackType Told HackType (λ (e : Told). e.0) y ≡ x → Kept x
    unfolding substitute
    by_layer x HackType-F.Any is = subst Kept is (leaf HackType-F.Any (fold-roll-HackType HackType (substitute_by arguments) HackType-F.Any))
    by_layer x HackType-F.Mixed is = subst Kept is (leaf HackType-F.Mixed (fold-roll-HackType HackType (substitute_by arguments) HackType-F.Mixed))
    by_layer x HackType-F.Nonnull is = subst Kept is (leaf HackType-F.Nonnull (fold-roll-HackType HackType (substitute_by arguments) HackType-F.Nonnull))
    by_layer x HackType-F.Nothing is = subst Kept is (leaf HackType-F.Nothing (fold-roll-HackType HackType (substitute_by arguments) HackType-F.Nothing))
    by_layer x HackType-F.Null is = subst Kept is (leaf HackType-F.Null (fold-roll-HackType HackType (substitute_by arguments) HackType-F.Null))
    by_layer x HackType-F.Void is = subst Kept is (leaf HackType-F.Void (fold-roll-HackType HackType (substitute_by arguments) HackType-F.Void))
    by_layer x HackType-F.Noreturn is = subst Kept is (leaf HackType-F.Noreturn (fold-roll-HackType HackType (substitute_by arguments) HackType-F.Noreturn))
    by_layer x HackType-F.Bool is = subst Kept is (leaf HackType-F.Bool (fold-roll-HackType HackType (substitute_by arguments) HackType-F.Bool))
    by_layer x HackType-F.Int is = subst Kept is (leaf HackType-F.Int (fold-roll-HackType HackType (substitute_by arguments) HackType-F.Int))
    by_layer x HackType-F.Float is = subst Kept is (leaf HackType-F.Float (fold-roll-HackType HackType (substitute_by arguments) HackType-F.Float))
    by_layer x HackType-F.Num is = subst Kept is (leaf HackType-F.Num (fold-roll-HackType HackType (substitute_by arguments) HackType-F.Num))
    by_layer x HackType-F.Str is = subst Kept is (leaf HackType-F.Str (fold-roll-HackType HackType (substitute_by arguments) HackType-F.Str))
    by_layer x HackType-F.Arraykey is = subst Kept is (leaf HackType-F.Arraykey (fold-roll-HackType HackType (substitute_by arguments) HackType-F.Arraykey))
    by_layer x HackType-F.This is = subst Kept is (leaf HackType-F.This (fold-roll-HackType HackType (substitute_by arguments) HackType-F.This))
    by_layer x (HackType-F.Option e) is = subst Kept is (put_option e)
    by_layer x (HackType-F.Vector e) is = subst Kept is (put_vector e)
    by_layer x (HackType-F.Dict k v) is = subst Kept is (put_dict k v)
    by_layer x (HackType-F.Keyset e) is = subst Kept is (put_keyset e)
    by_layer x (HackType-F.Shape fields rest) is = subst Kept is (put_shape fields rest)
    by_layer x (HackType-F.Class name told) is = subst Kept is (put_class name told)
    by_layer x (HackType-F.ClassParam position name) is = subst Kept is (put_param position name)
    by_layer x (HackType-F.FunParam position name) is = subst Kept is (leaf (HackType-F.FunParam position name) (fold-roll-HackType HackType (substitute_by arguments) (HackType-F.FunParam position name)))
    by_layer x (HackType-F.Union told) is = subst Kept is (put_union told)

    pub in_put : (t : HackType) → Puts t
    in_put = ind-HackType Puts (λ x y is. by_layer x y is)

    pub in_put_all : (ts : List HackType) → All (TypeIn symbols) ts → All (TypeIn symbols) (map put ts)
    in_put_all [] all = none
    in_put_all (t ∷ ts) all = All-cons (TypeIn symbols) (put t) (map put ts) (in_put t (All-head (TypeIn symbols) t ts all)) (in_put_all ts (All-tail (TypeIn symbols) t ts all))
