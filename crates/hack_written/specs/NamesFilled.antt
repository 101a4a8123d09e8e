-- What a type names once types stand for its parameters and for `this`, is named by it or by one of these.
use Rattle.std.proofs.Common.{◌≡◌, ◌++◌, ℕ, zero, suc, Bool, true, false, Option, Some, None, List, [], ◌∷◌, map, All, IsTrue, IfSome, cond, nat_le, sym, subst, arith, get_or}
use Rattle.std.proofs.lemmas.List.Elements.{All-cons, All-head, All-tail}
use Rattle.hack_types.specs.Substituted.{most_nodes}
use Rattle.hack_types.specs.TypeNodes.{nodes}
use Rattle.hack_types.specs.declared.fields.Field.{Field}
use Rattle.hack_types.specs.declared.hack_type.HackType.{HackType, roll-HackType}
use Rattle.hack_types.specs.declared.hack_type.HackType.TheOpen.{HackType-F}
use Rattle.hack_types.specs.declared.hack_type.HackType.TheFolds.{fold-roll-HackType, ind-HackType, map-HackType}
use Rattle.hack_types.specs.declared.hack_type.HackType.TheVariants as type
use Rattle.hack_types.specs.declared.ids.SymbolId.{SymbolId}
use Rattle.hack_types.specs.formers.fields.Fields.{on_type}
use Rattle.hack_decls.specs.DeclState.{Symbols}
use Rattle.hack_decls.specs.NameLaws.{back, front}
use Rattle.hack_decls.specs.Names.{TypeIn, class_symbol, symbols_by, symbols_in}
use Rattle.hack_infer.specs.Filling.{Filling, at_position, filled, filled_by, filled_limited, this_or}
use Rattle.hack_sub.specs.NamesOf.{all_symbols, each, each_field, field_symbols, gathered, joined}
use Rattle.hack_sub.specs.NamesPut.{in_option_of, in_union_of, of_any}

-- all that is put in names only these symbols
pub record FillingIn (symbols : Symbols) (filling : Filling) : Type 0 where
  pub class : IfSome filling.class (All (TypeIn symbols))
  pub function : IfSome filling.function (All (TypeIn symbols))
  pub this : IfSome filling.this (TypeIn symbols)

module _ (symbols : Symbols) where
  abbrev In : SymbolId → Type 0
  In s = IsTrue (symbols s)

  none : All (TypeIn symbols) []
  none = λ k d lt. absurd (omega (arith, lt))

  by_size : (b : Bool) (ty : HackType) → TypeIn symbols ty → TypeIn symbols (cond b ty type.Any)
  by_size true ty here = here
  by_size false ty here = of_any symbols

  module _ (filling : Filling) (given : FillingIn symbols filling) where
    abbrev Puts : HackType → Type 0
    Puts t = TypeIn symbols t → TypeIn symbols (filled filling t)

    abbrev Told : Type 0
    Told = (t : HackType) × Puts t

    argument : (types : List HackType) → All (TypeIn symbols) types → (position : ℕ) → TypeIn symbols (get_or types position type.Any)
    argument [] all position = of_any symbols
    argument (t ∷ ts) all zero = All-head (TypeIn symbols) t ts all
    argument (t ∷ ts) all (suc position) = argument ts (All-tail (TypeIn symbols) t ts all) position

    by_position : (own : HackType) (types : Option (List HackType)) → IfSome types (All (TypeIn symbols)) → TypeIn symbols own → (position : ℕ) → TypeIn symbols (at_position own types position)
    by_position own None all here position = here
    by_position own (Some types) all here position = argument types all position

    by_this : (own : HackType) (this : Option HackType) → IfSome this (TypeIn symbols) → TypeIn symbols own → TypeIn symbols (this_or own this)
    by_this own None all here = here
    by_this own (Some ty) all here = all

    abbrev put : HackType → HackType
    put = filled filling

    leaf : (layer : HackType-F HackType) → filled filling (roll-HackType layer) ≡ roll-HackType layer → Puts (roll-HackType layer)
    leaf layer is here = subst (TypeIn symbols) (sym is) here

    puts_all : (told : List Told) → All (TypeIn symbols) (map (λ e. e.0) told) → All (TypeIn symbols) (map put (map (λ e. e.0) told))
    puts_all [] all = none
    puts_all (e ∷ told) all =
        All-cons (TypeIn symbols) (put e.0) (map put (map (λ e. e.0) told)) (e.1 (All-head (TypeIn symbols) e.0 (map (λ e. e.0) told) all))
        (puts_all told (All-tail (TypeIn symbols) e.0 (map (λ e. e.0) told) all))

    packed : (layer : HackType-F HackType) (names : List SymbolId) → symbols_in (roll-HackType layer) ≡ names → All In names → TypeIn symbols (roll-HackType layer)
    unfolding TypeIn
    packed layer names is all = subst (All In) (sym is) all

    unpacked : (layer : HackType-F HackType) (names : List SymbolId) → symbols_in (roll-HackType layer) ≡ names → TypeIn symbols (roll-HackType layer) → All In names
    unfolding TypeIn
    unpacked layer names is all = subst (All In) is all

    names_of : (t : HackType) → TypeIn symbols t → All In (symbols_in t)
    unfolding TypeIn
    names_of t here = here

    of_names : (t : HackType) → All In (symbols_in t) → TypeIn symbols t
    unfolding TypeIn
    of_names t here = here

    put_vector : (e : Told) → Puts (roll-HackType (HackType-F.Vector e.0))
    unfolding filled symbols_in
    put_vector e here =
        let inside = e.1 (of_names e.0 (unpacked (HackType-F.Vector e.0) (symbols_in e.0) (fold-roll-HackType (List SymbolId) symbols_by (HackType-F.Vector e.0)) here)) in
        subst (TypeIn symbols) (sym (fold-roll-HackType HackType (filled_by filling) (HackType-F.Vector e.0)))
        (packed (HackType-F.Vector (put e.0)) (symbols_in (put e.0)) (fold-roll-HackType (List SymbolId) symbols_by (HackType-F.Vector (put e.0))) (names_of (put e.0) inside))

    put_keyset : (e : Told) → Puts (roll-HackType (HackType-F.Keyset e.0))
    unfolding filled symbols_in
    put_keyset e here =
        let inside = e.1 (of_names e.0 (unpacked (HackType-F.Keyset e.0) (symbols_in e.0) (fold-roll-HackType (List SymbolId) symbols_by (HackType-F.Keyset e.0)) here)) in
        subst (TypeIn symbols) (sym (fold-roll-HackType HackType (filled_by filling) (HackType-F.Keyset e.0)))
        (packed (HackType-F.Keyset (put e.0)) (symbols_in (put e.0)) (fold-roll-HackType (List SymbolId) symbols_by (HackType-F.Keyset (put e.0))) (names_of (put e.0) inside))

    put_option : (e : Told) → Puts (roll-HackType (HackType-F.Option e.0))
    unfolding filled symbols_in
    put_option e here =
        let inside = e.1 (of_names e.0 (unpacked (HackType-F.Option e.0) (symbols_in e.0) (fold-roll-HackType (List SymbolId) symbols_by (HackType-F.Option e.0)) here)) in
        subst (TypeIn symbols) (sym (fold-roll-HackType HackType (filled_by filling) (HackType-F.Option e.0))) (in_option_of symbols (put e.0) inside)

    put_dict : (k v : Told) → Puts (roll-HackType (HackType-F.Dict k.0 v.0))
    unfolding filled symbols_in
    put_dict k v here =
        let names = unpacked (HackType-F.Dict k.0 v.0) (symbols_in k.0 ++ symbols_in v.0) (fold-roll-HackType (List SymbolId) symbols_by (HackType-F.Dict k.0 v.0)) here in
        let key = k.1 (of_names k.0 (front In (symbols_in k.0) (symbols_in v.0) names)) in
        let value = v.1 (of_names v.0 (back In (symbols_in k.0) (symbols_in v.0) names)) in
        subst (TypeIn symbols) (sym (fold-roll-HackType HackType (filled_by filling) (HackType-F.Dict k.0 v.0)))
        (packed (HackType-F.Dict (put k.0) (put v.0)) (symbols_in (put k.0) ++ symbols_in (put v.0))
        (fold-roll-HackType (List SymbolId) symbols_by (HackType-F.Dict (put k.0) (put v.0)))
        (joined symbols (symbols_in (put k.0)) (symbols_in (put v.0)) (names_of (put k.0) key) (names_of (put v.0) value)))

    put_union : (told : List Told) → Puts (roll-HackType (HackType-F.Union (map (λ e. e.0) told)))
    unfolding filled symbols_in
    put_union told here =
        let types : List HackType = map (λ (e : Told). e.0) told in
        let names = unpacked (HackType-F.Union types) (all_symbols symbols types) (fold-roll-HackType (List SymbolId) symbols_by (HackType-F.Union types)) here in
        subst (TypeIn symbols) (sym (fold-roll-HackType HackType (filled_by filling) (HackType-F.Union types)))
        (in_union_of symbols (map put types) (puts_all told (each symbols types names)))

    put_class : (name : ℕ) (told : List Told) → Puts (roll-HackType (HackType-F.Class name (map (λ e. e.0) told)))
    unfolding filled symbols_in
    put_class name told here =
        let types : List HackType = map (λ (e : Told). e.0) told in
        let names = unpacked (HackType-F.Class name types) (class_symbol name ∷ all_symbols symbols types) (fold-roll-HackType (List SymbolId) symbols_by (HackType-F.Class name types)) here in
        let inside = puts_all told (each symbols types (All-tail In (class_symbol name) (all_symbols symbols types) names)) in
        subst (TypeIn symbols) (sym (fold-roll-HackType HackType (filled_by filling) (HackType-F.Class name types)))
        (packed (HackType-F.Class name (map put types)) (class_symbol name ∷ all_symbols symbols (map put types))
        (fold-roll-HackType (List SymbolId) symbols_by (HackType-F.Class name (map put types)))
        (All-cons In (class_symbol name) (all_symbols symbols (map put types)) (All-head In (class_symbol name) (all_symbols symbols types) names)
        (gathered symbols (map put types) inside)))

    abbrev bare : List (Field Told) → List (Field HackType)
    bare told = map (on_type (λ (e : Told). e.0)) told

    puts_fields : (told : List (Field Told)) → All (λ field. TypeIn symbols field.ty) (bare told) → All In (field_symbols symbols (map (on_type put) (bare told)))
    puts_fields [] all = λ k d lt. absurd (omega (arith, lt))
    puts_fields (f ∷ fs) all =
        joined symbols (symbols_in (put f.ty.0)) (field_symbols symbols (map (on_type put) (bare fs)))
        (names_of (put f.ty.0) (f.ty.1 (All-head (λ (field : Field HackType). TypeIn symbols field.ty) (on_type (λ (e : Told). e.0) f) (bare fs) all)))
        (puts_fields fs (All-tail (λ (field : Field HackType). TypeIn symbols field.ty) (on_type (λ (e : Told). e.0) f) (bare fs) all))

    put_shape : (told : List (Field Told)) (rest : Bool) → Puts (roll-HackType (HackType-F.Shape (bare told) rest))
    unfolding filled symbols_in
    put_shape told rest here =
        let names = unpacked (HackType-F.Shape (bare told) rest) (field_symbols symbols (bare told)) (fold-roll-HackType (List SymbolId) symbols_by (HackType-F.Shape (bare told) rest)) here in
        subst (TypeIn symbols) (sym (fold-roll-HackType HackType (filled_by filling) (HackType-F.Shape (bare told) rest)))
        (packed (HackType-F.Shape (map (on_type put) (bare told)) rest) (field_symbols symbols (map (on_type put) (bare told)))
        (fold-roll-HackType (List SymbolId) symbols_by (HackType-F.Shape (map (on_type put) (bare told)) rest))
        (puts_fields told (each_field symbols (bare told) names)))

    put_class_param : (position name : ℕ) → Puts (roll-HackType (HackType-F.ClassParam position name))
    unfolding filled
    put_class_param position name here = subst (TypeIn symbols) (sym (fold-roll-HackType HackType (filled_by filling) (HackType-F.ClassParam position name)))
        (by_position (roll-HackType (HackType-F.ClassParam position name)) filling.class given.class here position)

    put_fun_param : (position name : ℕ) → Puts (roll-HackType (HackType-F.FunParam position name))
    unfolding filled
    put_fun_param position name here = subst (TypeIn symbols) (sym (fold-roll-HackType HackType (filled_by filling) (HackType-F.FunParam position name)))
        (by_position (roll-HackType (HackType-F.FunParam position name)) filling.function given.function here position)

    put_this : Puts (roll-HackType HackType-F.This)
    unfolding filled
    put_this here = subst (TypeIn symbols) (sym (fold-roll-HackType HackType (filled_by filling) HackType-F.This))
        (by_this (roll-HackType HackType-F.This) filling.this given.this here)

    abbrev Kept : HackType-F HackType → Type 0
    Kept layer = Puts (roll-HackType layer)

    by_layer : (x : HackType-F HackType) (y : HackType-F Told) → map-HackType Told HackType (λ (e : Told). e.0) y ≡ x → Kept x
    unfolding filled
    by_layer x HackType-F.Any is = subst Kept is (leaf HackType-F.Any (fold-roll-HackType HackType (filled_by filling) HackType-F.Any))
    by_layer x HackType-F.Mixed is = subst Kept is (leaf HackType-F.Mixed (fold-roll-HackType HackType (filled_by filling) HackType-F.Mixed))
    by_layer x HackType-F.Nonnull is = subst Kept is (leaf HackType-F.Nonnull (fold-roll-HackType HackType (filled_by filling) HackType-F.Nonnull))
    by_layer x HackType-F.Nothing is = subst Kept is (leaf HackType-F.Nothing (fold-roll-HackType HackType (filled_by filling) HackType-F.Nothing))
    by_layer x HackType-F.Null is = subst Kept is (leaf HackType-F.Null (fold-roll-HackType HackType (filled_by filling) HackType-F.Null))
    by_layer x HackType-F.Void is = subst Kept is (leaf HackType-F.Void (fold-roll-HackType HackType (filled_by filling) HackType-F.Void))
    by_layer x HackType-F.Noreturn is = subst Kept is (leaf HackType-F.Noreturn (fold-roll-HackType HackType (filled_by filling) HackType-F.Noreturn))
    by_layer x HackType-F.Bool is = subst Kept is (leaf HackType-F.Bool (fold-roll-HackType HackType (filled_by filling) HackType-F.Bool))
    by_layer x HackType-F.Int is = subst Kept is (leaf HackType-F.Int (fold-roll-HackType HackType (filled_by filling) HackType-F.Int))
    by_layer x HackType-F.Float is = subst Kept is (leaf HackType-F.Float (fold-roll-HackType HackType (filled_by filling) HackType-F.Float))
    by_layer x HackType-F.Num is = subst Kept is (leaf HackType-F.Num (fold-roll-HackType HackType (filled_by filling) HackType-F.Num))
    by_layer x HackType-F.Str is = subst Kept is (leaf HackType-F.Str (fold-roll-HackType HackType (filled_by filling) HackType-F.Str))
    by_layer x HackType-F.Arraykey is = subst Kept is (leaf HackType-F.Arraykey (fold-roll-HackType HackType (filled_by filling) HackType-F.Arraykey))
    by_layer x HackType-F.This is = subst Kept is put_this
    by_layer x (HackType-F.Option e) is = subst Kept is (put_option e)
    by_layer x (HackType-F.Vector e) is = subst Kept is (put_vector e)
    by_layer x (HackType-F.Dict k v) is = subst Kept is (put_dict k v)
    by_layer x (HackType-F.Keyset e) is = subst Kept is (put_keyset e)
    by_layer x (HackType-F.Shape fields rest) is = subst Kept is (put_shape fields rest)
    by_layer x (HackType-F.Class name told) is = subst Kept is (put_class name told)
    by_layer x (HackType-F.ClassParam position name) is = subst Kept is (put_class_param position name)
    by_layer x (HackType-F.FunParam position name) is = subst Kept is (put_fun_param position name)
    by_layer x (HackType-F.Union told) is = subst Kept is (put_union told)

    pub in_filled : (t : HackType) → Puts t
    in_filled = ind-HackType Puts (λ x y is. by_layer x y is)

    pub in_filled_all : (ts : List HackType) → All (TypeIn symbols) ts → All (TypeIn symbols) (map put ts)
    in_filled_all [] all = none
    in_filled_all (t ∷ ts) all = All-cons (TypeIn symbols) (put t) (map put ts) (in_filled t (All-head (TypeIn symbols) t ts all)) (in_filled_all ts (All-tail (TypeIn symbols) t ts all))

    -- the same, and `_` where that has too many nodes
    pub in_filled_limited : (t : HackType) → TypeIn symbols t → TypeIn symbols (filled_limited filling t)
    in_filled_limited t here = by_size (nat_le (nodes (filled filling t)) most_nodes) (filled filling t) (in_filled t here)

    pub in_filled_bounds : (ts : List HackType) → All (TypeIn symbols) ts → All (λ t. TypeIn symbols (filled_limited filling t)) ts
    in_filled_bounds [] all = λ k d lt. absurd (omega (arith, lt))
    in_filled_bounds (t ∷ ts) all = All-cons (λ u. TypeIn symbols (filled_limited filling u)) t ts (in_filled_limited t (All-head (TypeIn symbols) t ts all)) (in_filled_bounds ts (All-tail (TypeIn symbols) t ts all))
