-- What the bounds of a scope's parameters and its class name, the scope names too.
use Rattle.std.proofs.Common.{◌≡◌, ℕ, zero, suc, Option, Some, None, List, [], ◌∷◌, ◌++◌, length, All, IsTrue, IfSome, sym, subst, arith}
use Rattle.std.proofs.lemmas.List.Elements.{All-cons}
use Rattle.std.specs.Bool.{if◌then◌else◌}
use Rattle.std.specs.List.{flat_map, slice_get}
use Rattle.std.specs.Prelude.{Bool, true, false, nat_lt}
use Rattle.hack_types.specs.Substituted.{most_nodes}
use Rattle.hack_types.specs.declared.hack_type.HackType.{HackType, out-HackType}
use Rattle.hack_types.specs.declared.hack_type.HackType.TheOpen.{HackType-F}
use Rattle.hack_types.specs.declared.hack_type.HackType.TheFolds.{fold-roll-HackType}
use Rattle.hack_types.specs.declared.hack_type.HackType.TheVariants as type
use Rattle.hack_types.specs.declared.ids.SymbolId.{SymbolId}
use Rattle.hack_types.specs.declared.signature.TypeParam.{TypeParam}
use Rattle.hack_decls.specs.DeclState.{Symbols}
use Rattle.hack_decls.specs.NameLaws.{back, front}
use Rattle.hack_decls.specs.Names.{TypeIn, class_symbol, symbols_by, symbols_in, types_of_param}
use Rattle.hack_sub.specs.NamesOf.{alone, nothing_there, of_class}
use Rattle.hack_sub.specs.Scopes.{ScopeIn, class_params_by, own_params, param_by, param_of}
use Rattle.hack_sub.specs.IsBelow.{class_type_by, class_type_small}
use Rattle.hack_sub.specs.declared.scope.Scope.{Scope}

module _ (symbols : Symbols) where
  bounds_at : (params : List TypeParam) (i : ℕ) (param : TypeParam) → Some param ≡ slice_get params i → All (TypeIn symbols) (flat_map types_of_param params)
      → All (TypeIn symbols) (types_of_param param)
  bounds_at [] i param e all = absurd (nothing_there param e)
  bounds_at (p ∷ ps) zero param e all = let same : p ≡ param = cc in
      subst (λ x. All (TypeIn symbols) (types_of_param x)) same (front (TypeIn symbols) (types_of_param p) (flat_map types_of_param ps) all)
  bounds_at (p ∷ ps) (suc i) param e all = bounds_at ps i param e (back (TypeIn symbols) (types_of_param p) (flat_map types_of_param ps) all)

  module _ (scope : Scope) (in_scope : ScopeIn symbols scope) where
    abbrev class_types : List HackType
    class_types = flat_map types_of_param (class_params_by scope.class)

    abbrev fun_types : List HackType
    fun_types = flat_map types_of_param scope.fun_params

    both_lists : All (TypeIn symbols) (class_types ++ fun_types)
    both_lists = front (TypeIn symbols) (class_types ++ fun_types) (scope.result ∷ []) in_scope.1

    param_layer : (param : TypeParam) (layer : HackType-F HackType) → Some param ≡ param_by scope layer → All (TypeIn symbols) (types_of_param param)
    param_layer param (HackType-F.ClassParam position name) e = bounds_at (class_params_by scope.class) position param e (front (TypeIn symbols) class_types fun_types both_lists)
    param_layer param (HackType-F.FunParam position name) e = bounds_at scope.fun_params position param e (back (TypeIn symbols) class_types fun_types both_lists)
    param_layer param _ e = absurd (nothing_there param e)

    pub in_upper : (T : HackType) (param : TypeParam) → Some param ≡ param_of scope T → All (TypeIn symbols) param.upper
    in_upper T param e = front (TypeIn symbols) param.upper param.lower (param_layer param (out-HackType T) e)

    pub in_lower : (T : HackType) (param : TypeParam) → Some param ≡ param_of scope T → All (TypeIn symbols) param.lower
    in_lower T param e = back (TypeIn symbols) param.upper param.lower (param_layer param (out-HackType T) e)

    of_param : (position name : ℕ) → TypeIn symbols (type.ClassParam position name)
    unfolding symbols_in
    of_param position name = alone symbols (HackType-F.ClassParam position name) (type.ClassParam position name) (sym (type.rolls-ClassParam position name))
        (fold-roll-HackType (List SymbolId) symbols_by (HackType-F.ClassParam position name))

    of_own : (position : ℕ) (params : List TypeParam) → All (TypeIn symbols) (own_params position params)
    of_own position [] = λ k d lt. absurd (omega (arith, lt))
    of_own position (param ∷ params) =
        All-cons (TypeIn symbols) (type.ClassParam position param.name) (own_params (suc position) params) (of_param position param.name) (of_own (suc position) params)

    class_chosen : (b : Bool) (class : ℕ × List TypeParam) (U : HackType) → IsTrue (symbols (class_symbol class.0))
        → Some U ≡ (if b then Some (type.Class class.0 (own_params 0 class.1)) else None) → TypeIn symbols U
    class_chosen true class U here e = let same : type.Class class.0 (own_params 0 class.1) ≡ U = cc in
        subst (TypeIn symbols) same (of_class symbols class.0 (own_params 0 class.1) here (of_own 0 class.1))
    class_chosen false class U here e = absurd (nothing_there U e)

    class_in : (o : Option (ℕ × List TypeParam)) (U : HackType) → IfSome o (λ class. IsTrue (symbols (class_symbol class.0))) → Some U ≡ class_type_by o → TypeIn symbols U
    class_in None U here e = absurd (nothing_there U e)
    class_in (Some class) U here e = class_chosen (nat_lt (length class.1) most_nodes) class U here e

    pub in_class_type : (U : HackType) → Some U ≡ class_type_small scope → TypeIn symbols U
    in_class_type U e = class_in scope.class U in_scope.0 e
