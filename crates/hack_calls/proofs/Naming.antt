-- What types that are looked through name, the type, the scope and the declarations name too.
use Rattle.std.proofs.Common.{◌++◌, ℕ, zero, suc, Bool, true, false, cond, Option, Some, None, List, [], ◌∷◌, All, IfSome, IsTrue, map, unwrap_or, sym, arith}
use Rattle.std.proofs.lemmas.List.Elements.{All-cons, All-head, All-tail}
use Rattle.std.specs.List.{flat_map, slice_get}
use Rattle.hack_types.specs.UnionOf.{union_of}
use Rattle.hack_types.specs.declared.hack_type.HackType.{HackType, out-HackType}
use Rattle.hack_types.specs.declared.hack_type.HackType.TheFolds.{fold-roll-HackType}
use Rattle.hack_types.specs.declared.hack_type.HackType.TheOpen.{HackType-F}
use Rattle.hack_types.specs.declared.hack_type.HackType.TheVariants as type
use Rattle.hack_types.specs.declared.ids.SymbolId.{SymbolId}
use Rattle.hack_types.specs.declared.signature.Param.{Param}
use Rattle.hack_types.specs.declared.signature.Signature.{Signature}
use Rattle.hack_types.specs.declared.signature.TypeParam.{TypeParam}
use Rattle.hack_decls.specs.DeclState.{Symbols}
use Rattle.hack_decls.specs.NameLaws.{back, front}
use Rattle.hack_decls.specs.Names.{TypeIn, class_symbol, symbols_by, symbols_in, types_of_param}
use Rattle.hack_infer.specs.Filling.{Filling, filled_limited}
use Rattle.hack_infer.specs.Named.{ListsIn, SightIn}
use Rattle.hack_infer.specs.Solving.{solve, solved_by}
use Rattle.hack_infer.specs.declared.sight.Sight.{Sight}
use Rattle.hack_infer.specs.declared.sight.Sight.TheVariants as sight
use Rattle.hack_sub.specs.Named.{Around}
use Rattle.hack_sub.specs.NamesOf.{alone, of_class}
use Rattle.hack_sub.specs.NamesPut.{in_union_of, of_any, of_nothing}
use Rattle.hack_sub.specs.Scopes.{class_params_by, class_type, class_type_by, own_params, param_by, param_of}
use Rattle.hack_sub.specs.declared.scope.Scope.{Scope}
use Rattle.hack_rules.specs.Calls.{ended, ended_by}
use Rattle.hack_rules.specs.Classes.{this_type}
use Rattle.hack_rules.specs.Heads.{first_bound, first_or_mixed}
use Rattle.hack_rules.specs.WrittenTypes.{Argument}
use Rattle.hack_walk.specs.NamesKept.{in_limited}
use Rattle.hack_written.specs.NamesFilled.{FillingIn, in_filled_bounds}
use Rattle.hack_written.specs.Within.{BoundsIn, ParamsIn}
use Rattle.hack_calls.specs.Named.{GivenIn, SignatureIn}
use Rattle.hack_calls.specs.declared.mentions.Declared.{Declared}
use Rattle.hack_calls.specs.inside.Rows.{StageIn, plain_by, plain_stage, sight_stage, type_by}

module _ (symbols : Symbols) where
  pub none : {X : Type 0} (P : X → Type 0) → All P []
  none P = λ k d lt. absurd (omega (arith, lt))

  pub of_this : TypeIn symbols type.This
  unfolding symbols_in
  of_this = alone symbols HackType-F.This type.This (sym type.rolls-This) (fold-roll-HackType (List SymbolId) symbols_by HackType-F.This)

  of_mixed : TypeIn symbols type.Mixed
  unfolding symbols_in
  of_mixed = alone symbols HackType-F.Mixed type.Mixed (sym type.rolls-Mixed) (fold-roll-HackType (List SymbolId) symbols_by HackType-F.Mixed)

  of_param : (position name : ℕ) → TypeIn symbols (type.ClassParam position name)
  unfolding symbols_in
  of_param position name = alone symbols (HackType-F.ClassParam position name) (type.ClassParam position name) (sym (type.rolls-ClassParam position name))
      (fold-roll-HackType (List SymbolId) symbols_by (HackType-F.ClassParam position name))

  -- ---- parameters

  pub each_param : (params : List TypeParam) → All (TypeIn symbols) (flat_map types_of_param params) → ParamsIn symbols params
  each_param [] all = none (λ param. All (TypeIn symbols) (types_of_param param))
  each_param (p ∷ ps) all =
      All-cons (λ param. All (TypeIn symbols) (types_of_param param)) p ps (front (TypeIn symbols) (types_of_param p) (flat_map types_of_param ps) all)
      (each_param ps (back (TypeIn symbols) (types_of_param p) (flat_map types_of_param ps) all))

  each_type : (params : List Param) → All (TypeIn symbols) (map (λ param. param.ty) params) → All (λ param. TypeIn symbols param.ty) params
  each_type [] all = none (λ (param : Param). TypeIn symbols param.ty)
  each_type (p ∷ ps) all =
      All-cons (λ param. TypeIn symbols param.ty) p ps (All-head (TypeIn symbols) p.ty (map (λ param. param.ty) ps) all)
      (each_type ps (All-tail (TypeIn symbols) p.ty (map (λ param. param.ty) ps) all))

  -- ---- of signatures

  pub in_type_params : (signature : Signature) → SignatureIn symbols signature → ParamsIn symbols signature.type_params
  in_type_params signature all =
      let own : List HackType = flat_map types_of_param signature.type_params in
      let types : List HackType = map (λ (param : Param). param.ty) signature.params in
      each_param signature.type_params (front (TypeIn symbols) own types (front (TypeIn symbols) (own ++ types) (signature.result ∷ []) all))

  pub in_param_types : (signature : Signature) → SignatureIn symbols signature → All (TypeIn symbols) (map (λ param. param.ty) signature.params)
  in_param_types signature all =
      let own : List HackType = flat_map types_of_param signature.type_params in
      let types : List HackType = map (λ (param : Param). param.ty) signature.params in
      back (TypeIn symbols) own types (front (TypeIn symbols) (own ++ types) (signature.result ∷ []) all)

  pub in_params : (signature : Signature) → SignatureIn symbols signature → All (λ param. TypeIn symbols param.ty) signature.params
  in_params signature all = each_type signature.params (in_param_types signature all)

  pub in_result : (signature : Signature) → SignatureIn symbols signature → TypeIn symbols signature.result
  in_result signature all =
      let own : List HackType = flat_map types_of_param signature.type_params in
      let types : List HackType = map (λ (param : Param). param.ty) signature.params in
      All-head (TypeIn symbols) signature.result [] (back (TypeIn symbols) (own ++ types) (signature.result ∷ []) all)

  pub in_given_types : (given : List Argument) → GivenIn symbols given → All (TypeIn symbols) (map (λ a. a.ty) given)
  in_given_types [] all = none (TypeIn symbols)
  in_given_types (a ∷ as_) all =
      All-cons (TypeIn symbols) a.ty (map (λ (x : Argument). x.ty) as_) (All-head (λ (x : Argument). TypeIn symbols x.ty) a as_ all)
      (in_given_types as_ (All-tail (λ (x : Argument). TypeIn symbols x.ty) a as_ all))

  -- ---- of fillings

  pub in_bounds : (filling : Filling) (param : TypeParam) (ty : HackType) → FillingIn symbols filling → All (TypeIn symbols) (types_of_param param) → TypeIn symbols ty
      → BoundsIn symbols (filled_limited filling) param ty
  in_bounds filling param ty around all here = record {
    given = here;
    upper = in_filled_bounds symbols filling around param.upper (front (TypeIn symbols) param.upper param.lower all);
    lower = in_filled_bounds symbols filling around param.lower (back (TypeIn symbols) param.upper param.lower all);
  }

  ended_layer : (ty : HackType) (layer : HackType-F HackType) → TypeIn symbols ty → TypeIn symbols (ended_by ty layer)
  ended_layer ty HackType-F.Noreturn here = of_nothing symbols
  ended_layer ty _ here = here

  pub in_ended : (ty : HackType) → TypeIn symbols ty → TypeIn symbols (ended ty)
  in_ended ty here = ended_layer ty (out-HackType ty) here

  -- ---- of solved types

  in_solved_by : (types : List HackType) → All (TypeIn symbols) types → TypeIn symbols (solved_by types)
  in_solved_by [] all = of_any symbols
  in_solved_by (t ∷ ts) all = in_limited symbols (union_of (t ∷ ts)) (in_union_of symbols (t ∷ ts) all)

  pub in_solved : (lists : List (List HackType)) → ListsIn symbols lists → All (TypeIn symbols) (solve lists)
  in_solved [] all = none (TypeIn symbols)
  in_solved (types ∷ lists) all =
      All-cons (TypeIn symbols) (solved_by types) (solve lists) (in_solved_by types (All-head (λ ts. All (TypeIn symbols) ts) types lists all))
      (in_solved lists (All-tail (λ ts. All (TypeIn symbols) ts) types lists all))

  -- ---- of a scope

  of_own : (position : ℕ) (params : List TypeParam) → All (TypeIn symbols) (own_params position params)
  of_own position [] = none (TypeIn symbols)
  of_own position (param ∷ params) =
      All-cons (TypeIn symbols) (type.ClassParam position param.name) (own_params (suc position) params) (of_param position param.name) (of_own (suc position) params)

  class_in : (class : Option (ℕ × List TypeParam)) → IfSome class (λ c. IsTrue (symbols (class_symbol c.0))) → IfSome (class_type_by class) (TypeIn symbols)
  class_in None here = tt
  class_in (Some class) here = of_class symbols class.0 (own_params 0 class.1) here (of_own 0 class.1)

  pub in_class_type : (scope : Scope) → Around symbols scope → IfSome (class_type scope) (TypeIn symbols)
  in_class_type scope around = class_in scope.class around.scoped.0

  or_any : (ty : Option HackType) → IfSome ty (TypeIn symbols) → TypeIn symbols (unwrap_or ty type.Any)
  or_any None here = of_any symbols
  or_any (Some ty) here = here

  or_mixed : (bounds : List HackType) → All (TypeIn symbols) bounds → TypeIn symbols (first_or_mixed bounds)
  or_mixed [] all = of_mixed
  or_mixed (bound ∷ bounds) all = All-head (TypeIn symbols) bound bounds all

  in_first : (param : Option TypeParam) → IfSome param (λ p. All (TypeIn symbols) (types_of_param p)) → TypeIn symbols (first_bound param)
  in_first None all = of_mixed
  in_first (Some param) all = or_mixed param.upper (front (TypeIn symbols) param.upper param.lower all)

  at_place : (params : List TypeParam) (i : ℕ) → ParamsIn symbols params → IfSome (slice_get params i) (λ p. All (TypeIn symbols) (types_of_param p))
  at_place [] i all = tt
  at_place (p ∷ ps) zero all = All-head (λ param. All (TypeIn symbols) (types_of_param param)) p ps all
  at_place (p ∷ ps) (suc i) all = at_place ps i (All-tail (λ param. All (TypeIn symbols) (types_of_param param)) p ps all)

  module _ (scope : Scope) (around : Around symbols scope) where
    abbrev class_types : List HackType
    class_types = flat_map types_of_param (class_params_by scope.class)

    abbrev fun_types : List HackType
    fun_types = flat_map types_of_param scope.fun_params

    param_layer : (layer : HackType-F HackType) → IfSome (param_by scope layer) (λ p. All (TypeIn symbols) (types_of_param p))
    param_layer (HackType-F.ClassParam position name) =
        at_place (class_params_by scope.class) position (each_param (class_params_by scope.class)
        (front (TypeIn symbols) class_types fun_types (front (TypeIn symbols) (class_types ++ fun_types) (scope.result ∷ []) around.scoped.1)))
    param_layer (HackType-F.FunParam position name) =
        at_place scope.fun_params position (each_param scope.fun_params
        (back (TypeIn symbols) class_types fun_types (front (TypeIn symbols) (class_types ++ fun_types) (scope.result ∷ []) around.scoped.1)))
    param_layer _ = tt

    plain_layer : (ty : HackType) (layer : HackType-F HackType) → StageIn symbols (plain_by scope ty layer)
    plain_layer ty (HackType-F.ClassParam position name) = in_first (param_of scope ty) (param_layer (out-HackType ty))
    plain_layer ty (HackType-F.FunParam position name) = in_first (param_of scope ty) (param_layer (out-HackType ty))
    plain_layer ty HackType-F.This = or_any (class_type scope) (in_class_type scope around)
    plain_layer ty _ = tt

    pub in_plain : (ty : HackType) → StageIn symbols (plain_stage scope ty)
    in_plain ty = plain_layer ty (out-HackType ty)

  bad_in : (own : Bool) → StageIn symbols (sight_stage own sight.Bad)
  bad_in true = tt
  bad_in false = of_any symbols

  pub in_sight : (own : Bool) (seen : Sight) → SightIn symbols seen → StageIn symbols (sight_stage own seen)
  in_sight own (sight.Alias next) here = here
  in_sight own sight.Bad here = bad_in own
  in_sight own sight.Other here = tt

  pub in_this_type : (class : Option ℕ) → IfSome (this_type class) (TypeIn symbols)
  in_this_type None = tt
  in_this_type (Some class) = of_this

  -- ---- of mentions

  any_each : (params : List TypeParam) → All (TypeIn symbols) (map (λ param. type.Any) params)
  any_each [] = none (TypeIn symbols)
  any_each (p ∷ ps) = All-cons (TypeIn symbols) type.Any (map (λ param. type.Any) ps) (of_any symbols) (any_each ps)

  no_trait : (is_trait : Bool) (ty : HackType) → TypeIn symbols ty → IfSome (cond is_trait None (Some ty)) (TypeIn symbols)
  no_trait true ty here = tt
  no_trait false ty here = here

  pub in_type_by : (name : ℕ) (declared : Option Declared) → IsTrue (symbols (class_symbol name)) → IfSome (type_by name declared) (TypeIn symbols)
  in_type_by name None here = tt
  in_type_by name (Some declared) here =
      no_trait declared.is_trait (type.Class name (map (λ param. type.Any) declared.type_params))
      (of_class symbols name (map (λ param. type.Any) declared.type_params) here (any_each declared.type_params))
