-- What a scope says of type parameters and of `this` (docs/language.md, Subtyping).
use Rattle.std.specs.Prelude.{ℕ, suc, Option, Some, None, List, [], ◌∷◌, ◌++◌, All, slice_get, flat_map, IsTrue, IfSome}
use Rattle.hack_types.specs.declared.hack_type.HackType.{HackType, out-HackType}
use Rattle.hack_types.specs.declared.hack_type.HackType.TheOpen.{HackType-F}
use Rattle.hack_types.specs.declared.hack_type.HackType.TheVariants.{Class, ClassParam}
use Rattle.hack_types.specs.declared.signature.TypeParam.{TypeParam}
use Rattle.hack_decls.specs.DeclState.{Symbols}
use Rattle.hack_decls.specs.Names.{class_symbol, types_of_param, TypeIn}
use Rattle.hack_sub.specs.declared.scope.Scope.{Scope}

abbrev pub class_params_by : Option (ℕ × List TypeParam) → List TypeParam
class_params_by (Some class) = class.1
class_params_by None = []

-- the parameter that a type is, by its position in the scope's lists
abbrev pub param_by : Scope → HackType-F HackType → Option TypeParam
param_by scope (HackType-F.ClassParam position name) = slice_get (class_params_by scope.class) position
param_by scope (HackType-F.FunParam position name) = slice_get scope.fun_params position
param_by scope _ = None

abbrev pub param_of : Scope → HackType → Option TypeParam
param_of scope type = param_by scope (out-HackType type)

-- these parameters as types, the first at this position
abbrev pub own_params : ℕ → List TypeParam → List HackType
own_params position [] = []
own_params position (param ∷ params) = ClassParam position param.name ∷ own_params (suc position) params

-- the class with its own parameters
abbrev pub class_type_by : Option (ℕ × List TypeParam) → Option HackType
class_type_by (Some class) = Some (Class class.0 (own_params 0 class.1))
class_type_by None = None

abbrev pub class_type : Scope → Option HackType
class_type scope = class_type_by scope.class

-- the types of a scope: the bounds of its parameters and what has to be returned
abbrev pub scope_types : Scope → List HackType
scope_types scope = flat_map types_of_param (class_params_by scope.class) ++ flat_map types_of_param scope.fun_params ++ scope.result ∷ []

-- all that the scope names is among these symbols
abbrev pub ScopeIn : Symbols → Scope → Type 0
ScopeIn symbols scope = IfSome scope.class (λ class. IsTrue (symbols (class_symbol class.0))) × All (TypeIn symbols) (scope_types scope)
