-- Heads: what a type is once aliases and parameters are looked through (docs/language.md, Typing expressions, Heads).
use Rattle.std.specs.Prelude.{ℕ, zero, suc, ◌==◌, Bool, false, if◌then◌else◌, Option, Some, None, List, [], ◌∷◌, unwrap_or}
use Rattle.hack_types.specs.declared.hack_type.HackType.{HackType, out-HackType}
use Rattle.hack_types.specs.declared.hack_type.HackType.TheOpen.{HackType-F}
use Rattle.hack_types.specs.declared.hack_type.HackType.TheVariants.{Any, Mixed}
use Rattle.hack_types.specs.declared.signature.TypeParam.{TypeParam}
use Rattle.hack_decls.specs.DeclState.{Map}
use Rattle.hack_sub.specs.Knowing.{is_bad, known}
use Rattle.hack_sub.specs.Scopes.{class_type, param_of}
use Rattle.hack_sub.specs.declared.scope.Scope.{Scope}
use Rattle.hack_infer.specs.Seeing.{most_steps, opened}

-- the first of some bounds
abbrev pub first_or_mixed : List HackType → HackType
first_or_mixed [] = Mixed
first_or_mixed (bound ∷ bounds) = bound

-- the first bound behind `as`, and `mixed` where there is none
abbrev pub first_bound : Option TypeParam → HackType
first_bound None = Mixed
first_bound (Some param) = first_or_mixed param.upper

-- aliases, and parameters of both kinds
abbrev pub step_by : Map → Scope → HackType → HackType-F HackType → Option HackType
step_by map scope ty (HackType-F.Class name arguments) = opened map ty
step_by map scope ty (HackType-F.ClassParam position name) = Some (first_bound (param_of scope ty))
step_by map scope ty (HackType-F.FunParam position name) = Some (first_bound (param_of scope ty))
step_by map scope ty _ = None

-- the type one step on: an alias is expanded, and a parameter becomes its bound
abbrev pub step : Map → Scope → HackType → Option HackType
step map scope ty = step_by map scope ty (out-HackType ty)

-- the same of the scope's class, where there is one
abbrev pub is_named_by : ℕ → Option (ℕ × List TypeParam) → Bool
is_named_by name None = false
is_named_by name (Some class) = class.0 == name

-- whether a name is that of the scope's class
abbrev pub is_class_of : Scope → ℕ → Bool
is_class_of scope name = is_named_by name scope.class

-- by the type's own constructor
abbrev pub settled_by : Map → Scope → HackType → HackType-F HackType → HackType
settled_by map scope ty HackType-F.This = unwrap_or (class_type scope) Any
settled_by map scope ty (HackType-F.Class name arguments) =
    if is_bad (known map ty) then (if is_class_of scope name then ty else Any) else ty
settled_by map scope ty _ = ty

-- where no step goes on: `this` is the scope's class with its parameters, a bad type is `_` unless it is of the scope's class, and any
-- other is itself
abbrev pub settled : Map → Scope → HackType → HackType
settled map scope ty = settled_by map scope ty (out-HackType ty)

-- once so many steps were made, a further one gives `_`
abbrev pub head_by : (HackType → HackType) → Map → Scope → HackType → Option HackType → HackType
head_by go_on map scope ty None = settled map scope ty
head_by go_on map scope ty (Some next) = go_on next

-- the head, in at most so many steps
unfoldable pub head_within : ℕ → Map → Scope → HackType → HackType
head_within zero map scope ty = head_by (λ next. Any) map scope ty (step map scope ty)
head_within (suc steps) map scope ty = head_by (head_within steps map scope) map scope ty (step map scope ty)

-- the head of a type
abbrev pub head_of : Map → Scope → HackType → HackType
head_of map scope ty = head_within most_steps map scope ty
