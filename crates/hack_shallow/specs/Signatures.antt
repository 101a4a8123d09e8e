-- The signatures of functions and methods (docs/language.md, Signatures).
use Rattle.std.specs.Prelude.{List, [], ◌∷◌, map, Option, Some, None, is_some}
use Rattle.std.specs.List.{flat_map}
use Rattle.hack_tree.specs.declared.declaration.Variance.{Variance as Sign}
use Rattle.hack_tree.specs.declared.declaration.Variance.TheVariants as sign
use Rattle.hack_tree.specs.declared.declaration.Bound.{Bound}
use Rattle.hack_tree.specs.declared.declaration.BoundKind.{BoundKind}
use Rattle.hack_tree.specs.declared.declaration.BoundKind.TheVariants.{As, Super}
use Rattle.hack_tree.specs.declared.declaration.TypeParameter.{TypeParameter}
use Rattle.hack_tree.specs.declared.declaration.Parameter.{Parameter}
use Rattle.hack_tree.specs.declared.declaration.Callable.{Callable}
use Rattle.hack_tree.specs.declared.written_type.WrittenType.{WrittenType}
use Rattle.hack_types.specs.declared.hack_type.HackType.{HackType}
use Rattle.hack_types.specs.declared.signature.Variance.{Variance}
use Rattle.hack_types.specs.declared.signature.Variance.TheVariants.{Invariant, Covariant, Contravariant}
use Rattle.hack_types.specs.declared.signature.TypeParam.{TypeParam}
use Rattle.hack_types.specs.declared.signature.Param.{Param}
use Rattle.hack_types.specs.declared.signature.Signature.{Signature}
use Rattle.hack_shallow.specs.Scope.{Scope}
use Rattle.hack_shallow.specs.Resolved.{type_of}

abbrev pub variance_of : Option Sign → Variance
variance_of None = Invariant
variance_of (Some sign.Covariant) = Covariant
variance_of (Some sign.Contravariant) = Contravariant

-- a bound, where it stands behind `as`, and where it stands behind `super`
abbrev pub behind_as : BoundKind → HackType → List HackType
behind_as As bound = bound ∷ []
behind_as Super bound = []

abbrev pub behind_super : BoundKind → HackType → List HackType
behind_super As bound = []
behind_super Super bound = bound ∷ []

abbrev pub upper_bound : Scope → Bound → List HackType
upper_bound scope bound = behind_as bound.kind (type_of scope bound.written)

abbrev pub lower_bound : Scope → Bound → List HackType
lower_bound scope bound = behind_super bound.kind (type_of scope bound.written)

abbrev pub type_param : Scope → TypeParameter → TypeParam
type_param scope p = record {
  name = p.name.name;
  variance = variance_of p.variance;
  upper = flat_map (upper_bound scope) p.bounds;
  lower = flat_map (lower_bound scope) p.bounds;
}

abbrev pub type_params : Scope → List TypeParameter → List TypeParam
type_params scope parameters = map (type_param scope) parameters

-- a parameter may be left out where it has a default value
abbrev pub param : Scope → Parameter → Param
param scope p = record { ty = type_of scope p.written; optional = is_some p.default }

-- the type behind `:`, or the one that stands for a missing one
abbrev pub result_of : Scope → HackType → Option WrittenType → HackType
result_of scope missing None = missing
result_of scope missing (Some written) = type_of scope written

-- in the scope of its own type parameters
abbrev pub signature : Scope → HackType → Callable → Signature
signature scope missing callable = record {
  type_params = type_params scope callable.type_parameters;
  params = map (param scope) callable.parameters;
  result = result_of scope missing callable.result;
}
