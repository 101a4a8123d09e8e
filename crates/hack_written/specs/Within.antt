-- What questions about bounds are given (docs/language.md, Written types).
use Rattle.std.specs.Prelude.{List, [], ◌∷◌, All}
use Rattle.hack_tree.specs.declared.written_type.WrittenType.{WrittenType, out-WrittenType}
use Rattle.hack_tree.specs.declared.written_type.ClassType.{ClassType}
use Rattle.hack_tree.specs.declared.written_type.FieldType.{FieldType}
use Rattle.hack_tree.specs.declared.written_type.WrittenType.TheOpen.{WrittenType-F}
use Rattle.hack_types.specs.declared.hack_type.HackType.{HackType}
use Rattle.hack_types.specs.declared.place.Place.{Place}
use Rattle.hack_types.specs.declared.signature.TypeParam.{TypeParam}
use Rattle.hack_decls.specs.DeclState.{Symbols}
use Rattle.hack_decls.specs.Names.{TypeIn, types_of_param}
use Rattle.hack_sub.specs.Named.{Around}
use Rattle.hack_sub.specs.declared.scope.Scope.{Scope}
use Rattle.hack_rules.specs.WrittenTypes.{Argument}

-- what the type names, and what the parameter's bounds name once this is put into them, is among these symbols
pub record BoundsIn (symbols : Symbols) (put : HackType → HackType) (param : TypeParam) (ty : HackType) : Type 0 where
  pub given : TypeIn symbols ty
  pub upper : All (λ bound. TypeIn symbols (put bound)) param.upper
  pub lower : All (λ bound. TypeIn symbols (put bound)) param.lower

-- and what the scope names
pub record WithinIn (symbols : Symbols) (scope : Scope) (put : HackType → HackType) (param : TypeParam) (ty : HackType) : Type 0 where
  pub around : Around symbols scope
  pub bounds : BoundsIn symbols put param ty

-- the same of a list of bounds
pub record ListIn (symbols : Symbols) (scope : Scope) (put : HackType → HackType) (bounds : List HackType) (ty : HackType) : Type 0 where
  pub around : Around symbols scope
  pub given : TypeIn symbols ty
  pub put_in : All (λ bound. TypeIn symbols (put bound)) bounds

-- what the bounds of these parameters name is among these symbols
abbrev pub ParamsIn : Symbols → List TypeParam → Type 0
ParamsIn symbols params = All (λ param. All (TypeIn symbols) (types_of_param param)) params

-- the place of the first token of a written type
abbrev pub place_by : WrittenType-F WrittenType ClassType FieldType → Place
place_by (WrittenType-F.Optional at inner) = at
place_by (WrittenType-F.Primitive at primitive) = at
place_by (WrittenType-F.This at) = at
place_by (WrittenType-F.Container at container element) = at
place_by (WrittenType-F.Dict at key value) = at
place_by (WrittenType-F.Shape at fields rest) = at
place_by (WrittenType-F.Class class) = class.at

abbrev pub place_of : WrittenType → Place
place_of ty = place_by (out-WrittenType ty)

-- arguments that are written so and have these types
abbrev pub arguments_of : List WrittenType → List HackType → List Argument
arguments_of (ty ∷ written) (own ∷ types) = record { at = place_of ty; ty = own } ∷ arguments_of written types
arguments_of _ _ = []
