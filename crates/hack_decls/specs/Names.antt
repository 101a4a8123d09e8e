-- The symbols that a type and a folded declaration name.
use Rattle.std.specs.Prelude.{ℕ, List, [], ◌∷◌, ◌++◌, All, map, IsTrue}
use Rattle.std.specs.List.{flat_map}
use Rattle.hack_types.specs.declared.hack_type.HackType.{HackType}
use Rattle.hack_types.specs.declared.hack_type.HackType.TheOpen.{HackType-F}
use Rattle.hack_types.specs.declared.hack_type.HackType.TheFolds.{fold-HackType}
use Rattle.hack_types.specs.declared.hack_type.HackType.TheVariants as type
use Rattle.hack_types.specs.declared.ids.Kind.TheVariants.{Class}
use Rattle.hack_types.specs.declared.ids.SymbolId.{SymbolId}
use Rattle.hack_types.specs.declared.shallow.MemberKind.{MemberKind}
use Rattle.hack_types.specs.declared.shallow.MemberKind.TheVariants as kind
use Rattle.hack_types.specs.declared.signature.Signature.{Signature}
use Rattle.hack_types.specs.declared.signature.TypeParam.{TypeParam}
use Rattle.hack_decls.specs.declared.folded.ClassFolded.{ClassFolded}
use Rattle.hack_decls.specs.declared.folded.Folded.{Folded}
use Rattle.hack_decls.specs.declared.folded.Folded.TheVariants as folded
use Rattle.hack_decls.specs.DeclState.{Symbols}

-- the symbol of a class, an interface, a trait, an enum or an alias
abbrev pub class_symbol : ℕ → SymbolId
class_symbol name = record { kind = Class; name = name }

-- one constructor, with the symbols of each type inside in its place
abbrev pub symbols_by : HackType-F (List SymbolId) → List SymbolId
symbols_by (HackType-F.Option inside) = inside
symbols_by (HackType-F.Vector item) = item
symbols_by (HackType-F.Dict key value) = key ++ value
symbols_by (HackType-F.Keyset item) = item
symbols_by (HackType-F.Shape fields rest) = flat_map (λ field. field.ty) fields
symbols_by (HackType-F.Class name arguments) = class_symbol name ∷ flat_map (λ symbols. symbols) arguments
symbols_by (HackType-F.Union members) = flat_map (λ symbols. symbols) members
symbols_by _ = []

unfoldable pub symbols_in : HackType → List SymbolId
symbols_in = fold-HackType (List SymbolId) symbols_by

-- all that the type names is among these
unfoldable pub TypeIn : Symbols → HackType → Type 0
TypeIn symbols ty = All (λ s. IsTrue (symbols s)) (symbols_in ty)

-- the types of a declaration
abbrev pub types_of_param : TypeParam → List HackType
types_of_param param = param.upper ++ param.lower

abbrev pub types_of_signature : Signature → List HackType
types_of_signature sig = flat_map types_of_param sig.type_params ++ map (λ param. param.ty) sig.params ++ sig.result ∷ []

abbrev pub types_of_kind : MemberKind → List HackType
types_of_kind (kind.Constant ty) = ty ∷ []
types_of_kind (kind.Property ty) = ty ∷ []
types_of_kind (kind.Method sig) = types_of_signature sig

abbrev pub types_of_class : ClassFolded → List HackType
types_of_class class =
    flat_map types_of_param class.type_params
    ++ map (λ ancestor. type.Class ancestor.name ancestor.arguments) class.ancestors
    ++ flat_map (λ member. types_of_kind member.kind) class.members

abbrev pub types_of : Folded → List HackType
types_of (folded.ClassLike class) = types_of_class class
types_of (folded.Enum sig) = sig.base ∷ []
types_of (folded.Alias sig) = flat_map types_of_param sig.type_params ++ sig.body ∷ []
types_of (folded.Function sig) = types_of_signature sig
types_of (folded.Constant ty) = ty ∷ []

-- all that the declaration names is among these
abbrev pub FoldedIn : Symbols → Folded → Type 0
FoldedIn symbols declaration = All (TypeIn symbols) (types_of declaration)
