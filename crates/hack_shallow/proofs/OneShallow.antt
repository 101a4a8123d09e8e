-- A declaration has one signature.
use Rattle.std.proofs.Common.{◌≡◌, ◌↔◌, IsTrue, Bool, true, false, List, Option, sym, ap, ◌∙◌, refl}
use Rattle.hack_tree.specs.declared.declaration.EnumCase.{EnumCase}
use Rattle.hack_tree.specs.declared.declaration.UnitTree.{UnitTree}
use Rattle.hack_tree.specs.declared.declaration.UnitTree.TheVariants as unit
use Rattle.hack_tree.specs.declared.written_type.WrittenType.{WrittenType}
use Rattle.hack_types.specs.declared.hack_type.HackType.{HackType}
use Rattle.hack_types.specs.declared.shallow.EnumSig.{EnumSig}
use Rattle.hack_types.specs.declared.shallow.Shallow.{Shallow}
use Rattle.hack_types.specs.declared.shallow.Shallow.TheVariants.{Enum}
use Rattle.hack_shallow.specs.Shallow.{IsShallow, IsEnum, IsBounded}

same_truth : (a b : Bool) (P : Type 0) → IsTrue a ↔ P → IsTrue b ↔ P → a ≡ b
same_truth true true P first second = refl
same_truth false false P first second = refl
same_truth true false P first second = sym (second.1 (first.0 refl))
same_truth false true P first second = first.1 (second.0 refl)

same_enum : (type : HackType) (bound : Option WrittenType) (named : List EnumCase) (a b : EnumSig) → IsEnum type bound named a → IsEnum type bound named b → a ≡ b
same_enum type bound named a b first second = λ i. record {
  base = (first.base ∙ sym second.base) i;
  bounded = same_truth a.bounded b.bounded (IsBounded type bound) first.bounded second.bounded i;
  cases = (first.cases ∙ sym second.cases) i;
}

pub one : (tree : UnitTree) (a b : Shallow) → IsShallow tree a → IsShallow tree b → a ≡ b
one (unit.Function attributes callable body) a b first second = first ∙ sym second
one (unit.Class attributes modifiers name parameters extends implements members) a b first second = first ∙ sym second
one (unit.Interface attributes name parameters extends members) a b first second = first ∙ sym second
one (unit.Trait attributes name parameters implements members) a b first second = first ∙ sym second
one (unit.Enum attributes name base bound cases) a b first second = first.1 ∙ ap Enum (same_enum _ bound cases first.0 second.0 first.2 second.2) ∙ sym second.1
one (unit.Alias attributes name parameters aliased) a b first second = first ∙ sym second
one (unit.Constant attributes written name value) a b first second = first ∙ sym second
