-- What a written name stands for (docs/language.md, Types and their texts).
use Rattle.std.specs.Prelude.{ℕ, suc, List, [], ◌∷◌, ◌==◌, if◌then◌else◌, Option, Some, None, map}
use Rattle.std.specs.Option.{option_map}
use Rattle.hack_tree.specs.declared.declaration.TypeParameter.{TypeParameter}
use Rattle.hack_types.specs.declared.hack_type.HackType.{HackType}
use Rattle.hack_types.specs.declared.hack_type.HackType.TheVariants.{Class, ClassParam, FunParam}

-- the names of the type parameters around a written type, of the class or alias and of the function or method
pub record Scope : Type 0 where
  pub class : List ℕ
  pub function : List ℕ

abbrev pub names_of : List TypeParameter → List ℕ
names_of parameters = map (λ p. p.name.name) parameters

-- where a name stands first among these, from 0
abbrev pub first_at : ℕ → List ℕ → Option ℕ
first_at name [] = None
first_at name (n ∷ names) = if n == name then Some 0 else option_map suc (first_at name names)

-- by its positions in the function's list and in the class's list
abbrev pub named_by : ℕ → List HackType → Option ℕ → Option ℕ → HackType
named_by name arguments (Some index) class = FunParam index name
named_by name arguments None (Some index) = ClassParam index name
named_by name arguments None None = Class name arguments

-- a parameter of the function, else one of the class, else what is declared under the name; a parameter takes no arguments
abbrev pub named : Scope → ℕ → List HackType → HackType
named scope name arguments = named_by name arguments (first_at name scope.function) (first_at name scope.class)
