-- Names that are type parameters, and names that aren't.
use Rattle.std.proofs.Common.{◌≡◌, ◌||◌, ℕ, Option, Some, None, List, [], ◌∷◌, All, IsTrue, refl, sym, ap, subst, is_some, if◌then◌else◌}
use Rattle.std.proofs.lemmas.List.Elements.{All-head}
use Rattle.hack_types.specs.declared.hack_type.HackType.{HackType}
use Rattle.hack_types.specs.declared.hack_type.HackType.TheVariants as type
use Rattle.hack_shallow.specs.Scope.{Scope as Names, first_at, named, named_by}
use Rattle.hack_decls.specs.DeclState.{Map, Symbols}
use Rattle.hack_decls.specs.Names.{TypeIn, class_symbol}
use Rattle.hack_rules.specs.Walks.{Setting, State, Walk, ◌>>=◌, pure}
use Rattle.hack_rules.specs.WrittenTypes.{is_parameter}
use Rattle.hack_written.specs.WrittenIn.{NameIn}
use Rattle.hack_written.specs.inside.Rows.{parameter_by, parameter_of, told}
use Rattle.hack_written.proofs.Named.{of_class_param, of_fun_param}

-- by the positions in both lists
module _ (name : ℕ) (types : List HackType) (checks : Walk (Unit {0})) (setting : Setting) (m : Map) (s : State) where
  abbrev whole : Option ℕ → Option ℕ → HackType × State
  whole f c = told (if is_some f || is_some c then pure tt else checks) (named_by name types f c) setting m s

  some_by : (p : HackType) (f c : Option ℕ) → Some p ≡ parameter_by name f c → whole f c ≡ (p, s)
  unfolding ◌>>=◌ pure
  some_by p (Some i) c is = let same : p ≡ type.FunParam i name = cc in ap (λ (t : HackType). (t, s)) (sym same)
  some_by p None (Some i) is = let same : p ≡ type.ClassParam i name = cc in ap (λ (t : HackType). (t, s)) (sym same)
  some_by p None None is = let no : ⊥ = cc in absurd no

  none_by : (f c : Option ℕ) → None ≡ parameter_by name f c → whole f c ≡ told checks (type.Class name types) setting m s
  none_by (Some i) c is = let no : ⊥ = cc in absurd no
  none_by None (Some i) is = let no : ⊥ = cc in absurd no
  none_by None None is = refl

module _ (names : Names) (name : ℕ) where
  pub some_parameter : (p : HackType) (types : List HackType) (checks : Walk (Unit {0})) (setting : Setting) (m : Map) (s : State) → Some p ≡ parameter_of names name
      → told (if is_parameter names name then pure tt else checks) (named names name types) setting m s ≡ (p, s)
  some_parameter p types checks setting m s is = some_by name types checks setting m s p (first_at name names.function) (first_at name names.class) is

  pub no_parameter : (types : List HackType) (checks : Walk (Unit {0})) (setting : Setting) (m : Map) (s : State) → None ≡ parameter_of names name
      → told (if is_parameter names name then pure tt else checks) (named names name types) setting m s ≡ told checks (type.Class name types) setting m s
  no_parameter types checks setting m s is = none_by name types checks setting m s (first_at name names.function) (first_at name names.class) is

in_by : (symbols : Symbols) (name : ℕ) (p : HackType) (f c : Option ℕ) → Some p ≡ parameter_by name f c → TypeIn symbols p
in_by symbols name p (Some i) c is = let same : type.FunParam i name ≡ p = cc in subst (TypeIn symbols) same (of_fun_param symbols i name)
in_by symbols name p None (Some i) is = let same : type.ClassParam i name ≡ p = cc in subst (TypeIn symbols) same (of_class_param symbols i name)
in_by symbols name p None None is = let no : ⊥ = cc in absurd no

pub in_parameter : (symbols : Symbols) (names : Names) (name : ℕ) (p : HackType) → Some p ≡ parameter_of names name → TypeIn symbols p
in_parameter symbols names name p is = in_by symbols name p (first_at name names.function) (first_at name names.class) is

-- what is declared under a name that is no parameter
declared_by : (symbols : Symbols) (name : ℕ) (f c : Option ℕ) → None ≡ parameter_by name f c
    → All (λ s. IsTrue (symbols s)) (if is_some f || is_some c then [] else class_symbol name ∷ []) → IsTrue (symbols (class_symbol name))
declared_by symbols name (Some i) c is all = let no : ⊥ = cc in absurd no
declared_by symbols name None (Some i) is all = let no : ⊥ = cc in absurd no
declared_by symbols name None None is all = All-head (λ s. IsTrue (symbols s)) (class_symbol name) [] all

pub in_declared : (symbols : Symbols) (names : Names) (name : ℕ) → None ≡ parameter_of names name → NameIn names symbols name → IsTrue (symbols (class_symbol name))
in_declared symbols names name is all = declared_by symbols name (first_at name names.function) (first_at name names.class) is all
