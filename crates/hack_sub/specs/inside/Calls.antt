-- What the calls of the crate say to each other.
use Rattle.std.specs.Prelude.{◌≡◌, ◌==◌, ℕ, Bool, Result, Ok, Option, None, List, [], All, length, if◌then◌else◌, IsTrue, map}
use denote.Ref.{Bor, MutBor}
use Rattle.hack_types.specs.declared.fields.Field.{Field}
use Rattle.hack_types.specs.declared.hack_type.HackType.{HackType}
use Rattle.hack_types.specs.declared.signature.TypeParam.{TypeParam}
use Rattle.hack_types.specs.Substituted.{substitute}
use Rattle.hack_decls.specs.Asks.{Asks, Nothing}
use Rattle.hack_decls.specs.DeclState.{DeclState, Map, Symbols}
use Rattle.hack_decls.specs.Names.{class_symbol, TypeIn}
use Rattle.hack_decls.specs.declared.answers.AncestorAnswer.{AncestorAnswer}
use Rattle.hack_decls.specs.declared.answers.AncestorAnswer.TheVariants as ancestor
use Rattle.hack_decls.specs.declared.answers.HeadingAnswer.{HeadingAnswer}
use Rattle.hack_decls.specs.declared.answers.HeadingAnswer.TheVariants as heading
use Rattle.hack_decls.specs.declared.stop.DeclStop.{DeclStop}
use Rattle.hack_sub.specs.IsBelow.{all_small, bound_of, is_below, small_only}
use Rattle.hack_sub.specs.Knowing.{known_class}
use Rattle.hack_sub.specs.Named.{Around, PairIn}
use Rattle.hack_sub.specs.declared.known.Known.{Known}
use Rattle.hack_sub.specs.declared.known.Known.TheVariants as sorts
use Rattle.hack_sub.specs.declared.scope.Scope.{Scope}

-- a call that answers a test over each map
abbrev pub Tells : {Base Held : Type 0} → DeclState Base Held → Result Bool DeclStop → DeclState Base Held → (Map → Bool) → (Symbols → Type 0) → Type 0
Tells old result new test Names = Asks old result new (λ map answer. answer ≡ test map) Names Nothing

-- a loop so far: the whole test is what is left of it
abbrev pub SoFar : {Base Held : Type 0} → DeclState Base Held → DeclState Base Held → (Map → Bool) → (Map → Bool) → (Symbols → Type 0) → Type 0
SoFar {Base} {Held} old new whole rest Names = Asks old (Ok tt) new (λ map (done : Unit {0}). whole map ≡ rest map) Names Nothing

-- ---- what is named by the scope and by these types

pub record OneIn (symbols : Symbols) (scope : Scope) (T : HackType) : Type 0 where
  pub around : Around symbols scope
  pub upper : TypeIn symbols T

pub record BothIn (symbols : Symbols) (scope : Scope) (S T U V : HackType) : Type 0 where
  pub around : Around symbols scope
  pub lower : TypeIn symbols S
  pub upper : TypeIn symbols T
  pub next_lower : TypeIn symbols U
  pub next_upper : TypeIn symbols V

pub record ManyIn (symbols : Symbols) (scope : Scope) (types : List HackType) (T : HackType) : Type 0 where
  pub around : Around symbols scope
  pub many : All (TypeIn symbols) types
  pub other : TypeIn symbols T

pub record FieldsIn (symbols : Symbols) (scope : Scope) (fs gs : List (Field HackType)) : Type 0 where
  pub around : Around symbols scope
  pub fields : All (λ field. TypeIn symbols field.ty) fs
  pub others : All (λ field. TypeIn symbols field.ty) gs

pub record FieldIn (symbols : Symbols) (scope : Scope) (fs : List (Field HackType)) (T : HackType) : Type 0 where
  pub around : Around symbols scope
  pub fields : All (λ field. TypeIn symbols field.ty) fs
  pub other : TypeIn symbols T

pub record ArgumentsIn (symbols : Symbols) (scope : Scope) (Us Vs : List HackType) : Type 0 where
  pub around : Around symbols scope
  pub lowers : All (TypeIn symbols) Us
  pub uppers : All (TypeIn symbols) Vs

-- and by these names
pub record FitIn (symbols : Symbols) (scope : Scope) (d : ℕ) (Us Vs : List HackType) : Type 0 where
  pub name : IsTrue (symbols (class_symbol d))
  pub arguments : ArgumentsIn symbols scope Us Vs

pub record NamesFitIn (symbols : Symbols) (scope : Scope) (c d : ℕ) (Us Vs : List HackType) : Type 0 where
  pub class : IsTrue (symbols (class_symbol c))
  pub fit : FitIn symbols scope d Us Vs

-- a function value that tells of two types whether one is below the other by a tree of this height
pub record Relates {Alloc D Base Held : Type 0} (state : D → DeclState Base Held) (height : ℕ)
    (pre : Alloc → MutBor D → Bor Scope → ℕ → Bor HackType → Bor HackType → Type 0)
    (post : Alloc → MutBor D → Bor Scope → ℕ → Bor HackType → Bor HackType → Result Bool DeclStop → MutBor D → Type 0) : Type 0 where
  pub callable : (alloc : Alloc) (decls : MutBor D) (scope : Bor Scope) (lower upper : Bor HackType) → pre alloc decls scope height lower upper
  pub tells : (alloc : Alloc) (decls : MutBor D) (scope : Bor Scope) (lower upper : Bor HackType) (result : Result Bool DeclStop) (after : MutBor D)
      → post alloc decls scope height lower upper result after
      → Tells (state decls.now) result (state after.now) (λ map. is_below map scope.now height lower.now upper.now)
      (λ symbols. PairIn symbols scope.now lower.now upper.now)

-- what a heading says, as what is declared says it
abbrev pub known_heading : ℕ → HeadingAnswer → Known
known_heading count (heading.ClassLike class) = known_class count class.sort class.type_params class.partial
known_heading count (heading.Enum sig) = if count == 0 then sorts.Enum else sorts.Bad
known_heading count (heading.Alias sig) = if count == length sig.type_params then sorts.Alias else sorts.Bad
known_heading count _ = sorts.Bad

abbrev pub body_in : List HackType → HeadingAnswer → Option HackType
body_in arguments (heading.Alias sig) =
    if length arguments == length sig.type_params then small_only (substitute arguments sig.body) else None
body_in arguments _ = None

abbrev pub base_in : ℕ → HeadingAnswer → Option HackType
base_in count (heading.Enum sig) = if count == 0 then bound_of sig else None
base_in count _ = None

abbrev pub params_in : HeadingAnswer → List TypeParam
params_in (heading.ClassLike class) = class.type_params
params_in (heading.Alias sig) = sig.type_params
params_in _ = []

abbrev pub given_in : List HackType → AncestorAnswer → Option (List HackType)
given_in arguments (ancestor.At types) = all_small (map (substitute arguments) types)
given_in arguments _ = None
