-- What the calls of the crate say to each other.
use Rattle.std.specs.Prelude.{◌≡◌, ◌==◌, ◌||◌, ℕ, not, Result, Ok, Option, Some, None, List, All, length, if◌then◌else◌, option_map, IsTrue, map}
use denote.Ref.{Bor, MutBor}
use Rattle.hack_types.specs.Substituted.{limited}
use Rattle.hack_types.specs.declared.hack_type.HackType.{HackType}
use Rattle.hack_types.specs.declared.shallow.Sort.{Sort}
use Rattle.hack_types.specs.declared.signature.TypeParam.{TypeParam}
use Rattle.hack_decls.specs.Asks.{Asks}
use Rattle.hack_decls.specs.DeclState.{DeclState, Map, Symbols}
use Rattle.hack_decls.specs.Names.{class_symbol, TypeIn}
use Rattle.hack_decls.specs.declared.answers.AncestorAnswer.{AncestorAnswer}
use Rattle.hack_decls.specs.declared.answers.AncestorAnswer.TheVariants as ancestor
use Rattle.hack_decls.specs.declared.answers.HeadingAnswer.{HeadingAnswer}
use Rattle.hack_decls.specs.declared.answers.HeadingAnswer.TheVariants as heading
use Rattle.hack_decls.specs.declared.folded.Folded.{Folded}
use Rattle.hack_decls.specs.declared.stop.DeclStop.{DeclStop}
use Rattle.hack_sub.specs.Knowing.{expanded_by, is_bad, is_trait, known_by}
use Rattle.hack_sub.specs.Parts.{keyed_container}
use Rattle.hack_infer.specs.Matching.{match_in}
use Rattle.hack_infer.specs.Named.{PairsIn}
use Rattle.hack_infer.specs.Seeing.{put_in, sight_by}
use Rattle.hack_infer.specs.declared.sight.Sight.{Sight}
use Rattle.hack_infer.specs.declared.sight.Sight.TheVariants as sight
use Rattle.hack_infer.specs.declared.taken.Taken.{Taken}

-- ---- what is seen

-- a type with these arguments whose name stands for this declaration
abbrev pub looked_at : List HackType → Option Folded → Sight
looked_at arguments entry = sight_by (is_bad (known_by (length arguments) entry)) (option_map limited (expanded_by arguments entry))

abbrev pub class_sight : ℕ → Sort → List TypeParam → Sight
class_sight count which params = if is_trait which || not (count == length params) then sight.Bad else sight.Other

abbrev pub enum_sight : ℕ → Sight
enum_sight count = if count == 0 then sight.Other else sight.Bad

abbrev pub alias_sight : List HackType → List TypeParam → HackType → Sight
alias_sight arguments params body = if length arguments == length params then sight.Alias (put_in arguments body) else sight.Bad

-- the same, as a heading says it
abbrev pub sight_in : List HackType → HeadingAnswer → Sight
sight_in arguments (heading.ClassLike class) = class_sight (length arguments) class.sort class.type_params
sight_in arguments (heading.Enum sig) = enum_sight (length arguments)
sight_in arguments (heading.Alias sig) = alias_sight arguments sig.type_params sig.body
sight_in arguments _ = sight.Bad

-- what an alias stands for
abbrev pub next_of : Sight → Option HackType
next_of (sight.Alias next) = Some next
next_of _ = None

-- the arguments of an ancestor
abbrev pub given_in : List HackType → AncestorAnswer → Option (List HackType)
given_in arguments (ancestor.At types) = Some (map (put_in arguments) types)
given_in arguments _ = None

-- a loop over some types so far: these of them are without null
abbrev pub PartsSoFar : {Base Held : Type 0} → DeclState Base Held → DeclState Base Held → (Map → HackType → HackType) → List HackType → List HackType → List HackType → Type 0
PartsSoFar old new f done all parts =
    Asks old (Ok tt) new (λ m (told : Unit {0}). parts ≡ map (f m) done) (λ symbols. All (TypeIn symbols) all) (λ symbols told. All (TypeIn symbols) parts)

-- ---- what is taken

-- all that was taken names only these symbols
pub record TakenIn (symbols : Symbols) (taken : Taken) : Type 0 where
  pub found : All (λ took. TypeIn symbols took.ty) taken.found

-- a call that takes: behind it is taken what this says
abbrev pub Takes : {Base Held : Type 0} → DeclState Base Held → Result (Unit {0}) DeclStop → DeclState Base Held → Taken → Taken
    → (Map → Taken) → (Symbols → Type 0) → Type 0
Takes old result new before after says Names =
    Asks old result new (λ map (done : Unit {0}). after ≡ says map) (λ symbols. Names symbols × TakenIn symbols before)
    (λ symbols done. TakenIn symbols after)

-- a loop so far: the whole is what is left of it, from what was taken
abbrev pub Left : {Base Held : Type 0} → DeclState Base Held → DeclState Base Held → Taken → Taken → (Map → Taken) → (Map → Taken) → (Symbols → Type 0) → Type 0
Left {Base} {Held} old new before now whole rest Names =
    Asks old (Ok tt) new (λ map (done : Unit {0}). whole map ≡ rest map) (λ symbols. Names symbols × TakenIn symbols before)
    (λ symbols done. TakenIn symbols now)

-- these types, and `KeyedContainer`, are among these symbols
pub record PairIn (symbols : Symbols) (W G : HackType) : Type 0 where
  pub keyed : IsTrue (symbols (class_symbol keyed_container))
  pub wanted : TypeIn symbols W
  pub given : TypeIn symbols G

pub record MembersIn (symbols : Symbols) (W : HackType) (Gs : List HackType) : Type 0 where
  pub keyed : IsTrue (symbols (class_symbol keyed_container))
  pub wanted : TypeIn symbols W
  pub members : All (TypeIn symbols) Gs

pub record BothIn (symbols : Symbols) (key other_key value other_value : HackType) : Type 0 where
  pub keys : PairIn symbols key other_key
  pub values : PairIn symbols value other_value

pub record NamedIn (symbols : Symbols) (Ws : List HackType) (G : HackType) : Type 0 where
  pub keyed : IsTrue (symbols (class_symbol keyed_container))
  pub wanted : All (TypeIn symbols) Ws
  pub given : TypeIn symbols G

pub record ClassIn (symbols : Symbols) (name : ℕ) (Ws Gs : List HackType) : Type 0 where
  pub class : IsTrue (symbols (class_symbol name))
  pub pairs : PairsIn symbols Ws Gs

-- a function value that matches one pair, so deep
pub record Matching {Alloc D Base Held : Type 0} (state : D → DeclState Base Held) (depth : ℕ)
    (pre : Alloc → MutBor D → ℕ → Bor HackType → Bor HackType → MutBor Taken → Type 0)
    (post : Alloc → MutBor D → ℕ → Bor HackType → Bor HackType → MutBor Taken → Result (Unit {0}) DeclStop → MutBor D → MutBor Taken → Type 0) : Type 0 where
  pub callable : (alloc : Alloc) (decls : MutBor D) (wanted given : Bor HackType) (taken : MutBor Taken) → pre alloc decls depth wanted given taken
  pub takes : (alloc : Alloc) (decls : MutBor D) (wanted given : Bor HackType) (taken : MutBor Taken) (result : Result (Unit {0}) DeclStop) (after : MutBor D) (last : MutBor Taken)
      → post alloc decls depth wanted given taken result after last
      → Takes (state decls.now) result (state after.now) taken.now last.now (λ map. match_in depth map wanted.now given.now taken.now)
      (λ symbols. PairIn symbols wanted.now given.now)
