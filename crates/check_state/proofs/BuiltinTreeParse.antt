-- The tokens of the builtin text are six declarations of classes, whatever their places and names are.
use Rattle.std.proofs.Common.{◌≡◌, ◌==◌, ◌&&◌, ℕ, Bool, true, false, true≢false, List, [], ◌∷◌, length, refl, sym}
use Rattle.std.specs.List.{list_all, AllByRecursion}
use Rattle.std.proofs.lemmas.Bool.{eqb-true}
use Rattle.hack_types.specs.declared.place.Place.{Place}
use Rattle.hack_types.specs.declared.ids.Kind.{Kind}
use Rattle.hack_types.specs.declared.ids.Kind.TheVariants as kinds
use Rattle.hack_parse_expr.specs.declared.lexeme.Lexeme.{Lexeme}
use Rattle.hack_parse_expr.specs.Input.{Input}
use Rattle.hack_parse_expr.specs.Symbols.{File, Declared, rule}
use Rattle.hack_parse_expr.specs.Parsers.{at_front}
use Rattle.hack_parse_expr.specs.Run.{Next, Goes, Ends, Stops, run, only, Stands}
use Rattle.hack_parse_file.specs.Files.{kind_of}
use Rattle.check_state.proofs.BuiltinTreeKinds.{builtin_kinds, of_kinds}

-- ---- what they stand for

abbrev pub is_class : Kind → Bool
is_class kinds.Class = true
is_class _ = false

abbrev pub is_nothing : List Lexeme → Bool
is_nothing [] = true
is_nothing (t ∷ ts) = false

-- a run has ended with six classes, and no token is left
abbrev pub are_six_classes : Next (List Declared) → Bool
are_six_classes (Goes s) = false
are_six_classes (Stops stop) = false
are_six_classes (Ends declared rest) = is_nothing rest.left && length declared == 6 && list_all (λ d. is_class (kind_of d.tree)) declared

-- what comes of the tokens of a file in enough steps
builtin_run : List Lexeme → Place → Next (List Declared)
builtin_run ls end = run 2000 (only (rule File) (at_front ls end))

-- of the builtin text: this is evaluated, and no step asks for a place or a name
builtin_reads : (rest : ℕ → Lexeme) (end : Place) → are_six_classes (builtin_run (of_kinds builtin_kinds rest) end) ≡ true
unfolding builtin_run
builtin_reads rest end = refl

-- the tokens of a file are six classes
pub record AreSixClasses (ls : List Lexeme) (end : Place) : Type 0 where
  pub declared : List Declared
  pub rest : Input
  pub stands : Stands (rule File) (at_front ls end) declared rest
  pub all : rest.left ≡ []
  pub six : length declared ≡ 6
  pub classes : AllByRecursion (λ (d : Declared). kind_of d.tree ≡ kinds.Class) declared

both : (a b : Bool) → (a && b) ≡ true → (a ≡ true) × (b ≡ true)
both true b e = (refl, e)
both false b e = absurd (true≢false (sym e))

nothing : (ts : List Lexeme) → is_nothing ts ≡ true → ts ≡ []
nothing [] e = refl
nothing (t ∷ ts) e = absurd (true≢false (sym e))

class : (k : Kind) → is_class k ≡ true → k ≡ kinds.Class
class kinds.Class e = refl
class k e = absurd (true≢false (sym e))

classes : (ds : List Declared) → list_all (λ d. is_class (kind_of d.tree)) ds ≡ true → AllByRecursion (λ (d : Declared). kind_of d.tree ≡ kinds.Class) ds
classes [] e = tt
classes (d ∷ ds) e = let two = both (is_class (kind_of d.tree)) (list_all (λ x. is_class (kind_of x.tree)) ds) e in (class (kind_of d.tree) two.0, classes ds two.1)

-- a run that has ended so
ended : (ls : List Lexeme) (end : Place) (n : Next (List Declared)) → builtin_run ls end ≡ n → are_six_classes n ≡ true → AreSixClasses ls end
unfolding builtin_run
ended ls end (Goes s) e h = absurd (true≢false (sym h))
ended ls end (Stops stop) e h = absurd (true≢false (sym h))
ended ls end (Ends declared rest) e h =
    let one = both (is_nothing rest.left && length declared == 6) (list_all (λ d. is_class (kind_of d.tree)) declared) h in
    let two = both (is_nothing rest.left) (length declared == 6) one.0 in
    record {
      declared = declared;
      rest = rest;
      stands = (2000, e);
      all = nothing rest.left two.0;
      six = eqb-true (length declared) 6 two.1;
      classes = classes declared one.1;
    }

-- the tokens of the builtin text are six classes
pub builtin_stands : (rest : ℕ → Lexeme) (end : Place) → AreSixClasses (of_kinds builtin_kinds rest) end
builtin_stands rest end = ended (of_kinds builtin_kinds rest) end (builtin_run (of_kinds builtin_kinds rest) end) refl (builtin_reads rest end)
