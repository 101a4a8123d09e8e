-- A class by what it is as a `KeyedContainer`.
use Rattle.std.proofs.Common.{◌≡◌, ◌==◌, ℕ, Bool, true, false, cond, Option, Some, None, List, [], ◌∷◌, All, option_and_then, refl, sym, ap, subst}
use Rattle.std.proofs.lemmas.List.Elements.{All-head, All-tail}
use Rattle.hack_types.specs.declared.hack_type.HackType.{HackType, out-HackType}
use Rattle.hack_types.specs.declared.hack_type.HackType.TheOpen.{HackType-F}
use Rattle.hack_types.specs.declared.place.Place.{Place}
use Rattle.hack_decls.specs.DeclState.{Map, Symbols}
use Rattle.hack_decls.specs.Names.{TypeIn}
use Rattle.hack_diag.specs.Messages.{not_indexed}
use Rattle.hack_infer.specs.Seeing.{ancestor_given, given}
use Rattle.hack_rules.specs.Indices.{class_element, element_at, keyed_element}
use Rattle.hack_rules.specs.Meanings.{Index}
use Rattle.hack_rules.specs.Walks.{Setting, State, Walk, ◌>>=◌, reads, refuse}
use Rattle.hack_sub.specs.Parts.{arguments_by, keyed_container, name_by}
use Rattle.hack_targets.specs.inside.Pieces.{named_element, pair_of}

-- by its two arguments
abbrev pub pair_element : Place → HackType → Index → Option (HackType × HackType) → Walk HackType
pair_element at head index (Some pair) = element_at index pair.0 pair.1
pair_element at head index None = refuse at (not_indexed head)

pub by_pair : (at : Place) (head : HackType) (index : Index) (arguments : List HackType) → keyed_element at head index (Some arguments) ≡ pair_element at head index (pair_of arguments)
by_pair at head index [] = refl
by_pair at head index (a ∷ []) = refl
by_pair at head index (a ∷ b ∷ []) = refl
by_pair at head index (a ∷ b ∷ c ∷ more) = refl

pub in_pair : (symbols : Symbols) (pair : HackType × HackType) (arguments : List HackType) → Some pair ≡ pair_of arguments → All (TypeIn symbols) arguments
    → TypeIn symbols pair.0 × TypeIn symbols pair.1
in_pair symbols pair [] is all = absurd cc
in_pair symbols pair (a ∷ []) is all = absurd cc
in_pair symbols pair (a ∷ b ∷ []) is all =
    let same : pair ≡ (a, b) = cc in
    subst (λ (p : HackType × HackType). TypeIn symbols p.0 × TypeIn symbols p.1) (sym same)
    (All-head (TypeIn symbols) a (b ∷ []) all, All-head (TypeIn symbols) b [] (All-tail (TypeIn symbols) a (b ∷ []) all))
in_pair symbols pair (a ∷ b ∷ c ∷ more) is all = absurd cc

module _ (m : Map) (name : ℕ) (own : List HackType) where
  -- it is the class itself
  pub own_given : (name == keyed_container) ≡ true → given m name own keyed_container ≡ Some own
  own_given is = ap (λ (b : Bool). cond b (Some own) (ancestor_given m name own keyed_container)) is

  -- it is another
  pub other_given : (name == keyed_container) ≡ false → given m name own keyed_container ≡ ancestor_given m name own keyed_container
  other_given is = ap (λ (b : Bool). cond b (Some own) (ancestor_given m name own keyed_container)) is

pub own_element : (setting : Setting) (m : Map) (s : State) (at : Place) (head : HackType) (index : Index) (name : ℕ) (own : List HackType) → (name == keyed_container) ≡ true
    → named_element at head index name own setting m s ≡ keyed_element at head index (Some own) setting m s
unfolding named_element ◌>>=◌ reads
own_element setting m s at head index name own is = ap (λ (arguments : Option (List HackType)). keyed_element at head index arguments setting m s) (own_given m name own is)

-- what the rule asks of the head it asks of its name and its arguments
pub class_is : (setting : Setting) (m : Map) (s : State) (at : Place) (head : HackType) (index : Index) (name : ℕ) (own : List HackType) → out-HackType head ≡ HackType-F.Class name own
    → class_element at head index setting m s ≡ named_element at head index name own setting m s
unfolding class_element named_element ◌>>=◌ reads
class_is setting m s at head index name own is =
    ap (λ (layer : HackType-F HackType). keyed_element at head index (option_and_then (λ class. given m class (arguments_by layer) keyed_container) (name_by layer)) setting m s) is
