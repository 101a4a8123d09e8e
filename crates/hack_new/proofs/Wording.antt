-- The classes that words stand for.
use Rattle.std.proofs.Common.{◌≡◌, ◌∙◌, ◌⊎◌, ℕ, suc, Option, Some, None, IfSome, IsTrue, List, [], ◌∷◌, All, find, inl, inr, is_some, option_and_then, option_map, unwrap_or, Ok, refl, sym, ap, subst, arith}
use Rattle.std.proofs.lemmas.List.Elements.{All-cons}
use Rattle.hack_tree.specs.declared.expression.ClassReference.{ClassReference}
use Rattle.hack_tree.specs.declared.expression.ClassReference.TheVariants as reference
use Rattle.hack_tree.specs.declared.written_type.WrittenType.{WrittenType}
use Rattle.hack_types.specs.declared.hack_type.HackType.{HackType}
use Rattle.hack_types.specs.declared.hack_type.HackType.TheFolds.{fold-roll-HackType}
use Rattle.hack_types.specs.declared.hack_type.HackType.TheOpen.{HackType-F}
use Rattle.hack_types.specs.declared.hack_type.HackType.TheVariants as type
use Rattle.hack_types.specs.declared.hack_type.HackType.TheViews.{out-roll-HackType}
use Rattle.hack_types.specs.declared.ids.SymbolId.{SymbolId}
use Rattle.hack_types.specs.declared.place.Place.{Place}
use Rattle.hack_types.specs.declared.signature.TypeParam.{TypeParam}
use Rattle.hack_decls.specs.DeclState.{DeclState, Map, Symbols}
use Rattle.hack_decls.specs.Names.{TypeIn, class_symbol, symbols_by, symbols_in}
use Rattle.hack_decls.specs.declared.folded.Ancestor.{Ancestor}
use Rattle.hack_decls.specs.declared.folded.Folded.{Folded}
use Rattle.hack_rules.specs.Classes.{allowed_by, ancestors_by, class_named, class_with_any, is_class, mentioned, name_or, parent_type, referred, scope_class, this_type, word_type}
use Rattle.hack_rules.specs.News.{class_behind, expect_parent, new_class, new_word}
use Rattle.hack_rules.specs.Walks.{Setting, State, ◌>>=◌, ◌>>◌, pure, reads}
use Rattle.hack_rules.specs.WrittenTypes.{Argument}
use Rattle.hack_sub.specs.Named.{Around}
use Rattle.hack_sub.specs.NamesOf.{alone, in_class, of_class}
use Rattle.hack_sub.specs.Parts.{arguments_by, arguments_of, name_by, name_of}
use Rattle.hack_sub.specs.Scopes.{class_type, class_type_by, own_params}
use Rattle.hack_sub.specs.declared.scope.Scope.{Scope}
use Rattle.hack_walk.specs.Checks.{Walks}
use Rattle.hack_calls.specs.Named.{or_self}
use Rattle.hack_new.specs.inside.Rows.{IsNamed, by_class, by_word, own_class}
use Rattle.hack_new.proofs.Constructing.{constructed_law}

-- ---- classes with their arguments

pub name_is : (name : ℕ) (arguments : List HackType) → name_of (type.Class name arguments) ≡ Some name
name_is name arguments = sym (ap name_of (type.rolls-Class name arguments)) ∙ ap name_by (out-roll-HackType (HackType-F.Class name arguments))

pub arguments_are : (name : ℕ) (arguments : List HackType) → arguments_of (type.Class name arguments) ≡ arguments
arguments_are name arguments = sym (ap arguments_of (type.rolls-Class name arguments)) ∙ ap arguments_by (out-roll-HackType (HackType-F.Class name arguments))

class_is_named : (name : ℕ) (arguments : List HackType) → IsNamed (type.Class name arguments)
class_is_named name arguments = subst (λ (o : Option ℕ). IsTrue (is_some o)) (sym (name_is name arguments)) refl

module _ (symbols : Symbols) where
  by_name : (class : HackType) (name : Option ℕ) → name ≡ name_of class → IsTrue (is_some name) → TypeIn symbols class
      → IsTrue (symbols (class_symbol (name_or name))) × All (TypeIn symbols) (arguments_of class)
  by_name class None is named here = absurd cc
  by_name class (Some name) is named here = in_class symbols class name is here

  -- a class's name, and its arguments
  pub in_named : (class : HackType) → IsNamed class → TypeIn symbols class → IsTrue (symbols (class_symbol (name_or (name_of class)))) × All (TypeIn symbols) (arguments_of class)
  in_named class named here = by_name class (name_of class) refl named here

  of_param : (position name : ℕ) → TypeIn symbols (type.ClassParam position name)
  unfolding symbols_in
  of_param position name = alone symbols (HackType-F.ClassParam position name) (type.ClassParam position name) (sym (type.rolls-ClassParam position name))
      (fold-roll-HackType (List SymbolId) symbols_by (HackType-F.ClassParam position name))

  of_own : (position : ℕ) (params : List TypeParam) → All (TypeIn symbols) (own_params position params)
  of_own position [] = λ k d lt. absurd (omega (arith, lt))
  of_own position (param ∷ params) =
      All-cons (TypeIn symbols) (type.ClassParam position param.name) (own_params (suc position) params) (of_param position param.name) (of_own (suc position) params)

  in_static : (class : Option (ℕ × List TypeParam)) (ty : HackType) → IfSome class (λ c. IsTrue (symbols (class_symbol c.0))) → TypeIn symbols ty
      → TypeIn symbols (unwrap_or (class_type_by class) ty)
  in_static None ty around here = here
  in_static (Some class) ty around here = of_class symbols class.0 (own_params 0 class.1) around (of_own 0 class.1)

  -- what the class behind a word names
  pub in_behind : (word : ClassReference) (ty : HackType) (scope : Scope) → Around symbols scope → TypeIn symbols ty → TypeIn symbols (class_behind word ty scope)
  in_behind (reference.Named name) ty scope around here = here
  in_behind reference.Self_ ty scope around here = here
  in_behind reference.Static ty scope around here = in_static scope.class ty around.scoped.0 here
  in_behind reference.Parent ty scope around here = here

module _ (symbols : Symbols) (name : ℕ) (own : List HackType) (here : IsTrue (symbols (class_symbol name))) (all : All (TypeIn symbols) own) where
  -- a class with these arguments, and its arguments again
  pub in_made : TypeIn symbols (type.Class name own)
  in_made = of_class symbols name own here all

  pub in_arguments : All (TypeIn symbols) (arguments_of (type.Class name own))
  in_arguments = subst (λ (ts : List HackType). All (TypeIn symbols) ts) (sym (arguments_are name own)) all

-- ---- the class behind a word

own_or : (own : Option HackType) (ty : HackType) → or_self ty own ≡ unwrap_or own ty
own_or None ty = refl
own_or (Some class) ty = refl

pub own_law : (word : ClassReference) (ty : HackType) (scope : Scope) → or_self ty (own_class word scope) ≡ class_behind word ty scope
own_law (reference.Named name) ty scope = refl
own_law reference.Self_ ty scope = refl
own_law reference.Static ty scope = own_or (class_type scope) ty
own_law reference.Parent ty scope = refl

-- ---- what a word stands for has a name

inner : {X : Type 0} (a b : X) → Some a ≡ Some b → a ≡ b
inner a b is = cc

named_as : (ty class : HackType) → class ≡ ty → IsNamed class → IsNamed ty
named_as ty class is named = subst IsNamed is named

by_declared : (name : ℕ) (declaration : Option Folded) (ty : HackType) → option_map (class_with_any name) declaration ≡ Some ty → IsNamed ty
by_declared name None ty is = absurd cc
by_declared name (Some declaration) ty is = named_as ty (class_with_any name declaration) (inner (class_with_any name declaration) ty is) (class_is_named name _)

by_self : (class : Option (ℕ × List TypeParam)) (ty : HackType) → class_type_by class ≡ Some ty → IsNamed ty
by_self None ty is = absurd cc
by_self (Some class) ty is =
    named_as ty (type.Class class.0 (own_params 0 class.1)) (inner (type.Class class.0 (own_params 0 class.1)) ty is) (class_is_named class.0 (own_params 0 class.1))

by_static : (class : Option (ℕ × List TypeParam)) (ty : HackType) → this_type (option_map (λ c. c.0) class) ≡ Some ty → IsNamed (unwrap_or (class_type_by class) ty)
by_static None ty is = absurd cc
by_static (Some class) ty is = class_is_named class.0 (own_params 0 class.1)

by_parent : (found : Option Ancestor) (ty : HackType) → option_map (λ ancestor. type.Class ancestor.name ancestor.arguments) found ≡ Some ty → IsNamed ty
by_parent None ty is = absurd cc
by_parent (Some ancestor) ty is =
    named_as ty (type.Class ancestor.name ancestor.arguments) (inner (type.Class ancestor.name ancestor.arguments) ty is) (class_is_named ancestor.name ancestor.arguments)

module _ (at : Place) (setting : Setting) (m : Map) (s : State) where
  allowed : (word : ClassReference) (found : Option HackType) → (allowed_by at word found setting m s).0 ≡ found
  unfolding allowed_by ◌>>=◌ ◌>>◌ pure
  allowed word (Some ty) = refl
  allowed word None = refl

  stands : (word : ClassReference) (ty : HackType) → (referred at word setting m s).0 ≡ Some ty → IsNamed (class_behind word ty setting.scope)
  unfolding referred parent_type ◌>>=◌ ◌>>◌ pure reads
  stands (reference.Named name) ty is = by_declared name (mentioned at name setting m s).0 ty is
  stands reference.Self_ ty is = by_self setting.scope.class ty (sym (allowed reference.Self_ (word_type reference.Self_ m setting.scope)) ∙ is)
  stands reference.Static ty is = by_static setting.scope.class ty (sym (allowed reference.Static (word_type reference.Static m setting.scope)) ∙ is)
  stands reference.Parent ty is =
      by_parent (find (λ ancestor. is_class m ancestor.name) (ancestors_by (option_and_then (class_named m) (scope_class setting.scope)))) ty
      (sym (allowed reference.Parent (word_type reference.Parent m setting.scope)) ∙ is)

  all_stand : (word : ClassReference) (found : Option HackType) → (referred at word setting m s).0 ≡ found → IfSome found (λ ty. IsNamed (class_behind word ty setting.scope))
  all_stand word None is = tt
  all_stand word (Some ty) is = stands word ty is

-- what is answered over the call's own map
pub word_named : {Base Held : Type 0} {setting : Setting} {old new : DeclState Base Held} {before behind : State} {Names : Symbols → Type 0} {Gives : Symbols → Option HackType → Type 0}
    (at : Place) (word : ClassReference) (found : Option HackType) → Walks (referred at word) setting old before (Ok found) new behind Names Gives
    → IfSome found (λ ty. IsNamed (class_behind word ty setting.scope))
word_named {setting = setting} {old = old} {before = before} at word found walks =
    all_stand at setting old.map before word found (ap (λ (end : Option HackType × State). end.0) (walks.asks.means old.map (λ s h. refl)))

-- ---- `new` and a word that has a type

module _ (at : Place) (word : ClassReference) (given : List Argument) (ty : HackType) (setting : Setting) (m : Map) (s : State) where
  pub word_law : new_word at word given (Some ty) setting m s ≡ (expect_parent at word ty >> by_class at word given ty) setting m s
  unfolding by_class ◌>>=◌ ◌>>◌ reads
  word_law =
      let class = class_behind word ty setting.scope in
      constructed_law at (name_or (name_of class)) (arguments_of class) ty given setting m (expect_parent at word ty setting m s).1

-- `new` and one of the words
module _ (at class_at : Place) (types : List WrittenType) (given : List Argument) (setting : Setting) (m : Map) (s : State) where
  abbrev Same : ClassReference → Type 0
  Same word = new_class at class_at word types given setting m s ≡ by_word at class_at word given setting m s

  pub of_words : (word : ClassReference) → (word ≡ reference.Self_) ⊎ ((word ≡ reference.Static) ⊎ (word ≡ reference.Parent)) → Same word
  unfolding by_word
  of_words word (inl is) = subst Same (sym is) refl
  of_words word (inr (inl is)) = subst Same (sym is) refl
  of_words word (inr (inr is)) = subst Same (sym is) refl

-- `parent` alone is no word without 4011
module _ (at : Place) (ty : HackType) (setting : Setting) (m : Map) (s : State) where
  abbrev Silent : ClassReference → Type 0
  Silent word = expect_parent at word ty setting m s ≡ pure tt setting m s

  pub no_parent : (word : ClassReference) → ((name : ℕ) × (word ≡ reference.Named name)) ⊎ ((word ≡ reference.Self_) ⊎ (word ≡ reference.Static)) → Silent word
  no_parent word (inl is) = subst Silent (sym is.1) refl
  no_parent word (inr (inl is)) = subst Silent (sym is) refl
  no_parent word (inr (inr is)) = subst Silent (sym is) refl
