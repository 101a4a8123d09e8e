-- What is in a type that names only symbols of a set, and what is answered of a declaration that does.
use Rattle.std.proofs.Common.{◌==◌, ℕ, Bool, true, false, cond, Option, Some, None, IfSome, IsTrue, List, [], ◌∷◌, ◌++◌, All, map, sym, ap, subst, ◌∙◌, arith}
use Rattle.std.proofs.lemmas.List.Elements.{All-cons, All-head, All-tail}
use Rattle.std.specs.List.{find, flat_map}
use Rattle.hack_types.specs.declared.hack_type.HackType.{HackType}
use Rattle.hack_types.specs.declared.hack_type.HackType.TheOpen.{HackType-F}
use Rattle.hack_types.specs.declared.hack_type.HackType.TheFolds.{fold-roll-HackType}
use Rattle.hack_types.specs.declared.hack_type.HackType.TheVariants as type
use Rattle.hack_types.specs.declared.ids.SymbolId.{SymbolId}
use Rattle.hack_types.specs.declared.shallow.Member.{Member}
use Rattle.hack_decls.specs.declared.answers.AncestorAnswer.{AncestorAnswer}
use Rattle.hack_decls.specs.declared.answers.AncestorAnswer.TheVariants as ancestor
use Rattle.hack_decls.specs.declared.answers.HeadingAnswer.{HeadingAnswer}
use Rattle.hack_decls.specs.declared.answers.HeadingAnswer.TheVariants as heading
use Rattle.hack_decls.specs.declared.answers.MemberAnswer.{MemberAnswer}
use Rattle.hack_decls.specs.declared.answers.MemberAnswer.TheVariants as member
use Rattle.hack_decls.specs.declared.answers.MemberTag.{MemberTag}
use Rattle.hack_decls.specs.declared.folded.Ancestor.{Ancestor}
use Rattle.hack_decls.specs.declared.folded.Folded.{Folded}
use Rattle.hack_decls.specs.declared.folded.Folded.TheVariants as folded
use Rattle.hack_decls.specs.DeclState.{Symbols}
use Rattle.hack_decls.specs.Names.{FoldedIn, TypeIn, class_symbol, symbols_by, symbols_in, types_of_kind, types_of_param, types_of_signature}
use Rattle.hack_decls.specs.Picks.{ancestor_answer, ancestor_or, heading_answer, is_member, member_answer, member_or}

-- ---- lists

module _ {X : Type 0} (P : X → Type 0) where
  pub none : All P []
  none k d lt = absurd (omega (arith, lt))

  pub front : (xs ys : List X) → All P (xs ++ ys) → All P xs
  front [] ys all = none
  front (x ∷ xs) ys all = All-cons P x xs (All-head P x (xs ++ ys) all) (front xs ys (All-tail P x (xs ++ ys) all))

  pub back : (xs ys : List X) → All P (xs ++ ys) → All P ys
  back [] ys all = all
  back (x ∷ xs) ys all = back xs ys (All-tail P x (xs ++ ys) all)

  pub one : (x : X) → P x → All P (x ∷ [])
  one x here = All-cons P x [] here none

-- what holds of the pieces of all holds of those of one that is found
found_piece : {X Y : Type 0} (P : Y → Type 0) (f : X → List Y) (is : Bool) (x : X) (found : Option X)
    → All P (f x) → IfSome found (λ y. All P (f y)) → IfSome (cond is (Some x) found) (λ y. All P (f y))
found_piece P f true x found here there = here
found_piece P f false x found here there = there

pub found_in : {X Y : Type 0} (P : Y → Type 0) (f : X → List Y) (p : X → Bool) (xs : List X) → All P (flat_map f xs) → IfSome (find p xs) (λ x. All P (f x))
found_in P f p [] all = tt
found_in P f p (x ∷ xs) all =
    let rest = found_in P f p xs (back P (f x) (flat_map f xs) all) in
    found_piece P f (p x) x (find p xs) (front P (f x) (flat_map f xs) all) rest

found_image : {X Y : Type 0} (P : Y → Type 0) (f : X → Y) (is : Bool) (x : X) (found : Option X)
    → P (f x) → IfSome found (λ y. P (f y)) → IfSome (cond is (Some x) found) (λ y. P (f y))
found_image P f true x found here there = here
found_image P f false x found here there = there

pub found_of : {X Y : Type 0} (P : Y → Type 0) (f : X → Y) (p : X → Bool) (xs : List X) → All P (map f xs) → IfSome (find p xs) (λ x. P (f x))
found_of P f p [] all = tt
found_of P f p (x ∷ xs) all =
    let rest = found_of P f p xs (All-tail P (f x) (map f xs) all) in
    found_image P f (p x) x (find p xs) (All-head P (f x) (map f xs) all) rest

-- ---- types

module _ (symbols : Symbols) where
  abbrev Here : SymbolId → Type 0
  Here s = IsTrue (symbols s)

  each : (types : List HackType) → All Here (flat_map (λ list. list) (map symbols_in types)) → All (TypeIn symbols) types
  unfolding TypeIn
  each [] all = none (TypeIn symbols)
  each (t ∷ ts) all =
      let rest = flat_map (λ list. list) (map symbols_in ts) in
      All-cons (TypeIn symbols) t ts (front Here (symbols_in t) rest all) (each ts (back Here (symbols_in t) rest all))

  pub in_option : (inside : HackType) → TypeIn symbols (type.Option inside) → TypeIn symbols inside
  unfolding TypeIn symbols_in
  in_option inside all = subst (All Here) (ap symbols_in (sym (type.rolls-Option inside)) ∙ fold-roll-HackType (List SymbolId) symbols_by (HackType-F.Option inside)) all

  pub in_vector : (item : HackType) → TypeIn symbols (type.Vector item) → TypeIn symbols item
  unfolding TypeIn symbols_in
  in_vector item all = subst (All Here) (ap symbols_in (sym (type.rolls-Vector item)) ∙ fold-roll-HackType (List SymbolId) symbols_by (HackType-F.Vector item)) all

  pub in_keyset : (item : HackType) → TypeIn symbols (type.Keyset item) → TypeIn symbols item
  unfolding TypeIn symbols_in
  in_keyset item all = subst (All Here) (ap symbols_in (sym (type.rolls-Keyset item)) ∙ fold-roll-HackType (List SymbolId) symbols_by (HackType-F.Keyset item)) all

  pub in_dict : (key value : HackType) → TypeIn symbols (type.Dict key value) → TypeIn symbols key × TypeIn symbols value
  unfolding TypeIn symbols_in
  in_dict key value all =
      let both = subst (All Here) (ap symbols_in (sym (type.rolls-Dict key value)) ∙ fold-roll-HackType (List SymbolId) symbols_by (HackType-F.Dict key value)) all in
      (front Here (symbols_in key) (symbols_in value) both, back Here (symbols_in key) (symbols_in value) both)

  opened_class : (name : ℕ) (arguments : List HackType) → TypeIn symbols (type.Class name arguments) → All Here (class_symbol name ∷ flat_map (λ list. list) (map symbols_in arguments))
  unfolding TypeIn symbols_in
  opened_class name arguments all = subst (All Here) (ap symbols_in (sym (type.rolls-Class name arguments)) ∙ fold-roll-HackType (List SymbolId) symbols_by (HackType-F.Class name arguments)) all

  pub in_class : (name : ℕ) (arguments : List HackType) → TypeIn symbols (type.Class name arguments) → IsTrue (symbols (class_symbol name)) × All (TypeIn symbols) arguments
  in_class name arguments all =
      let rest = flat_map (λ list. list) (map symbols_in arguments) in
      let opened = opened_class name arguments all in
      (All-head Here (class_symbol name) rest opened, each arguments (All-tail Here (class_symbol name) rest opened))

  opened_union : (members : List HackType) → TypeIn symbols (type.Union members) → All Here (flat_map (λ list. list) (map symbols_in members))
  unfolding TypeIn symbols_in
  opened_union members all = subst (All Here) (ap symbols_in (sym (type.rolls-Union members)) ∙ fold-roll-HackType (List SymbolId) symbols_by (HackType-F.Union members)) all

  pub in_union : (members : List HackType) → TypeIn symbols (type.Union members) → All (TypeIn symbols) members
  in_union members all = each members (opened_union members all)

-- ---- answers

-- the types that an answer holds
abbrev pub types_of_member_answer : MemberAnswer → List HackType
types_of_member_answer (member.At m) = types_of_kind m.kind
types_of_member_answer other = []

abbrev pub types_of_ancestor_answer : AncestorAnswer → List HackType
types_of_ancestor_answer (ancestor.At arguments) = arguments
types_of_ancestor_answer other = []

abbrev pub types_of_heading_answer : HeadingAnswer → List HackType
types_of_heading_answer heading.Absent = []
types_of_heading_answer (heading.ClassLike class) = flat_map types_of_param class.type_params
types_of_heading_answer (heading.Enum sig) = sig.base ∷ []
types_of_heading_answer (heading.Alias sig) = flat_map types_of_param sig.type_params ++ sig.body ∷ []
types_of_heading_answer (heading.Function sig) = types_of_signature sig
types_of_heading_answer (heading.Constant ty) = ty ∷ []

module _ (symbols : Symbols) where
  of_member : (partial : Bool) (found : Option Member) → IfSome found (λ m. All (TypeIn symbols) (types_of_kind m.kind)) → All (TypeIn symbols) (types_of_member_answer (member_or partial found))
  of_member partial None all = none (TypeIn symbols)
  of_member partial (Some m) all = all

  pub in_member_answer : (tag : MemberTag) (name : ℕ) (entry : Option Folded) → IfSome entry (FoldedIn symbols) → All (TypeIn symbols) (types_of_member_answer (member_answer tag name entry))
  in_member_answer tag name None all = none (TypeIn symbols)
  in_member_answer tag name (Some (folded.ClassLike class)) all =
      let types = λ (m : Member). types_of_kind m.kind in
      let above = map (λ (a : Ancestor). type.Class a.name a.arguments) class.ancestors in
      let own = back (TypeIn symbols) (flat_map types_of_param class.type_params ++ above) (flat_map types class.members) all in
      of_member class.partial (find (is_member tag name) class.members) (found_in (TypeIn symbols) types (is_member tag name) class.members own)
  in_member_answer tag name (Some (folded.Enum sig)) all = none (TypeIn symbols)
  in_member_answer tag name (Some (folded.Alias sig)) all = none (TypeIn symbols)
  in_member_answer tag name (Some (folded.Function sig)) all = none (TypeIn symbols)
  in_member_answer tag name (Some (folded.Constant ty)) all = none (TypeIn symbols)

  of_ancestor : (partial : Bool) (found : Option Ancestor) → IfSome found (λ a. TypeIn symbols (type.Class a.name a.arguments)) → All (TypeIn symbols) (types_of_ancestor_answer (ancestor_or partial found))
  of_ancestor partial None all = none (TypeIn symbols)
  of_ancestor partial (Some a) all = (in_class symbols a.name a.arguments all).1

  pub in_ancestor_answer : (name : ℕ) (entry : Option Folded) → IfSome entry (FoldedIn symbols) → All (TypeIn symbols) (types_of_ancestor_answer (ancestor_answer name entry))
  in_ancestor_answer name None all = none (TypeIn symbols)
  in_ancestor_answer name (Some (folded.ClassLike class)) all =
      let types = λ (m : Member). types_of_kind m.kind in
      let type_of = λ (a : Ancestor). type.Class a.name a.arguments in
      let params = flat_map types_of_param class.type_params in
      let above = back (TypeIn symbols) params (map type_of class.ancestors) (front (TypeIn symbols) (params ++ map type_of class.ancestors) (flat_map types class.members) all) in
      let is_named = λ (a : Ancestor). a.name == name in
      of_ancestor class.partial (find is_named class.ancestors) (found_of (TypeIn symbols) type_of is_named class.ancestors above)
  in_ancestor_answer name (Some (folded.Enum sig)) all = none (TypeIn symbols)
  in_ancestor_answer name (Some (folded.Alias sig)) all = none (TypeIn symbols)
  in_ancestor_answer name (Some (folded.Function sig)) all = none (TypeIn symbols)
  in_ancestor_answer name (Some (folded.Constant ty)) all = none (TypeIn symbols)

  pub in_heading_answer : (entry : Option Folded) → IfSome entry (FoldedIn symbols) → All (TypeIn symbols) (types_of_heading_answer (heading_answer entry))
  in_heading_answer None all = none (TypeIn symbols)
  in_heading_answer (Some (folded.ClassLike class)) all =
      let types = λ (m : Member). types_of_kind m.kind in
      let params = flat_map types_of_param class.type_params in
      let above = map (λ (a : Ancestor). type.Class a.name a.arguments) class.ancestors in
      front (TypeIn symbols) params above (front (TypeIn symbols) (params ++ above) (flat_map types class.members) all)
  in_heading_answer (Some (folded.Enum sig)) all = all
  in_heading_answer (Some (folded.Alias sig)) all = all
  in_heading_answer (Some (folded.Function sig)) all = all
  in_heading_answer (Some (folded.Constant ty)) all = all
