-- What look-ups say of members, of those who may use them, and of cases, is what the map says.
use Rattle.std.proofs.Common.{◌≡◌, ◌∙◌, ◌==◌, ◌||◌, ℕ, Bool, true, false, cond, Option, Some, None, List, [], ◌∷◌, refl, sym, ap}
use Rattle.std.specs.List.{find, list_any}
use Rattle.std.specs.Option.{option_map}
use Rattle.hack_decls.specs.DeclState.{Map}
use Rattle.hack_decls.specs.Names.{class_symbol}
use Rattle.hack_decls.specs.Picks.{ancestor_answer, ancestor_or, heading_answer, is_member, member_answer, member_or}
use Rattle.hack_decls.specs.declared.answers.MemberTag.{MemberTag}
use Rattle.hack_decls.specs.declared.folded.Ancestor.{Ancestor}
use Rattle.hack_decls.specs.declared.folded.Folded.{Folded}
use Rattle.hack_decls.specs.declared.folded.Folded.TheVariants as folded
use Rattle.hack_members.specs.Wanting.{gives_of, wanted_of}
use Rattle.hack_members.specs.declared.wanted.Sought.{Sought}
use Rattle.hack_members.specs.declared.wanted.Sought.TheVariants as sought
use Rattle.hack_members.specs.declared.wanted.Wanted.{Wanted}
use Rattle.hack_members.specs.inside.Rows.{around_of, by_answer, called, case_of, case_or, gives, is_at, is_case, is_case_in, is_class_by, is_inside, member_of_name, of_member}
use Rattle.hack_rules.specs.Classes.{ancestors_by, class_by}
use Rattle.hack_rules.specs.Members as members
use Rattle.hack_rules.specs.Members.{call_of_member, called_by, declared_by, found_or, member_by, member_of_head, type_of_member, visible_to}
use Rattle.hack_rules.specs.Walks.{Setting, State, Walk, ◌>>=◌, ◌>>◌, reads, refuse}
use Rattle.hack_sub.specs.Parts.{arguments_of, name_of}
use Rattle.hack_types.specs.declared.hack_type.HackType.{HackType}
use Rattle.hack_types.specs.declared.place.Place.{Place}
use Rattle.hack_types.specs.declared.shallow.Member.{Member}
use Rattle.hack_types.specs.declared.shallow.MemberKind.{MemberKind}
use Rattle.hack_types.specs.declared.shallow.MemberKind.TheVariants as kind
use Rattle.hack_types.specs.declared.shallow.Visibility.TheVariants as visibility
use Rattle.hack_types.specs.declared.signature.TypeParam.{TypeParam}

abbrev Class : Type 0
Class = Option (ℕ × List TypeParam)

-- ---- who may use a member

pub public_law : (map : Map) (class : Class) (origin : ℕ) → true ≡ visible_to map visibility.Public origin (option_map (λ c. c.0) class)
public_law map class origin = refl

pub private_law : (map : Map) (class : Class) (origin : ℕ) → is_class_by class origin ≡ visible_to map visibility.Private origin (option_map (λ c. c.0) class)
private_law map None origin = refl
private_law map (Some class) origin = refl

pub protected_law : (map : Map) (class : Class) (origin : ℕ) → is_inside map class origin ≡ visible_to map visibility.Protected origin (option_map (λ c. c.0) class)
protected_law map None origin = refl
protected_law map (Some class) origin = refl

first_or : (b partial : Bool) (a : Ancestor) (rest : Option Ancestor) (any : Bool) → is_at (ancestor_or partial rest) ≡ any → is_at (ancestor_or partial (cond b (Some a) rest)) ≡ (b || any)
first_or true partial a rest any same = refl
first_or false partial a rest any same = same

found_any : (name : ℕ) (partial : Bool) (ancestors : List Ancestor)
    → is_at (ancestor_or partial (find (λ a. a.name == name) ancestors)) ≡ list_any (λ a. a.name == name) ancestors
found_any name partial [] = refl
found_any name partial (a ∷ ancestors) = first_or (a.name == name) partial a (find (λ b. b.name == name) ancestors) _ (found_any name partial ancestors)

pub ancestor_law : (name : ℕ) (entry : Option Folded) → is_at (ancestor_answer name entry) ≡ list_any (λ a. a.name == name) (ancestors_by (class_by entry))
ancestor_law name None = refl
ancestor_law name (Some (folded.ClassLike class)) = found_any name class.partial class.ancestors
ancestor_law name (Some (folded.Enum sig)) = refl
ancestor_law name (Some (folded.Alias sig)) = refl
ancestor_law name (Some (folded.Function sig)) = refl
ancestor_law name (Some (folded.Constant ty)) = refl

-- ---- cases

pub case_law : (tag : MemberTag) (name : ℕ) (entry : Option Folded) → is_case_in tag name (heading_answer entry) ≡ is_case tag name entry
case_law tag name None = refl
case_law tag name (Some (folded.ClassLike class)) = refl
case_law tag name (Some (folded.Enum sig)) = refl
case_law tag name (Some (folded.Alias sig)) = refl
case_law tag name (Some (folded.Function sig)) = refl
case_law tag name (Some (folded.Constant ty)) = refl

-- ---- members

module _ (at : Place) (wanted : Wanted) (receiver head : HackType) (name : ℕ) where
  abbrev by_definition : members.Wanted
  by_definition = wanted_of at wanted

  call_law : (given : List _) (k : MemberKind) → called_by at given k (arguments_of head) receiver ≡ called at given (around_of receiver head) k
  call_law given (kind.Method signature) = refl
  call_law given (kind.Property ty) = refl
  call_law given (kind.Constant ty) = refl

  gives_law : (s : Sought) (member : Member) → gives_of at s member (arguments_of head) receiver ≡ gives at s (around_of receiver head) member.kind
  unfolding type_of_member call_of_member
  gives_law sought.Property member = refl
  gives_law (sought.Method given) member = call_law given.now member.kind
  gives_law (sought.Constant shown) member = refl

  found_law : (partial : Bool) (found : Option Member) → found_or at by_definition receiver head partial found ≡ by_answer at wanted receiver head name (member_or partial found)
  unfolding of_member
  found_law partial (Some member) = ap (λ (w : Walk HackType). members.expect_usable at by_definition.static member >> w) (gives_law wanted.sought member)
  found_law true None = refl
  found_law false None = refl

  module _ (setting : Setting) (m : Map) (here : State) where
    case_here : (entry : Option Folded) → m (class_symbol name) ≡ entry
        → case_or at by_definition head (is_case by_definition.tag wanted.name entry) setting m here ≡ case_of at by_definition name head setting m here
    unfolding case_of ◌>>=◌ reads
    case_here entry is = ap (λ (e : Option Folded). case_or at by_definition head (is_case by_definition.tag wanted.name e) setting m here) (sym is)

    member_law : (entry : Option Folded) → m (class_symbol name) ≡ entry
        → member_by at by_definition receiver head entry setting m here ≡ by_answer at wanted receiver head name (member_answer by_definition.tag wanted.name entry) setting m here
    member_law None is = refl
    member_law (Some (folded.ClassLike class)) is =
        ap (λ (w : Walk HackType). w setting m here) (found_law class.partial (find (is_member by_definition.tag wanted.name) class.members))
    member_law (Some (folded.Enum sig)) is = case_here (Some (folded.Enum sig)) is
    member_law (Some (folded.Alias sig)) is = case_here (Some (folded.Alias sig)) is
    member_law (Some (folded.Function sig)) is = case_here (Some (folded.Function sig)) is
    member_law (Some (folded.Constant ty)) is = case_here (Some (folded.Constant ty)) is

    pub head_law : Some name ≡ name_of head → member_of_head at by_definition receiver head setting m here ≡ member_of_name at wanted receiver head name setting m here
    unfolding member_of_head member_of_name ◌>>=◌ reads
    head_law is =
        ap (λ (o : Option ℕ). member_by at by_definition receiver head (declared_by m o) setting m here) (sym is)
        ∙ member_law (m (class_symbol name)) refl

pub nameless_law : (at : Place) (wanted : members.Wanted) (receiver head : HackType) (setting : Setting) (m : Map) (here : State) → None ≡ name_of head
    → member_of_head at wanted receiver head setting m here ≡ refuse at (wanted.missing head) setting m here
unfolding member_of_head ◌>>=◌ reads
nameless_law at wanted receiver head setting m here is = ap (λ (o : Option ℕ). member_by at wanted receiver head (declared_by m o) setting m here) (sym is)
