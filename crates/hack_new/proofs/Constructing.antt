-- What a look-up says of a class: its constructor, and whether there are objects of it.
use Rattle.std.proofs.Common.{◌≡◌, ◌∙◌, ◌⊎◌, ℕ, Bool, false, Option, Some, None, IfSome, List, All, find, inl, inr, refl, sym, ap, subst}
use Rattle.hack_types.specs.Substituted.{limited}
use Rattle.hack_types.specs.declared.hack_type.HackType.{HackType}
use Rattle.hack_types.specs.declared.place.Place.{Place}
use Rattle.hack_types.specs.declared.shallow.Member.{Member}
use Rattle.hack_types.specs.declared.shallow.MemberKind.{MemberKind}
use Rattle.hack_types.specs.declared.shallow.MemberKind.TheVariants as kinds
use Rattle.hack_shallow.specs.Members.{construct}
use Rattle.hack_decls.specs.DeclState.{Map, Symbols}
use Rattle.hack_decls.specs.NameLaws.{in_member_answer, types_of_member_answer}
use Rattle.hack_decls.specs.Names.{FoldedIn, TypeIn, class_symbol}
use Rattle.hack_decls.specs.Picks.{heading_answer, is_member, member_answer, member_or}
use Rattle.hack_decls.specs.declared.answers.MemberAnswer.{MemberAnswer}
use Rattle.hack_decls.specs.declared.answers.MemberAnswer.TheVariants as member
use Rattle.hack_decls.specs.declared.answers.MemberTag.TheVariants as tag
use Rattle.hack_decls.specs.declared.folded.Folded.{Folded}
use Rattle.hack_decls.specs.declared.folded.Folded.TheVariants as folded
use Rattle.hack_rules.specs.Classes.{class_by}
use Rattle.hack_rules.specs.News as news
use Rattle.hack_rules.specs.News.{constructed, constructor_by, instance_by, is_partial_class, partial_by, without_constructor}
use Rattle.hack_rules.specs.Walks.{Setting, State, ◌>>=◌, ◌>>◌, pure, reads}
use Rattle.hack_rules.specs.WrittenTypes.{Argument}
use Rattle.hack_new.specs.inside.Rows.{ConstructorIn, call_kind, construct_by, construct_row, constructor_in, found_by, is_instance, use_constructor, without}

-- ---- the look-up

named_by : (symbols : Symbols) (found : MemberAnswer) → All (TypeIn symbols) (types_of_member_answer found) → ConstructorIn symbols (found_by found)
named_by symbols member.Absent all = tt
named_by symbols member.NotClass all = tt
named_by symbols (member.At own) all = all
named_by symbols (member.Missing partial) all = tt

module _ (entry : Option Folded) (found : MemberAnswer) (name : ℕ) where
  answered : name ≡ construct → found ≡ member_answer tag.Method name entry → found ≡ member_answer tag.Method construct entry
  answered own is = is ∙ ap (λ (n : ℕ). member_answer tag.Method n entry) own

  pub found_law : name ≡ construct → found ≡ member_answer tag.Method name entry → found_by found ≡ constructor_in entry
  found_law own is = ap found_by (answered own is)

-- what a look-up of the constructor names, the declaration names
pub in_constructor : (symbols : Symbols) (entry : Option Folded) (found : MemberAnswer) (name : ℕ) → IfSome entry (FoldedIn symbols) → name ≡ construct
    → found ≡ member_answer tag.Method name entry → ConstructorIn symbols (found_by found)
in_constructor symbols entry found name all own is =
    named_by symbols found
    (subst (λ (f : MemberAnswer). All (TypeIn symbols) (types_of_member_answer f)) (sym (answered entry found name own is)) (in_member_answer symbols tag.Method construct entry all))

pub instance_law : (entry : Option Folded) → is_instance (heading_answer entry) ≡ instance_by (class_by entry)
instance_law None = refl
instance_law (Some (folded.ClassLike class)) = refl
instance_law (Some (folded.Enum sig)) = refl
instance_law (Some (folded.Alias sig)) = refl
instance_law (Some (folded.Function sig)) = refl
instance_law (Some (folded.Constant ty)) = refl

-- ---- the constructor

module _ (at : Place) (name : ℕ) (arguments : List HackType) (made : HackType) (given : List Argument) (setting : Setting) (m : Map) (s : State) where
  by_member : (partial : Bool) (found : Option Member) → is_partial_class m name ≡ partial
      → news.construct_by at name arguments made given found setting m s
      ≡ (construct_by at arguments made given (found_by (member_or partial found)) >> pure (limited made)) setting m s
  unfolding without_constructor without use_constructor call_kind ◌>>=◌ ◌>>◌ reads pure
  by_member partial None is = ap (λ (p : Bool). (without at p given >> pure (limited made)) setting m s) is
  by_member partial (Some own) is = refl

  by_entry : (entry : Option Folded) → m (class_symbol name) ≡ entry
      → news.construct_by at name arguments made given (constructor_by (class_by entry)) setting m s
      ≡ (construct_by at arguments made given (constructor_in entry) >> pure (limited made)) setting m s
  by_entry None is = by_member false None (ap (λ (e : Option Folded). partial_by (class_by e)) is)
  by_entry (Some (folded.ClassLike class)) is =
      by_member class.partial (find (is_member tag.Method construct) class.members) (ap (λ (e : Option Folded). partial_by (class_by e)) is)
  by_entry (Some (folded.Enum sig)) is = by_member false None (ap (λ (e : Option Folded). partial_by (class_by e)) is)
  by_entry (Some (folded.Alias sig)) is = by_member false None (ap (λ (e : Option Folded). partial_by (class_by e)) is)
  by_entry (Some (folded.Function sig)) is = by_member false None (ap (λ (e : Option Folded). partial_by (class_by e)) is)
  by_entry (Some (folded.Constant ty)) is = by_member false None (ap (λ (e : Option Folded). partial_by (class_by e)) is)

  -- the whole has the type that was given
  pub constructed_law : constructed at name arguments made given setting m s ≡ (construct_row at name arguments made given >> pure (limited made)) setting m s
  unfolding constructed construct_row ◌>>=◌ ◌>>◌ reads
  constructed_law = by_entry (m (class_symbol name)) refl

module _ (at : Place) (arguments : List HackType) (made : HackType) (given : List Argument) (setting : Setting) (m : Map) (s : State) where
  -- what is no method is never called
  pub no_method : (kind : MemberKind) → ((x : HackType) × (kind ≡ kinds.Constant x)) ⊎ ((x : HackType) × (kind ≡ kinds.Property x))
      → call_kind at arguments made given kind setting m s ≡ pure tt setting m s
  unfolding call_kind ◌>>=◌ ◌>>◌ pure
  no_method kind (inl is) = ap (λ (k : MemberKind). call_kind at arguments made given k setting m s) is.1
  no_method kind (inr is) = ap (λ (k : MemberKind). call_kind at arguments made given k setting m s) is.1
