-- The rows of members in the pieces that the functions of this crate are.
use Rattle.std.specs.Prelude.{ℕ, ◌==◌, ◌&&◌, Bool, true, false, if◌then◌else◌, Option, Some, None, List, All, IsTrue}
use Rattle.std.specs.List.{list_any}
use Rattle.hack_calls.specs.Named.{callee_of}
use Rattle.hack_decls.specs.DeclState.{Map, Symbols}
use Rattle.hack_decls.specs.Names.{TypeIn, class_symbol}
use Rattle.hack_decls.specs.Picks.{member_answer}
use Rattle.hack_decls.specs.declared.answers.AncestorAnswer.{AncestorAnswer}
use Rattle.hack_decls.specs.declared.answers.AncestorAnswer.TheVariants as ancestor
use Rattle.hack_decls.specs.declared.answers.HeadingAnswer.{HeadingAnswer}
use Rattle.hack_decls.specs.declared.answers.HeadingAnswer.TheVariants as heading
use Rattle.hack_decls.specs.declared.answers.MemberAnswer.{MemberAnswer}
use Rattle.hack_decls.specs.declared.answers.MemberAnswer.TheVariants as answer
use Rattle.hack_decls.specs.declared.answers.MemberTag.{MemberTag}
use Rattle.hack_decls.specs.declared.folded.Folded.{Folded}
use Rattle.hack_decls.specs.declared.folded.Folded.TheVariants as folded
use Rattle.hack_infer.specs.Filling.{Filling, filled_limited}
use Rattle.hack_members.specs.Wanting.{SoughtIn, static_of, wanted_of}
use Rattle.hack_members.specs.declared.wanted.Sought.{Sought}
use Rattle.hack_members.specs.declared.wanted.Sought.TheVariants as sought
use Rattle.hack_members.specs.declared.wanted.Wanted.{Wanted}
use Rattle.hack_rules.specs.Calls.{call_with}
use Rattle.hack_rules.specs.Members as members
use Rattle.hack_rules.specs.Members.{expect_usable, is_constant, is_or_below, members_by, members_within, option_inside_by, type_by}
use Rattle.hack_rules.specs.Walks.{Walk, ◌>>=◌, ◌>>◌, pure, reads, refuse}
use Rattle.hack_rules.specs.WrittenTypes.{Argument}
use Rattle.hack_sub.specs.Parts.{arguments_of}
use Rattle.hack_types.specs.declared.hack_type.HackType.{HackType, out-HackType}
use Rattle.hack_types.specs.declared.hack_type.HackType.TheVariants.{Any}
use Rattle.hack_types.specs.declared.place.Place.{Place}
use Rattle.hack_types.specs.declared.shallow.Member.{Member}
use Rattle.hack_types.specs.declared.shallow.MemberKind.{MemberKind}
use Rattle.hack_types.specs.declared.shallow.MemberKind.TheVariants as kind
use Rattle.hack_types.specs.declared.signature.TypeParam.{TypeParam}

-- ---- who may use a member

-- whether the scope's class has this name
abbrev pub is_class_by : Option (ℕ × List TypeParam) → ℕ → Bool
is_class_by None name = false
is_class_by (Some class) name = class.0 == name

-- whether it is the class of this name, or stands below it
abbrev pub is_inside : Map → Option (ℕ × List TypeParam) → ℕ → Bool
is_inside map None origin = false
is_inside map (Some class) origin = is_or_below map class.0 origin

-- whether there is such an ancestor
abbrev pub is_at : AncestorAnswer → Bool
is_at (ancestor.At types) = true
is_at _ = false

-- ---- cases of enums

abbrev pub is_case : MemberTag → ℕ → Option Folded → Bool
is_case tag name (Some (folded.Enum sig)) = is_constant tag && list_any (λ case. case == name) sig.cases
is_case tag name _ = false

-- the same, as a lookup answers
abbrev pub is_case_in : MemberTag → ℕ → HeadingAnswer → Bool
is_case_in tag name (heading.Enum sig) = is_constant tag && list_any (λ case. case == name) sig.cases
is_case_in tag name _ = false

-- the head, or what is missing of it
abbrev pub case_or : Place → members.Wanted → HackType → Bool → Walk HackType
case_or at wanted head is = if is then pure head else refuse at (wanted.missing head)

-- the name of a head is that of no class
unfoldable pub case_of : Place → members.Wanted → ℕ → HackType → Walk HackType
case_of at wanted name head = do
  is ← reads (λ map scope. is_case wanted.tag wanted.name (map (class_symbol name)))
  case_or at wanted head is

-- ---- members of classes

-- of a partial class nobody knows
abbrev pub unless_partial : Place → members.Wanted → HackType → Bool → Walk HackType
unless_partial at wanted head partial = if partial then pure Any else refuse at (wanted.missing head)

-- a method's signature is called
abbrev pub called : Place → List Argument → Filling → MemberKind → Walk HackType
called at given around (kind.Method signature) = call_with at (callee_of signature around) given
called at given around _ = pure Any

-- what a member gives
abbrev pub gives : Place → Sought → Filling → MemberKind → Walk HackType
gives at sought.Property around kind = pure (filled_limited around (type_by kind))
gives at (sought.Method given) around kind = called at given.now around kind
gives at (sought.Constant shown) around kind = pure (filled_limited around (type_by kind))

-- what stands for the class's parameters and for `this`
abbrev pub around_of : HackType → HackType → Filling
around_of receiver head = record { class = Some (arguments_of head); function = None; this = Some receiver }

-- a member that is there
unfoldable pub of_member : Place → Wanted → Filling → Member → Walk HackType
of_member at wanted around member = do
  expect_usable at (static_of wanted.static_use) member
  gives at wanted.sought around member.kind

-- what the head of this name, the type before it and the arguments of the use name, is among these symbols
pub record HeadIn (symbols : Symbols) (name : ℕ) (receiver head : HackType) (wanted : Wanted) : Type 0 where
  pub named : IsTrue (symbols (class_symbol name))
  pub before : TypeIn symbols receiver
  pub itself : TypeIn symbols head
  pub arguments : All (TypeIn symbols) (arguments_of head)
  pub given : SoughtIn symbols wanted

-- by what a lookup says
abbrev pub by_answer : Place → Wanted → HackType → HackType → ℕ → MemberAnswer → Walk HackType
by_answer at wanted receiver head name (answer.At member) = of_member at wanted (around_of receiver head) member
by_answer at wanted receiver head name (answer.Missing partial) = unless_partial at (wanted_of at wanted) head partial
by_answer at wanted receiver head name answer.NotClass = case_of at (wanted_of at wanted) name head
by_answer at wanted receiver head name answer.Absent = refuse at ((wanted_of at wanted).missing head)

-- the member of a head of this name
unfoldable pub member_of_name : Place → Wanted → HackType → HackType → ℕ → Walk HackType
member_of_name at wanted receiver head name = do
  found ← reads (λ map scope. member_answer (wanted_of at wanted).tag wanted.name (map (class_symbol name)))
  by_answer at wanted receiver head name found

-- ---- members of any type

abbrev pub by_head : ℕ → ℕ → Place → members.Wanted → HackType → HackType → Walk HackType
by_head turns options at wanted receiver head = members_by (members_within turns at wanted) options at wanted receiver head (out-HackType head)

abbrev pub inside_option : ℕ → ℕ → Place → members.Wanted → HackType → Walk HackType
inside_option turns options at wanted inside = option_inside_by (members_within turns at wanted) options inside
