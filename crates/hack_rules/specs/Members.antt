-- Members of a type (docs/language.md, Typing expressions, Members).
use Rattle.std.specs.Prelude.{ℕ, zero, suc, ◌==◌, ◌||◌, ◌&&◌, not, Bool, true, false, if◌then◌else◌, Option, Some, None, List, map, find}
use Rattle.std.specs.List.{list_any}
use Rattle.hack_types.specs.OptionOf.{option_of}
use Rattle.hack_types.specs.UnionOf.{union_of}
use Rattle.hack_types.specs.declared.hack_type.HackType.{HackType, out-HackType}
use Rattle.hack_types.specs.declared.hack_type.HackType.TheOpen.{HackType-F}
use Rattle.hack_types.specs.declared.hack_type.HackType.TheVariants.{Any}
use Rattle.hack_types.specs.declared.place.Place.{Place}
use Rattle.hack_types.specs.declared.shallow.Member.{Member}
use Rattle.hack_types.specs.declared.shallow.MemberKind.{MemberKind}
use Rattle.hack_types.specs.declared.shallow.MemberKind.TheVariants as kind
use Rattle.hack_types.specs.declared.shallow.Visibility.{Visibility}
use Rattle.hack_types.specs.declared.shallow.Visibility.TheVariants as visibility
use Rattle.hack_types.specs.Substituted.{limited, most_nodes}
use Rattle.hack_decls.specs.DeclState.{Map}
use Rattle.hack_decls.specs.Names.{class_symbol}
use Rattle.hack_decls.specs.Picks.{is_member}
use Rattle.hack_decls.specs.declared.answers.MemberTag.{MemberTag}
use Rattle.hack_decls.specs.declared.answers.MemberTag.TheVariants as tag
use Rattle.hack_decls.specs.declared.folded.Folded.{Folded}
use Rattle.hack_decls.specs.declared.folded.Folded.TheVariants as folded
use Rattle.hack_sub.specs.Parts.{arguments_of, name_of}
use Rattle.hack_sub.specs.declared.scope.Scope.{Scope}
use Rattle.hack_rules.specs.Calls.{call_with}
use Rattle.hack_rules.specs.Classes.{ancestors_by, class_named, scope_class}
use Rattle.hack_infer.specs.Filling.{filled_limited}
use Rattle.hack_infer.specs.Seeing.{most_steps}
use Rattle.hack_rules.specs.Heads.{head_of}
use Rattle.hack_diag.specs.Messages.{Message, against_static, may_be_null, no_constant, no_method, no_property, not_visible}
use Rattle.hack_rules.specs.Walks.{Walk, ◌>>=◌, ◌>>◌, pure, reads, refuse, report, unless, each}
use Rattle.hack_rules.specs.WrittenTypes.{Argument}

-- ---- who may use a member

-- a class is the origin or stands below it
abbrev pub is_or_below : Map → ℕ → ℕ → Bool
is_or_below map class origin = (class == origin) || list_any (λ ancestor. ancestor.name == origin) (ancestors_by (class_named map class))

-- by the scope's class
abbrev pub visible_to : Map → Visibility → ℕ → Option ℕ → Bool
visible_to map visibility.Public origin class = true
visible_to map _ origin None = false
visible_to map visibility.Private origin (Some class) = class == origin
visible_to map visibility.Protected origin (Some class) = is_or_below map class origin

-- a private member in its origin alone, a protected one in what is or stands below it
unfoldable pub is_visible : Map → Scope → Member → Bool
is_visible map scope member = visible_to map member.visibility member.origin (scope_class scope)

-- whether it must be static, must not be, or either goes
pub data StaticUse : Type 0 where
  static_alone instance_alone any_use : StaticUse

-- by the member's own modifier
abbrev pub fits_static : StaticUse → Bool → Bool
fits_static static_alone is_static = is_static
fits_static instance_alone is_static = not is_static
fits_static any_use is_static = true

-- 4009 and 4018, which leave the type as it is
unfoldable pub expect_usable : Place → StaticUse → Member → Walk (Unit {0})
expect_usable at use_ member = do
  visible ← reads (λ map scope. is_visible map scope member)
  unless visible at (not_visible member.name member.origin)
  unless (fits_static use_ member.is_static) at (against_static member.name)

-- ---- which member is looked for

-- a member by its kind and name
pub record Wanted : Type 0 where
  pub tag : MemberTag
  pub name : ℕ
  pub static : StaticUse
  pub null_safe : Bool
  -- what the member gives, by the arguments of its class and the type before the head was taken
  pub gives : Member → List HackType → HackType → Walk HackType
  -- the diagnostic where a head has none
  pub missing : HackType → Message

-- the type of a property or a constant
abbrev pub type_by : MemberKind → HackType
type_by (kind.Constant ty) = ty
type_by (kind.Property ty) = ty
type_by (kind.Method signature) = Any

-- a property or a constant has its type, with the class's parameters and `this` put in
unfoldable pub type_of_member : Member → List HackType → HackType → Walk HackType
type_of_member member arguments receiver =
    pure (filled_limited (record { class = Some arguments; function = None; this = Some receiver }) (type_by member.kind))

-- a method's signature is called
abbrev pub called_by : Place → List Argument → MemberKind → List HackType → HackType → Walk HackType
called_by at given (kind.Method signature) arguments receiver =
    call_with at (record { signature = signature; class = Some arguments; this = λ solved. Some receiver }) given
called_by at given _ arguments receiver = pure Any

-- a method is called
unfoldable pub call_of_member : Place → List Argument → Member → List HackType → HackType → Walk HackType
call_of_member at given member arguments receiver = called_by at given member.kind arguments receiver

-- a property
abbrev pub property_of : StaticUse → Bool → ℕ → Wanted
property_of static null_safe name = record {
  tag = tag.Property;
  name = name;
  static = static;
  null_safe = null_safe;
  gives = type_of_member;
  missing = no_property name;
}

-- a method, and the arguments of its call
abbrev pub method_of : Place → StaticUse → Bool → ℕ → List Argument → Wanted
method_of at static null_safe name given = record {
  tag = tag.Method;
  name = name;
  static = static;
  null_safe = null_safe;
  gives = call_of_member at given;
  missing = no_method name;
}

-- static or not, a constant is used through a class; 4008 shows this name
abbrev pub constant_of : ℕ → ℕ → Wanted
constant_of shown name = record {
  tag = tag.Constant;
  name = name;
  static = any_use;
  null_safe = false;
  gives = type_of_member;
  missing = λ head. no_constant shown name;
}

-- ---- members of a head that is one type without null

-- a member, or none; of a partial class nobody knows
abbrev pub found_or : Place → Wanted → HackType → HackType → Bool → Option Member → Walk HackType
found_or at wanted receiver head partial (Some member) = do
  expect_usable at wanted.static member
  wanted.gives member (arguments_of head) receiver
found_or at wanted receiver head true None = pure Any
found_or at wanted receiver head false None = refuse at (wanted.missing head)

-- constants alone are cases of enums
abbrev pub is_constant : MemberTag → Bool
is_constant tag.Constant = true
is_constant _ = false

-- a class has its folded member; `E::A` of an enum is an E
abbrev pub member_by : Place → Wanted → HackType → HackType → Option Folded → Walk HackType
member_by at wanted receiver head (Some (folded.ClassLike class)) =
    found_or at wanted receiver head class.partial (find (is_member wanted.tag wanted.name) class.members)
member_by at wanted receiver head (Some (folded.Enum sig)) =
    if is_constant wanted.tag && list_any (λ name. name == wanted.name) sig.cases then pure head else refuse at (wanted.missing head)
member_by at wanted receiver head _ = refuse at (wanted.missing head)

-- what is declared under a head's name
abbrev pub declared_by : Map → Option ℕ → Option Folded
declared_by map None = None
declared_by map (Some name) = map (class_symbol name)

-- the member of a head
unfoldable pub member_of_head : Place → Wanted → HackType → HackType → Walk HackType
member_of_head at wanted receiver head = do
  declaration ← reads (λ map scope. declared_by map (name_of head))
  member_by at wanted receiver head declaration

-- ---- members of any type

-- with `?->` what null gives goes on as an option; else it is 4010
unfoldable pub through_null : Place → Bool → Walk HackType → Walk HackType
through_null at true inside = do
  ty ← inside
  pure (limited (option_of ty))
through_null at false inside = do
  report at may_be_null
  inside

-- the type inside an option, in at most so many such steps
abbrev pub option_inside_by : (ℕ → HackType → Walk HackType) → ℕ → HackType → Walk HackType
option_inside_by go_on zero inside = pure Any
option_inside_by go_on (suc options) inside = go_on options inside

-- per member of a union
unfoldable pub each_member : (HackType → Walk HackType) → List HackType → Walk HackType
each_member go_on members = do
  types ← each go_on members
  pure (limited (union_of types))

-- by the head: `_` and `nothing` give `_`, a union goes per member, an option and null as above, and any other has the member or hasn't
abbrev pub members_by : (ℕ → HackType → Walk HackType) → ℕ → Place → Wanted → HackType → HackType → HackType-F HackType → Walk HackType
members_by go_on options at wanted receiver head HackType-F.Any = pure Any
members_by go_on options at wanted receiver head HackType-F.Nothing = pure Any
members_by go_on options at wanted receiver head (HackType-F.Union members) = each_member (go_on options) members
members_by go_on options at wanted receiver head (HackType-F.Option inside) =
    through_null at wanted.null_safe (option_inside_by go_on options inside)
members_by go_on options at wanted receiver head HackType-F.Null = through_null at wanted.null_safe (pure Any)
members_by go_on options at wanted receiver head _ = member_of_head at wanted receiver head

-- the member of a type, with unions in unions so deep
unfoldable pub members_within : ℕ → Place → Wanted → ℕ → HackType → Walk HackType
members_within zero at wanted options ty = pure Any
members_within (suc turns) at wanted options ty = do
  head ← reads (λ map scope. head_of map scope ty)
  members_by (members_within turns at wanted) options at wanted ty head (out-HackType head)

-- the member of a type
unfoldable pub member_of : Place → Wanted → HackType → Walk HackType
member_of at wanted ty = members_within most_nodes at wanted most_steps ty
