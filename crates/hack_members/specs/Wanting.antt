-- Which member a call looks for, as the definition has it (docs/language.md, Typing expressions, Members).
use Rattle.std.specs.Prelude.{ℕ, List}
use Rattle.hack_calls.specs.Named.{GivenIn}
use Rattle.hack_decls.specs.DeclState.{Symbols}
use Rattle.hack_decls.specs.declared.answers.MemberTag.{MemberTag}
use Rattle.hack_decls.specs.declared.answers.MemberTag.TheVariants as tag
use Rattle.hack_diag.specs.Messages.{Message, no_constant, no_method, no_property}
use Rattle.hack_members.specs.declared.wanted.Sought.{Sought}
use Rattle.hack_members.specs.declared.wanted.Sought.TheVariants as sought
use Rattle.hack_members.specs.declared.wanted.StaticUse.{StaticUse}
use Rattle.hack_members.specs.declared.wanted.StaticUse.TheVariants as static
use Rattle.hack_members.specs.declared.wanted.Wanted.{Wanted}
use Rattle.hack_rules.specs.Members as members
use Rattle.hack_rules.specs.Members.{call_of_member, type_of_member}
use Rattle.hack_rules.specs.Walks.{Walk}
use Rattle.hack_types.specs.declared.hack_type.HackType.{HackType}
use Rattle.hack_types.specs.declared.place.Place.{Place}
use Rattle.hack_types.specs.declared.shallow.Member.{Member}

-- whether it must be static
abbrev pub static_of : StaticUse → members.StaticUse
static_of static.StaticAlone = members.static_alone
static_of static.InstanceAlone = members.instance_alone
static_of static.AnyUse = members.any_use

-- its kind
abbrev pub tag_of : Sought → MemberTag
tag_of sought.Property = tag.Property
tag_of (sought.Method given) = tag.Method
tag_of (sought.Constant shown) = tag.Constant

-- what it gives: a property and a constant their types, a method what its call gives
abbrev pub gives_of : Place → Sought → Member → List HackType → HackType → Walk HackType
gives_of at sought.Property = type_of_member
gives_of at (sought.Method given) = call_of_member at given.now
gives_of at (sought.Constant shown) = type_of_member

-- the diagnostic where a type has none
abbrev pub missing_of : ℕ → Sought → HackType → Message
missing_of name sought.Property = no_property name
missing_of name (sought.Method given) = no_method name
missing_of name (sought.Constant shown) = λ head. no_constant shown name

-- the whole
abbrev pub wanted_of : Place → Wanted → members.Wanted
wanted_of at wanted = record {
  tag = tag_of wanted.sought;
  name = wanted.name;
  static = static_of wanted.static_use;
  null_safe = wanted.null_safe;
  gives = gives_of at wanted.sought;
  missing = missing_of wanted.name wanted.sought;
}

-- all that the arguments of a method's call name is among these symbols
abbrev pub sought_in : Symbols → Sought → Type 0
sought_in symbols sought.Property = Unit {0}
sought_in symbols (sought.Method given) = GivenIn symbols given.now
sought_in symbols (sought.Constant shown) = Unit {0}

abbrev pub SoughtIn : Symbols → Wanted → Type 0
SoughtIn symbols wanted = sought_in symbols wanted.sought
