-- The members of a class, an interface or a trait (docs/language.md, Members).
use Rattle.std.specs.Prelude.{ℕ, Bool, true, false, not, ◌==◌, ◌||◌, if◌then◌else◌, List, [], ◌∷◌, Option, Some, None, is_none}
use Rattle.std.specs.List.{find, list_any, flat_map}
use Rattle.std.specs.Ordering.{is_eq, match_ordering}
use Rattle.hack_tree.specs.declared.declaration.Visibility.{Visibility as Written}
use Rattle.hack_tree.specs.declared.declaration.Visibility.TheVariants as written
use Rattle.hack_tree.specs.declared.declaration.Modifier.{Modifier}
use Rattle.hack_tree.specs.declared.declaration.Modifier.TheVariants as modifier
use Rattle.hack_tree.specs.declared.declaration.Parameter.{Parameter}
use Rattle.hack_tree.specs.declared.declaration.Callable.{Callable}
use Rattle.hack_tree.specs.declared.declaration.Member.{Member as MemberTree}
use Rattle.hack_tree.specs.declared.declaration.Member.TheVariants as tree
use Rattle.hack_types.specs.declared.hack_type.HackType.{HackType}
use Rattle.hack_types.specs.declared.hack_type.HackType.TheVariants as type
use Rattle.hack_types.specs.declared.shallow.Visibility.{Visibility}
use Rattle.hack_types.specs.declared.shallow.Visibility.TheVariants.{Public, Protected, Private}
use Rattle.hack_types.specs.declared.shallow.MemberKind.{MemberKind}
use Rattle.hack_types.specs.declared.shallow.MemberKind.TheVariants.{Constant, Property, Method}
use Rattle.hack_types.specs.declared.shallow.Member.{Member}
use Rattle.hack_types.specs.MembersRise.{member_order}
use Rattle.hack_shallow.specs.Scope.{Scope, names_of}
use Rattle.hack_shallow.specs.Resolved.{type_of}
use Rattle.hack_shallow.specs.Signatures.{signature}

-- the class that has the members: its name, and the names of its type parameters
pub record Owner : Type 0 where
  pub name : ℕ
  pub parameters : List ℕ

-- the id of the name `__construct` (docs/language.md, Names)
abbrev pub construct : ℕ
construct = 6

abbrev pub visibility_of : Written → Visibility
visibility_of written.Public = Public
visibility_of written.Protected = Protected
visibility_of written.Private = Private

-- the first that is written, else public
abbrev pub visibility_among : List Modifier → Visibility
visibility_among [] = Public
visibility_among (modifier.Visibility v ∷ modifiers) = visibility_of v
visibility_among (m ∷ modifiers) = visibility_among modifiers

abbrev pub is_static : Modifier → Bool
is_static modifier.Static = true
is_static _ = false

abbrev pub is_final : Modifier → Bool
is_final modifier.Final = true
is_final _ = false

-- outside a method
abbrev pub class_scope : Owner → Scope
class_scope owner = record { class = owner.parameters; function = [] }

abbrev pub method_scope : Owner → Callable → Scope
method_scope owner callable = record { class = owner.parameters; function = names_of callable.type_parameters }

-- the result of a method that states none
abbrev pub missing_result : ℕ → HackType
missing_result name = if name == construct then type.Void else type.Any

-- a parameter with a visibility is a property
abbrev pub promoted_as : Owner → Scope → Parameter → Option Written → List Member
promoted_as owner scope p None = []
promoted_as owner scope p (Some v) = record {
  kind = Property (type_of scope p.written);
  name = p.name.name;
  origin = owner.name;
  visibility = visibility_of v;
  is_static = false;
  is_abstract = false;
  is_final = false;
} ∷ []

abbrev pub promoted_by : Owner → Scope → Parameter → List Member
promoted_by owner scope p = promoted_as owner scope p p.visibility

-- those of a method named `__construct`, by place
abbrev pub promoted : Owner → Callable → List Member
promoted owner callable =
    if callable.name.name == construct then flat_map (promoted_by owner (method_scope owner callable)) callable.parameters else []

-- a member with these words before it
abbrev pub member_with : Owner → MemberKind → ℕ → List Modifier → Bool → Member
member_with owner kind name modifiers is_abstract = record {
  kind = kind;
  name = name;
  origin = owner.name;
  visibility = visibility_among modifiers;
  is_static = list_any is_static modifiers;
  is_abstract = is_abstract;
  is_final = list_any is_final modifiers;
}

-- what a member of the tree declares, by place
abbrev pub declared : Owner → MemberTree → List Member
declared owner (tree.Use at traits) = []
declared owner (tree.Constant at attributes modifiers written name value) =
    member_with owner (Constant (type_of (class_scope owner) written)) name.name modifiers (is_none value) ∷ []
declared owner (tree.Method at attributes modifiers callable body) =
    member_with owner (Method (signature (method_scope owner callable) (missing_result callable.name.name) callable)) callable.name.name modifiers (is_none body)
    ∷ promoted owner callable
declared owner (tree.Property at attributes modifiers written name value) =
    member_with owner (Property (type_of (class_scope owner) written)) name.name modifiers false ∷ []

-- of two members of one kind and name the earlier counts unless it is abstract and the later isn't
abbrev pub counts_before : Option Member → Member → Bool
counts_before None later = false
counts_before (Some earlier) later = not earlier.is_abstract || later.is_abstract

-- the one of its kind and name among these
abbrev pub same_among : List Member → Member → Option Member
same_among members later = find (λ m. is_eq (member_order later m)) members

-- at its place in the order, in the place of one of its kind and name
abbrev pub inserted : List Member → Member → List Member
inserted [] later = later ∷ []
inserted (m ∷ members) later = match_ordering (member_order later m) (later ∷ m ∷ members) (later ∷ members) (m ∷ inserted members later)

-- members in order, once a later one is given too
abbrev pub with_member : List Member → Member → List Member
with_member members later = if counts_before (same_among members later) later then members else inserted members later

abbrev pub with_members : List Member → List Member → List Member
with_members members [] = members
with_members members (later ∷ others) = with_members (with_member members later) others

-- each kind and name once, in order: the first by place that isn't abstract, else the first
abbrev pub own_members : Owner → List MemberTree → List Member
own_members owner trees = with_members [] (flat_map (declared owner) trees)
